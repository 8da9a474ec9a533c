use Rattle.std.proofs.Common.{◌≡◌, ◌-◌, sym, ap, ◌∙◌, subst}
use Rattle.dd_model.specs.Isomorphic.{IsBijection}
use Rattle.dd_suite_exercise.specs.Draws.{after_draws}
use Rattle.dd_suite_exercise.specs.Renumbering.{renumbering}
use Rattle.dd_suite_exercise.proofs.ExchangeLemmas.{renumbering_bijection}
use Rattle.dd_suite_exercise.proofs.ItemLemmas.{item_draws}
use Rattle.dd_suite_exercise.proofs.items.next_item.Goals as goal

pub renumber-requires : goal.renumber-requires
renumber-requires c =
    let cover = c.in_ok-cover.cover in
    let number = c.next_cover.new.generator in
    let size : c.size.result ≡ cover.size = c.size.ensures.size ∙ ap (λ s. s.size) c.symbol.ensures.same in
    let list : c.deref.result.now ≡ renumbering cover.size number = c.deref.ensures.value ∙ c.in_ok-list.ensures.list ∙ ap (λ n. renumbering n number) size in
    subst (IsBijection cover.size) (sym list) (renumbering_bijection cover.size number c.symbol.ensures.symbol.symbol.table.chambers)

pub returns-clause-draws : goal.returns-clause-draws
returns-clause-draws c =
    let cover = c.in_ok-cover.cover in
    let number = c.next_cover.new.generator in
    let size : c.size.result ≡ cover.size = c.size.ensures.size ∙ ap (λ s. s.size) c.symbol.ensures.same in
    item_draws c.args.generator.now cover c.in_ok-renumbered.renumbered c.in_ok-least_form.field-0 c.deref.result.now number c.renumbering.new.generator
    c.symbol.ensures.symbol.symbol.table.chambers c.in_ok-cover.ensures.draws
    (c.in_ok-list.ensures.draws ∙ ap (λ n. after_draws (n - 1) number) size) c.in_ok-renumbered.ensures.isomorphism c.in_ok-least_form.ensures
