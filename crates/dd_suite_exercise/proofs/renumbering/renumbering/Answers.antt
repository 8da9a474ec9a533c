use Rattle.std.proofs.Common.{◌-◌, length, ap, ◌∙◌}
use Rattle.dd_model.specs.Code.{count_from}
use Rattle.dd_model.proofs.CountFrom.{length-count_from}
use Rattle.dd_suite_exercise.specs.Draws.{after_draws}
use Rattle.dd_suite_exercise.specs.Renumbering.{exchanged}
use Rattle.dd_suite_exercise.proofs.renumbering.renumbering.Goals as goal

pub returns-clause-list : goal.returns-clause-list
returns-clause-list c =
    let n = c.args.size in
    let z = c.args.generator.now in
    c.exchange.ensures.list ∙ ap (λ xs. exchanged (length xs - 1) z xs) c.in_ok-list.ensures
    ∙ ap (λ k. exchanged (k - 1) z (count_from 1 n)) (length-count_from 1 n)

pub returns-clause-draws : goal.returns-clause-draws
returns-clause-draws c =
    let n = c.args.size in
    let z = c.args.generator.now in
    c.exchange.ensures.draws ∙ ap (λ xs. after_draws (length xs - 1) z) c.in_ok-list.ensures ∙ ap (λ k. after_draws (k - 1) z) (length-count_from 1 n)
