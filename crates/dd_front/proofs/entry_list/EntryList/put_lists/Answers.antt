use Rattle.std.proofs.Common.{◌<◌, length, ap, ◌∙◌, arith}
use Rattle.std.proofs.lemmas.List.{length_push}
use Rattle.dd_front.specs.declared.entry.State.TheVariants.{Done}
use Rattle.dd_front.specs.Places.{with_state_at}
use Rattle.dd_front.proofs.Joins.{length-done_with, done_push}
use Rattle.dd_front.proofs.entry_list.EntryList.put_lists.Goals as goal

pub put_state-requires : goal.put_state-requires
put_state-requires c =
    let i = c.loop-list.invariant in
    omega (arith, c.requires, i.0, i.2, ap length i.1, length-done_with c.loop-list.yielded c.args.self.now, ap length c.in-Some.ensures.steps.0)

pub loop-list-preserved : goal.loop-list-preserved
loop-list-preserved c =
    let i = c.loop-list.invariant in
    let before = c.loop-list.yielded in
    let list = c.in-Some.list in
    let low : length before < length c.args.self.now = omega (arith, c.requires, i.2, ap length c.in-Some.ensures.steps.0) in
    let longer = length_push before list in (
      omega (arith, i.0, longer),
      c.put_state.ensures ∙ ap (λ n. with_state_at n (Done list) c.loop-list.self) i.0 ∙ ap (λ es. with_state_at (length before) (Done list) es) i.1 ∙ done_push before list c.args.self.now low,
      omega (arith, i.2, longer, ap length c.in-Some.ensures.steps.0),
    )
