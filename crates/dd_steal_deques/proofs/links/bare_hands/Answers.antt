use Rattle.std.proofs.Common.{All, subst, sym, ap, rules, sum_by}
use Rattle.dd_steal_deques.specs.Ends.{way_taken}
use Rattle.dd_steal_deques.specs.Hands.{IsNew, HasNoPasses}
use Rattle.dd_steal_deques.proofs.Changed.{all_snoc}
use Rattle.dd_steal_deques.proofs.links.bare_hands.Goals as goal

pub loop-preserved : goal.loop-preserved
loop-preserved g c =
    let inv = c.loop.invariant in
    let made = c.in_ok-owner.ensures in
    let items = c.in_ok-push.ensures.items in (
      search rules,
      subst (All (IsNew c.args.room)) (sym items) (all_snoc (IsNew c.args.room) _ _ inv.1 (record { has_room = made.room; pushed = made.pushed; popped = made.taken; stolen = ap (sum_by way_taken) c.new-ways.ensures.items })),
      subst (All HasNoPasses) (sym items) (all_snoc HasNoPasses _ _ inv.2 made.passes),
    )
