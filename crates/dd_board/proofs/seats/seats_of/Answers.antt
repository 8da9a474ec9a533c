use Rattle.std.proofs.Common.{rules, refl}
use Rattle.dd_board.proofs.Seated.{workers_more, sums_more}
use Rattle.dd_board.proofs.seats.seats_of.Goals as goal

pub loop-index-preserved : goal.loop-index-preserved
loop-index-preserved g c =
    let before = c.loop-index.invariant in
    let pushed = c.push_reserved.ensures.items in (
      search rules,
      search rules,
      search rules,
      search rules,
      search rules,
      search rules,
      search rules,
      rw pushed (workers_more c.loop-index.seats.items _ c.loop-index.index before.7 refl),
      rw pushed (sums_more c.loop-index.seats.items _ before.8 c.one_of_each.ensures.none),
      search rules,
    )
