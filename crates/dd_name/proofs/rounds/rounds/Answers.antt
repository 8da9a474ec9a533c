use Rattle.std.proofs.Common.{◌+◌, ◌*◌, ◌≤◌, ap, arith}
use Rattle.dd_name.proofs.TourLemmas.{told_all}
use Rattle.dd_name.proofs.rounds.rounds.Goals as goal

pub returns : goal.returns
returns c =
    let s = c.args.s.now in
    let rounds = c.loop-place.rounds.items in
    let whole : 3 * s.size + 3 ≤ c.loop-place.place = let e = c.size-size.ensures.size in let same = ap (λ t. t.size) c.symbol.ensures.same in omega arith in
    told_all s c.loop-place.place c.loop-place.marks.items rounds c.loop-place.invariant whole
