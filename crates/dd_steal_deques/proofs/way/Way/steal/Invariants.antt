use Rattle.std.proofs.Common.{◌≡◌}
use Rattle.dd_steal_deques.specs.Ends.{SameWay, way_taken}
use Rattle.dd_steal_deques.proofs.way.Way.steal.Given as goal

abbrev pub invariant-loop : goal.invariant-loop
invariant-loop g l =
    (goal.iterator-loop g).can_next l.iterator' × (goal.iterator-loop g).is_finite l.iterator'
    × SameWay l.initial.self l.self × (way_taken l.self ≡ way_taken l.initial.self)
