use Rattle.std.proofs.Common.{◌≡◌, length}
use Rattle.dd_steal.proofs.crew.crew_of.Given as goal

abbrev pub invariant-loop-seat : goal.invariant-loop-seat
invariant-loop-seat g l = length l.crew.items ≡ length l.yielded
