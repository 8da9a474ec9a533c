use Rattle.std.proofs.Common.{take}
use Rattle.dd_name.specs.Boundaries.{AreWritten}
use Rattle.dd_name.proofs.boundaries.written.Given as goal

abbrev pub invariant-loop-round : goal.invariant-loop-round
invariant-loop-round l = AreWritten (take l.round-index l.rounds) l.lists.items
