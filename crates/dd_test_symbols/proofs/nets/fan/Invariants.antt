use Rattle.std.proofs.Common.{◌+◌}
use Rattle.dd_test_symbols.specs.Spokes.{AreJoinedBelow}
use Rattle.dd_test_symbols.proofs.nets.fan.Given as goal

abbrev pub invariant-loop-to : goal.invariant-loop-to
invariant-loop-to l = AreJoinedBelow l.fn.vertices l.to l.edges.items

abbrev pub invariant-loop-from : goal.invariant-loop-from
invariant-loop-from l = AreJoinedBelow l.fn.vertices (l.fn.vertices + 1) l.edges.items
