use Rattle.std.proofs.Common.{◌≡◌}
use Rattle.dd_steal.specs.Sweep.{IsNoneOut, IsSwept, counted, if_open}
use Rattle.dd_steal.proofs.last_sweep.sweep.Given as goal

abbrev pub invariant-loop : goal.invariant-loop
invariant-loop g l = IsNoneOut l.desk.machine.entries × IsSwept l.fn.desk.log l.desk.log × (g.F.Finder.request l.finder ≡ g.F.Finder.request l.fn.finder)

abbrev pub decreases-loop : goal.decreases-loop
decreases-loop g l = counted if_open l.desk.machine.entries
