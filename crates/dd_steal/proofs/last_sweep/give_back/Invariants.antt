use Rattle.dd_steal.specs.Sweep.{IsSwept, counted, if_out}
use Rattle.dd_steal.proofs.last_sweep.give_back.Given as goal

abbrev pub invariant-loop-entry : goal.invariant-loop-entry
invariant-loop-entry g l = IsSwept l.initial.desk.log l.desk.log

abbrev pub decreases-loop-entry : goal.decreases-loop-entry
decreases-loop-entry g l = counted if_out l.desk.machine.entries
