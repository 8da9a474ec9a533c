use Rattle.std.proofs.Common.{◌≤◌}
use Rattle.dd_catalogue_rounds.proofs.rounds.few_ahead.Given as goal

abbrev pub invariant-loop-entry : goal.invariant-loop-entry
invariant-loop-entry l = l.count ≤ l.fn.most
