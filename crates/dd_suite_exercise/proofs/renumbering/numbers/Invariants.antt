use Rattle.std.proofs.Common.{◌≡◌}
use Rattle.dd_model.specs.Code.{count_from}
use Rattle.dd_suite_exercise.proofs.renumbering.numbers.Given as goal

abbrev pub invariant-loop-k : goal.invariant-loop-k
invariant-loop-k l = l.list.items ≡ count_from 1 l.k
