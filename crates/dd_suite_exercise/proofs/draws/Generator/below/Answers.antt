use Rattle.std.proofs.Common.{◌+◌, ◌*◌, ◌/◌, ◌%◌, ap}
use Rattle.dd_suite_exercise.specs.Draws.{next, answer}
use Rattle.dd_suite_exercise.proofs.draws.Generator.below.Goals as goal

pub returns-clause-answer : goal.returns-clause-answer
unfolding next answer
returns-clause-answer c = ap (λ z. (z * 1103515245 + 12345) % 2147483648 / 65536 % c.args.limit) c.self.view_is

pub returns-clause-next : goal.returns-clause-next
unfolding next
returns-clause-next c = ap (λ z. (z * 1103515245 + 12345) % 2147483648) c.self.view_is
