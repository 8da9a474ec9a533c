use Rattle.dd_suite_commands.proofs.InfoLemmas.{group_once}
use Rattle.dd_suite_exercise.proofs.TextExists.{group_exists}
use Rattle.dd_suite_exercise.proofs.laws.a_symbol_has_one_group_name.Goals as goal

pub returns-clause-exists : goal.returns-clause-exists
returns-clause-exists c s is = let g = group_exists s is in (g.name, g.is)

pub returns-clause-one : goal.returns-clause-one
returns-clause-one c = group_once
