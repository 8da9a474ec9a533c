use Rattle.dd_suite_exercise.proofs.EighteenSeeds.{number_of_seeds}
use Rattle.dd_suite_exercise.proofs.SeedsExist.{seeds_exist}
use Rattle.dd_suite_exercise.proofs.laws.there_are_18_seeds.Goals as goal

pub returns-clause-exists : goal.returns-clause-exists
returns-clause-exists c = let s = seeds_exist in (s.seeds, s.are)

pub returns-clause-number : goal.returns-clause-number
returns-clause-number c = number_of_seeds
