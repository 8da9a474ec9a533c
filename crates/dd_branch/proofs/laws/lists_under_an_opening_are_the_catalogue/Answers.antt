use Rattle.dd_model.specs.Joined.{joined}
use Rattle.dd_model.proofs.JoinedLists.{in_turn_joined}
use Rattle.dd_front_jobs.proofs.OpeningLaws.{opening_apart, under_opening}
use Rattle.dd_branch.proofs.laws.lists_under_an_opening_are_the_catalogue.Goals as goal

pub returns : goal.returns
returns c q jobs lists is are = under_opening q jobs (joined lists) is (in_turn_joined q jobs lists is.ascending (opening_apart q jobs is) are)
