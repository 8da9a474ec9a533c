use Rattle.dd_covers.proofs.Assembled.{shifts_exist}
use Rattle.dd_covers.proofs.torus_laws.the_rules_have_a_solution.Goals as goal

pub returns : goal.returns
returns c s k is connected oriented flat great = shifts_exist s is connected oriented flat k great
