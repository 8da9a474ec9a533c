use Rattle.dd_front.proofs.Runs.{run_covers}
use Rattle.dd_front.proofs.laws.a_run_covers_its_opening.Goals as goal

pub returns : goal.returns
returns c = run_covers
