use Rattle.dd_front.proofs.Standing.{stands_once, stands_somewhere}
use Rattle.dd_front.proofs.laws.a_machine_stands_at_one_position.Goals as goal

pub returns : goal.returns
returns c = record { one = stands_once; some = stands_somewhere }
