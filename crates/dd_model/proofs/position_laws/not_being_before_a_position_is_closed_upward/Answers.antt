use Rattle.dd_model.proofs.Positions.{before_below, later_drop}
use Rattle.dd_model.proofs.position_laws.not_being_before_a_position_is_closed_upward.Goals as goal

pub returns : goal.returns
returns c = record { symbols = before_below; list = later_drop }
