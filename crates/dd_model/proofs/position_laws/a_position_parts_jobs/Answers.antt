use Rattle.dd_model.proofs.Positions.{under_wholly_before, unbegun_not_before, begun_before}
use Rattle.dd_model.proofs.position_laws.a_position_parts_jobs.Goals as goal

pub returns : goal.returns
returns c = record { before = under_wholly_before; after = unbegun_not_before; earlier = begun_before }
