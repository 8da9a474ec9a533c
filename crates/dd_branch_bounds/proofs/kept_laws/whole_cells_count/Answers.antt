use Rattle.dd_branch_bounds.proofs.RoomLemmas.{has_room}
use Rattle.dd_branch_bounds.proofs.kept_laws.whole_cells_count.Goals as goal

pub returns : goal.returns
returns _ q p c limit which few some s wanted told = has_room q p c limit which few some s wanted told
