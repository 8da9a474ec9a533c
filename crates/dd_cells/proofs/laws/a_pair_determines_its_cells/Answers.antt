use Rattle.dd_cells.proofs.CellUniqueness.{told_cells_unique}
use Rattle.dd_cells.proofs.laws.a_pair_determines_its_cells.Goals as goal

pub returns : goal.returns
returns c = told_cells_unique
