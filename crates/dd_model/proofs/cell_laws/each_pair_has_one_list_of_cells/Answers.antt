use Rattle.dd_model.proofs.CellLists.{cells_exist, cells_unique}
use Rattle.dd_model.proofs.cell_laws.each_pair_has_one_list_of_cells.Goals as goal

pub returns : goal.returns
returns c = record { exists = λ s p is. cells_exist s is.involutions p; unique = cells_unique }
