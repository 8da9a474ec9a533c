use Rattle.dd_model.proofs.CellSearch.{has_least, least_of_cell_unique}
use Rattle.dd_model.proofs.cell_laws.each_cell_has_one_least_chamber.Goals as goal

pub returns : goal.returns
returns c = record {
  exists = λ s p d is h. let l = has_least s is.involutions p d h in (l.least, l.in_cell, l.is_least);
  unique = λ s p d e is. least_of_cell_unique s is.involutions p d e;
}
