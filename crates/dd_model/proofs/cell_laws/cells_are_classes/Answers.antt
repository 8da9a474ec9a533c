use Rattle.dd_model.proofs.CellWalks.{in_cell-refl, in_cell-sym, in_cell-trans}
use Rattle.dd_model.proofs.Transport.{in_cell_within}
use Rattle.dd_model.proofs.cell_laws.cells_are_classes.Goals as goal

pub returns : goal.returns
returns c = record {
  reflexive = in_cell-refl;
  symmetric = λ s p d e is. in_cell-sym s is.involutions p d e;
  transitive = in_cell-trans;
  within = λ s p d e is. in_cell_within s is.involutions p d e;
}
