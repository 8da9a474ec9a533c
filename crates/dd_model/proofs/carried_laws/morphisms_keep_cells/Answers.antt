use Rattle.dd_model.proofs.Transport.{in_cell-along}
use Rattle.dd_model.proofs.Carried.{chain-along}
use Rattle.dd_model.proofs.carried_laws.morphisms_keep_cells.Goals as goal

pub returns : goal.returns
returns c = record {
  cell = λ s t f p d e is m. in_cell-along s t f is.involutions m p d e;
  chain = λ s t f p d is m. chain-along s t f is.involutions m p d;
}
