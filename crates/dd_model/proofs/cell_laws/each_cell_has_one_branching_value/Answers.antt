use Rattle.dd_model.proofs.Branching.{branching_exists, branching_unique, branching_same}
use Rattle.dd_model.proofs.cell_laws.each_cell_has_one_branching_value.Goals as goal

pub returns : goal.returns
returns c = record {
  exists = λ s p d is. branching_exists s is p d;
  unique = branching_unique;
  same = λ s p d e v is. branching_same s is p d e v;
}
