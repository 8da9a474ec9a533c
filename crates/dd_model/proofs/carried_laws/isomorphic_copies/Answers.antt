use Rattle.dd_model.proofs.Transport.{IsSymbol-along, Connected-along}
use Rattle.dd_model.proofs.Carried.{branching-along, minimal-along}
use Rattle.dd_model.proofs.CarriedDegrees.{flat-along}
use Rattle.dd_model.proofs.CarriedWanted.{cells-along, wanted-along}
use Rattle.dd_model.proofs.carried_laws.isomorphic_copies.Goals as goal

pub returns : goal.returns
returns c = record {
  symbol = λ s t is ls same. IsSymbol-along s t same.0 is same.1 ls;
  connected = λ s t is same. Connected-along s t same.0 is same.1;
  minimal = λ s t is same. minimal-along s t same.0 is.involutions same.1;
  flat = λ s t is ls same. flat-along s t same.0 is ls same.1;
  branching = λ s t f p d v is iso. branching-along s t f is.involutions iso p d v;
  cells = λ s t p ds es is same. cells-along s t same.0 is.involutions same.1 p ds es;
  wanted = λ q s t ls same. wanted-along q s t same.0 ls same.1;
}
