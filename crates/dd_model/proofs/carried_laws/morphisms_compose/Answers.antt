use Rattle.dd_model.proofs.Bijections.{after, item-after}
use Rattle.dd_model.proofs.Isomorphisms.{IsMorphism-after}
use Rattle.dd_model.proofs.carried_laws.morphisms_compose.Goals as goal

pub returns : goal.returns
returns c s t u f g is a b = (
  after g f,
  IsMorphism-after s t u f g is a b,
  λ d h. item-after g f s.size d a.images h.0 h.1,
)
