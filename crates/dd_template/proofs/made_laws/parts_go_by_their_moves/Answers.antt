use Rattle.dd_template.specs.Made.{degree_from}
use Rattle.dd_template.proofs.PlaceLemmas.{item-of_parts, op-made}
use Rattle.dd_template.proofs.made_laws.parts_go_by_their_moves.Goals as goal

pub returns : goal.returns
returns c = record {
  image = op-made;
  face = λ t s d x h inside. item-of_parts t s (degree_from s t.face) d x h inside;
  degree = λ t s d x h inside. item-of_parts t s (degree_from s t.degree) d x h inside;
}
