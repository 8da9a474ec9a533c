use Rattle.dd_words.proofs.requests.read_request.Goals as goal
use Rattle.dd_model.proofs.Options.{given_none}

pub returns-in_err-chambers-clause-none : goal.returns-in_err-chambers-clause-none
returns-in_err-chambers-clause-none c =
    given_none c.from_residual.result c.from_residual.ensures (λ q h. c.in_err-chambers.ensures.none q.chambers h.chambers)

pub returns-in_err-tiles-clause-none : goal.returns-in_err-tiles-clause-none
returns-in_err-tiles-clause-none c =
    given_none c.from_residual-in_err-tiles.result c.from_residual-in_err-tiles.ensures (λ q h. c.in_err-tiles.ensures.none q.tiles h.tiles)

pub returns-in_err-vertices-clause-none : goal.returns-in_err-vertices-clause-none
returns-in_err-vertices-clause-none c =
    given_none c.from_residual-in_err-vertices.result c.from_residual-in_err-vertices.ensures (λ q h. c.in_err-vertices.ensures.none q.vertices h.vertices)

pub returns-in_err-faces-clause-none : goal.returns-in_err-faces-clause-none
returns-in_err-faces-clause-none c =
    given_none c.from_residual-in_err-faces.result c.from_residual-in_err-faces.ensures (λ q h. c.in_err-faces.ensures.none q.faces h.faces)

pub returns-in_err-degrees-clause-none : goal.returns-in_err-degrees-clause-none
returns-in_err-degrees-clause-none c =
    given_none c.from_residual-in_err-degrees.result c.from_residual-in_err-degrees.ensures (λ q h. c.in_err-degrees.ensures.none q.degrees h.degrees)

pub returns-in_err-minimal-clause-none : goal.returns-in_err-minimal-clause-none
returns-in_err-minimal-clause-none c =
    given_none c.from_residual-in_err-minimal.result c.from_residual-in_err-minimal.ensures (λ q h. c.in_err-minimal.ensures.none q.minimal h.minimal)

pub returns-clause-some : goal.returns-clause-some
returns-clause-some c = record {
  chambers = c.in_ok-chambers.ensures.some;
  tiles = c.in_ok-tiles.ensures.some;
  vertices = c.in_ok-vertices.ensures.some;
  faces = c.in_ok-faces.ensures.some;
  degrees = c.in_ok-degrees.ensures.some;
  minimal = c.in_ok-minimal.ensures.some;
}
