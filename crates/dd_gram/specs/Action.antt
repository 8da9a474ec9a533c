-- What a symmetry of a torus does to shifts.
use Rattle.std.specs.Prelude.{◌≡◌, ◌+ℤ◌, ◌*ℤ◌, ℕ, List}
use Rattle.dd_model.specs.Symbol.{Symbol}
use Rattle.dd_model.specs.Isomorphic.{IsIsomorphism}
use Rattle.dd_covers.specs.Torus.{IsTorus}
use Rattle.dd_lattice.specs.NetOf.{IsNet}
use Rattle.dd_lattice.specs.declared.net.Net.{Net}
use Rattle.dd_gram.specs.Walks.{IsClosedWalk, sum_along, image_walk}
use Rattle.dd_gram.specs.declared.forms.Matrix.{Matrix}

-- f is an isomorphism of a torus onto itself. If a closed walk along the edges of the net has the total shift (x, y), its image has
-- the matrix times (x, y).
pub record IsAction (t : Symbol) (f : List ℕ) (m : Matrix) : Type 0 where
  pub torus : IsTorus t
  pub isomorphism : IsIsomorphism t t f
  pub net : Net
  pub is_net : IsNet t net
  pub x : (walk : List ℕ) → IsClosedWalk t walk
      → sum_along is_net.first (image_walk f walk) ≡ m.xx *ℤ sum_along is_net.first walk +ℤ m.xy *ℤ sum_along is_net.second walk
  pub y : (walk : List ℕ) → IsClosedWalk t walk
      → sum_along is_net.second (image_walk f walk) ≡ m.yx *ℤ sum_along is_net.first walk +ℤ m.yy *ℤ sum_along is_net.second walk
