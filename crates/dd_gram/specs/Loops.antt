-- Closed walks with given total shifts.
use Rattle.std.specs.Prelude.{◌≡◌, ◌<◌, ◌≤◌, ℕ, nat_abs, ℤ, pos, List, length, slice_index_or}
use Rattle.dd_model.specs.Symbol.{Symbol, IsChamber}
use Rattle.dd_model.specs.Isomorphic.{IsIsomorphism}
use Rattle.dd_covers.specs.Torus.{IsTorus}
use Rattle.dd_lattice.specs.NetOf.{IsVertexNumber, IsNet}
use Rattle.dd_lattice.specs.declared.net.Net.{Net}
use Rattle.dd_lattice.specs.declared.net_edge.NetEdge.{NetEdge}
use Rattle.dd_gram.specs.Shifts.{AreNumbers}
use Rattle.dd_gram.specs.Walks.{IsWalk, IsClosedWalk, sum_along}
use Rattle.dd_gram.specs.declared.basis.Basis.{Basis}
use Rattle.dd_gram.specs.declared.forms.Matrix.{Matrix}
use Rattle.dd_model.specs.Small.{most_chambers}

-- a walk from the vertex of a chamber to the vertex with a number
abbrev pub IsWalkTo : (t : Symbol) → (net : Net) → IsNet t net → ℕ → List ℕ → ℕ → Type 0
IsWalkTo t net is a walk v = (b : ℕ) → IsChamber t b → IsVertexNumber t is.vertices b v → IsWalk t a walk b

-- a closed walk with the total shift (m, n)
pub record IsLoop (t : Symbol) (net : Net) (is : IsNet t net) (walk : List ℕ) (m n : ℤ) : Type 0 where
  pub closed : IsClosedWalk t walk
  pub along_x : sum_along is.first walk ≡ m
  pub along_y : sum_along is.second walk ≡ n

-- an edge with the shift (m, n)
pub record HasEdgeWith (edges : List NetEdge) (m n : ℤ) : Type 0 where
  pub place : ℕ
  pub inside : place < length edges
  pub x : (e : NetEdge) → (slice_index_or edges place e).x ≡ m
  pub y : (e : NetEdge) → (slice_index_or edges place e).y ≡ n

-- the shifts of the edges by chambers, and closed walks with the total shifts (1, 0) and (0, 1)
pub record IsBasis (t : Symbol) (net : Net) (basis : Basis) : Type 0 where
  pub x : (is : IsNet t net) → AreNumbers t is.first basis.numbers.x.items
  pub y : (is : IsNet t net) → AreNumbers t is.second basis.numbers.y.items
  pub first : (is : IsNet t net) → IsLoop t net is basis.first.items (pos 1) (pos 0)
  pub second : (is : IsNet t net) → IsLoop t net is basis.second.items (pos 0) (pos 1)
  pub few_first : length basis.first.items ≤ most_chambers
  pub few_second : length basis.second.items ≤ most_chambers

-- the basis is that of some torus, of which the map is a symmetry
pub record ServesFor (basis : Basis) (map : List ℕ) : Type 0 where
  pub t : Symbol
  pub net : Net
  pub torus : IsTorus t
  pub is_net : IsNet t net
  pub is_basis : IsBasis t net basis
  pub isomorphism : IsIsomorphism t t map

-- its numbers are at most 16,384 in size
pub record IsSmallMatrix (m : Matrix) : Type 0 where
  pub xx : nat_abs m.xx ≤ most_chambers
  pub xy : nat_abs m.xy ≤ most_chambers
  pub yx : nat_abs m.yx ≤ most_chambers
  pub yy : nat_abs m.yy ≤ most_chambers
