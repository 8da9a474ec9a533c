-- Where the vertices of a net are placed: each vertex at the middle of the ends that it is joined to, and the first at (0, 0).
use Rattle.std.specs.Prelude.{◌≡◌, ◌≢◌, ℕ, ◌-◌, ◌≤◌, ℤ, pos, ◌+ℤ◌, ◌-ℤ◌, ◌*ℤ◌, cond, nat_eq, List, [], ◌∷◌, length, slice_index_or}
use Rattle.dd_cells.specs.Fraction.{IsReduced}
use Rattle.dd_cells.specs.declared.fractions.Fraction.{Fraction}
use Rattle.dd_lattice.specs.declared.net.Net.{Net}
use Rattle.dd_lattice.specs.declared.net_edge.NetEdge.{NetEdge}

-- a point of the plane
pub record Point : Type 0 where
  pub x : Fraction
  pub y : Fraction

-- a number where two vertices are the same, and else 0
abbrev pub if_same : ℕ → ℕ → ℤ → ℤ
if_same u w z = cond (nat_eq u w) z (pos 0)

-- The sum, over the ends of edges at a vertex, of (other end less vertex). An edge has its end at `from` joined to the vertex `to`
-- plus the shift, and its end at `to` joined to the vertex `from` less the shift; both count where it is a loop. All is told in
-- units of 1/q: the vertices are at xs.
abbrev pub pull : (NetEdge → ℤ) → ℤ → (ℕ → ℤ) → List NetEdge → ℕ → ℤ
pull shift q xs [] v = pos 0
pull shift q xs (e ∷ es) v =
    (if_same e.from v ((xs e.to +ℤ q *ℤ shift e) -ℤ xs v) +ℤ if_same e.to v ((xs e.from -ℤ q *ℤ shift e) -ℤ xs v))
    +ℤ pull shift q xs es v

-- One coordinate of each vertex, as reduced fractions: over one denominator they are whole numbers, at each vertex the sum over its
-- ends is 0, and the first vertex is at 0.
pub record ArePlaced (net : Net) (shift : NetEdge → ℤ) (at : ℕ → Fraction) : Type 0 where
  pub reduced : (v : ℕ) → 1 ≤ v → v ≤ net.vertices → IsReduced (at v)
  pub denominator : ℤ
  pub nonzero : denominator ≢ pos 0
  pub numerators : ℕ → ℤ
  pub over : (v : ℕ) → 1 ≤ v → v ≤ net.vertices → (at v).num *ℤ denominator ≡ numerators v *ℤ (at v).den
  pub balanced : (v : ℕ) → 1 ≤ v → v ≤ net.vertices → pull shift denominator numerators net.edges.items v ≡ pos 0
  pub start : numerators 1 ≡ pos 0

-- what stands for the point of a vertex that there is not
abbrev pub origin : Point
origin = record { x = record { num = pos 0; den = pos 1 }; y = record { num = pos 0; den = pos 1 } }

-- the point of a vertex; vertices are counted from 1
abbrev pub point_of : List Point → ℕ → Point
point_of points v = slice_index_or points (v - 1) origin

-- a point for each vertex, of which both coordinates are placed
pub record IsPlacement (net : Net) (points : List Point) : Type 0 where
  pub count : length points ≡ net.vertices
  pub x : ArePlaced net (λ e. e.x) (λ v. (point_of points v).x)
  pub y : ArePlaced net (λ e. e.y) (λ v. (point_of points v).y)
