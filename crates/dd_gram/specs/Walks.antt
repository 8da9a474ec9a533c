-- Walks along the edges of a torus. A walk is a list of chambers: each passes its edge, away from its own vertex.
use Rattle.std.specs.Prelude.{ℕ, ℤ, pos, ◌+ℤ◌, List, [], ◌∷◌, map}
use Rattle.dd_model.specs.Symbol.{Symbol, IsChamber, item, op}
use Rattle.dd_model.specs.Cell.{InCell}
use Rattle.dd_model.specs.declared.index.Index.TheVariants.{Zero}
use Rattle.dd_model.specs.declared.pair.Pair.TheVariants.{Vertex}

-- a walk from the vertex of chamber a to that of chamber b
abbrev pub IsWalk : Symbol → ℕ → List ℕ → ℕ → Type 0
IsWalk t a [] b = InCell t Vertex a b
IsWalk t a (d ∷ ds) b = IsChamber t d × InCell t Vertex a d × IsWalk t (op t Zero d) ds b

-- a walk that ends at the vertex where it begins
pub record IsClosedWalk (t : Symbol) (walk : List ℕ) : Type 0 where
  pub start : ℕ
  pub chamber : IsChamber t start
  pub goes : IsWalk t start walk start

-- the sum of a number of chambers over a walk
abbrev pub sum_along : (ℕ → ℤ) → List ℕ → ℤ
sum_along x [] = pos 0
sum_along x (d ∷ ds) = x d +ℤ sum_along x ds

-- the images of the chambers of a walk under a map of the chambers
abbrev pub image_walk : List ℕ → List ℕ → List ℕ
image_walk f = map (item f)
