-- Worked symbols.
use Rattle.std.specs.Prelude.{◌≡◌, ◌↔◌, ℕ, ◌≤◌, List, [], ◌∷◌}
use Rattle.dd_model.specs.Symbol.{Symbol}
use Rattle.dd_model.specs.Allowed.{IsIn}
use Rattle.dd_model.specs.declared.allowed.Allowed.{Allowed}
use Rattle.dd_model.specs.declared.requests.Request.{Request}

-- one chamber with these two degrees
abbrev pub single : ℕ → ℕ → Symbol
single a b = record { size = 1; s0 = 1 ∷ []; s1 = 1 ∷ []; s2 = 1 ∷ []; m01 = a ∷ []; m12 = b ∷ [] }

-- the tiling by squares
abbrev pub squares : Symbol
squares = single 4 4

-- the tiling by squares and octagons, whose first chamber is that of the squares
abbrev pub truncated_squares : Symbol
truncated_squares = record { size = 3; s0 = 1 ∷ 2 ∷ 3 ∷ []; s1 = 1 ∷ 3 ∷ 2 ∷ []; s2 = 2 ∷ 1 ∷ 3 ∷ []; m01 = 4 ∷ 8 ∷ 8 ∷ []; m12 = 3 ∷ 3 ∷ 3 ∷ [] }

-- the same tiling with its chambers numbered backwards
abbrev pub truncated_squares_backwards : Symbol
truncated_squares_backwards = record { size = 3; s0 = 1 ∷ 2 ∷ 3 ∷ []; s1 = 2 ∷ 1 ∷ 3 ∷ []; s2 = 1 ∷ 3 ∷ 2 ∷ []; m01 = 8 ∷ 8 ∷ 4 ∷ []; m12 = 3 ∷ 3 ∷ 3 ∷ [] }

-- the tilings by triangles, by squares and by hexagons
abbrev pub single_chambers : List Symbol
single_chambers = single 3 6 ∷ squares ∷ single 6 3 ∷ []

-- the numbers 3 to 216
abbrev pub HasAllFromThree : Allowed → Type 0
HasAllFromThree a = (m : ℕ) → IsIn a m ↔ (3 ≤ m) × (m ≤ 216)

-- at most one chamber, and no further limit
pub record AsksForOneChamber (q : Request) : Type 0 where
  pub chambers : q.chambers ≡ 1
  pub tiles : q.tiles ≡ 0
  pub vertices : q.vertices ≡ 0
  pub faces : HasAllFromThree q.faces
  pub degrees : HasAllFromThree q.degrees
