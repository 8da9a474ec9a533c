-- What the entries of a table must be: the degrees of tiles and vertices that the moves make.
use Rattle.std.specs.Prelude.{◌≡◌, ◌≢◌, ◌⊎◌, ℕ, ◌<◌, ◌≤◌, List, [], ◌∷◌, Option, Some, None}
use Rattle.dd_model.specs.Symbol.{power, turn, first, second}
use Rattle.dd_model.specs.declared.index.Index.{Index}
use Rattle.dd_model.specs.declared.pair.Pair.{Pair}
use Rattle.dd_model.specs.declared.pair.Pair.TheVariants.{Tile, Vertex, Edge}
use Rattle.dd_template.specs.declared.tables.Degree.{Degree}
use Rattle.dd_template.specs.declared.tables.Degree.TheVariants.{OfTile, OfVertex, Fixed}
use Rattle.dd_template.specs.Table.{Table, IsPart, move, entry, part_after}
use Rattle.dd_template.specs.Moves.{LeadsBack}

-- the entries that belong to the tile or the vertex of a part
abbrev pub entries : Table → Pair → List Degree
entries t Tile = t.face
entries t Vertex = t.degree
entries t Edge = []

-- a move goes by an involution of the pair, or by none
abbrev pub GoesBy : Pair → Option Index → Type 0
GoesBy q None = Unit {0}
GoesBy q (Some i) = (i ≡ first q) ⊎ (i ≡ second q)

-- the moves of a pair go by the involutions of another, or by none
pub record GoWithin (t : Table) (p q : Pair) (x : ℕ) : Type 0 where
  pub first : GoesBy q (move t (first p) x).by
  pub second : GoesBy q (move t (second p) x).by

-- no fewer than c turns lead the part back to itself
abbrev pub IsApart : Table → Pair → ℕ → ℕ → Type 0
IsApart t p x c = (k : ℕ) → 1 ≤ k → k < c → part_after t (power (turn p) k) x ≢ x

-- The part is first met again after c turns, with two letters of the other pair. That c is at most the number of parts follows from this, and bounds the test.
pub record IsTurned (t : Table) (p q : Pair) (x c : ℕ) : Type 0 where
  pub positive : 1 ≤ c
  pub within : c ≤ t.parts
  pub back : LeadsBack t (power (turn p) c) x (first q ∷ second q ∷ []) ⊎ LeadsBack t (power (turn p) c) x (second q ∷ first q ∷ [])
  pub first_time : IsApart t p x c

-- the entry of a part fits the moves of its pair
abbrev pub Fits : Table → Pair → ℕ → Degree → Type 0
Fits t p x (OfTile c) = GoWithin t p Tile x × IsTurned t p Tile x c
Fits t p x (OfVertex c) = GoWithin t p Vertex x × IsTurned t p Vertex x c
Fits t p x (Fixed m) = (1 ≤ m) × (m ≤ 30) × LeadsBack t (power (turn p) m) x []

-- the entries are equal along the moves of their pair
abbrev pub IsConstant : Table → Pair → ℕ → Type 0
IsConstant t p x = (entry (entries t p) (move t (first p) x).to ≡ entry (entries t p) x) × (entry (entries t p) (move t (second p) x).to ≡ entry (entries t p) x)

-- the entries are equal along all moves of their pair
abbrev pub AreConstant : Table → Pair → Type 0
AreConstant t p = (x : ℕ) → IsPart t x → IsConstant t p x

-- all entries fit
abbrev pub AllFit : Table → Pair → Type 0
AllFit t p = (x : ℕ) → IsPart t x → Fits t p x (entry (entries t p) x)
