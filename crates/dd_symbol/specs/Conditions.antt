-- What is tested of five lists, at one chamber and at all.
use Rattle.std.specs.Prelude.{◌≡◌, ◌≢◌, ℕ, ◌≤◌, ◌%◌, List}
use Rattle.dd_model.specs.Symbol.{Symbol, IsChamber, AreInvolutions, op, degree}
use Rattle.dd_model.specs.Connected.{Connected}
use Rattle.dd_model.specs.Cell.{turned, IsLeastTurns, IsBranching}
use Rattle.dd_model.specs.declared.index.Index.{Index}
use Rattle.dd_model.specs.declared.pair.Pair.{Pair}
use Rattle.dd_model.specs.declared.pair.Pair.TheVariants.{Tile, Vertex, Edge}
use Rattle.dd_symbol.specs.Cells.{IsLeastFor, AreLeast}

-- ## At one chamber, or of one involution

-- the images of an involution are chambers
abbrev pub IsWithin : Symbol → Index → Type 0
IsWithin s i = (d : ℕ) → IsChamber s d → IsChamber s (op s i d)

-- each chamber is the image of its image
abbrev pub IsInvolutive : Symbol → Index → Type 0
IsInvolutive s i = (d : ℕ) → IsChamber s d → op s i (op s i d) ≡ d

-- s0 s2 s0 s2 does not move d
abbrev pub Commutes : Symbol → ℕ → Type 0
Commutes s d = turned s Edge 2 d ≡ d

-- d has the degree of the least chamber of its cell
abbrev pub HasDegreeOfCell : Symbol → Pair → ℕ → Type 0
HasDegreeOfCell s p d = (l : ℕ) → IsLeastFor s p d l → degree s p d ≡ degree s p l

-- d has another degree than the least chamber of its cell
pub record HasOtherDegree (s : Symbol) (p : Pair) (d : ℕ) : Type 0 where
  pub least : ℕ
  pub is_least : IsLeastFor s p d least
  pub other : degree s p d ≢ degree s p least

-- the degree of d is a multiple of the r of its cell
abbrev pub IsMultiple : Symbol → Pair → ℕ → Type 0
IsMultiple s p d = (r : ℕ) → IsLeastTurns s p d r → degree s p d % r ≡ 0

-- the branching value of d is at most 30
abbrev pub IsSmall : Symbol → Pair → ℕ → Type 0
IsSmall s p d = (v : ℕ) → IsBranching s p d v → v ≤ 30

-- ## At all chambers

-- a property of all chambers
abbrev pub AtAll : Symbol → (ℕ → Type 0) → Type 0
AtAll s P = (d : ℕ) → IsChamber s d → P d

-- a property of tiles and vertices
abbrev pub OfBoth : (Pair → Type 0) → Type 0
OfBoth P = P Tile × P Vertex

-- what holds before the degrees are looked at
pub record AreConnected (s : Symbol) : Type 0 where
  pub involutions : AreInvolutions s
  pub commuting : AtAll s (Commutes s)
  pub connected : Connected s

-- every chamber has a positive degree
abbrev pub ArePositive : Symbol → Pair → Type 0
ArePositive s p = AtAll s (λ d. 1 ≤ degree s p d)

-- the degree is constant on cells
abbrev pub AreConstant : Symbol → Pair → Type 0
AreConstant s p = AtAll s (HasDegreeOfCell s p)

-- every degree is a multiple of the r of its cell
abbrev pub AreMultiples : Symbol → Pair → Type 0
AreMultiples s p = AtAll s (IsMultiple s p)

-- every branching value is at most 30
abbrev pub AreSmall : Symbol → Pair → Type 0
AreSmall s p = AtAll s (IsSmall s p)

-- what holds before degrees are compared: they are positive, and the least chambers of the cells are listed
pub record HaveLeast (s : Symbol) (of_tiles of_vertices : List ℕ) : Type 0 where
  pub table : AreConnected s
  pub positive : OfBoth (ArePositive s)
  pub tiles : AreLeast s Tile of_tiles
  pub vertices : AreLeast s Vertex of_vertices
