-- Tables of involutions, kept as symbols of which each branching value is 1.
use Rattle.std.specs.Prelude.{◌≡◌, ℕ, ◌≤◌, List}
use Rattle.dd_model.specs.declared.index.Index.{Index}
use Rattle.dd_model.specs.declared.pair.Pair.TheVariants.{Tile, Vertex, Edge}
use Rattle.dd_model.specs.Symbol.{Symbol, IsSymbol, IsTable, IsChamber, HasDegree, operation}
use Rattle.dd_model.specs.Connected.{Connected}
use Rattle.dd_model.specs.Cell.{IsBranching}
use Rattle.dd_model.specs.Lists.{Begins}
use Rattle.dd_model.specs.Code.{code}
use Rattle.dd_model.specs.FirstVisit.{LeastTable}
use Rattle.dd_model.specs.Involutions.{HaveSameInvolutions}
use Rattle.dd_symbol.specs.Images.{of_rows, with_degrees}

-- the branching value of each tile and of each vertex is 1
pub record IsUnbranched (s : Symbol) : Type 0 where
  pub tiles : (d v : ℕ) → IsChamber s d → IsBranching s Tile d v → v ≡ 1
  pub vertices : (d v : ℕ) → IsChamber s d → IsBranching s Vertex d v → v ≡ 1

-- a connected symbol of at most 36 chambers, of which each branching value is 1
pub record IsBareTable (s : Symbol) : Type 0 where
  pub symbol : IsSymbol s
  pub connected : Connected s
  pub unbranched : IsUnbranched s
  pub small : s.size ≤ 36

-- no connected table of n chambers in which s0 s2 s0 s2 moves no chamber has a code that begins with the numbers
abbrev pub HasNoTable : ℕ → List ℕ → Type 0
HasNoTable n numbers = (s : Symbol) → IsTable s → Connected s → ((d : ℕ) → IsChamber s d → HasDegree s Edge d) → s.size ≡ n → Begins numbers (code s) → ⊥

-- The numbers are the images of a connected table of n chambers in which s0 s2 s0 s2 moves no chamber.
pub record HasTable (n : ℕ) (numbers : List ℕ) : Type 0 where
  pub table : Symbol
  pub is_table : IsTable table
  pub connected : Connected table
  pub commuting : (d : ℕ) → IsChamber table d → HasDegree table Edge d
  pub size : table.size ≡ n
  pub begins : Begins numbers (code table)

-- The involutions are those of a connected table of at most 36 chambers in which s0 s2 s0 s2 moves no chamber.
pub record AreOfTable (s : Symbol) : Type 0 where
  pub table : Symbol
  pub is_table : IsTable table
  pub connected : Connected table
  pub commuting : (d : ℕ) → IsChamber table d → HasDegree table Edge d
  pub small : table.size ≤ 36
  pub same : HaveSameInvolutions table s

-- a table of n chambers whose code begins with the numbers
pub record IsTableOf (n : ℕ) (numbers : List ℕ) (t : Symbol) : Type 0 where
  pub bare : IsBareTable t
  pub size : t.size ≡ n
  pub begins : Begins numbers (code t)

-- a table of n chambers whose code begins with the numbers, of which no renumbering is smaller
pub record HasLeastTable (n : ℕ) (numbers : List ℕ) : Type 0 where
  pub table : Symbol
  pub of : IsTableOf n numbers table
  pub least : LeastTable table

-- the images of n chambers under an involution, in numbers that stand in the order of codes
abbrev pub images_of : ℕ → List ℕ → Index → List ℕ
images_of n numbers i = operation (of_rows n numbers) i

-- n chambers with these images and these degrees
abbrev pub told : ℕ → List ℕ → List ℕ → List ℕ → Symbol
told n numbers m01 m12 = with_degrees (of_rows n numbers) m01 m12
