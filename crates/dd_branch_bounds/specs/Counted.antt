-- The cells and the fixed flags of a table that are counted.
use Rattle.std.specs.Prelude.{◌≡◌, ℕ, ◌*◌, ◌/◌, ◌≤◌, List, [], ◌∷◌, length}
use Rattle.std.specs.List.{AllByRecursion, sum_by}
use Rattle.dd_model.specs.declared.pair.Pair.{Pair}
use Rattle.dd_model.specs.Symbol.{Symbol, IsChamber, degree}
use Rattle.dd_model.specs.Cell.{InCell}
use Rattle.dd_model.specs.Flat.{all_degrees}
use Rattle.dd_cells.specs.Cells.{AreMembers}
use Rattle.dd_branch_tables.specs.Distinct.{AreDistinct}
use Rattle.dd_branch_bounds.specs.Closed.{fixed_flags}
use Rattle.dd_branch_bounds.specs.Ends.{IsOpenAt, led}
use Rattle.dd_branch_bounds.specs.PathEnd.{PathEnd}
use Rattle.dd_branch_bounds.specs.Units.{share_unit}
use Rattle.dd_branch_bounds.specs.declared.census.Census.{Census}

-- the chambers of the cell of each chamber
abbrev pub AreAllMembers : Symbol → Pair → (ℕ → List ℕ) → Type 0
AreAllMembers s p members = (d : ℕ) → IsChamber s d → AreMembers s p d (members d)

-- chambers of which no two are in one cell
abbrev pub AreOfOtherCells : Symbol → Pair → List ℕ → Type 0
AreOfOtherCells s p [] = Unit {0}
AreOfOtherCells s p (d ∷ ds) = AllByRecursion (λ e. InCell s p e d → ⊥) ds × AreOfOtherCells s p ds

-- a flag whose involution fixes its chamber
pub record IsFixedFlag (s : Symbol) (p : Pair) (z : ℕ) : Type 0 where
  pub chamber : IsChamber s (z / 2)
  pub fixed : led s p z ≡ z / 2

-- What a census tells of a table: one chamber of each cell that was counted, and the fixed flags that were. None of these cells has
-- a chamber of which R holds, and K holds of none of these flags.
pub record IsCounted (s : Symbol) (p : Pair) (R K : ℕ → Type 0) (c : Census) : Type 0 where
  pub cells : List ℕ
  pub flags : List ℕ
  pub inside : AllByRecursion (IsChamber s) cells
  pub apart : AreOfOtherCells s p cells
  pub count : length cells ≡ c.cells
  pub size : (members : ℕ → List ℕ) → AreAllMembers s p members → sum_by (λ d. length (members d)) cells ≤ c.chambers
  pub chains : (members : ℕ → List ℕ) → AreAllMembers s p members → sum_by (λ d. sum_by (fixed_flags s p) (members d)) cells ≤ 2 * c.chains
  pub total : (members : ℕ → List ℕ) → AreAllMembers s p members
      → sum_by (λ d. sum_by (λ x. all_degrees s / degree s p x) (members d)) cells * share_unit ≤ all_degrees s * c.most
  pub distinct : AreDistinct flags
  pub each : AllByRecursion (IsFixedFlag s p) flags
  pub fixed : length flags ≡ c.fixed
  pub away : AllByRecursion (λ d. (e : ℕ) → R e → InCell s p d e → ⊥) cells
  pub free : AllByRecursion (λ z. K z → ⊥) flags

-- what a census tells of a table, of whatever paths
abbrev pub HasCounted : Symbol → Pair → Census → Type 0
HasCounted s p c = IsCounted s p (λ _. ⊥) (λ _. ⊥) c

-- a chamber at an end of a path
pub record IsAtEnd (ends : ℕ → PathEnd) (e : ℕ) : Type 0 where
  pub end : ℕ
  pub live : 1 ≤ (ends end).chambers
  pub at : end / 2 ≡ e

-- an end of a path, or the other end of a path where an involution is not told to fix that
pub record IsLoose (ends : ℕ → PathEnd) (z : ℕ) : Type 0 where
  pub end : ℕ
  pub live : 1 ≤ (ends end).chambers
  pub loose : IsOpenAt end (ends end) z

-- what a census tells of a table with the ends of paths: none of them is in a cell that was counted, or a flag that was
abbrev pub AreCounted : Symbol → Pair → (ℕ → PathEnd) → Census → Type 0
AreCounted s p ends c = IsCounted s p (IsAtEnd ends) (IsLoose ends) c

-- no end is the other end of its path
abbrev pub HaveOthers : (ℕ → PathEnd) → Type 0
HaveOthers ends = (x : ℕ) → 1 ≤ (ends x).chambers → (ends x).other ≡ x → ⊥
