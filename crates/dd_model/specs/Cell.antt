use Rattle.std.specs.Prelude.{◌≡◌, ◌⊎◌, ◌↔◌, ℕ, ◌*◌, ◌≤◌, List, [], ◌∷◌}
use Rattle.std.specs.List.{Contains}
use Rattle.std.specs.List.Sorted.{IsStrictlyIncreasing}
use Rattle.dd_model.specs.Symbol.{Symbol, IsChamber, Word, first, second, turn, degree, op, act, power}
use Rattle.dd_model.specs.declared.pair.Pair.{Pair}

-- a word in the two letters of the pair
abbrev pub IsWordOf : Pair → Word → Type 0
IsWordOf p [] = Unit {0}
IsWordOf p (i ∷ w) = ((i ≡ first p) ⊎ (i ≡ second p)) × IsWordOf p w

-- The cell of a chamber d: the chambers to which the words of the pair lead from d. It is the
-- smallest set with d in it that is closed under the two involutions.
pub record InCell (s : Symbol) (p : Pair) (d e : ℕ) : Type 0 where
  pub word : Word
  pub letters : IsWordOf p word
  pub leads : act s word d ≡ e

-- one of the two involutions fixes a chamber of the cell; else the cell is a cycle
pub record IsChain (s : Symbol) (p : Pair) (d : ℕ) : Type 0 where
  pub chamber : ℕ
  pub in_cell : InCell s p d chamber
  pub fixed : (op s (first p) chamber ≡ chamber) ⊎ (op s (second p) chamber ≡ chamber)

-- the chamber to which k turns lead
abbrev pub turned : Symbol → Pair → ℕ → ℕ → ℕ
turned s p k d = act s (power (turn p) k) d

-- r is the least positive number of turns that fixes d
pub record IsPeriod (s : Symbol) (p : Pair) (d r : ℕ) : Type 0 where
  pub positive : 1 ≤ r
  pub fixed : turned s p r d ≡ d
  pub least : (k : ℕ) → 1 ≤ k → turned s p k d ≡ d → r ≤ k

-- r is the least positive number of turns that fixes a chamber of the cell
pub record IsLeastTurns (s : Symbol) (p : Pair) (d r : ℕ) : Type 0 where
  pub positive : 1 ≤ r
  pub chamber : ℕ
  pub in_cell : InCell s p d chamber
  pub fixed : turned s p r chamber ≡ chamber
  pub least : (k e : ℕ) → 1 ≤ k → InCell s p d e → turned s p k e ≡ e → r ≤ k

-- v is the degree divided by r
pub record IsBranching (s : Symbol) (p : Pair) (d v : ℕ) : Type 0 where
  pub r : ℕ
  pub least_turns : IsLeastTurns s p d r
  pub quotient : v * r ≡ degree s p d

-- no chamber of the cell is smaller
abbrev pub IsLeastOfCell : Symbol → Pair → ℕ → Type 0
IsLeastOfCell s p d = IsChamber s d × ((e : ℕ) → InCell s p d e → d ≤ e)

-- the least chambers of the cells of a pair, ascending: one for each cell
pub record AreCells (s : Symbol) (p : Pair) (ds : List ℕ) : Type 0 where
  pub ascending : IsStrictlyIncreasing ds
  pub members : (d : ℕ) → Contains ds d ↔ IsLeastOfCell s p d
