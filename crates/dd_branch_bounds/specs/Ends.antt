-- The ends of the paths of a pair, and what is known of the paths by them.
use Rattle.std.specs.Prelude.{◌≡◌, ◌≢◌, ◌⊎◌, ℕ, ◌*◌, ◌/◌, ◌%◌, ◌≤◌, Bool, IsTrue, cond, nat_eq}
use Rattle.std.specs.List.{sum_by}
use Rattle.dd_model.specs.declared.index.Index.{Index}
use Rattle.dd_model.specs.declared.pair.Pair.{Pair}
use Rattle.dd_model.specs.declared.requests.Request.{Request}
use Rattle.dd_model.specs.Symbol.{Symbol, IsTable, first, second, op, degree}
use Rattle.dd_model.specs.Code.{count_from}
use Rattle.dd_model.specs.Cell.{InCell, IsChain}
use Rattle.dd_model.specs.Wanted.{Wanted}
use Rattle.dd_branch_bounds.specs.Units.{share_unit}
use Rattle.dd_branch_bounds.specs.Labels.{count_label}
use Rattle.dd_branch_bounds.specs.PathEnd.{PathEnd}

-- one of n chambers
abbrev pub IsInside : ℕ → ℕ → Type 0
IsInside n d = (1 ≤ d) × (d ≤ n)

-- tables of n chambers
abbrev pub AreTables : (Symbol → Type 0) → ℕ → Type 0
AreTables C n = (s : Symbol) → C s → IsTable s × (s.size ≡ n)

-- a wanted symbol that is one of some tables
abbrev pub IsFound : Request → (Symbol → Type 0) → Symbol → Type 0
IsFound q C s = Wanted q s × C s

-- the involution of a flag: the first of the pair where the flag is even, else the second
abbrev pub letter_of : Pair → ℕ → Index
letter_of p side = cond (nat_eq side 0) (first p) (second p)

-- the chamber to which the involution of a flag leads
abbrev pub led : Symbol → Pair → ℕ → ℕ
led s p z = op s (letter_of p (z % 2)) (z / 2)

-- In all of some tables a flag leads to a chamber with the same label, and to another one unless the path is told to be capped.
pub record IsWithin (C : Symbol → Type 0) (p : Pair) (label : ℕ → ℕ) (is_capped : Bool) (z : ℕ) : Type 0 where
  pub same : (s : Symbol) → C s → label (led s p z) ≡ label (z / 2)
  pub moved : (IsTrue is_capped → ⊥) → (s : Symbol) → C s → led s p z ≢ z / 2

-- a flag that is the end x, or the other one where an involution is not told to fix that
abbrev pub IsOpenAt : ℕ → PathEnd → ℕ → Type 0
IsOpenAt x e z = (z ≡ x) ⊎ ((z ≡ e.other) × (IsTrue e.is_capped → ⊥))

-- In all of some tables of n chambers a flag x, of the chamber x / 2, is an end of a path: the chambers with its label are those of
-- the path, no end of these is a third one, and each other flag of them leads to one of them.
pub record IsPathEnd (C : Symbol → Type 0) (n : ℕ) (p : Pair) (label share : ℕ → ℕ)
    (ends : ℕ → PathEnd) (x : ℕ) : Type 0 where
  pub inside : IsInside n (x / 2)
  pub count : (ends x).chambers ≡ count_label label (label (x / 2)) (count_from 1 n)
  pub told : (ends x).share ≡ share (label (x / 2))
  pub capped : IsTrue (ends x).is_capped → (s : Symbol) → C s → IsChain s p (x / 2)
  pub other : IsInside n ((ends x).other / 2) × (label ((ends x).other / 2) ≡ label (x / 2))
  pub alone : (z : ℕ) → 1 ≤ (ends z).chambers → label (z / 2) ≡ label (x / 2)
      → (z ≡ x) ⊎ (z ≡ (ends x).other)
  pub closed : (z : ℕ) → IsInside n (z / 2) → label (z / 2) ≡ label (x / 2)
      → IsOpenAt x (ends x) z ⊎ IsWithin C p label (ends x).is_capped z

-- Chambers with the same label are in one cell of each of some tables, and have one share, which is no less than the unit divided
-- by their degree where the table is wanted; the total is the sum of the shares of all chambers.
pub record ArePathEnds (q : Request) (C : Symbol → Type 0) (n : ℕ) (p : Pair)
    (ends : ℕ → PathEnd) (total : ℕ) : Type 0 where
  pub label : ℕ → ℕ
  pub shared : ℕ → ℕ
  pub joined : (d e : ℕ) → IsInside n d → IsInside n e → label d ≡ label e
      → (s : Symbol) → C s → InCell s p d e
  pub shares : (d : ℕ) → IsInside n d → (s : Symbol) → IsFound q C s
      → share_unit ≤ shared (label d) * degree s p d
  pub small : (d : ℕ) → IsInside n d → shared (label d) ≤ share_unit
  pub adds : total ≡ sum_by (λ d. shared (label d)) (count_from 1 n)
  pub each : (x : ℕ) → 1 ≤ (ends x).chambers → IsPathEnd C n p label shared ends x
