-- Steps from chamber to chamber, on and back round tiles and across crossing edges. They keep the color.
use Rattle.std.specs.Prelude.{◌≡◌, ◌⊎◌, ℕ, ◌-◌, ◌<◌, Bool, true, false, List, length, slice_index_or}
use Rattle.dd_model.specs.Symbol.{Symbol, IsChamber, op}
use Rattle.dd_model.specs.Cell.{IsLeastOfCell}
use Rattle.dd_model.specs.declared.index.Index.TheVariants.{Zero, One, Two}
use Rattle.dd_model.specs.declared.pair.Pair.TheVariants.{Edge}
use Rattle.dd_symbol.specs.Cells.{IsLeastFor}
use Rattle.dd_lattice.specs.Edges.{IsKindOf}
use Rattle.dd_lattice.specs.declared.kinds.EdgeKind.TheVariants.{Crossing}
use Rattle.dd_lattice.specs.declared.step.Step.{Step}

-- the edge of a chamber is a crossing edge
abbrev pub IsCrossingAt : Symbol → ℕ → Type 0
IsCrossingAt t d = (e : ℕ) → IsLeastFor t Edge d e → IsKindOf t e Crossing

-- the flag of a chamber
abbrev pub flag : List Bool → ℕ → Bool
flag flags d = slice_index_or flags (d - 1) false

-- the flags of the least chambers of the crossing edges, and of no other edges
pub record AreCrossing (t : Symbol) (flags : List Bool) : Type 0 where
  pub whole : length flags ≡ t.size
  pub yes : (e : ℕ) → IsLeastOfCell t Edge e → flag flags e ≡ true → IsKindOf t e Crossing
  pub no : (e : ℕ) → IsLeastOfCell t Edge e → flag flags e ≡ false → IsKindOf t e Crossing → ⊥

-- the next chamber of the walk round a tile, the one before, and the one beyond the edge that the walk round the next tile
-- passes the other way
abbrev pub on : Symbol → ℕ → ℕ
on t d = op t One (op t Zero d)

abbrev pub back : Symbol → ℕ → ℕ
back t d = op t Zero (op t One d)

abbrev pub across : Symbol → ℕ → ℕ
across t d = op t Zero (op t Two d)

pub record IsStepRound (t : Symbol) (e : Step) : Type 0 where
  pub leads : (e.to ≡ on t e.from) ⊎ (e.to ≡ back t e.from)
  pub stays : e.crosses ≡ false

pub record IsStepAcross (t : Symbol) (e : Step) : Type 0 where
  pub leads : e.to ≡ across t e.from
  pub crosses : e.crosses ≡ true
  pub crossing : IsCrossingAt t e.from

pub record IsStep (t : Symbol) (e : Step) : Type 0 where
  pub chamber : IsChamber t e.from
  pub either : IsStepRound t e ⊎ IsStepAcross t e

-- one of the first k steps leads to a chamber
pub record IsLedTo (steps : List Step) (k d : ℕ) : Type 0 where
  pub place : ℕ
  pub early : place < k
  pub inside : place < length steps
  pub leads : (e : Step) → (slice_index_or steps place e).to ≡ d

-- the first chamber, or one to which one of the first k steps leads
abbrev pub IsReached : ℕ → List Step → ℕ → ℕ → Type 0
IsReached first steps k d = (d ≡ first) ⊎ IsLedTo steps k d

-- each step leads from a chamber that is reached by those before it to one that is not
pub record IsTree (t : Symbol) (first : ℕ) (steps : List Step) : Type 0 where
  pub chamber : IsChamber t first
  pub each : (k : ℕ) (e : Step) → k < length steps → IsStep t (slice_index_or steps k e)
  pub from : (k : ℕ) (e : Step) → k < length steps → IsReached first steps k (slice_index_or steps k e).from
  pub new : (k : ℕ) (e : Step) → k < length steps → IsReached first steps k (slice_index_or steps k e).to → ⊥

-- all that is a step from a chamber is reached
pub record IsLookedFrom (t : Symbol) (first : ℕ) (steps : List Step) (d : ℕ) : Type 0 where
  pub on : IsReached first steps (length steps) (on t d)
  pub back : IsReached first steps (length steps) (back t d)
  pub across : IsCrossingAt t d → IsReached first steps (length steps) (across t d)

-- no step is left from what is reached
pub record IsWholeTree (t : Symbol) (first : ℕ) (steps : List Step) : Type 0 where
  pub tree : IsTree t first steps
  pub closed : (d : ℕ) → IsReached first steps (length steps) d → IsLookedFrom t first steps d
