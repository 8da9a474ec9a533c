-- Closed paths over the tiles. A path leaves a tile across the edge of a chamber.
use Rattle.std.specs.Prelude.{◌≡◌, ◌≢◌, ◌⊎◌, ℕ, ◌+◌, ◌-◌, ℤ, pos, ◌-ℤ◌, Bool, true, false, cond, List, set}
use Rattle.dd_model.specs.Symbol.{Symbol, op}
use Rattle.dd_model.specs.declared.index.Index.TheVariants.{Zero, Two}
use Rattle.dd_lattice.specs.Steps.{flag}
use Rattle.dd_lattice.specs.declared.step.Step.{Step}

-- 1 where the path leaves the tile of a chamber across its edge
abbrev pub mark : List Bool → ℕ → ℕ
mark exits d = cond (flag exits d) 1 0

-- The shift of the edge of a chamber: 1 for each of the chamber and its image by s2, which pass the edge the same way, at which the
-- path leaves a tile, less 1 for each of the two others, which pass it the other way.
abbrev pub shift_by : Symbol → List Bool → ℕ → ℤ
shift_by t exits d = pos (mark exits d + mark exits (op t Two d)) -ℤ pos (mark exits (op t Zero d) + mark exits (op t Zero (op t Two d)))

-- a step that does not end where the path stands
pub record IsElsewhere (step : Step) (place place' : ℕ) (exits exits' : List Bool) : Type 0 where
  pub other : step.to ≢ place
  pub stays : place' ≡ place
  pub same : exits' ≡ exits

-- one that does, and crosses no edge
pub record IsBackRound (step : Step) (place place' : ℕ) (exits exits' : List Bool) : Type 0 where
  pub here : step.to ≡ place
  pub round : step.crosses ≡ false
  pub goes : place' ≡ step.from
  pub same : exits' ≡ exits

-- one that does, and crosses one
pub record IsBackAcross (step : Step) (place place' : ℕ) (exits exits' : List Bool) : Type 0 where
  pub here : step.to ≡ place
  pub over : step.crosses ≡ true
  pub goes : place' ≡ step.from
  pub marked : exits' ≡ set exits (place - 1) true

-- the path goes back where a step leads to its place
abbrev pub IsBack : Step → ℕ → ℕ → List Bool → List Bool → Type 0
IsBack step place place' old new = IsElsewhere step place place' old new ⊎ IsBackRound step place place' old new ⊎ IsBackAcross step place place' old new
