-- A tree of steps, as it grows.
use Rattle.std.specs.Prelude.{◌≡◌, ◌⊎◌, ◌↔◌, ℕ, ◌+◌, ◌-◌, ◌<◌, ◌≤◌, Bool, true, false, List, [], ◌∷◌, ◌++◌, length, set, slice_index_or}
use Rattle.std.specs.List.{count_by}
use Rattle.dd_model.specs.Symbol.{Symbol, IsChamber}
use Rattle.dd_lattice.specs.Steps.{flag, IsReached, IsTree, IsLookedFrom}
use Rattle.dd_lattice.specs.declared.step.Step.{Step}

abbrev pub is_set : Bool → Bool
is_set b = b

-- the chambers that are met are those that are reached
pub record IsGrowing (t : Symbol) (first : ℕ) (met : List Bool) (steps : List Step) : Type 0 where
  pub tree : IsTree t first steps
  pub whole : length met ≡ t.size
  pub told : (d : ℕ) → IsChamber t d → (flag met d ≡ true) ↔ IsReached first steps (length steps) d
  pub many : count_by is_set met ≡ length steps + 1

-- a step is taken where it leads to a chamber that is not met, and nothing is done where it does not
pub record IsPassedBy (step : Step) (met met' : List Bool) (steps steps' : List Step) : Type 0 where
  pub old : flag met step.to ≡ true
  pub same_met : met' ≡ met
  pub same_steps : steps' ≡ steps

pub record IsAdded (step : Step) (met met' : List Bool) (steps steps' : List Step) : Type 0 where
  pub new : flag met step.to ≡ false
  pub more_met : met' ≡ set met (step.to - 1) true
  pub more_steps : steps' ≡ steps ++ step ∷ []

abbrev pub IsTaken : Step → List Bool → List Bool → List Step → List Step → Type 0
IsTaken step met met' steps steps' = IsPassedBy step met met' steps steps' ⊎ IsAdded step met met' steps steps'

-- the first steps stay
pub record IsExtended (old new : List Step) : Type 0 where
  pub longer : length old ≤ length new
  pub same : (q : ℕ) (e : Step) → q < length old → slice_index_or new q e ≡ slice_index_or old q e

-- what looking from a chamber that is reached has done
pub record HasLooked (t : Symbol) (first d : ℕ) (met' : List Bool) (steps steps' : List Step) : Type 0 where
  pub growing : IsGrowing t first met' steps'
  pub extended : IsExtended steps steps'
  pub looked : IsLookedFrom t first steps' d
