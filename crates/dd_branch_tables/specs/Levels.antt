-- How far a search has come: the prefixes on the way from where it began, and what is still to be tried after each of them.
use Rattle.std.specs.Prelude.{◌≡◌, ◌⊎◌, ℕ, ◌+◌, ◌-◌, ◌*◌, ◌^◌, ◌<◌, List, [], ◌∷◌, length}
use Rattle.dd_model.specs.Symbol.{Symbol}
use Rattle.dd_model.specs.declared.requests.Request.{Request}
use Rattle.dd_branch_tables.specs.Chambers.{bit_of}
use Rattle.dd_branch_tables.specs.Search.{SearchLaws, GoesOn}
use Rattle.dd_front_jobs.specs.Under.{IsUnder, next_number}
use Rattle.dd_branch_tables.specs.declared.chamber_set.ChamberSet.{ChamberSet}
use Rattle.dd_branch_tables.specs.declared.level.Level.{Level}

-- A number was put in after the prefix of an old state, which led to a new one. All numbers that are left to be tried there come after it.
pub record IsStep {S : Type 0} (laws : SearchLaws S) (level : Level) (old new : S) : Type 0 where
  pub number : ℕ
  pub valid_there : laws.valid old
  pub mark : level.mark ≡ laws.depth old
  pub room : length (laws.prefix old) < laws.end (laws.size old)
  pub longer : GoesOn laws number old new
  pub later : (k : ℕ) → bit_of level.left k ≡ 1 → number < k

-- The state is one to which the search came from its levels, the last of which comes first.
abbrev pub IsBeyond : {S : Type 0} → SearchLaws S → S → List Level → Type 0
IsBeyond laws state [] = Unit
IsBeyond laws state (level ∷ levels) =
    IsStep laws level (laws.undone state level.mark) state
    × IsBeyond laws (laws.undone state level.mark) levels

-- a search stands at a level
pub record IsOpenLevel {S : Type 0} (laws : SearchLaws S) (level : Level) (state : S) : Type 0 where
  pub mark : level.mark ≡ laws.depth state
  pub room : length (laws.prefix state) < laws.end (laws.size state)

-- The state is that of the last level, to which the search came from the others. Without levels it may be any.
abbrev pub IsAt : {S : Type 0} → SearchLaws S → S → List Level → Type 0
IsAt laws state [] = Unit
IsAt laws state (level ∷ levels) =
    IsOpenLevel laws level state × IsBeyond laws state levels

-- what is still to be tried after a prefix: all under it whose next numbers are left
pub record IsToTry (W : Symbol → Type 0) (n : ℕ) (prefix : List ℕ) (left : ChamberSet) (s : Symbol) : Type 0 where
  pub under : IsUnder W n prefix s
  pub told : bit_of left (next_number prefix s) ≡ 1

-- what is still to be tried at the levels from which the search came to a state
abbrev pub IsLeft : {S : Type 0} → SearchLaws S → (Symbol → Type 0) → ℕ → S → List Level → Symbol → Type 0
IsLeft laws W n state [] s = ⊥
IsLeft laws W n state (level ∷ levels) s =
    IsToTry W n (laws.prefix (laws.undone state level.mark)) level.left s ⊎ IsLeft laws W n (laws.undone state level.mark) levels s

-- the same where the state is that of the last level
abbrev pub IsLeftAt : {S : Type 0} → SearchLaws S → (Symbol → Type 0) → ℕ → S → List Level → Symbol → Type 0
IsLeftAt laws W n state [] s = ⊥
IsLeftAt laws W n state (level ∷ levels) s = IsToTry W n (laws.prefix state) level.left s ⊎ IsLeft laws W n state levels s

-- under the prefix of a state, where the request and the size are those of the state in which a call began
abbrev pub IsUnderState : {S : Type 0} → SearchLaws S → S → S → Symbol → Type 0
IsUnderState laws begun state s = IsUnder (laws.wanted (laws.request begun)) (laws.size begun) (laws.prefix state) s

-- what is still to be tried, likewise
abbrev pub IsStillLeft : {S : Type 0} → SearchLaws S → S → S → List Level → Symbol → Type 0
IsStillLeft laws begun state levels s = IsLeft laws (laws.wanted (laws.request begun)) (laws.size begun) state levels s

-- the same where the state is that of the last level
abbrev pub IsStillLeftAt : {S : Type 0} → SearchLaws S → S → S → List Level → Symbol → Type 0
IsStillLeftAt laws begun state levels s = IsLeftAt laws (laws.wanted (laws.request begun)) (laws.size begun) state levels s

-- the state at the first level from which the search came to a state, or the state itself
abbrev pub first_of : {S : Type 0} → SearchLaws S → S → List Level → S
first_of laws state [] = state
first_of laws state (level ∷ levels) = first_of laws (laws.undone state level.mark) levels

-- the same where the state is that of the last level
abbrev pub first_at : {S : Type 0} → SearchLaws S → S → List Level → S
first_at laws state [] = state
first_at laws state (level ∷ levels) = first_of laws state levels

-- A number that falls with each number that is tried: levels are digits, the first one has the greatest weight.
abbrev pub weight_of : List Level → ℕ
weight_of levels = (2 ^ 65) ^ (109 - length levels)

abbrev pub weight_before : List Level → ℕ
weight_before [] = 0
weight_before (level ∷ levels) = (2 * level.left.bits + 1) * weight_of levels + weight_before levels

abbrev pub weight : List Level → ℕ
weight [] = 0
weight (level ∷ levels) = 2 * level.left.bits * weight_of levels + weight_before levels + 1
