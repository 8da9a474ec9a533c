-- Why a text is no checkpoint text.
use Rattle.std.specs.Prelude.{◌≡◌, ℕ, ◌-◌, ◌<◌, List, [], length, codes, slice_index_or}
use Rattle.dd_check.specs.declared.faults.CheckFault.{CheckFault}
use Rattle.dd_check.specs.declared.faults.CheckFault.TheVariants.{Shape, Range}
use Rattle.dd_check.specs.Texts.{Text, words_of}
use Rattle.dd_check.specs.Sets.{AreItems}
use Rattle.dd_check.specs.Rows.{IsNumberRow, IsLimitsRow, IsOldLimitsRow, IsSetRow, IsPlaceRow}
use Rattle.dd_check.specs.Ranges.{IsRun, IsCount, AreLimits, AreOldLimits, IsInRange, IsInOldRange}

-- line k, counted from 1, which ends with a line feed, so that something is listed after it
pub record IsLine (lines : List Text) (k : ℕ) (line : Text) : Type 0 where
  pub ended : k < length lines
  pub line_is : slice_index_or lines (k - 1) [] ≡ line

-- the words of line k tell a value
pub record Tells {A : Type 0} (form : List Text → A → Type 0) (lines : List Text) (k : ℕ) (a : A) : Type 0 where
  pub line : Text
  pub is_line : IsLine lines k line
  pub form_is : form (words_of line) a

-- From line k on, the first line that is missing, not of its form or out of range has the fault. Where line k tells
-- a value in range, `later` says which faults come after it.
pub data FirstFault {A : Type 0} (lines : List Text) (k : ℕ) (form : List Text → A → Type 0) (range : A → Type 0)
    (later : A → CheckFault → Type 0) (fault : CheckFault) : Type 0 where
  shape : fault ≡ Shape k → ((a : A) → Tells form lines k a → ⊥) → FirstFault lines k form range later fault
  range : (a : A) → fault ≡ Range k → Tells form lines k a → (range a → ⊥) → FirstFault lines k form range later fault
  after : (a : A) → Tells form lines k a → range a → later a fault → FirstFault lines k form range later fault

-- nothing stands after the line feed of line k - 1
pub record IsEnd (lines : List Text) (k : ℕ) : Type 0 where
  pub count : length lines ≡ k
  pub empty : slice_index_or lines (k - 1) [] ≡ []

-- something does
pub record IsLongerFault (lines : List Text) (k : ℕ) (fault : CheckFault) : Type 0 where
  pub shape : fault ≡ Shape k
  pub longer : IsEnd lines k → ⊥

-- the first line of version 2 that is not of its form or out of range
abbrev pub IsLineFault : List Text → CheckFault → Type 0
IsLineFault lines =
    FirstFault lines 2 (IsNumberRow (codes "run")) IsRun (λ _.
    FirstFault lines 3 IsLimitsRow AreLimits (λ limits.
    FirstFault lines 4 (IsSetRow (codes "faces")) AreItems (λ _.
    FirstFault lines 5 (IsSetRow (codes "degrees")) AreItems (λ _.
    FirstFault lines 6 (IsNumberRow (codes "lines")) IsCount (λ _.
    FirstFault lines 7 (IsNumberRow (codes "bytes")) IsCount (λ _.
    FirstFault lines 8 IsPlaceRow (IsInRange limits.chambers) (λ _. IsLongerFault lines 9)))))))

-- the same of version 1
abbrev pub IsOldLineFault : List Text → CheckFault → Type 0
IsOldLineFault lines =
    FirstFault lines 2 (IsNumberRow (codes "run")) IsRun (λ _.
    FirstFault lines 3 IsOldLimitsRow AreOldLimits (λ limits.
    FirstFault lines 4 (IsNumberRow (codes "lines")) IsCount (λ _.
    FirstFault lines 5 (IsNumberRow (codes "bytes")) IsCount (λ _.
    FirstFault lines 6 IsPlaceRow (IsInOldRange limits.chambers) (λ _. IsLongerFault lines 7)))))

-- the first lines of the two versions
abbrev pub IsNew : List Text → Type 0
IsNew lines = IsLine lines 1 (codes "dressline checkpoint 2")

abbrev pub IsOld : List Text → Type 0
IsOld lines = IsLine lines 1 (codes "dressline checkpoint 1")

-- the first line is that of neither version
pub record IsOfNoVersion (lines : List Text) : Type 0 where
  pub not_new : IsNew lines → ⊥
  pub not_old : IsOld lines → ⊥
