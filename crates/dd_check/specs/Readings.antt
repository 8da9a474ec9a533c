-- What the lines of a whole text tell.
use Rattle.std.specs.Prelude.{ℕ, List, codes}
use Rattle.dd_model.specs.Allowed.{IsFrom}
use Rattle.dd_check.specs.declared.checkpoint.Checkpoint.{Checkpoint}
use Rattle.dd_check.specs.Texts.{Text}
use Rattle.dd_check.specs.Rows.{IsNumberRow, IsLimitsRow, IsOldLimitsRow, IsPlaceRow}
use Rattle.dd_check.specs.Ranges.{IsRun, IsCount, AreLimits, AreOldLimits, IsInRange, IsInOldRange}
use Rattle.dd_check.specs.Checks.{limits_of, old_limits_of}
use Rattle.dd_check.specs.Faults.{IsEnd}
use Rattle.dd_check.specs.Lines.{IsToldInRange, IsToldSet}

-- from the second line on, the lines of version 2 tell the values of a checkpoint, in range
pub record TellsCheck (lines : List Text) (c : Checkpoint) : Type 0 where
  pub run : IsToldInRange lines 2 (IsNumberRow (codes "run")) IsRun c.run
  pub limits : IsToldInRange lines 3 IsLimitsRow AreLimits (limits_of c.request)
  pub faces : IsToldSet lines 4 (codes "faces") c.request.faces
  pub degrees : IsToldSet lines 5 (codes "degrees") c.request.degrees
  pub count : IsToldInRange lines 6 (IsNumberRow (codes "lines")) IsCount c.lines
  pub bytes : IsToldInRange lines 7 (IsNumberRow (codes "bytes")) IsCount c.bytes
  pub at : IsToldInRange lines 8 IsPlaceRow (IsInRange c.request.chambers) c.at
  pub end : IsEnd lines 9

-- the same of version 1, with the least numbers of the two sets
pub record TellsOldCheck (lines : List Text) (c : Checkpoint) : Type 0 where
  pub face : ℕ
  pub degree : ℕ
  pub run : IsToldInRange lines 2 (IsNumberRow (codes "run")) IsRun c.run
  pub limits : IsToldInRange lines 3 IsOldLimitsRow AreOldLimits (old_limits_of c.request face degree)
  pub face_set : IsFrom face c.request.faces
  pub degree_set : IsFrom degree c.request.degrees
  pub count : IsToldInRange lines 4 (IsNumberRow (codes "lines")) IsCount c.lines
  pub bytes : IsToldInRange lines 5 (IsNumberRow (codes "bytes")) IsCount c.bytes
  pub at : IsToldInRange lines 6 IsPlaceRow (IsInOldRange c.request.chambers) c.at
  pub end : IsEnd lines 7
