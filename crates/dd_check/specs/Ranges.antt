-- Which numbers of a checkpoint are in range.
use Rattle.std.specs.Prelude.{ℕ, ◌*◌, ◌^◌, ◌<◌, ◌≤◌, List, length, slice_index}
use Rattle.dd_model.specs.declared.jobs.Job.{Job}
use Rattle.dd_model.specs.declared.jobs.Position.{Position}
use Rattle.dd_model.specs.declared.jobs.Position.TheVariants.{At, End}
use Rattle.dd_check.specs.declared.raw_values.Limits.{Limits}
use Rattle.dd_check.specs.declared.raw_values.OldLimits.{OldLimits}

abbrev pub IsFromTo : ℕ → ℕ → ℕ → Type 0
IsFromTo low high number = (low ≤ number) × (number ≤ high)

-- the number of a run
abbrev pub IsRun : ℕ → Type 0
IsRun = IsFromTo 1 999999999

-- a number of lines or of bytes
abbrev pub IsCount : ℕ → Type 0
IsCount = IsFromTo 0 (10 ^ 18)

pub record AreLimits (limits : Limits) : Type 0 where
  pub chambers : IsFromTo 1 36 limits.chambers
  pub tiles : limits.tiles ≤ 36
  pub vertices : limits.vertices ≤ 36

pub record AreOldLimits (limits : OldLimits) : Type 0 where
  pub chambers : IsFromTo 1 36 limits.chambers
  pub tiles : limits.tiles ≤ 36
  pub vertices : limits.vertices ≤ 36
  pub least_face : IsFromTo 1 36 limits.least_face
  pub least_degree : IsFromTo 1 36 limits.least_degree

-- the numbers that tell images are chambers, and those after them degrees
pub record AreImagesAndDegrees (size : ℕ) (numbers : List ℕ) : Type 0 where
  pub images : (t : ℕ) → t < length numbers → t < 3 * size → IsFromTo 1 size (slice_index numbers t)
  pub degrees : (t : ℕ) → t < length numbers → 3 * size ≤ t → IsFromTo 1 216 (slice_index numbers t)

-- all numbers are chambers
pub record AreImages (size : ℕ) (numbers : List ℕ) : Type 0 where
  pub images : (t : ℕ) → t < length numbers → IsFromTo 1 size (slice_index numbers t)

-- at most 180 numbers: images, and then degrees
pub record IsJobInRange (chambers : ℕ) (job : Job) : Type 0 where
  pub size : IsFromTo 1 chambers job.size
  pub few : length job.prefix ≤ 180
  pub numbers : AreImagesAndDegrees job.size job.prefix

abbrev pub IsInRange : ℕ → Position → Type 0
IsInRange chambers End = Unit {0}
IsInRange chambers (At job) = IsJobInRange chambers job

-- at most 108 numbers: images alone
pub record IsOldJobInRange (chambers : ℕ) (job : Job) : Type 0 where
  pub size : IsFromTo 1 chambers job.size
  pub few : length job.prefix ≤ 108
  pub numbers : AreImages job.size job.prefix

abbrev pub IsInOldRange : ℕ → Position → Type 0
IsInOldRange chambers End = Unit {0}
IsInOldRange chambers (At job) = IsOldJobInRange chambers job
