-- The two numbers of a pace.
use Rattle.std.specs.Prelude.{◌≡◌, ℕ, ◌≤◌}
use Rattle.dd_front_jobs.specs.declared.pace.Pace.{Pace}

-- there is a pace of these numbers
abbrev pub ArePaceNumbers : ℕ → ℕ → Type 0
ArePaceNumbers workers round = (1 ≤ workers) × (workers ≤ 64) × (1 ≤ round)

-- the pace has these numbers
pub record IsPace (pace : Pace) (workers round : ℕ) : Type 0 where
  pub workers_are : pace.workers ≡ workers
  pub round_is : pace.round ≡ round
