use Rattle.std.proofs.Common.{◌≡◌, ℕ, ◌-◌, ◌%◌, ◌<◌, length}
use Rattle.dd_front_jobs.specs.FirstVisit.{FitsAt}
use Rattle.dd_front_jobs.proofs.numbering.fits.Given as goal

abbrev pub invariant-loop-earlier : goal.invariant-loop-earlier
invariant-loop-earlier l = record {
  third : l.earlier % 3 ≡ length l.prefix % 3;
  each : (u : ℕ) → u < l.earlier → u % 3 ≡ length l.prefix % 3 → FitsAt l.prefix l.number (length l.prefix) u;
}

abbrev pub decreases-loop-earlier : goal.decreases-loop-earlier
decreases-loop-earlier l = length l.prefix - l.earlier
