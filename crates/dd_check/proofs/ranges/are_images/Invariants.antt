use Rattle.std.proofs.Common.{ℕ, ◌<◌}
use Rattle.std.specs.Prelude.{slice_index}
use Rattle.dd_check.specs.Ranges.{IsFromTo}
use Rattle.dd_check.proofs.ranges.are_images.Given as goal

abbrev pub invariant-loop-place : goal.invariant-loop-place
invariant-loop-place l = (t : ℕ) → t < l.place → IsFromTo 1 l.size (slice_index l.numbers t)
