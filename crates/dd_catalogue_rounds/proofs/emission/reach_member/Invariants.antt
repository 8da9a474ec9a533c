use Rattle.std.proofs.Common.{◌≡◌, ℕ, length}
use Rattle.dd_pages_and_checkpoints.specs.Rounds.{AreDoneThenOpen}
use Rattle.dd_catalogue_rounds.specs.Steps.{AreEmptied}
use Rattle.dd_catalogue_rounds.proofs.emission.reach_member.Given as goal

-- some entries have left, which had no member to emit
abbrev pub invariant-loop-front : goal.invariant-loop-front
invariant-loop-front l = ((n : ℕ) × AreEmptied n l.initial.front l.front) × (l.front.lines ≡ l.initial.front.lines) × AreDoneThenOpen l.front.entries

abbrev pub decreases-loop-front : goal.decreases-loop-front
decreases-loop-front l = length l.front.entries
