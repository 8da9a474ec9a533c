-- What stands at an end of a path.
use Rattle.std.specs.Prelude.{ℕ, ◌*◌, Bool}

-- An end is told at its flag, which is twice a chamber, and 1 more for the second involution of the pair: the other end, how many
-- chambers the path has, whether an involution is known to fix one of them, and their share. No chambers stand at a flag that is
-- no end.
pub record PathEnd : Type 0 where
  pub other : ℕ
  pub chambers : ℕ
  pub is_capped : Bool
  pub share : ℕ

-- what the chambers of a path have together
abbrev pub weight : PathEnd → ℕ
weight e = e.chambers * e.share
