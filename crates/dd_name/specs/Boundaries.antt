-- The corners of the boundaries, as they are written.
use Rattle.std.specs.Prelude.{ℕ, List, [], ◌∷◌}
use Rattle.dd_name.specs.declared.joints.Joint.{Joint}
use Rattle.dd_name.specs.Rounds.{corners}
use Rattle.dd_name.specs.Arranged.{IsGreatestTurned, IsDescending, dictionary}

-- the corners of each round, as the greatest of all ways to begin and to go round
abbrev pub AreWritten : List (List Joint) → List (List ℕ) → Type 0
AreWritten [] [] = Unit {0}
AreWritten [] (c ∷ cs) = ⊥
AreWritten (r ∷ rs) [] = ⊥
AreWritten (r ∷ rs) (c ∷ cs) = IsGreatestTurned (corners r) c × AreWritten rs cs

-- the written corners of some rounds, in descending order of the dictionary
pub record AreBoundaries (rounds : List (List Joint)) (boundaries : List (List ℕ)) : Type 0 where
  pub lists : List (List ℕ)
  pub written : AreWritten rounds lists
  pub descending : IsDescending dictionary lists boundaries
