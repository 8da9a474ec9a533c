-- The items of an exercise.
use Rattle.std.specs.Prelude.{◌≡◌, ℕ, ◌+◌, List, [], ◌∷◌, Some, length, slice_get}
use Rattle.dd_model.specs.Symbol.{Symbol}
use Rattle.dd_model.specs.Code.{IsLeastForm}
use Rattle.dd_model.specs.Isomorphic.{IsIsomorphism}
use Rattle.dd_suite_exercise.specs.Draws.{answer, after_draws}
use Rattle.dd_suite_exercise.specs.Choices.{change_at, changed, covering_at, IsCoverBy}
use Rattle.dd_suite_exercise.specs.Renumbering.{renumbering}

-- the answer of a draw below k after j others
abbrev pub drawn : ℕ → ℕ → ℕ → ℕ
drawn z j k = answer (after_draws j z) k

-- From a number on, the first draw picks a line of the seeds, the next two changes, and the fourth a cover.
pub record IsCover (seeds : List Symbol) (z : ℕ) (cover : Symbol) : Type 0 where
  pub seed : Symbol
  pub picked : slice_get seeds (drawn z 0 (length seeds)) ≡ Some seed
  pub is_cover : IsCoverBy (covering_at (drawn z 3 3)) (changed (change_at (drawn z 2 5)) (changed (change_at (drawn z 1 5)) seed)) cover

-- the cover is renumbered by the draws that follow, and the least form is taken
pub record IsItem (seeds : List Symbol) (z : ℕ) (form : Symbol) : Type 0 where
  pub cover : Symbol
  pub covers : IsCover seeds z cover
  pub renumbered : Symbol
  pub renumbers : IsIsomorphism cover renumbered (renumbering cover.size (after_draws 4 z))
  pub least : IsLeastForm renumbered form

-- the number after an item of so many chambers: four draws, and one for each chamber but one
abbrev pub after_item : ℕ → Symbol → ℕ
after_item z form = after_draws (form.size + 3) z

-- the number after some items
abbrev pub after_items : ℕ → List Symbol → ℕ
after_items z [] = z
after_items z (form ∷ forms) = after_items (after_item z form) forms

-- the items from a number on, each from the number that the one before it left
abbrev pub AreItems : List Symbol → ℕ → List Symbol → Type 0
AreItems seeds z [] = Unit {0}
AreItems seeds z (form ∷ forms) = IsItem seeds z form × AreItems seeds (after_item z form) forms
