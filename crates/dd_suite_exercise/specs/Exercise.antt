-- What an exercise writes.
use Rattle.std.specs.Prelude.{◌≡◌, ℕ, List, ◌++◌, length, codes, decimal}
use Rattle.std.specs.List.{flat_map, sum_by}
use Rattle.dd_model.specs.Symbol.{Symbol}
use Rattle.dd_suite_commands.specs.Totals.{total_text, totals_of}
use Rattle.dd_suite_exercise.specs.Seeds.{AreSeeds}
use Rattle.dd_suite_exercise.specs.Items.{AreItems}
use Rattle.dd_suite_exercise.specs.Counting.{AreDifferent, AreGroups}

-- how many items were made, their chambers together, and how many classes they are of
abbrev pub head_text : ℕ → ℕ → ℕ → List ℕ
head_text count chambers classes =
    codes "made " ++ (decimal count ++ (codes "\nchambers " ++ (decimal chambers ++ (codes "\nclasses " ++ (decimal classes ++ codes "\n")))))

-- the same, and a line for each name of a group in the order first seen
abbrev pub tally_text : ℕ → ℕ → ℕ → List (List ℕ × ℕ) → List ℕ
tally_text count chambers classes groups = head_text count chambers classes ++ flat_map (total_text (codes "group")) groups

-- So many items are made from a number on, and told by their sizes, by how many of them are different, and by their groups.
pub record IsExerciseText (start count : ℕ) (text : List ℕ) : Type 0 where
  pub seeds : List Symbol
  pub are_seeds : AreSeeds seeds
  pub forms : List Symbol
  pub number : length forms ≡ count
  pub are_items : AreItems seeds start forms
  pub classes : ℕ
  pub are_different : AreDifferent forms classes
  pub groups : List (List ℕ)
  pub are_groups : AreGroups forms groups
  pub is_text : text ≡ tally_text count (sum_by (λ s. s.size) forms) classes (totals_of groups)
