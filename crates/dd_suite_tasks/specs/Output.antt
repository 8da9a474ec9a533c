-- What the program is to write.
use Rattle.std.specs.Prelude.{◌≡◌, ◌⊎◌, ℕ, ◌≤◌, List, [], Option, Bool, true}
use Rattle.std.specs.Io.KnownBytes.{Appends}
use Rattle.dd_model.specs.Text.{beginning}
use Rattle.dd_model.specs.declared.jobs.Position.TheVariants.{End}
use Rattle.dd_front_jobs.specs.declared.portions.Portion.{Portion}
use Rattle.dd_front_jobs.specs.Portions.{IsPortionText}
use Rattle.dd_check.specs.Between.{AreLinesBetween}
use Rattle.dd_check.specs.declared.checkpoint.ResumeKind.{ResumeKind}
use Rattle.dd_check.specs.ChainStarts.{Start}
use Rattle.dd_suite_commands.specs.declared.commands.FileCommand.{FileCommand}
use Rattle.dd_pages_and_checkpoints.specs.MostLines.{most_lines}
use Rattle.dd_suite_exercise.specs.Exercise.{IsExerciseText}
use Rattle.dd_suite_tasks.specs.Beginnings.{BeginsNext}
use Rattle.dd_suite_tasks.specs.Held.{IsTextOfHeld}
use Rattle.dd_suite_tasks.specs.MergeEndings.{IsMergeOutput}
use Rattle.dd_suite_tasks.specs.Words.{AreTaken, AskFor, AskToResume, IsOnFile, AskToExercise}

-- the text of the catalogue or of the shard that the words ask for, from its beginning
pub record IsBegunText (words : List (List ℕ)) (bytes : List ℕ) : Type 0 where
  pub portion : Portion
  pub asked : AskFor words portion
  pub text : IsPortionText portion beginning 0 bytes

-- the text from where the checkpoint says that the words go on from
pub record IsResumedText (words : List (List ℕ)) (tells : Bool) (held : List ℕ → Option (List ℕ)) (bytes : List ℕ) : Type 0 where
  pub kind : ResumeKind
  pub name : List ℕ
  pub asked : AskToResume words kind name
  pub start : Start
  pub begins : BeginsNext kind tells (held name) start
  pub text : IsPortionText start.portion start.at start.lines bytes

-- the lines of all members from there to the end
pub record AreResumedLines (words : List (List ℕ)) (tells : Bool) (held : List ℕ → Option (List ℕ)) (bytes : List ℕ) : Type 0 where
  pub kind : ResumeKind
  pub name : List ℕ
  pub asked : AskToResume words kind name
  pub start : Start
  pub begins : BeginsNext kind tells (held name) start
  pub last : ℕ
  pub lines : AreLinesBetween start.portion start.at End start.lines last bytes
  pub within : last ≤ most_lines

-- the text of the command on the file that the words name
pub record IsFileOutput (words : List (List ℕ)) (tells : Bool) (held : List ℕ → Option (List ℕ)) (bytes : List ℕ) : Type 0 where
  pub command : FileCommand
  pub name : List ℕ
  pub asked : IsOnFile words command name
  pub text : IsTextOfHeld command tells (held name) bytes

-- the text of the exercise that the words ask for
pub record IsExerciseOutput (words : List (List ℕ)) (bytes : List ℕ) : Type 0 where
  pub start : ℕ
  pub count : ℕ
  pub asked : AskToExercise words start count
  pub text : IsExerciseText start count bytes

-- what words have written after Done: what they ask for, and nothing where they are not taken
abbrev pub IsOutput : List (List ℕ) → Bool → (List ℕ → Option (List ℕ)) → List ℕ → Type 0
IsOutput words tells held bytes =
    IsBegunText words bytes
    ⊎ (AreResumedLines words tells held bytes ⊎ (IsFileOutput words tells held bytes
    ⊎ (IsMergeOutput words tells held bytes ⊎ (IsExerciseOutput words bytes ⊎ ((¬ AreTaken words) × (bytes ≡ []))))))

-- the text of which words write a prefix, where what a name holds is known since the store tells it
abbrev pub IsKnownOutput : List (List ℕ) → Bool → (List ℕ → Option (List ℕ)) → List ℕ → Type 0
IsKnownOutput words tells held bytes =
    IsBegunText words bytes
    ⊎ (((tells ≡ true) × IsResumedText words tells held bytes)
    ⊎ (((tells ≡ true) × IsFileOutput words tells held bytes)
    ⊎ (((tells ≡ true) × IsMergeOutput words tells held bytes) ⊎ (IsExerciseOutput words bytes ⊎ ((¬ AreTaken words) × (bytes ≡ []))))))

-- known bytes grew by the whole output of the words
pub record AppendsOutput (words : List (List ℕ)) (tells : Bool) (held : List ℕ → Option (List ℕ)) (old new : Option (List ℕ)) : Type 0 where
  pub bytes : List ℕ
  pub output : IsOutput words tells held bytes
  pub appended : Appends old new bytes
