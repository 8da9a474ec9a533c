-- Why a command on a file, or an exercise, ended without its output, and what the words of any command came to.
use Rattle.std.specs.Prelude.{◌≡◌, ◌⊎◌, ℕ, List, Option, Bool, true}
use Rattle.std.specs.Io.KnownBytes.{Appends}
use Rattle.dd_ports.specs.Causes.{Rose}
use Rattle.dd_ports.specs.Grows.{GrowsByPrefix}
use Rattle.dd_suite_commands.specs.declared.commands.FileCommand.{FileCommand}
use Rattle.dd_suite_exercise.specs.Exercise.{IsExerciseText}
use Rattle.dd_suite_tasks.specs.declared.ending.Ending.{Ending}
use Rattle.dd_suite_tasks.specs.declared.ending.Ending.TheVariants.{Done, Usage, Refused, RefusedSymbol}
use Rattle.dd_suite_tasks.specs.declared.ending.Ending.TheVariants.{StoreFault, SinkFault, Memory}
use Rattle.dd_suite_tasks.specs.Outcomes.{IsRunOutcome}
use Rattle.dd_suite_tasks.specs.Outside.{Before, After, WritesNothing, KeepsNames}
use Rattle.dd_suite_tasks.specs.Words.{Order, AreTaken, AskForRun, IsOnFile, AskToExercise}
use Rattle.dd_suite_tasks.specs.Held.{HoldsFaulty, HoldsRefused, IsTextOfHeld, AppendsFileText, AppendsPart}
use Rattle.dd_suite_tasks.specs.Merges.{AskToMerge}
use Rattle.dd_suite_tasks.specs.MergeEndings.{EndsMerge}

-- a fetch failed and was counted, or the name holds what no file may be, or memory is wanting
abbrev pub IsFetchStop : Ending → Bool → Option (List ℕ) → ℕ → ℕ → Type 0
IsFetchStop (Refused fault) tells held before now = HoldsFaulty tells held fault
IsFetchStop StoreFault tells held before now = Rose before now
IsFetchStop Memory tells held before now = Unit {0}
IsFetchStop ending tells held before now = ⊥

-- all was written, or a write failed and was counted, or memory is wanting
abbrev pub IsWriteEnding : Ending → ℕ → ℕ → Type 0
IsWriteEnding Done before now = Unit {0}
IsWriteEnding SinkFault before now = Rose before now
IsWriteEnding Memory before now = Unit {0}
IsWriteEnding ending before now = ⊥

-- nothing was written, or a prefix of the text of the file that the name holds
abbrev pub WritesPart : FileCommand → List ℕ → Before → After → Type 0
WritesPart command name before after =
    WritesNothing before after ⊎ AppendsPart command before.tells (before.held name) before.written after.written

-- Each ending of a command on a file has its cause, and only Done may have written more than a part.
abbrev pub HasFileCause : FileCommand → List ℕ → Ending → Before → After → Type 0
HasFileCause command name Done before after = Unit {0}
HasFileCause command name (Refused fault) before after = HoldsFaulty before.tells (before.held name) fault × WritesNothing before after
HasFileCause command name (RefusedSymbol refusal) before after =
    HoldsRefused command before.tells (before.held name) refusal × WritesNothing before after
HasFileCause command name StoreFault before after = Rose before.store_faults after.store_faults × WritesNothing before after
HasFileCause command name SinkFault before after = Rose before.sink_faults after.sink_faults × WritesPart command name before after
HasFileCause command name Memory before after = WritesPart command name before after
HasFileCause command name ending before after = ⊥

-- a prefix of the text of the file that the name holds was written, and after Done the whole; the store is as it was
pub record EndsOnFile (command : FileCommand) (name : List ℕ) (ending : Ending) (before : Before) (after : After) : Type 0 where
  pub cause : HasFileCause command name ending before after
  pub prefix : before.tells ≡ true → (text : List ℕ) → IsTextOfHeld command before.tells (before.held name) text
      → GrowsByPrefix before.written after.written text
  pub whole : ending ≡ Done → AppendsFileText command before.tells (before.held name) before.written after.written
  pub same : KeepsNames before after

-- known bytes grew by the text of an exercise
pub record AppendsExercise (start count : ℕ) (old new : Option (List ℕ)) : Type 0 where
  pub text : List ℕ
  pub is_text : IsExerciseText start count text
  pub appended : Appends old new text

-- a prefix of the text of an exercise was written, and after Done the whole; the store is as it was
pub record EndsExercise (start count : ℕ) (ending : Ending) (before : Before) (after : After) : Type 0 where
  pub cause : IsWriteEnding ending before.sink_faults after.sink_faults
  pub prefix : (text : List ℕ) → IsExerciseText start count text → GrowsByPrefix before.written after.written text
  pub whole : ending ≡ Done → AppendsExercise start count before.written after.written
  pub same : KeepsNames before after

-- nothing happened
pub record LeavesAll (before : Before) (after : After) : Type 0 where
  pub nothing : WritesNothing before after
  pub same : KeepsNames before after

-- What words came to: they are not taken, or there was no memory to read them, or their command was done.
pub data IsOutcome (words : List (List ℕ)) (ending : Ending) (before : Before) (after : After) : Type 0 where
  untaken : ending ≡ Usage → (¬ AreTaken words) → LeavesAll before after → IsOutcome words ending before after
  unread : ending ≡ Memory → LeavesAll before after → IsOutcome words ending before after
  on_file : (command : FileCommand) (name : List ℕ) → IsOnFile words command name → EndsOnFile command name ending before after → IsOutcome words ending before after
  of_merge : (names : List (List ℕ)) → AskToMerge words names → EndsMerge names ending before after → IsOutcome words ending before after
  of_exercise : (start count : ℕ) → AskToExercise words start count → EndsExercise start count ending before after → IsOutcome words ending before after
  of_run : (order : Order) → AskForRun words order → IsRunOutcome order ending before after → IsOutcome words ending before after
