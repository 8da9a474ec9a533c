-- What the names hold that stand among the arguments of words.
use Rattle.std.specs.Prelude.{◌≡◌, ◌⊎◌, ℕ, List, Option, Some, Bool, true, IsSome}
use Rattle.dd_model.specs.Symbol.{Symbol}
use Rattle.dd_model.specs.Reading.{Reads}
use Rattle.dd_check.specs.declared.faults.ShardFault.{ShardFault}
use Rattle.dd_check.specs.declared.checkpoint.ResumeKind.{ResumeKind}
use Rattle.dd_check.specs.ChainStarts.{HoldsKind}
use Rattle.dd_text.specs.declared.faults.FileFault.{FileFault}
use Rattle.dd_suite_commands.specs.declared.commands.FileCommand.{FileCommand}
use Rattle.dd_suite_commands.specs.declared.refusals.SymbolRefusal.{SymbolRefusal}
use Rattle.dd_suite_commands.specs.declared.merge_refusal.MergeRefusal.{MergeRefusal}
use Rattle.dd_suite_commands.specs.Files.{IsRefusalOf}
use Rattle.dd_suite_tasks.specs.Beginnings.{NameNoCheck}
use Rattle.dd_suite_tasks.specs.Held.{HoldsFaulty, HoldsRefused}
use Rattle.dd_suite_tasks.specs.MergeEndings.{NameUnmerged, AreMergedHeld}
use Rattle.dd_suite_tasks.specs.Runs.{name_of}
use Rattle.dd_suite_tasks.specs.Words.{Order, AskForRun, AskToResume, IsOnFile}

-- the words name a file with this fault
pub record NameFaulty (words : List (List ℕ)) (tells : Bool) (held : List ℕ → Option (List ℕ)) (fault : FileFault) : Type 0 where
  pub command : FileCommand
  pub name : List ℕ
  pub asked : IsOnFile words command name
  pub holds : HoldsFaulty tells (held name) fault

-- the words name a file with this symbol, the first of which their command makes nothing
pub record NameRefused (words : List (List ℕ)) (tells : Bool) (held : List ℕ → Option (List ℕ)) (r : SymbolRefusal) : Type 0 where
  pub command : FileCommand
  pub name : List ℕ
  pub asked : IsOnFile words command name
  pub holds : HoldsRefused command tells (held name) r

-- the words name a file with a fault, or with a symbol of which their command makes nothing, or a text that is no checkpoint text,
-- or files that are not merged
abbrev pub AreRefused : List (List ℕ) → Bool → (List ℕ → Option (List ℕ)) → Type 0
AreRefused words tells held =
    ((fault : FileFault) × NameFaulty words tells held fault)
    ⊎ (((r : SymbolRefusal) × NameRefused words tells held r) ⊎ (((fault : ShardFault) × NameNoCheck words tells held fault)
    ⊎ ((r : MergeRefusal) × NameUnmerged words tells held r)))

-- the store holds the file that the words name, if they name one, the name that they go on from, and the files that they merge
pub record AreHeld (words : List (List ℕ)) (tells : Bool) (held : List ℕ → Option (List ℕ)) : Type 0 where
  pub file : (command : FileCommand) (name : List ℕ) → IsOnFile words command name → IsSome (held name)
  pub check : (kind : ResumeKind) (name : List ℕ) → AskToResume words kind name → IsSome (held name)
  pub merged : AreMergedHeld words tells held

-- the symbols of a file that a name holds, of each of which a command makes something
pub record SpellsSymbols (command : FileCommand) (held : Option (List ℕ)) : Type 0 where
  pub bytes : List ℕ
  pub holds : held ≡ Some bytes
  pub symbols : List Symbol
  pub reads : Reads bytes symbols
  pub accepted : (r : SymbolRefusal) → IsRefusalOf command symbols r → ⊥

-- the file that the words name, if they name one, spells some list of symbols, and their command refuses none of them
abbrev pub IsFileAccepted : List (List ℕ) → Bool → (List ℕ → Option (List ℕ)) → Type 0
IsFileAccepted words tells held = (command : FileCommand) (name : List ℕ) → IsOnFile words command name → (tells ≡ true) × SpellsSymbols command (held name)

-- the name that the words go on from, if they do, holds a checkpoint text of their kind
abbrev pub IsCheckAccepted : List (List ℕ) → Bool → (List ℕ → Option (List ℕ)) → Type 0
IsCheckAccepted words tells held = (kind : ResumeKind) (name : List ℕ) → AskToResume words kind name → (tells ≡ true) × HoldsKind kind (held name)

-- the words keep a checkpoint under the name
pub record KeepUnder (words : List (List ℕ)) (name : List ℕ) : Type 0 where
  pub order : Order
  pub asked : AskForRun words order
  pub name_is : name_of order.task ≡ Some name

-- every name holds what it held, but that under which the words keep a checkpoint
abbrev pub SameButKept : List (List ℕ) → (List ℕ → Option (List ℕ)) → (List ℕ → Option (List ℕ)) → Type 0
SameButKept words old new = (other : List ℕ) → (¬ KeepUnder words other) → new other ≡ old other
