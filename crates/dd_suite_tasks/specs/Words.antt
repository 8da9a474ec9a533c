-- Which words the program takes, and what they ask for.
use Rattle.std.specs.Prelude.{◌≡◌, ℕ, List, Option, None, Some}
use Rattle.dd_model.specs.declared.requests.Request.{Request}
use Rattle.dd_words.specs.Grammar.{IsCommand}
use Rattle.dd_words.specs.declared.commands.Command.{Command}
use Rattle.dd_words.specs.declared.commands.Command.TheVariants as command
use Rattle.dd_words.specs.declared.commands.FileKind.TheVariants as kind
use Rattle.dd_front_jobs.specs.declared.pace.Pace.{Pace}
use Rattle.dd_front_jobs.specs.declared.shards.Shard.{Shard}
use Rattle.dd_front_jobs.specs.declared.portions.Portion.{Portion}
use Rattle.dd_check.specs.declared.checkpoint.ResumeKind.{ResumeKind}
use Rattle.dd_check.specs.declared.checkpoint.ResumeKind.TheVariants.{Catalogues, Shards}
use Rattle.dd_check.specs.Calls.{Task, Begin, Resume}
use Rattle.dd_suite_commands.specs.declared.commands.FileCommand.{FileCommand}
use Rattle.dd_suite_commands.specs.declared.commands.FileCommand.TheVariants.{Symbols, Info, Sheets, Draw}
use Rattle.dd_suite_commands.specs.declared.commands.SymbolCommand.{SymbolCommand}
use Rattle.dd_suite_commands.specs.declared.commands.SymbolCommand.TheVariants.{Lines, Canon, Minimal, Dual, Oriented, Torus, Derived, Applied}

-- A run of a chain as words ask for it: its task, how many jobs go into a round, and after how many lines it is to pause, if it is.
pub record Order : Type 0 where
  pub task : Task
  pub round : ℕ
  pub pause : Option ℕ

-- the command that begins a catalogue, or the shard if there is one
abbrev pub begin_command : Option Shard → Request → Option (List ℕ) → Pace → Option ℕ → Command
begin_command None q name pace pause = command.Catalogue q pace pause name
begin_command (Some shard) q name pace pause = command.Shard shard q pace pause name

-- the command that goes on from a text of this kind
abbrev pub resume_command : ResumeKind → List ℕ → Pace → Option ℕ → Command
resume_command Catalogues name pace pause = command.Resume name pace pause
resume_command Shards name pace pause = command.ResumeShard name pace pause

-- the command with this task
abbrev pub run_command : Task → Pace → Option ℕ → Command
run_command (Begin p name) pace pause = begin_command p.shard p.request name pace pause
run_command (Resume kind name) pace pause = resume_command kind name pace pause

-- the words of a run, with any number of workers
pub record AskForRun (words : List (List ℕ)) (order : Order) : Type 0 where
  pub pace : Pace
  pub round_is : pace.round ≡ order.round
  pub command : IsCommand words (run_command order.task pace order.pause)

-- the words of a catalogue or of a shard, with a name for its checkpoint or without one
pub record AskFor (words : List (List ℕ)) (p : Portion) : Type 0 where
  pub name : Option (List ℕ)
  pub round : ℕ
  pub pause : Option ℕ
  pub run : AskForRun words (record { task = Begin p name; round = round; pause = pause })

-- the words that go on from the checkpoint of a name
pub record AskToResume (words : List (List ℕ)) (kind : ResumeKind) (name : List ℕ) : Type 0 where
  pub round : ℕ
  pub pause : Option ℕ
  pub run : AskForRun words (record { task = Resume kind name; round = round; pause = pause })

-- the command that makes something of each symbol of the file of a name
abbrev pub symbol_command : SymbolCommand → List ℕ → Command
symbol_command Lines name = command.File kind.Lines name
symbol_command Canon name = command.File kind.Canon name
symbol_command Minimal name = command.File kind.Minimal name
symbol_command Dual name = command.File kind.Dual name
symbol_command Oriented name = command.File kind.Oriented name
symbol_command Torus name = command.File kind.Torus name
symbol_command (Derived operation) name = command.File (kind.Derived operation) name
symbol_command (Applied word) name = command.Apply word name

-- the commands on the file of a name
abbrev pub file_command : FileCommand → List ℕ → Command
file_command Info name = command.File kind.Info name
file_command Sheets name = command.File kind.Sheets name
file_command (Symbols made) name = symbol_command made name
file_command (Draw shape) name = command.Draw name shape

-- the words of a command on the file of a name
abbrev pub IsOnFile : List (List ℕ) → FileCommand → List ℕ → Type 0
IsOnFile words asked name = IsCommand words (file_command asked name)

-- the words name a file
abbrev pub NameFile : List (List ℕ) → Type 0
NameFile words = (command : FileCommand) × (name : List ℕ) × IsOnFile words command name

-- the words of an exercise
abbrev pub AskToExercise : List (List ℕ) → ℕ → ℕ → Type 0
AskToExercise words start count = IsCommand words (command.Exercise start count)

-- the words are taken: they are those of a command
abbrev pub AreTaken : List (List ℕ) → Type 0
AreTaken words = (c : Command) × IsCommand words c
