-- The task of words.
use Rattle.std.specs.Prelude.{◌≡◌, ℕ, List, Option, None, Some}
use Rattle.dd_words.specs.declared.commands.Command.{Command}
use Rattle.dd_words.specs.declared.commands.Command.TheVariants as command
use Rattle.dd_suite_tasks.specs.declared.task.Task.{Task}
use Rattle.dd_suite_tasks.specs.declared.task.Task.TheVariants.{Alone, Kept, Resume, OnFile, Merge, Exercise}
use Rattle.dd_words.specs.Grammar.{IsCommand}
use Rattle.dd_front_jobs.specs.declared.portions.Portion.{Portion}
use Rattle.dd_front_jobs.specs.declared.pace.Pace.{Pace}
use Rattle.dd_suite_tasks.specs.Words.{begin_command, resume_command, file_command}

-- the command begins the portion
abbrev pub IsBegunBy : Portion → Option (List ℕ) → Pace → Option ℕ → Command → Type 0
IsBegunBy p name pace pause c = c ≡ begin_command p.shard p.request name pace pause

-- the command is that of a task
abbrev pub IsTaskOf : Command → Task → Type 0
IsTaskOf c (Alone p pace) = (pause : Option ℕ) × IsBegunBy p None pace pause c
IsTaskOf c (Kept p name pace pause) = IsBegunBy p (Some name) pace pause c
IsTaskOf c (Resume kind name pace pause) = c ≡ resume_command kind name pace pause
IsTaskOf c (OnFile asked name) = c ≡ file_command asked name
IsTaskOf c (Merge names) = c ≡ command.Merge names
IsTaskOf c (Exercise start count) = c ≡ command.Exercise start count

-- the words ask for this task
pub record AskForTask (words : List (List ℕ)) (task : Task) : Type 0 where
  pub command : Command
  pub asked : IsCommand words command
  pub task_is : IsTaskOf command task
