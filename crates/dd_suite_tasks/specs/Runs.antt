-- What a call of the program does that words of a run ask for.
use Rattle.std.specs.Prelude.{◌≡◌, ◌⊎◌, ℕ, List, Option, None, Some, Result, Ok, Err, true}
use Rattle.dd_ports.specs.Texts.{SameOthers}
use Rattle.dd_check.specs.Calls.{Task, Begin, Resume}
use Rattle.dd_check.specs.ChainStarts.{Start}
use Rattle.dd_pages_and_checkpoints.specs.declared.fault.RunFault.{RunFault}
use Rattle.dd_pages_and_checkpoints.specs.declared.fault.RunFault.TheVariants as fault
use Rattle.dd_pages_and_checkpoints.specs.declared.finish.Finish.{Finish}
use Rattle.dd_pages_and_checkpoints.specs.declared.finish.Finish.TheVariants as finish
use Rattle.dd_pages_and_checkpoints.specs.Outputs.{IsOutput}
use Rattle.dd_pages_and_checkpoints.specs.Names.{HasRun}
use Rattle.dd_suite_tasks.specs.declared.status.Status.{Status}
use Rattle.dd_suite_tasks.specs.declared.status.Status.TheVariants.{Done, Refused, Paused, StoreFault, SinkFault, Memory, TooManyLines}
use Rattle.dd_suite_tasks.specs.Beginnings.{BeginsAt}
use Rattle.dd_suite_tasks.specs.Outside.{Before, After, WritesNothing, KeepsNames}
use Rattle.dd_suite_tasks.specs.Words.{Order}

-- the name under which a run keeps its checkpoint
abbrev pub name_of : Task → Option (List ℕ)
name_of (Begin p name) = name
name_of (Resume kind name) = Some name

-- the status that tells of the end of a run
abbrev pub run_status : Result Finish RunFault → Status
run_status (Ok finish.Whole) = Done
run_status (Ok finish.Paused) = Paused
run_status (Ok finish.CutShort) = TooManyLines
run_status (Err fault.Store) = StoreFault
run_status (Err fault.Sink) = SinkFault
run_status (Err fault.Memory) = Memory

-- what a run without a name wrote; it leaves the store as it was, and no call of the store fails
pub record HasRunAlone (s : Start) (pause : Option ℕ) (before : Before) (after : After) (result : Result Finish RunFault) : Type 0 where
  pub output : List ℕ
  pub is_output : IsOutput s pause before.written after.written result output
  pub same : KeepsNames before after
  pub no_store : result ≡ Err fault.Store → ⊥

-- what a run wrote, and what it left under its name; other names stay
pub record HasRunUnder (name : List ℕ) (s : Start) (round : ℕ) (pause : Option ℕ) (before : Before) (after : After) (result : Result Finish RunFault) : Type 0 where
  pub run : HasRun s round pause before.written after.written before.tells (before.held name) (after.held name) result
  pub others : before.tells ≡ true → SameOthers name before.held after.held

abbrev pub Runs : Option (List ℕ) → Start → ℕ → Option ℕ → Before → After → Result Finish RunFault → Type 0
Runs None s round pause before after result = HasRunAlone s pause before after result
Runs (Some name) s round pause before after result = HasRunUnder name s round pause before after result

-- the run began where it had to, and its end is told by the status
pub record HasRunAs (order : Order) (status : Status) (before : Before) (after : After) : Type 0 where
  pub start : Start
  pub begins : BeginsAt order.task before.tells before.held start
  pub result : Result Finish RunFault
  pub status_is : status ≡ run_status result
  pub runs : Runs (name_of order.task) start order.round order.pause before after result

-- the statuses of a call that never began to run
abbrev pub IsStopped : Status → Type 0
IsStopped Refused = Unit {0}
IsStopped StoreFault = Unit {0}
IsStopped Memory = Unit {0}
IsStopped status = ⊥

-- it wrote nothing, and left every name as it was
pub record HasNotRun (status : Status) (before : Before) (after : After) : Type 0 where
  pub stopped : IsStopped status
  pub nothing : WritesNothing before after
  pub same : KeepsNames before after

-- a call of the program with words of a run
abbrev pub IsCallOf : Order → Status → Before → After → Type 0
IsCallOf order status before after = HasRunAs order status before after ⊎ HasNotRun status before after
