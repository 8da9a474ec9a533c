-- Why a run ended, and why a call with its words never began to run.
use Rattle.std.specs.Prelude.{◌≡◌, ◌⊎◌, ℕ, List, Option, Result, Bool}
use Rattle.dd_ports.specs.Causes.{Rose}
use Rattle.dd_check.specs.declared.checkpoint.ResumeKind.{ResumeKind}
use Rattle.dd_check.specs.ShardFaults.{HasKindFault}
use Rattle.dd_check.specs.Calls.{Task}
use Rattle.dd_check.specs.ChainStarts.{Start}
use Rattle.dd_pages_and_checkpoints.specs.Runs.{IsPause}
use Rattle.dd_pages_and_checkpoints.specs.declared.fault.RunFault.{RunFault}
use Rattle.dd_pages_and_checkpoints.specs.declared.finish.Finish.{Finish}
use Rattle.dd_suite_tasks.specs.declared.ending.Ending.{Ending}
use Rattle.dd_suite_tasks.specs.declared.ending.Ending.TheVariants.{Done, RefusedCheck, Paused, StoreFault, SinkFault, Memory, TooManyLines}
use Rattle.dd_suite_tasks.specs.Beginnings.{HoldsNoCheck, IsCheckRefused}
use Rattle.dd_suite_tasks.specs.Endings.{status_of}
use Rattle.dd_suite_tasks.specs.Outside.{Before, After}
use Rattle.dd_suite_tasks.specs.Runs.{HasRunAs, HasNotRun, HasRunUnder, run_status}
use Rattle.dd_suite_tasks.specs.Words.{Order}

-- A run tells the number of its last line before a pause, and ends with a fault only where one was counted.
abbrev pub IsRunEnding : Ending → Start → Option ℕ → Before → After → Type 0
IsRunEnding Done start pause before after = Unit {0}
IsRunEnding (Paused lines) start pause before after = IsPause start.lines pause lines
IsRunEnding TooManyLines start pause before after = Unit {0}
IsRunEnding StoreFault start pause before after = Rose before.store_faults after.store_faults
IsRunEnding SinkFault start pause before after = Rose before.sink_faults after.sink_faults
IsRunEnding Memory start pause before after = Unit {0}
IsRunEnding ending start pause before after = ⊥

-- a call never began to run: its name holds no checkpoint text, or a fetch failed and was counted, or memory is wanting
abbrev pub IsStopEnding : Ending → Task → Before → After → Type 0
IsStopEnding (RefusedCheck fault) task before after = IsCheckRefused task before.tells before.held fault
IsStopEnding StoreFault task before after = Rose before.store_faults after.store_faults
IsStopEnding Memory task before after = Unit {0}
IsStopEnding ending task before after = ⊥

-- the bytes have this fault, as a text of the kind, or memory is wanting
abbrev pub IsReadStop : ResumeKind → List ℕ → Ending → Type 0
IsReadStop kind bytes (RefusedCheck fault) = HasKindFault kind bytes fault
IsReadStop kind bytes Memory = Unit {0}
IsReadStop kind bytes ending = ⊥

-- a name holds bytes with this fault, as a text of the kind, or a fetch failed and was counted, or memory is wanting
abbrev pub IsHeldStop : ResumeKind → Ending → Bool → Option (List ℕ) → ℕ → ℕ → Type 0
IsHeldStop kind (RefusedCheck fault) tells held before now = HoldsNoCheck kind tells held fault
IsHeldStop kind StoreFault tells held before now = Rose before now
IsHeldStop kind Memory tells held before now = Unit {0}
IsHeldStop kind ending tells held before now = ⊥

pub record EndsRun (order : Order) (ending : Ending) (before : Before) (after : After) : Type 0 where
  pub ran : HasRunAs order (status_of ending) before after
  pub cause : IsRunEnding ending ran.start order.pause before after

pub record StopsRun (order : Order) (ending : Ending) (before : Before) (after : After) : Type 0 where
  pub not_run : HasNotRun (status_of ending) before after
  pub cause : IsStopEnding ending order.task before after

abbrev pub IsRunOutcome : Order → Ending → Before → After → Type 0
IsRunOutcome order ending before after = EndsRun order ending before after ⊎ StopsRun order ending before after

-- a run from this start under the name
pub record EndsRunFrom (s : Start) (name : List ℕ) (round : ℕ) (pause : Option ℕ) (ending : Ending) (before : Before) (after : After) : Type 0 where
  pub result : Result Finish RunFault
  pub status_is : status_of ending ≡ run_status result
  pub run : HasRunUnder name s round pause before after result
  pub cause : IsRunEnding ending s pause before after
