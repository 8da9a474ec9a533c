-- One run of a chain, and what comes after it.
use Rattle.std.specs.Prelude.{◌≡◌, ◌≢◌, ◌⊎◌, ℕ, ◌+◌, ◌<◌, List, ◌++◌, Option, Some, None, length}
use Rattle.dd_ports.specs.declared.memory_sink.MemorySink.{MemorySink}
use Rattle.dd_suite_tasks.specs.declared.status.Status.{Status}
use Rattle.dd_suite_tasks.specs.declared.status.Status.TheVariants.{Done}
use Rattle.dd_suite_chains.specs.declared.after_run.AfterRun.{AfterRun}
use Rattle.dd_suite_chains.specs.declared.after_run.AfterRun.TheVariants.{Last, Next}
use Rattle.dd_suite_chains.specs.Runs.{Kept}
use Rattle.dd_suite_chains.specs.Making.{RunsInto, IsPartOf, IsNextNumber}

-- a run after which the chain ends, and all of its output is appended
pub record IsLastTurn (said : List (List ℕ)) (name : List ℕ) (from to : Kept) (olds news : List MemorySink) (k : ℕ) (joined whole : List ℕ) (status : Status) : Type 0 where
  pub ran : RunsInto said from to olds news k status
  pub stop : (status ≡ Done) ⊎ ((k + 1 ≡ length olds) ⊎ (to.held name ≡ None))
  pub bytes : whole ≡ joined ++ ran.call.output

-- a run that is followed by another one, and its part is appended
pub record IsNextTurn (said : List (List ℕ)) (name : List ℕ) (from to : Kept) (olds news : List MemorySink) (k : ℕ) (number : Option ℕ) (joined whole : List ℕ) (next : Option ℕ) : Type 0 where
  pub status : Status
  pub ran : RunsInto said from to olds news k status
  pub more : k + 1 < length olds
  pub not_done : status ≢ Done
  pub text : List ℕ
  pub held : to.held name ≡ Some text
  pub part : List ℕ
  pub is_part : IsPartOf number (Some text) ran.call.output part
  pub is_next : IsNextNumber (Some text) next
  pub bytes : whole ≡ joined ++ part

abbrev pub IsTurn : List (List ℕ) → List ℕ → Kept → Kept → List MemorySink → List MemorySink → ℕ → Option ℕ → List ℕ → List ℕ → Option ℕ → AfterRun → Type 0
IsTurn said name from to olds news k number joined whole next (Last status) = IsLastTurn said name from to olds news k joined whole status
IsTurn said name from to olds news k number joined whole next Next = IsNextTurn said name from to olds news k number joined whole next
