-- What one run of a chain does, and what it gives to the whole.
use Rattle.std.specs.Prelude.{◌≡◌, ◌⊎◌, ℕ, ◌+◌, List, [], Option, None, Some, MatchOption, set, take}
use Rattle.std.specs.List.{HoldsAt}
use Rattle.dd_ports.specs.declared.memory_sink.MemorySink.{MemorySink}
use Rattle.dd_check.specs.declared.checkpoint.Checkpoint.{Checkpoint}
use Rattle.dd_check.specs.ChainStarts.{Holds}
use Rattle.dd_suite.specs.Chains.{ProgramCall}
use Rattle.dd_suite_tasks.specs.declared.status.Status.{Status}
use Rattle.dd_suite_chains.specs.Runs.{Kept, IsRun}

-- a call of the program into the sink of this number, counted from 0
pub record RunsInto (words : List (List ℕ)) (from to : Kept) (olds news : List MemorySink) (k : ℕ) (status : Status) : Type 0 where
  pub call : ProgramCall
  pub old : MemorySink
  pub new : MemorySink
  pub old_is : HoldsAt (λ s. s ≡ old) olds k
  pub news_are : news ≡ set olds k new
  pub is_run : IsRun words from to old new call
  pub status_is : call.status ≡ status

-- So many bytes of the output as the checkpoint tells that is held, if it is that of the run with this number; else none. A run
-- without a number cannot begin.
abbrev pub IsPartOf : Option ℕ → Option (List ℕ) → List ℕ → List ℕ → Type 0
IsPartOf number held output part =
    ((c : Checkpoint) × Holds None held c × (number ≡ Some c.run) × (part ≡ take c.bytes output))
    ⊎ (((c : Checkpoint) → Holds None held c → number ≡ Some c.run → ⊥) × (part ≡ []))

-- the number of the run that goes on from what is held, and none where that is no checkpoint text
abbrev pub IsNextNumber : Option (List ℕ) → Option ℕ → Type 0
IsNextNumber held next = MatchOption next ((c : Checkpoint) → Holds None held c → ⊥) (λ n. (c : Checkpoint) × Holds None held c × (n ≡ c.run + 1))
