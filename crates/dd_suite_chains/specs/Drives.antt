-- A chain of runs, how far it goes, and what it has written.
use Rattle.std.specs.Prelude.{◌≡◌, ◌≢◌, ◌⊎◌, ℕ, List, [], ◌∷◌, None, IsSome, map, length}
use Rattle.dd_ports.specs.declared.memory_sink.MemorySink.{MemorySink}
use Rattle.dd_check.specs.Chains.{IsJoined}
use Rattle.dd_suite.specs.Chains.{ProgramCall, call_of}
use Rattle.dd_suite_tasks.specs.declared.status.Status.{Status}
use Rattle.dd_suite_tasks.specs.declared.status.Status.TheVariants.{Done}
use Rattle.dd_suite_chains.specs.declared.driven.Drive.{Drive}
use Rattle.dd_suite_chains.specs.Runs.{Kept, AreRuns}

-- the last of the calls ended so
abbrev pub EndAs : List ProgramCall → Status → Type 0
EndAs [] status = ⊥
EndAs (p ∷ []) status = p.status ≡ status
EndAs (p ∷ next ∷ calls) status = EndAs (next ∷ calls) status

-- the call did not come to its end, and afterwards the name holds something
pub record GoesOn (name : List ℕ) (p : ProgramCall) : Type 0 where
  pub not_done : p.status ≢ Done
  pub left : IsSome (p.after.held name)

-- each call but the last did so
abbrev pub GoOn : List ℕ → List ProgramCall → Type 0
GoOn name [] = Unit {0}
GoOn name (p ∷ []) = Unit {0}
GoOn name (p ∷ next ∷ calls) = GoesOn name p × GoOn name (next ∷ calls)

-- The answer tells how the last call ended, how many there were, and what they wrote together as a chain. After each call but the
-- last there was cause to go on, and after the last there is none.
pub record Drives (words : List (List ℕ)) (name : List ℕ) (from to : Kept) (olds news : List MemorySink) (d : Drive) : Type 0 where
  pub calls : List ProgramCall
  pub runs : AreRuns words name from to olds news calls
  pub count : d.runs ≡ length calls
  pub last : EndAs calls d.status
  pub went_on : GoOn name calls
  pub stop : (d.status ≡ Done) ⊎ ((d.runs ≡ length olds) ⊎ (to.held name ≡ None))
  pub joined : IsJoined (map call_of calls) d.joined.items
