-- Runs of the program that follow each other over one store in memory, each into a sink of its own.
use Rattle.std.specs.Prelude.{◌≡◌, ℕ, ◌≤◌, List, [], ◌∷◌, Option, Some, true}
use Rattle.dd_ports.specs.Causes.{Rose}
use Rattle.dd_ports.specs.Sinks.{memory_sink_held}
use Rattle.dd_ports.specs.Stores.{memory_store_held}
use Rattle.dd_ports.specs.declared.memory_sink.MemorySink.{MemorySink}
use Rattle.dd_ports.specs.declared.memory_store.MemoryStore.{MemoryStore}
use Rattle.dd_suite_tasks.specs.declared.status.Status.TheVariants.{Refused, Paused, StoreFault, SinkFault, TooManyLines}
use Rattle.dd_suite_tasks.specs.Arguments.{AreRefused}
use Rattle.dd_suite.specs.Chains.{ProgramCall, IsProgramCall}
use Rattle.dd_suite_tasks.specs.Cuts.{Pauses, CutsShort}
use Rattle.dd_suite_tasks.specs.Outside.{Before, After}
use Rattle.dd_suite_chains.specs.Words.{resume_words}

-- what the names of a store hold, and how often it has failed
pub record Kept : Type 0 where
  pub held : List ℕ → Option (List ℕ)
  pub faults : ℕ

abbrev pub kept_of : MemoryStore → Kept
kept_of store = record { held = memory_store_held store; faults = store.faults }

-- store and sink before a run, and after it
abbrev pub before_run : Kept → MemorySink → Before
before_run kept sink = record { tells = true; held = kept.held; store_faults = kept.faults; written = Some (memory_sink_held sink); sink_faults = sink.faults }

abbrev pub after_run : Kept → MemorySink → After
after_run kept sink = record { held = kept.held; store_faults = kept.faults; written = Some (memory_sink_held sink); sink_faults = sink.faults }

-- a call ended only so as it may
pub record HasCause (p : ProgramCall) : Type 0 where
  pub refused : p.status ≡ Refused → AreRefused p.words p.before.tells p.before.held
  pub paused : p.status ≡ Paused → Pauses p.words p.before.tells p.before.held p.before.written p.after.written
  pub cut_short : p.status ≡ TooManyLines → CutsShort p.words p.before.tells p.before.held p.before.written p.after.written
  pub store_fault : p.status ≡ StoreFault → Rose p.before.store_faults p.after.store_faults
  pub sink_fault : p.status ≡ SinkFault → Rose p.before.sink_faults p.after.sink_faults
  pub later : p.before.store_faults ≤ p.after.store_faults

-- a call of the program with these words, between two states of the store and of a sink
pub record IsRun (words : List (List ℕ)) (from to : Kept) (old new : MemorySink) (p : ProgramCall) : Type 0 where
  pub words_are : p.words ≡ words
  pub before : p.before ≡ before_run from old
  pub after : p.after ≡ after_run to new
  pub is_call : IsProgramCall p
  pub cause : HasCause p

-- The first call has these words, and each later one goes on from the name. Each finds the store as the one before left it, and
-- writes into the next sink. The other sinks stay.
abbrev pub AreRuns : List (List ℕ) → List ℕ → Kept → Kept → List MemorySink → List MemorySink → List ProgramCall → Type 0
AreRuns words name from to olds news [] = (to ≡ from) × (news ≡ olds)
AreRuns words name from to (old ∷ olds) (new ∷ news) (p ∷ calls) =
    (mid : Kept) × IsRun words from mid old new p × AreRuns (resume_words name) name mid to olds news calls
AreRuns words name from to olds news (p ∷ calls) = ⊥

-- some such calls led from one state to the other
pub record HaveRun (words : List (List ℕ)) (name : List ℕ) (from to : Kept) (olds news : List MemorySink) : Type 0 where
  pub calls : List ProgramCall
  pub runs : AreRuns words name from to olds news calls
