-- Calls of the program as the calls of a chain.
use Rattle.std.specs.Prelude.{◌≡◌, ℕ, List, Option, None, Some, true, IsSome}
use Rattle.std.specs.Io.KnownBytes.{Appends}
use Rattle.dd_check.specs.Calls.{Call, Ending, Done, Paused, Stopped}
use Rattle.dd_suite_tasks.specs.declared.status.Status.{Status}
use Rattle.dd_suite_tasks.specs.declared.status.Status.TheVariants as status
use Rattle.dd_suite_tasks.specs.Outside.{Before, After}
use Rattle.dd_suite_tasks.specs.Runs.{name_of, IsCallOf}
use Rattle.dd_suite_tasks.specs.Words.{Order, AskForRun}

-- A call of the program: its words, the run that they ask for, the store and the sink before and after it, its status, and what
-- it wrote.
pub record ProgramCall : Type 0 where
  pub words : List (List ℕ)
  pub order : Order
  pub before : Before
  pub after : After
  pub status : Status
  pub output : List ℕ

-- Store and sink tell what they hold, and the call did what is promised of every call with these words.
pub record IsProgramCall (p : ProgramCall) : Type 0 where
  pub asked : AskForRun p.words p.order
  pub tells : p.before.tells ≡ true
  pub known : IsSome p.before.written
  pub wrote : Appends p.before.written p.after.written p.output
  pub call : IsCallOf p.order p.status p.before p.after

-- how it ended, as far as a chain asks
abbrev pub chain_ending : Status → Ending
chain_ending status.Done = Done
chain_ending status.Paused = Paused
chain_ending other = Stopped

-- what a name holds, if there is one
abbrev pub held_under : Option (List ℕ) → (List ℕ → Option (List ℕ)) → Option (List ℕ)
held_under None held = None
held_under (Some name) held = held name

-- the call as one of a chain
abbrev pub call_of : ProgramCall → Call
call_of p = record {
  task = p.order.task;
  pause = p.order.pause;
  before = held_under (name_of p.order.task) p.before.held;
  after = held_under (name_of p.order.task) p.after.held;
  output = p.output;
  ending = chain_ending p.status;
}
