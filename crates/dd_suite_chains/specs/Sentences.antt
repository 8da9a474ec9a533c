-- What a chain has written, and why it ended.
use Rattle.std.specs.Prelude.{◌≡◌, ℕ, ◌-◌, ◌<◌, List, Option, Some, true, length}
use Rattle.std.specs.List.{HoldsAt}
use Rattle.dd_model.specs.Symbol.{Symbol}
use Rattle.dd_model.specs.Text.{IsText, beginning}
use Rattle.dd_model.specs.Wanted.{IsCatalogue}
use Rattle.dd_model.specs.declared.requests.Request.{Request}
use Rattle.dd_front_jobs.specs.Portions.{whole}
use Rattle.dd_ports.specs.Causes.{Rose}
use Rattle.dd_ports.specs.Sinks.{memory_sink_held}
use Rattle.dd_ports.specs.declared.memory_sink.MemorySink.{MemorySink}
use Rattle.dd_check.specs.declared.checkpoint.Checkpoint.{Checkpoint}
use Rattle.dd_check.specs.Checks.{IsCheckText, AreCountsInRange}
use Rattle.dd_check.specs.ChainOutcomes.{IsFront}
use Rattle.dd_pages_and_checkpoints.specs.MostLines.{most_lines}
use Rattle.dd_suite_tasks.specs.Cuts.{Pauses}
use Rattle.dd_suite_tasks.specs.Words.{AskFor}
use Rattle.dd_suite_chains.specs.Runs.{Kept}

-- the bytes are the text of the catalogue that the words ask for
abbrev pub IsItsText : List (List ℕ) → List ℕ → Type 0
IsItsText words bytes = (q : Request) → AskFor words (whole q) → IsText q beginning 0 bytes

-- each text of this catalogue begins with the bytes
abbrev pub IsItsFront : List (List ℕ) → List ℕ → Type 0
IsItsFront words bytes = (q : Request) → AskFor words (whole q) → IsFront (whole q) bytes

-- the sink of the run with this number, counted from 1, has failed
abbrev pub HasRisen : List MemorySink → List MemorySink → ℕ → Type 0
HasRisen olds news number = HoldsAt (λ old. HoldsAt (λ new. Rose old.faults new.faults) news (number - 1)) olds (number - 1)

-- the words ask for a pause, there are more lines than are to be written before it, and these went to the first sink
abbrev pub HasPaused : List (List ℕ) → Kept → List MemorySink → List MemorySink → Type 0
HasPaused words from olds news =
    HoldsAt (λ old. HoldsAt (λ new. Pauses words true from.held (Some (memory_sink_held old)) (Some (memory_sink_held new))) news 0) olds 0

-- the catalogue has more lines than may be numbered
abbrev pub HasTooMany : List (List ℕ) → Type 0
HasTooMany words = (q : Request) (members : List Symbol) → AskFor words (whole q) → IsCatalogue q members → most_lines < length members

-- the text of a checkpoint is held, and a number in it is out of the range in which it is read again
pub record HoldsOutOfRange (held : Option (List ℕ)) : Type 0 where
  pub check : Checkpoint
  pub text : List ℕ
  pub held_is : held ≡ Some text
  pub is_text : IsCheckText check text
  pub out : ¬ AreCountsInRange check
