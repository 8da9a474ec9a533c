-- One run of a chain, from the clauses of the top call.
use Rattle.std.proofs.Common.{◌≡◌, ℕ, ◌++◌, List, [], drop, length, Some, inl, inr, ap, ◌∙◌, subst}
use Rattle.std.proofs.Math.Seq.{drop-append_seam}
use Rattle.std.specs.Io.KnownBytes.{Appends}
use Rattle.dd_ports.specs.Sinks.{memory_sink_held}
use Rattle.dd_ports.specs.declared.memory_sink.MemorySink.{MemorySink}
use Rattle.dd_suite.specs.Chains.{ProgramCall}
use Rattle.dd_suite_tasks.specs.Outside.{Before, After}
use Rattle.dd_suite_tasks.specs.Runs.{name_of, IsCallOf}
use Rattle.dd_suite_tasks.specs.Words.{Order}
use Rattle.dd_suite_tasks.specs.declared.status.Status.{Status}
use Rattle.dd_suite.proofs.RunOutputs.{output_of}
use Rattle.dd_suite_chains.specs.Runs.{Kept, IsRun}

-- what a call has written
pub written_of : (order : Order) (status : Status) (before : Before) (after : After) → IsCallOf order status before after → (output : List ℕ) × Appends before.written after.written output
written_of order status before after (inl ran) =
    let own = output_of (name_of order.task) ran.start order.round order.pause before after ran.result ran.runs in (own.0, own.1.appended)
written_of order status before after (inr stops) = ([], stops.nothing)

-- the sink holds what it held, and the output of the run
pub grown_by : (words : List (List ℕ)) (from to : Kept) (old new : MemorySink) (p : ProgramCall) → IsRun words from to old new p
    → memory_sink_held new ≡ memory_sink_held old ++ p.output
grown_by words from to old new p is =
    subst (λ b. Appends b.written (Some (memory_sink_held new)) p.output) is.before (subst (λ a. Appends p.before.written a.written p.output) is.after is.is_call.wrote)

pub output_is : (words : List (List ℕ)) (from to : Kept) (old new : MemorySink) (p : ProgramCall) → IsRun words from to old new p
    → drop (length (memory_sink_held old)) (memory_sink_held new) ≡ p.output
output_is words from to old new p is =
    ap (λ z. drop (length (memory_sink_held old)) z) (grown_by words from to old new p is) ∙ drop-append_seam (memory_sink_held old) p.output
