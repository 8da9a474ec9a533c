-- Endings and their statuses.
use Rattle.std.proofs.Common.{◌≡◌, ℕ, List, Option, Result, Ok, Err, IfOk, refl, sym, ap, ◌∙◌, subst}
use Rattle.dd_ports.specs.Causes.{Rose}
use Rattle.dd_check.specs.ChainStarts.{Start}
use Rattle.dd_pages_and_checkpoints.specs.declared.fault.RunFault.{RunFault}
use Rattle.dd_pages_and_checkpoints.specs.declared.fault.RunFault.TheVariants as fault
use Rattle.dd_pages_and_checkpoints.specs.declared.finish.Finish.{Finish}
use Rattle.dd_pages_and_checkpoints.specs.declared.finish.Finish.TheVariants as finish
use Rattle.dd_pages_and_checkpoints.specs.Runs.{IsPause, Finishes}
use Rattle.dd_suite_tasks.specs.declared.status.Status.TheVariants as status
use Rattle.dd_suite_tasks.specs.declared.ending.Ending.{Ending}
use Rattle.dd_suite_tasks.specs.declared.ending.Ending.TheVariants.{Done, Usage, Refused, RefusedSymbol, RefusedCheck, RefusedMerge, Paused, StoreFault, SinkFault, Memory, TooManyLines}
use Rattle.dd_suite_tasks.specs.Endings.{status_of, run_ending}
use Rattle.dd_suite_tasks.specs.Outcomes.{IsRunEnding}
use Rattle.dd_suite_tasks.specs.Outside.{Before, After}
use Rattle.dd_suite_tasks.specs.Runs.{run_status}

-- ## Only one ending has these statuses

pub done_ending : (ending : Ending) → status_of ending ≡ status.Done → ending ≡ Done
done_ending Done e = refl
done_ending Usage e = absurd (cc)
done_ending (Refused fault) e = absurd (cc)
done_ending (RefusedSymbol refusal) e = absurd (cc)
done_ending (RefusedCheck fault) e = absurd (cc)
done_ending (RefusedMerge refusal) e = absurd (cc)
done_ending (Paused lines) e = absurd (cc)
done_ending StoreFault e = absurd (cc)
done_ending SinkFault e = absurd (cc)
done_ending Memory e = absurd (cc)
done_ending TooManyLines e = absurd (cc)

pub usage_ending : (ending : Ending) → status_of ending ≡ status.Usage → ending ≡ Usage
usage_ending Done e = absurd (cc)
usage_ending Usage e = refl
usage_ending (Refused fault) e = absurd (cc)
usage_ending (RefusedSymbol refusal) e = absurd (cc)
usage_ending (RefusedCheck fault) e = absurd (cc)
usage_ending (RefusedMerge refusal) e = absurd (cc)
usage_ending (Paused lines) e = absurd (cc)
usage_ending StoreFault e = absurd (cc)
usage_ending SinkFault e = absurd (cc)
usage_ending Memory e = absurd (cc)
usage_ending TooManyLines e = absurd (cc)

pub store_ending : (ending : Ending) → status_of ending ≡ status.StoreFault → ending ≡ StoreFault
store_ending Done e = absurd (cc)
store_ending Usage e = absurd (cc)
store_ending (Refused fault) e = absurd (cc)
store_ending (RefusedSymbol refusal) e = absurd (cc)
store_ending (RefusedCheck fault) e = absurd (cc)
store_ending (RefusedMerge refusal) e = absurd (cc)
store_ending (Paused lines) e = absurd (cc)
store_ending StoreFault e = refl
store_ending SinkFault e = absurd (cc)
store_ending Memory e = absurd (cc)
store_ending TooManyLines e = absurd (cc)

pub sink_ending : (ending : Ending) → status_of ending ≡ status.SinkFault → ending ≡ SinkFault
sink_ending Done e = absurd (cc)
sink_ending Usage e = absurd (cc)
sink_ending (Refused fault) e = absurd (cc)
sink_ending (RefusedSymbol refusal) e = absurd (cc)
sink_ending (RefusedCheck fault) e = absurd (cc)
sink_ending (RefusedMerge refusal) e = absurd (cc)
sink_ending (Paused lines) e = absurd (cc)
sink_ending StoreFault e = absurd (cc)
sink_ending SinkFault e = refl
sink_ending Memory e = absurd (cc)
sink_ending TooManyLines e = absurd (cc)

-- ## The ends of runs

results : (r : Result Finish RunFault) (last : ℕ) → status_of (run_ending r last) ≡ run_status r
results (Ok finish.Whole) last = refl
results (Ok finish.Paused) last = refl
results (Ok finish.CutShort) last = refl
results (Err fault.Store) last = refl
results (Err fault.Sink) last = refl
results (Err fault.Memory) last = refl

pub run_told : (ending : Ending) (r : Result Finish RunFault) (last : ℕ) → ending ≡ run_ending r last → status_of ending ≡ run_status r
run_told ending r last e = ap status_of e ∙ results r last

pub whole_result : (r : Result Finish RunFault) → status.Done ≡ run_status r → r ≡ Ok finish.Whole
whole_result (Ok finish.Whole) e = refl
whole_result (Ok finish.Paused) e = absurd (cc)
whole_result (Ok finish.CutShort) e = absurd (cc)
whole_result (Err fault.Store) e = absurd (cc)
whole_result (Err fault.Sink) e = absurd (cc)
whole_result (Err fault.Memory) e = absurd (cc)

pub paused_result : (r : Result Finish RunFault) → status.Paused ≡ run_status r → r ≡ Ok finish.Paused
paused_result (Ok finish.Whole) e = absurd (cc)
paused_result (Ok finish.Paused) e = refl
paused_result (Ok finish.CutShort) e = absurd (cc)
paused_result (Err fault.Store) e = absurd (cc)
paused_result (Err fault.Sink) e = absurd (cc)
paused_result (Err fault.Memory) e = absurd (cc)

pub cut_result : (r : Result Finish RunFault) → status.TooManyLines ≡ run_status r → r ≡ Ok finish.CutShort
cut_result (Ok finish.Whole) e = absurd (cc)
cut_result (Ok finish.Paused) e = absurd (cc)
cut_result (Ok finish.CutShort) e = refl
cut_result (Err fault.Store) e = absurd (cc)
cut_result (Err fault.Sink) e = absurd (cc)
cut_result (Err fault.Memory) e = absurd (cc)

pub store_result : (r : Result Finish RunFault) → status.StoreFault ≡ run_status r → r ≡ Err fault.Store
store_result (Ok finish.Whole) e = absurd (cc)
store_result (Ok finish.Paused) e = absurd (cc)
store_result (Ok finish.CutShort) e = absurd (cc)
store_result (Err fault.Store) e = refl
store_result (Err fault.Sink) e = absurd (cc)
store_result (Err fault.Memory) e = absurd (cc)

pub not_usage : (r : Result Finish RunFault) → status.Usage ≡ run_status r → ⊥
not_usage (Ok finish.Whole) e = cc
not_usage (Ok finish.Paused) e = cc
not_usage (Ok finish.CutShort) e = cc
not_usage (Err fault.Store) e = cc
not_usage (Err fault.Sink) e = cc
not_usage (Err fault.Memory) e = cc

pub not_refused : (r : Result Finish RunFault) → status.Refused ≡ run_status r → ⊥
not_refused (Ok finish.Whole) e = cc
not_refused (Ok finish.Paused) e = cc
not_refused (Ok finish.CutShort) e = cc
not_refused (Err fault.Store) e = cc
not_refused (Err fault.Sink) e = cc
not_refused (Err fault.Memory) e = cc

-- a fault of the store ends a run only where its call had one
pub store_end : (r : Result Finish RunFault) (last : ℕ) → run_ending r last ≡ StoreFault → r ≡ Err fault.Store
store_end (Ok finish.Whole) last e = absurd (cc)
store_end (Ok finish.Paused) last e = absurd (cc)
store_end (Ok finish.CutShort) last e = absurd (cc)
store_end (Err fault.Store) last e = refl
store_end (Err fault.Sink) last e = absurd (cc)
store_end (Err fault.Memory) last e = absurd (cc)

pub sink_end : (r : Result Finish RunFault) (last : ℕ) → run_ending r last ≡ SinkFault → r ≡ Err fault.Sink
sink_end (Ok finish.Whole) last e = absurd (cc)
sink_end (Ok finish.Paused) last e = absurd (cc)
sink_end (Ok finish.CutShort) last e = absurd (cc)
sink_end (Err fault.Store) last e = absurd (cc)
sink_end (Err fault.Sink) last e = refl
sink_end (Err fault.Memory) last e = absurd (cc)

causes : (r : Result Finish RunFault) (last : ℕ) (s : Start) (pause : Option ℕ) (output : List ℕ) (before : Before) (after : After) → ((l : ℕ) → IsPause s.lines pause l → last ≡ l)
    → IfOk r (Finishes s pause output) → (r ≡ Err fault.Store → Rose before.store_faults after.store_faults) → (r ≡ Err fault.Sink → Rose before.sink_faults after.sink_faults)
    → IsRunEnding (run_ending r last) s pause before after
causes (Ok finish.Whole) last s pause output before after at finishes store sink = tt
causes (Ok finish.Paused) last s pause output before after at finishes store sink = subst (IsPause s.lines pause) (sym (at finishes.last finishes.pause_is)) finishes.pause_is
causes (Ok finish.CutShort) last s pause output before after at finishes store sink = tt
causes (Err fault.Store) last s pause output before after at finishes store sink = store refl
causes (Err fault.Sink) last s pause output before after at finishes store sink = sink refl
causes (Err fault.Memory) last s pause output before after at finishes store sink = tt

-- the cause of how a run ended
pub run_cause : (ending : Ending) (r : Result Finish RunFault) (last : ℕ) (s : Start) (pause : Option ℕ) (output : List ℕ) (before : Before) (after : After) → ending ≡ run_ending r last
    → ((l : ℕ) → IsPause s.lines pause l → last ≡ l) → IfOk r (Finishes s pause output)
    → (r ≡ Err fault.Store → Rose before.store_faults after.store_faults) → (r ≡ Err fault.Sink → Rose before.sink_faults after.sink_faults)
    → IsRunEnding ending s pause before after
run_cause ending r last s pause output before after e at finishes store sink =
    subst (λ x. IsRunEnding x s pause before after) (sym e) (causes r last s pause output before after at finishes store sink)
