-- What words of a run have come to.
use Rattle.std.proofs.Common.{◌≡◌, ◌⊎◌, ℕ, List, true, Option, Some, None, Result, Err, IfOk, inl, inr, refl, sym, ap, ◌∙◌, subst}
use Rattle.dd_ports.specs.Causes.{Rose}
use Rattle.dd_ports.specs.Grows.{GrowsByPrefix}
use Rattle.dd_check.specs.declared.faults.ShardFault.{ShardFault}
use Rattle.dd_check.specs.ShardFaults.{HasKindFault}
use Rattle.dd_check.proofs.KindFaults.{no_kind_fault}
use Rattle.dd_check.specs.ShardChecks.{IsAcceptedText}
use Rattle.dd_check.proofs.Exclusion.{no_fault as never_both}
use Rattle.dd_front_jobs.specs.Portions.{IsPortionText}
use Rattle.dd_check.specs.Calls.{Task, Begin, Resume}
use Rattle.dd_check.specs.ChainStarts.{Start}
use Rattle.dd_pages_and_checkpoints.specs.declared.fault.RunFault.{RunFault}
use Rattle.dd_pages_and_checkpoints.specs.declared.fault.RunFault.TheVariants as fault
use Rattle.dd_pages_and_checkpoints.specs.declared.finish.Finish.{Finish}
use Rattle.dd_pages_and_checkpoints.specs.Runs.{Finishes}
use Rattle.dd_suite_tasks.specs.declared.ending.Ending.{Ending}
use Rattle.dd_suite_tasks.specs.declared.ending.Ending.TheVariants.{Done, Usage, Refused, RefusedSymbol, RefusedCheck, RefusedMerge, Paused, StoreFault, SinkFault, Memory, TooManyLines}
use Rattle.dd_suite_tasks.specs.declared.status.Status.{Status}
use Rattle.dd_suite_tasks.specs.declared.status.Status.TheVariants as status
use Rattle.dd_suite_tasks.specs.Arguments.{AreRefused, IsCheckAccepted, KeepUnder, SameButKept}
use Rattle.dd_suite_tasks.specs.Beginnings.{NameNoCheck, BeginsAt, IsCheckRefused}
use Rattle.dd_suite_tasks.specs.Cuts.{Pauses, CutsShort, IsEndOfOwn}
use Rattle.dd_suite_tasks.specs.Endings.{status_of}
use Rattle.dd_suite_tasks.specs.Messages.{IsItsCause}
use Rattle.dd_suite_tasks.specs.Outcomes.{EndsRun, StopsRun, IsRunEnding, IsStopEnding}
use Rattle.dd_suite_tasks.specs.Output.{AppendsOutput, IsKnownOutput}
use Rattle.dd_suite_tasks.specs.Outside.{Before, After}
use Rattle.dd_suite_tasks.specs.Runs.{Runs, HasRunAs, name_of}
use Rattle.dd_suite_tasks.specs.Words.{Order, run_command, AskForRun}
use Rattle.dd_suite_tasks.proofs.HeldTexts.{some_injective, one_next}
use Rattle.dd_suite_tasks.proofs.Requests.{one_order, not_both, run_or_merge, run_or_exercise}
use Rattle.dd_suite.proofs.RunEndings.{whole_result, paused_result, cut_result, store_result, not_refused}
use Rattle.dd_suite.proofs.RunOutputs.{output_of, front_prefix, whole_of_task, rest_written}

module _ (words : List (List ℕ)) (order : Order) (before : Before) (after : After) (asked : AskForRun words order) where
  -- where the run of one order begins, that of the same words does
  begins_same : (other : Order) (s : Start) → AskForRun words other → BeginsAt order.task before.tells before.held s → BeginsAt other.task before.tells before.held s
  begins_same other s is begins = subst (λ o. BeginsAt o.task before.tells before.held s) (one_order words order other asked is) begins

  pub ran_known : (state : Status) → HasRunAs order state before after → (bytes : List ℕ) → IsKnownOutput words before.tells before.held bytes → GrowsByPrefix before.written after.written bytes
  ran_known state ran bytes (inl is) =
      let out = output_of (name_of order.task) ran.start order.round order.pause before after ran.result ran.runs in
      let at : ran.start ≡ _ = begins_same (record { task = Begin is.portion is.asked.name; round = is.asked.round; pause = is.asked.pause }) ran.start is.asked.run ran.begins in
      front_prefix ran.start order.pause before.written after.written ran.result out.0 bytes out.1 (subst (λ (s : Start). IsPortionText s.portion s.at s.lines bytes) (sym at) is.text)
  ran_known state ran bytes (inr (inl (told, is))) =
      let out = output_of (name_of order.task) ran.start order.round order.pause before after ran.result ran.runs in
      let at = begins_same (record { task = Resume is.kind is.name; round = is.asked.round; pause = is.asked.pause }) ran.start is.asked.run ran.begins in
      let same : is.start ≡ ran.start = one_next is.kind before.tells (before.held is.name) is.start ran.start told is.begins at in
      front_prefix ran.start order.pause before.written after.written ran.result out.0 bytes out.1 (subst (λ (s : Start). IsPortionText s.portion s.at s.lines bytes) same is.text)
  ran_known state ran bytes (inr (inr (inl (told, file)))) = absurd (not_both words order file.command file.name asked file.asked)
  ran_known state ran bytes (inr (inr (inr (inl (told, is))))) = absurd (run_or_merge words order is.names asked is.asked)
  ran_known state ran bytes (inr (inr (inr (inr (inl is))))) = absurd (run_or_exercise words order is.start is.count asked is.asked)
  ran_known state ran bytes (inr (inr (inr (inr (inr none))))) = absurd (none.0 (run_command order.task asked.pace order.pause, asked.command))

  pub ran_whole : (state : Status) → HasRunAs order state before after → state ≡ status.Done → AppendsOutput words before.tells before.held before.written after.written
  ran_whole state ran e =
      let out = output_of (name_of order.task) ran.start order.round order.pause before after ran.result ran.runs in
      let rest = rest_written ran.start order.pause before.written after.written ran.result out.0 (whole_result ran.result (sym e ∙ ran.status_is)) out.1 in
      whole_of_task words order.task order.round order.pause ran.start before after out.0 asked ran.begins rest out.1.appended

  pub ran_pauses : (state : Status) → HasRunAs order state before after → state ≡ status.Paused → Pauses words before.tells before.held before.written after.written
  ran_pauses state ran e =
      let out = output_of (name_of order.task) ran.start order.round order.pause before after ran.result ran.runs in
      record {
        order = order;
        asked = asked;
        start = ran.start;
        begins = ran.begins;
        output = out.0;
        lines = subst (λ r. IfOk r (Finishes ran.start order.pause out.0)) (paused_result ran.result (sym e ∙ ran.status_is)) out.1.finishes;
        appended = out.1.appended;
      }

  pub ran_cuts : (state : Status) → HasRunAs order state before after → state ≡ status.TooManyLines → CutsShort words before.tells before.held before.written after.written
  ran_cuts state ran e =
      let out = output_of (name_of order.task) ran.start order.round order.pause before after ran.result ran.runs in
      record {
        order = order;
        asked = asked;
        start = ran.start;
        begins = ran.begins;
        output = out.0;
        lines = subst (λ r. IfOk r (Finishes ran.start order.pause out.0)) (cut_result ran.result (sym e ∙ ran.status_is)) out.1.finishes;
        appended = out.1.appended;
      }

  same_but : (name : Option (List ℕ)) (s : Start) (r : Result Finish RunFault) → name_of order.task ≡ name → Runs name s order.round order.pause before after r → before.tells ≡ true
      → SameButKept words before.held after.held
  same_but None s r e runs told other free = runs.same told other
  same_but (Some name) s r e runs told other free =
      runs.others told other (λ is. free (record { order = order; asked = asked; name_is = e ∙ ap Some (sym is) }))

  pub ran_store : (state : Status) → HasRunAs order state before after → before.tells ≡ true → SameButKept words before.held after.held
  ran_store state ran told = same_but (name_of order.task) ran.start ran.result refl ran.runs told

  no_fault : (name : Option (List ℕ)) (s : Start) (r : Result Finish RunFault) → name_of order.task ≡ name → Runs name s order.round order.pause before after r → r ≡ Err fault.Store
      → ((other : List ℕ) → KeepUnder words other → ⊥) → ⊥
  no_fault None s r e runs is none = runs.no_store is
  no_fault (Some name) s r e runs is none = none name (record { order = order; asked = asked; name_is = e })

  -- a run that keeps no checkpoint has no fault of the store, and none is refused
  pub ran_quiet : (state : Status) → HasRunAs order state before after → (state ≡ status.Refused) ⊎ ((state ≡ status.StoreFault) × ((name : List ℕ) → KeepUnder words name → ⊥)) → ⊥
  ran_quiet state ran (inl e) = not_refused ran.result (sym e ∙ ran.status_is)
  ran_quiet state ran (inr (e, none)) = no_fault (name_of order.task) ran.start ran.result refl ran.runs (store_result ran.result (sym e ∙ ran.status_is)) none

  -- ## Calls that never began to run

  check_refused : (task : Task) (round : ℕ) (pause : Option ℕ) (fault : ShardFault) → AskForRun words (record { task = task; round = round; pause = pause }) → IsCheckRefused task before.tells before.held fault
      → NameNoCheck words before.tells before.held fault
  check_refused (Begin q name) round pause fault is c = absurd c
  check_refused (Resume kind name) round pause fault is c = record { kind = kind; name = name; asked = record { round = round; pause = pause; run = is }; holds = c }

  pub stop_refused : (ending : Ending) → StopsRun order ending before after → status_of ending ≡ status.Refused → AreRefused words before.tells before.held
  stop_refused Done stops e = absurd (cc)
  stop_refused Usage stops e = absurd (cc)
  stop_refused (Refused fault) stops e = absurd stops.cause
  stop_refused (RefusedSymbol refusal) stops e = absurd stops.cause
  stop_refused (RefusedCheck fault) stops e =
      inr (inr (inl (fault, check_refused order.task order.round order.pause fault asked stops.cause)))
  stop_refused (RefusedMerge refusal) stops e = absurd stops.cause
  stop_refused (Paused lines) stops e = absurd (cc)
  stop_refused StoreFault stops e = absurd (cc)
  stop_refused SinkFault stops e = absurd (cc)
  stop_refused Memory stops e = absurd (cc)
  stop_refused TooManyLines stops e = absurd (cc)

  pub stop_complete : (ending : Ending) → StopsRun order ending before after → IsCheckAccepted words before.tells before.held → (¬ Rose before.store_faults after.store_faults) → status_of ending ≡ status.Memory
  stop_complete Done stops accepted kept = absurd stops.cause
  stop_complete Usage stops accepted kept = absurd stops.cause
  stop_complete (Refused fault) stops accepted kept = absurd stops.cause
  stop_complete (RefusedSymbol refusal) stops accepted kept = absurd stops.cause
  stop_complete (RefusedCheck fault) stops accepted kept =
      let is = check_refused order.task order.round order.pause fault asked stops.cause in
      let ok = accepted is.kind is.name is.asked in
      let held = ok.1 in
      let same : held.holds.text ≡ is.holds.bytes = some_injective held.holds.text is.holds.bytes (sym held.holds.held_is ∙ is.holds.fetched ok.0) in
      absurd (no_kind_fault held.shard is.holds.bytes held.check fault (subst (λ b. IsAcceptedText held.shard b held.check) same held.holds.accepted)
      (subst (λ kind. HasKindFault kind is.holds.bytes fault) (sym held.kind_is) is.holds.faulty))
  stop_complete (RefusedMerge refusal) stops accepted kept = absurd stops.cause
  stop_complete (Paused lines) stops accepted kept = absurd stops.cause
  stop_complete StoreFault stops accepted kept = absurd (kept stops.cause)
  stop_complete SinkFault stops accepted kept = absurd stops.cause
  stop_complete Memory stops accepted kept = refl
  stop_complete TooManyLines stops accepted kept = absurd stops.cause

  pub stop_told : (ending : Ending) → StopsRun order ending before after → IsItsCause ending words before.tells before.held
  stop_told Done stops = tt
  stop_told Usage stops = tt
  stop_told (Refused fault) stops = absurd stops.cause
  stop_told (RefusedSymbol refusal) stops = absurd stops.cause
  stop_told (RefusedCheck fault) stops =
      check_refused order.task order.round order.pause fault asked stops.cause
  stop_told (RefusedMerge refusal) stops = absurd stops.cause
  stop_told (Paused lines) stops = absurd stops.cause
  stop_told StoreFault stops = tt
  stop_told SinkFault stops = tt
  stop_told Memory stops = tt
  stop_told TooManyLines stops = tt

  pub ran_told : (ending : Ending) → EndsRun order ending before after → IsItsCause ending words before.tells before.held
  ran_told Done ends = tt
  ran_told Usage ends = tt
  ran_told (Refused fault) ends = absurd ends.cause
  ran_told (RefusedSymbol refusal) ends = absurd ends.cause
  ran_told (RefusedCheck fault) ends = absurd ends.cause
  ran_told (RefusedMerge refusal) ends = absurd ends.cause
  ran_told (Paused lines) ends = record { order = order; asked = asked; start = ends.ran.start; begins = ends.ran.begins; pause_is = ends.cause }
  ran_told StoreFault ends = tt
  ran_told SinkFault ends = tt
  ran_told Memory ends = tt
  ran_told TooManyLines ends = tt

pub ran_complete : (ending : Ending) (s : Start) (pause : Option ℕ) (before : Before) (after : After) → IsRunEnding ending s pause before after
    → (¬ Rose before.store_faults after.store_faults) → (¬ Rose before.sink_faults after.sink_faults) → IsEndOfOwn (status_of ending) ⊎ (status_of ending ≡ status.Memory)
ran_complete Done s pause before after c kept sank = inl (inl refl)
ran_complete Usage s pause before after c kept sank = absurd c
ran_complete (Refused fault) s pause before after c kept sank = absurd c
ran_complete (RefusedSymbol refusal) s pause before after c kept sank = absurd c
ran_complete (RefusedCheck fault) s pause before after c kept sank = absurd c
ran_complete (RefusedMerge refusal) s pause before after c kept sank = absurd c
ran_complete (Paused lines) s pause before after c kept sank = inl (inr (inl refl))
ran_complete StoreFault s pause before after c kept sank = absurd (kept c)
ran_complete SinkFault s pause before after c kept sank = absurd (sank c)
ran_complete Memory s pause before after c kept sank = inr refl
ran_complete TooManyLines s pause before after c kept sank = inl (inr (inr refl))

pub run_usage : (ending : Ending) (s : Start) (pause : Option ℕ) (before : Before) (after : After) → ending ≡ Usage → IsRunEnding ending s pause before after → ⊥
run_usage ending s pause before after e c = subst (λ x. IsRunEnding x s pause before after) e c

pub run_store : (ending : Ending) (s : Start) (pause : Option ℕ) (before : Before) (after : After) → ending ≡ StoreFault → IsRunEnding ending s pause before after → Rose before.store_faults after.store_faults
run_store ending s pause before after e c = subst (λ x. IsRunEnding x s pause before after) e c

pub run_sink : (ending : Ending) (s : Start) (pause : Option ℕ) (before : Before) (after : After) → ending ≡ SinkFault → IsRunEnding ending s pause before after → Rose before.sink_faults after.sink_faults
run_sink ending s pause before after e c = subst (λ x. IsRunEnding x s pause before after) e c

pub stop_usage : (ending : Ending) (task : Task) (before : Before) (after : After) → ending ≡ Usage → IsStopEnding ending task before after → ⊥
stop_usage ending task before after e c = subst (λ x. IsStopEnding x task before after) e c

pub stop_store : (ending : Ending) (task : Task) (before : Before) (after : After) → ending ≡ StoreFault → IsStopEnding ending task before after → Rose before.store_faults after.store_faults
stop_store ending task before after e c = subst (λ x. IsStopEnding x task before after) e c

pub stop_sink : (ending : Ending) (task : Task) (before : Before) (after : After) → ending ≡ SinkFault → IsStopEnding ending task before after → ⊥
stop_sink ending task before after e c = subst (λ x. IsStopEnding x task before after) e c
