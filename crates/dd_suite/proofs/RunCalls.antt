-- What the functions that write runs come to.
use Rattle.std.proofs.Common.{◌≡◌, ◌≤◌, ℕ, List, [], Bool, true, Option, Some, None, Result, Ok, Err, inl, inr, ⊎_elim, refl, sym, ap, ◌∙◌, subst, arith}
use Rattle.std.proofs.KnownBytes.{Appends-nil}
use Rattle.std.proofs.lemmas.Bool.{cases_eq}
use Rattle.dd_front_jobs.specs.declared.shards.Shard.{Shard}
use Rattle.dd_front_jobs.specs.declared.portions.Portion.{Portion}
use Rattle.dd_ports.specs.Causes.{Rose}
use Rattle.dd_ports.specs.Texts.{SameTexts, SameOthers}
use Rattle.dd_ports.specs.declared.sink.SinkFault.{SinkFault as WriteFault}
use Rattle.dd_ports.specs.declared.sink.SinkFault.TheVariants as sink
use Rattle.dd_check.specs.declared.checkpoint.Checkpoint.{Checkpoint}
use Rattle.dd_check.specs.Calls.{kind_of, Begin, Resume}
use Rattle.dd_check.specs.ChainStarts.{Start, first_start, next_start}
use Rattle.dd_pages_and_checkpoints.specs.declared.fault.RunFault.{RunFault}
use Rattle.dd_pages_and_checkpoints.specs.declared.fault.RunFault.TheVariants as fault
use Rattle.dd_pages_and_checkpoints.specs.declared.finish.Finish.{Finish}
use Rattle.dd_front_jobs.specs.declared.pace.Pace.{Pace}
use Rattle.dd_pages_and_checkpoints.specs.declared.run.Run.{Run}
use Rattle.dd_pages_and_checkpoints.specs.Outputs.{IsOutput}
use Rattle.dd_pages_and_checkpoints.specs.Runs.{start_of, IsPause}
use Rattle.dd_pages_and_checkpoints.specs.Names.{HasRun, LeavesName}
use Rattle.dd_suite_tasks.specs.declared.ending.Ending.{Ending}
use Rattle.dd_suite_tasks.specs.declared.ending.Ending.TheVariants.{Done, Usage, Refused, RefusedSymbol, RefusedCheck, RefusedMerge, Paused, StoreFault, SinkFault, Memory, TooManyLines}
use Rattle.dd_suite_tasks.specs.Beginnings.{HoldsCheck}
use Rattle.dd_suite_tasks.specs.Endings.{run_ending}
use Rattle.dd_suite_tasks.specs.Lone.{run_result, IsLoneEnding}
use Rattle.dd_suite_tasks.specs.Outcomes.{IsRunEnding, IsRunOutcome, EndsRunFrom}
use Rattle.dd_suite_tasks.specs.Outside.{Before, After, KeepsNames}
use Rattle.dd_suite.proofs.RunEndings.{run_told, run_cause, sink_end}

-- ## Runs under a name

module _ (s : Start) (name : List ℕ) (round : ℕ) (pause : Option ℕ) where
  pub ends_from : (ending : Ending) (r : Result Finish RunFault) (last : ℕ) (before : Before) (after : After) → ending ≡ run_ending r last → ((l : ℕ) → IsPause s.lines pause l → last ≡ l)
      → HasRun s round pause before.written after.written before.tells (before.held name) (after.held name) r
      → (before.tells ≡ true → SameOthers name before.held after.held)
      → (r ≡ Err fault.Store → Rose before.store_faults after.store_faults) → (r ≡ Err fault.Sink → Rose before.sink_faults after.sink_faults)
      → EndsRunFrom s name round pause ending before after
  ends_from ending r last before after e at run others store sank = record {
    result = r;
    status_is = run_told ending r last e;
    run = record { run = run; others = others };
    cause = run_cause ending r last s pause run.output before after e at run.is_output.finishes store sank;
  }

-- from its start and its pace a run is the one that was asked for
pub same_run : (run : Run) (s : Start) (name : List ℕ) (pace : Pace) (pause : Option ℕ) (ending : Ending) (before : Before) (after : After) → start_of run ≡ s → run.pace ≡ pace → run.pause ≡ pause
    → EndsRunFrom (start_of run) name run.pace.round run.pause ending before after → EndsRunFrom s name pace.round pause ending before after
same_run run s name pace pause ending before after start same_pace same_pause ends =
    subst (λ (t : Start). EndsRunFrom t name pace.round pause ending before after) start
    (subst (λ (p : Pace). EndsRunFrom (start_of run) name p.round pause ending before after) same_pace
    (subst (λ (p : Option ℕ). EndsRunFrom (start_of run) name run.pace.round p ending before after) same_pause ends))

pub kept_outcome : (q : Portion) (name : List ℕ) (round : ℕ) (pause : Option ℕ) (ending : Ending) (before : Before) (after : After) → EndsRunFrom (first_start q) name round pause ending before after
    → IsRunOutcome (record { task = Begin q (Some name); round = round; pause = pause }) ending before after
kept_outcome q name round pause ending before after ends =
    inl (record { ran = record { start = first_start q; begins = refl; result = ends.result; status_is = ends.status_is; runs = ends.run }; cause = ends.cause })

pub resumed_outcome : (shard : Option Shard) (c : Checkpoint) (name : List ℕ) (round : ℕ) (pause : Option ℕ) (ending : Ending) (before : Before) (after : After)
    → HoldsCheck shard before.tells (before.held name) c → EndsRunFrom (next_start shard c) name round pause ending before after
    → IsRunOutcome (record { task = Resume (kind_of shard) name; round = round; pause = pause }) ending before after
resumed_outcome shard c name round pause ending before after holds ends =
    inl (record { ran = record { start = next_start shard c; begins = record { held_is = record { shard = shard; kind_is = refl; check = c; holds = holds }; start_is = refl }; result = ends.result; status_is = ends.status_is; runs = ends.run }; cause = ends.cause })

-- what rose since a later time rose since an earlier one
pub rose_earlier : (a b c : ℕ) → a ≤ b → Rose b c → Rose a c
rose_earlier a b c le (inl up) = inl (omega arith)
rose_earlier a b c le (inr stuck) =
    ⊎_elim
    (λ same. subst (λ z. Rose z c) (sym same) (inr stuck))
    (λ differ. let at = stuck.1 in inl (omega (arith, at, le, differ)))
    (cases_eq a b)

-- a run after a call that left every name as it was
module _ (s : Start) (name : List ℕ) (round : ℕ) (pause : Option ℕ) (before : Before) (after : After) (tells : Bool) (held : List ℕ → Option (List ℕ)) (faults : ℕ)
    (same : before.tells ≡ true → (tells ≡ true) × SameTexts before.held held) (later : before.store_faults ≤ faults) where
  mid : Before
  mid = record { tells = tells; held = held; store_faults = faults; written = before.written; sink_faults = before.sink_faults }

  earlier_cause : (ending : Ending) → IsRunEnding ending s pause mid after → IsRunEnding ending s pause before after
  unfolding mid
  earlier_cause Done c = c
  earlier_cause Usage c = c
  earlier_cause (Refused fault) c = c
  earlier_cause (RefusedSymbol refusal) c = c
  earlier_cause (RefusedCheck fault) c = c
  earlier_cause (RefusedMerge refusal) c = c
  earlier_cause (Paused lines) c = c
  earlier_cause StoreFault c = rose_earlier before.store_faults faults after.store_faults later c
  earlier_cause SinkFault c = c
  earlier_cause Memory c = c
  earlier_cause TooManyLines c = c

  pub ends_earlier : (ending : Ending)
      → EndsRunFrom s name round pause ending (record { tells = tells; held = held; store_faults = faults; written = before.written; sink_faults = before.sink_faults }) after
      → EndsRunFrom s name round pause ending before after
  unfolding mid
  ends_earlier ending ends = record {
    result = ends.result;
    status_is = ends.status_is;
    run = record {
      run = record {
        output = ends.run.run.output;
        is_output = ends.run.run.is_output;
        left = λ told. subst (λ h. LeavesName s round pause h (after.held name) ends.result ends.run.run.output) ((same told).1 name) (ends.run.run.left (same told).0);
      };
      others = λ told other differs. ends.run.others (same told).0 other differs ∙ (same told).1 other;
    };
    cause = earlier_cause ending ends.cause;
  }

-- ## Calls that never began to run

-- ## Runs without a name

-- what is said of a write that failed is said of the run
pub lone_end : (q : Portion) (old new : Option (List ℕ)) (r : Result Finish WriteFault) (output : List ℕ) → IsOutput (first_start q) None old new r output
    → IsOutput (first_start q) None old new (run_result r) output
lone_end q old new (Ok finish) output is = record { appended = is.appended; front = is.front; finishes = is.finishes }
lone_end q old new (Err why) output is = record { appended = is.appended; front = is.front; finishes = tt }

no_store_fault : (r : Result Finish WriteFault) → run_result r ≡ Err fault.Store → ⊥
no_store_fault (Ok finish) e = cc
no_store_fault (Err sink.Failed) e = cc
no_store_fault (Err sink.Memory) e = cc

-- the fault of the run is the one that the sink counted
pub lone_sink : (ending : Ending) (r : Result Finish WriteFault) → ending ≡ run_ending (run_result r) 0 → ending ≡ SinkFault → r ≡ Err sink.Failed
lone_sink ending r e f = go r (sink_end (run_result r) 0 (sym e ∙ f))
  where
    go : (x : Result Finish WriteFault) → run_result x ≡ Err fault.Sink → x ≡ Err sink.Failed
    go (Ok finish) h = absurd (cc)
    go (Err sink.Failed) h = refl
    go (Err sink.Memory) h = absurd (cc)

-- want of memory before the run
pub lone_none : (q : Portion) (old : Option (List ℕ)) (before : ℕ) → IsLoneEnding Memory q old old before before
lone_none q old before = record {
  output = [];
  result = Err sink.Memory;
  ending_is = refl;
  is_output = record { appended = Appends-nil old; front = λ text of. tt; finishes = tt };
  cause = λ e. absurd (cc);
}

-- a run from the beginning that does not pause
pub lone_ends : (ending : Ending) (q : Portion) (run : Run) (old new : Option (List ℕ)) (before now : ℕ) (r : Result Finish WriteFault) (output : List ℕ) → ending ≡ run_ending (run_result r) 0
    → start_of run ≡ first_start q → run.pause ≡ None → IsOutput (start_of run) run.pause old new r output → (r ≡ Err sink.Failed → Rose before now) → IsLoneEnding ending q old new before now
lone_ends ending q run old new before now r output e start pause is rose = record {
  output = output;
  result = r;
  ending_is = e;
  is_output = subst (λ (p : Option ℕ). IsOutput (first_start q) p old new r output) pause (subst (λ (s : Start). IsOutput s run.pause old new r output) start is);
  cause = λ f. rose (lone_sink ending r e f);
}

not_asked : (l : ℕ) → IsPause 0 None l → 0 ≡ l
not_asked l is = let e = is.asked in absurd (cc)

pub lone_outcome : (q : Portion) (round : ℕ) (ending : Ending) (before : Before) (after : After) → IsLoneEnding ending q before.written after.written before.sink_faults after.sink_faults
    → KeepsNames before after → IsRunOutcome (record { task = Begin q None; round = round; pause = None }) ending before after
lone_outcome q round ending before after is same =
    let r = run_result is.result in
    let own = lone_end q before.written after.written is.result is.output is.is_output in
    inl (record {
      ran = record {
        start = first_start q;
        begins = refl;
        result = r;
        status_is = run_told ending r 0 is.ending_is;
        runs = record { output = is.output; is_output = own; same = same; no_store = no_store_fault is.result };
      };
      cause = run_cause ending r 0 (first_start q) None is.output before after is.ending_is not_asked own.finishes (λ e. absurd (no_store_fault is.result e)) (λ e. is.cause (is.ending_is ∙ ap (λ x. run_ending x 0) e));
    })
