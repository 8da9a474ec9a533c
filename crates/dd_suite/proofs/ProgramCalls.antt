-- Calls of the program do what a chain asks of its calls.
use Rattle.std.proofs.Common.{◌≡◌, ◌⊎◌, ◌≢◌, ℕ, List, [], ◌∷◌, map, true, Option, Some, None, Result, Ok, IsOk, IfOk, IsSome, inl, inr, ⊎_elim, refl, sym, ap, ◌∙◌, subst}
use Rattle.std.proofs.lemmas.List.{append_cancel_left}
use Rattle.std.specs.Io.KnownBytes.{Appends}
use Rattle.std.specs.List.{AllByRecursion}
use Rattle.dd_model.specs.Lists.{Begins}
use Rattle.dd_front_jobs.specs.declared.portions.Portion.{Portion}
use Rattle.dd_front_jobs.specs.Portions.{IsPortionText}
use Rattle.dd_check.specs.Calls.{Task, Begin, Resume, Call, Done, Paused}
use Rattle.dd_check.specs.Clauses.{MeetsClauses, HasWorked, HasWork}
use Rattle.dd_check.specs.ChainStarts.{Start, first_start, Starts}
use Rattle.dd_check.specs.ChainPuts.{Puts}
use Rattle.dd_check.proofs.ChainParts.{starts_once}
use Rattle.dd_pages_and_checkpoints.specs.declared.fault.RunFault.{RunFault}
use Rattle.dd_pages_and_checkpoints.specs.declared.finish.Finish.{Finish}
use Rattle.dd_pages_and_checkpoints.specs.declared.finish.Finish.TheVariants as finish
use Rattle.dd_pages_and_checkpoints.specs.Outputs.{IsOutput}
use Rattle.dd_pages_and_checkpoints.specs.Runs.{Finishes, WritesRest, WritesUpToPause}
use Rattle.dd_pages_and_checkpoints.specs.Names.{LeavesName, PutsCheck, PutsAtEnd, PutsAtPause, FinishesName}
use Rattle.dd_suite_tasks.proofs.Requests.{lone_run}
use Rattle.dd_suite_tasks.specs.declared.status.Status.{Status}
use Rattle.dd_suite_tasks.specs.declared.status.Status.TheVariants as status
use Rattle.dd_suite_tasks.specs.Beginnings.{BeginsAt}
use Rattle.dd_suite.specs.Chains.{ProgramCall, IsProgramCall, chain_ending, held_under, call_of}
use Rattle.dd_suite_tasks.specs.Outside.{Before, After}
use Rattle.dd_suite_tasks.specs.Runs.{name_of, run_status, IsStopped, IsCallOf}
use Rattle.dd_suite_tasks.specs.Words.{AskForRun}
use Rattle.dd_suite.proofs.RunEndings.{whole_result, paused_result}

-- ## Endings

done_status : (s : Status) → chain_ending s ≡ Done → s ≡ status.Done
done_status status.Done e = refl
done_status status.Usage e = absurd (cc)
done_status status.Refused e = absurd (cc)
done_status status.Paused e = absurd (cc)
done_status status.StoreFault e = absurd (cc)
done_status status.SinkFault e = absurd (cc)
done_status status.Memory e = absurd (cc)
done_status status.TooManyLines e = absurd (cc)

paused_status : (s : Status) → chain_ending s ≡ Paused → s ≡ status.Paused
paused_status status.Done e = absurd (cc)
paused_status status.Usage e = absurd (cc)
paused_status status.Refused e = absurd (cc)
paused_status status.Paused e = refl
paused_status status.StoreFault e = absurd (cc)
paused_status status.SinkFault e = absurd (cc)
paused_status status.Memory e = absurd (cc)
paused_status status.TooManyLines e = absurd (cc)

-- ## Runs under a name

module _ (task : Task) (before after : Option (List ℕ)) (s : Start) (round : ℕ) (pause : Option ℕ) (state : Status) (r : Result Finish RunFault) (old new : Option (List ℕ)) (output : List ℕ)
    (told : state ≡ run_status r) (starts : Starts task before s) (is : IsOutput s pause old new r output) where
  whole : chain_ending state ≡ Done → r ≡ Ok finish.Whole
  whole e = whole_result r (sym (done_status state e) ∙ told)

  paused : chain_ending state ≡ Paused → r ≡ Ok finish.Paused
  paused e = paused_result r (sym (paused_status state e) ∙ told)

  same_start : (t : Start) → Starts task before t → s ≡ t
  same_start t other = starts_once task before s t starts other

  rest : chain_ending state ≡ Done → WritesRest s pause output
  rest e = subst (λ x. IfOk x (Finishes s pause output)) (whole e) is.finishes

  front : (t : Start) (text : List ℕ) → Starts task before t → IsPortionText t.portion t.at t.lines text → Begins output text
  front t text other of = is.front text (subst (λ (u : Start). IsPortionText u.portion u.at u.lines text) (sym (same_start t other)) of)

  -- the call of the chain
  own : Call
  own = record { task = task; pause = pause; before = before; after = after; output = output; ending = chain_ending state }

  module _ (left : LeavesName s round pause before after r output) where
    puts : PutsCheck s round after output → Puts own
    unfolding own
    puts p = record { start = s; starts = starts; check = p.check; put = p.put }

    ended : HasWorked own → (output ≢ []) ⊎ IsOk r
    unfolding own
    ended (inl some) = inl some
    ended (inr (inl e)) = inr (subst IsOk (sym (whole e)) refl)
    ended (inr (inr e)) = inr (subst IsOk (sym (paused e)) refl)

    pub kept_meets : MeetsClauses (record { task = task; pause = pause; before = before; after = after; output = output; ending = chain_ending state })
    unfolding own
    kept_meets = record {
      prefix = front;
      done = λ e. let w = rest e in record { start = s; starts = starts; count = w.count; written = w.written; few = w.few };
      paused = λ e.
          let p : PutsAtPause s pause after output = subst (λ x. IfOk x (FinishesName s pause before after output)) (paused e) left.finish in
          record { puts = record { start = s; starts = starts; check = p.check; put = p.put }; lines = p.pause_is.lines; asked = p.pause_is.asked; count = p.pause_is.last_is; all = p.all; next = p.next };
      held = ⊎_elim (λ k. inl k.same) (λ p. inr (puts p)) left.held;
      first = λ q name is_first worked.
          let at : s ≡ first_start q = subst (λ t. Starts t before s) is_first starts in
          puts (left.first (ap (λ (z : Start). z.number) at) (ended worked));
      last = λ e named t other work.
          let f : HasWork s → PutsAtEnd s after output = subst (λ x. IfOk x (FinishesName s pause before after output)) (whole e) left.finish in
          let p = f (subst HasWork (sym (same_start t other)) work) in
          record { start = s; starts = starts; check = p.check; put = p.put };
      refused = λ nowhere. absurd (nowhere s starts);
    }

-- ## Runs without a name, and calls that never began to run

no_name : (q r : Portion) (name : List ℕ) → Begin q None ≡ Begin r (Some name) → ⊥
no_name q r name e = cc

lone_meets : (q : Portion) (pause : Option ℕ) (s : Start) (state : Status) (r : Result Finish RunFault) (old new : Option (List ℕ)) (output : List ℕ) → pause ≡ None → state ≡ run_status r
    → Starts (Begin q None) None s → IsOutput s pause old new r output
    → MeetsClauses (record { task = Begin q None; pause = pause; before = None; after = None; output = output; ending = chain_ending state })
lone_meets q pause s state r old new output none told starts is = record {
  prefix = front (Begin q None) None None s 0 pause state r old new output told starts is;
  done = λ e. let w = rest (Begin q None) None None s 0 pause state r old new output told starts is e in record { start = s; starts = starts; count = w.count; written = w.written; few = w.few };
  paused = λ e.
      let w : WritesUpToPause s pause output = subst (λ x. IfOk x (Finishes s pause output)) (paused (Begin q None) None None s 0 pause state r old new output told starts is e) is.finishes in
      let asked = sym none ∙ w.pause_is.asked in
      absurd (cc);
  held = inl refl;
  first = λ r name task worked. absurd (no_name q r name task);
  last = λ e named t other work. absurd named;
  refused = λ nowhere. absurd (nowhere s starts);
}

not_done : (s : Status) → IsStopped s → chain_ending s ≡ Done → ⊥
not_done s stopped e = subst IsStopped (done_status s e) stopped

not_paused : (s : Status) → IsStopped s → chain_ending s ≡ Paused → ⊥
not_paused s stopped e = subst IsStopped (paused_status s e) stopped

stopped_meets : (task : Task) (pause : Option ℕ) (before after : Option (List ℕ)) (state : Status) (output : List ℕ) → IsStopped state → output ≡ [] → after ≡ before
    → MeetsClauses (record { task = task; pause = pause; before = before; after = after; output = output; ending = chain_ending state })
stopped_meets task pause before after state output stopped none same = record {
  prefix = λ start text starts of. subst (λ o. Begins o text) (sym none) tt;
  done = λ e. absurd (not_done state stopped e);
  paused = λ e. absurd (not_paused state stopped e);
  held = inl same;
  first = λ q name is worked. absurd (⊎_elim (λ some. some none) (λ ends. ⊎_elim (not_done state stopped) (not_paused state stopped) ends) worked);
  last = λ e named start starts work. absurd (not_done state stopped e);
  refused = λ nowhere. (none, same);
}

-- ## What a call has written

same_output : (a b : Option (List ℕ)) (xs ys : List ℕ) → IsSome a → Appends a b xs → Appends a b ys → xs ≡ ys
same_output None b xs ys some h i = absurd (cc)
same_output (Some old) None xs ys some h i = absurd h
same_output (Some old) (Some new) xs ys some h i = append_cancel_left old xs ys (sym h ∙ i)

-- where a call begins, told by what the name holds
pub begun : (task : Task) (before : Before) (s : Start) → before.tells ≡ true → BeginsAt task before.tells before.held s → Starts task (held_under (name_of task) before.held) s
begun (Begin q name) before s told begins = begins
begun (Resume kind name) before s told begins =
    let h = begins.held_is in
    record {
      held = record { shard = h.shard; kind_is = h.kind_is; check = h.check; holds = record { text = h.holds.bytes; held_is = h.holds.fetched told; accepted = h.holds.accepted } };
      start_is = begins.start_is;
    }

same_held : (name : Option (List ℕ)) (before after : List ℕ → Option (List ℕ)) → ((other : List ℕ) → after other ≡ before other) → held_under name after ≡ held_under name before
same_held None before after same = refl
same_held (Some name) before after same = same name

module _ (words : List (List ℕ)) (round : ℕ) (pause : Option ℕ) (state : Status) (before : Before) (after : After) (output : List ℕ)
    (told : before.tells ≡ true) (known : IsSome before.written) (wrote : Appends before.written after.written output) where
  task_meets : (task : Task) → AskForRun words (record { task = task; round = round; pause = pause }) → IsCallOf (record { task = task; round = round; pause = pause }) state before after
      → MeetsClauses (record { task = task; pause = pause; before = held_under (name_of task) before.held; after = held_under (name_of task) after.held; output = output; ending = chain_ending state })
  task_meets task asked (inr stops) =
      stopped_meets task pause (held_under (name_of task) before.held) (held_under (name_of task) after.held) state output stops.stopped
      (same_output before.written after.written output [] known wrote stops.nothing)
      (same_held (name_of task) before.held after.held (stops.same told))
  task_meets (Begin q None) asked (inl ran) =
      let same = same_output before.written after.written ran.runs.output output known ran.runs.is_output.appended wrote in
      lone_meets q pause ran.start state ran.result before.written after.written output (lone_run words q asked.pace pause asked.command) ran.status_is ran.begins
      (subst (IsOutput ran.start pause before.written after.written ran.result) same ran.runs.is_output)
  task_meets (Begin q (Some name)) asked (inl ran) =
      let run = ran.runs.run in
      let same = same_output before.written after.written run.output output known run.is_output.appended wrote in
      kept_meets (Begin q (Some name)) (before.held name) (after.held name) ran.start round pause state ran.result before.written after.written output ran.status_is ran.begins
      (subst (IsOutput ran.start pause before.written after.written ran.result) same run.is_output)
      (subst (LeavesName ran.start round pause (before.held name) (after.held name) ran.result) same (run.left told))
  task_meets (Resume kind name) asked (inl ran) =
      let run = ran.runs.run in
      let same = same_output before.written after.written run.output output known run.is_output.appended wrote in
      kept_meets (Resume kind name) (before.held name) (after.held name) ran.start round pause state ran.result before.written after.written output ran.status_is (begun (Resume kind name) before ran.start told ran.begins)
      (subst (IsOutput ran.start pause before.written after.written ran.result) same run.is_output)
      (subst (LeavesName ran.start round pause (before.held name) (after.held name) ran.result) same (run.left told))

pub program_meets : (p : ProgramCall) → IsProgramCall p → MeetsClauses (call_of p)
program_meets p is = task_meets p.words p.order.round p.order.pause p.status p.before p.after p.output is.tells is.known is.wrote p.order.task is.asked is.call

pub all_meet : (calls : List ProgramCall) → AllByRecursion IsProgramCall calls → AllByRecursion MeetsClauses (map call_of calls)
all_meet [] all = tt
all_meet (p ∷ calls) all = (program_meets p all.0, all_meet calls all.1)
