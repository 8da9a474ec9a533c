-- Why the last call of a chain ended.
use Rattle.std.proofs.Common.{◌≡◌, ℕ, ◌-◌, ◌<◌, List, true, length, get_or, Option, Some, inl, inr, sym, ap, ◌∙◌, subst, arith}
use Rattle.std.specs.List.{HoldsAt}
use Rattle.dd_model.specs.Symbol.{Symbol}
use Rattle.dd_model.specs.Wanted.{IsCatalogue}
use Rattle.dd_model.specs.Request.{IsValid}
use Rattle.dd_model.specs.declared.requests.Request.{Request}
use Rattle.dd_model.specs.Text.{beginning}
use Rattle.dd_ports.specs.Causes.{Rose}
use Rattle.dd_ports.specs.Sinks.{memory_sink_held}
use Rattle.dd_ports.specs.declared.memory_sink.MemorySink.{MemorySink}
use Rattle.dd_check.specs.Between.{AreLinesBetween}
use Rattle.dd_front_jobs.specs.Portions.{whole}
use Rattle.dd_check.specs.declared.checkpoint.ResumeKind.{ResumeKind}
use Rattle.dd_check.specs.declared.checkpoint.ResumeKind.TheVariants.{Catalogues}
use Rattle.dd_check.specs.ShardFaults.{HasKindFault}
use Rattle.dd_check.specs.Calls.{Begin, Resume}
use Rattle.dd_check.specs.ChainStarts.{Start, StartsAt}
use Rattle.dd_check.proofs.LinesUpTo.{joined_between}
use Rattle.dd_check.proofs.Lone.{none_asked}
use Rattle.dd_pages_and_checkpoints.specs.MostLines.{most_lines}
use Rattle.dd_suite_tasks.specs.Arguments.{AreRefused}
use Rattle.dd_suite_tasks.specs.Beginnings.{BeginsAt}
use Rattle.dd_suite.specs.Chains.{ProgramCall, call_of}
use Rattle.dd_suite_tasks.specs.Cuts.{Pauses, CutsShort}
use Rattle.dd_suite_tasks.specs.Runs.{IsStopped, IsCallOf}
use Rattle.dd_suite_tasks.specs.Words.{Order, AskForRun}
use Rattle.dd_suite_tasks.specs.declared.status.Status.TheVariants as status
use Rattle.dd_suite.proofs.ProgramCalls.{begun}
use Rattle.dd_suite_tasks.proofs.Requests.{run_or_merge, one_order, not_both}
use Rattle.dd_suite.proofs.RunCalls.{rose_earlier}
use Rattle.dd_suite.proofs.RunEndings.{not_usage, not_refused}
use Rattle.dd_suite_chains.specs.Words.{AskToKeep, resume_words}
use Rattle.dd_suite_chains.specs.Runs.{Kept, IsRun}
use Rattle.dd_check.specs.ChainPuts.{IsNextMember}
use Rattle.dd_suite_chains.specs.Drives.{EndAs}
use Rattle.dd_suite_chains.specs.Sentences.{HasRisen, HasPaused, HoldsOutOfRange}
use Rattle.dd_suite_chains.proofs.HeldChecks.{IsUpTo, IsHeld, out_of_range, more_members}
use Rattle.dd_suite_chains.proofs.LastCalls.{IsLast, IsOnly}
use Rattle.dd_suite_chains.proofs.ResumeWords.{resume_order, first_order}

-- ## What a run says of its ending

module _ (words : List (List ℕ)) (from to : Kept) (old new : MemorySink) (p : ProgramCall) (is : IsRun words from to old new p) where
  store_rose : p.status ≡ status.StoreFault → Rose from.faults to.faults
  store_rose e =
      subst (λ b. Rose b.store_faults to.faults) is.before
      (subst (λ a. Rose p.before.store_faults a.store_faults) is.after (is.cause.store_fault e))

  sink_rose : p.status ≡ status.SinkFault → Rose old.faults new.faults
  sink_rose e =
      subst (λ b. Rose b.sink_faults new.faults) is.before
      (subst (λ a. Rose p.before.sink_faults a.sink_faults) is.after (is.cause.sink_fault e))

  run_pauses : p.status ≡ status.Paused → Pauses words true from.held (Some (memory_sink_held old)) (Some (memory_sink_held new))
  run_pauses e =
      subst (λ ws. Pauses ws true from.held (Some (memory_sink_held old)) (Some (memory_sink_held new))) is.words_are
      (subst (λ b. Pauses p.words b.tells b.held b.written (Some (memory_sink_held new))) is.before
      (subst (λ a. Pauses p.words p.before.tells p.before.held p.before.written a.written) is.after (is.cause.paused e)))

  never_usage : p.status ≡ status.Usage → ⊥
  never_usage e = go is.is_call.call
    where
      go : IsCallOf p.order p.status p.before p.after → ⊥
      go (inl ran) = not_usage ran.result (sym e ∙ ran.status_is)
      go (inr stops) = subst IsStopped e stops.stopped

  -- a refused call leaves each name as it was
  refused_same : (name : List ℕ) → p.status ≡ status.Refused → to.held name ≡ from.held name
  refused_same name e =
      sym (ap (λ a. a.held name) is.after) ∙ go is.is_call.call ∙ ap (λ b. b.held name) is.before
    where
      go : IsCallOf p.order p.status p.before p.after → p.after.held name ≡ p.before.held name
      go (inl ran) = absurd (not_refused ran.result (sym e ∙ ran.status_is))
      go (inr stops) = stops.same is.is_call.tells name

-- ## Calls that go on from the name

same_task : (kind : ResumeKind) (a b : List ℕ) → Resume kind a ≡ Resume Catalogues b → (kind ≡ Catalogues) × (a ≡ b)
same_task kind a b e = (cc, cc)

other_task : (q : Request) (n : Option (List ℕ)) (kind : ResumeKind) (name : List ℕ) → Begin (whole q) n ≡ Resume kind name → ⊥
other_task q n kind name e = cc

module _ (name : List ℕ) (asked : AskForRun (resume_words name) (resume_order name)) (from to : Kept) (old new : MemorySink) (p : ProgramCall) (is : IsRun (resume_words name) from to old new p) where
  pub resume_not_paused : p.status ≡ status.Paused → ⊥
  resume_not_paused e =
      let h = run_pauses (resume_words name) from to old new p is e in
      let same : h.order ≡ resume_order name = one_order (resume_words name) h.order (resume_order name) h.asked asked in
      none_asked h.lines.pause_is.lines (sym (ap (λ (o : Order). o.pause) same) ∙ h.lines.pause_is.asked)

  -- the text that the name holds has a fault
  pub resume_refused : (q : Request) → IsValid q → IsHeld q (from.held name) → p.status ≡ status.Refused → HoldsOutOfRange (to.held name)
  resume_refused q valid held e =
      subst HoldsOutOfRange (sym (refused_same (resume_words name) from to old new p is name e)) (go (is.cause.refused e))
    where
      go : AreRefused p.words p.before.tells p.before.held → HoldsOutOfRange (from.held name)
      go (inl (fault, file)) = absurd (not_both p.words p.order file.command file.name is.is_call.asked file.asked)
      go (inr (inl (refusal, file))) = absurd (not_both p.words p.order file.command file.name is.is_call.asked file.asked)
      go (inr (inr (inl (fault, check)))) =
          let same = same_task check.kind check.name name (ap (λ (o : Order). o.task)
          (one_order (resume_words name) (record { task = Resume check.kind check.name; round = check.asked.round; pause = check.asked.pause }) (resume_order name)
          (subst (λ ws. AskForRun ws (record { task = Resume check.kind check.name; round = check.asked.round; pause = check.asked.pause })) is.words_are check.asked.run) asked)) in
          let held_is : from.held name ≡ Some check.holds.bytes =
          sym (ap (λ b. b.held name) is.before) ∙ ap p.before.held (sym same.1) ∙ check.holds.fetched is.is_call.tells in
          out_of_range q (from.held name) check.holds.bytes fault valid held held_is (subst (λ kind. HasKindFault kind check.holds.bytes fault) same.0 check.holds.faulty)
      go (inr (inr (inr (refusal, files)))) = absurd (run_or_merge p.words p.order files.names is.is_call.asked files.asked)

-- ## The first call

pub first_refused : (words : List (List ℕ)) (name : List ℕ) (asked : AskToKeep words name) (from to : Kept) (old new : MemorySink) (p : ProgramCall) → IsRun words from to old new p
    → p.status ≡ status.Refused → ⊥
first_refused words name asked from to old new p is e = go (is.cause.refused e)
  where
    go : AreRefused p.words p.before.tells p.before.held → ⊥
    go (inl (fault, file)) = not_both p.words p.order file.command file.name is.is_call.asked file.asked
    go (inr (inl (refusal, file))) = not_both p.words p.order file.command file.name is.is_call.asked file.asked
    go (inr (inr (inr (refusal, files)))) = run_or_merge p.words p.order files.names is.is_call.asked files.asked
    go (inr (inr (inl (fault, check)))) =
        other_task asked.request (Some name) check.kind check.name (ap (λ (o : Order). o.task)
        (one_order words (first_order asked) (record { task = Resume check.kind check.name; round = check.asked.round; pause = check.asked.pause }) asked.run
        (subst (λ ws. AskForRun ws (record { task = Resume check.kind check.name; round = check.asked.round; pause = check.asked.pause })) is.words_are check.asked.run)))

-- ## Lines that are too many

pub too_many : (words : List (List ℕ)) (from to : Kept) (old new : MemorySink) (p : ProgramCall) (q : Request) (members : List Symbol) → IsRun words from to old new p
    → ((s : Start) → StartsAt (call_of p) s → IsUpTo q s) → p.status ≡ status.TooManyLines → IsCatalogue q members → most_lines < length members
too_many words from to old new p q members is upto e all =
    let h : CutsShort p.words p.before.tells p.before.held p.before.written p.after.written = is.cause.cut_short e in
    let same : h.order ≡ p.order = one_order p.words h.order p.order h.asked is.is_call.asked in
    let begins : BeginsAt p.order.task p.before.tells p.before.held h.start = subst (λ (o : Order). BeginsAt o.task p.before.tells p.before.held h.start) same h.begins in
    let u = upto h.start (begun p.order.task p.before h.start is.is_call.tells begins) in
    let rest = h.lines.lines in
    let s = h.start in
    let whole = joined_between (whole q) beginning s.at rest.at 0 s.lines most_lines u.bytes h.output u.lines
    (subst (λ r. AreLinesBetween r s.at rest.at s.lines most_lines h.output) u.portion rest.written) in
    more_members q rest.at most_lines _ members whole (subst (λ r. IsNextMember r rest.at) u.portion rest.next) all

-- ## The sentences on the last call

module _ (q : Request) (name : List ℕ) (from to : Kept) (olds news : List MemorySink) (calls : List ProgramCall) (said : List (List ℕ)) (last : IsLast q name from to olds news calls said) where
  pub last_store : EndAs calls status.StoreFault → Rose from.faults to.faults
  last_store e =
      rose_earlier from.faults last.mid.faults to.faults last.later
      (store_rose said last.mid to last.old last.new last.call last.is_run (last.ended status.StoreFault e))

  pub last_sink : (runs : ℕ) → runs ≡ length calls → EndAs calls status.SinkFault → HasRisen olds news runs
  last_sink runs count e =
      let rose = sink_rose said last.mid to last.old last.new last.call last.is_run (last.ended status.SinkFault e) in
      let place = last.place_is in
      let at : last.place ≡ runs - 1 = omega (arith, count, place) in
      subst (λ k. HoldsAt (λ (s : MemorySink). HoldsAt (λ (t : MemorySink). Rose s.faults t.faults) news k) olds k) at
      (λ d e. subst (λ (s : MemorySink). Rose s.faults (get_or news last.place e).faults) (sym (last.old_is d))
      (subst (λ (t : MemorySink). Rose last.old.faults t.faults) (sym (last.new_is e)) rose))

  pub last_usage : EndAs calls status.Usage → ⊥
  last_usage e = never_usage said last.mid to last.old last.new last.call last.is_run (last.ended status.Usage e)

  pub last_too_many : (members : List Symbol) → EndAs calls status.TooManyLines → IsCatalogue q members → most_lines < length members
  last_too_many members e is = too_many said last.mid to last.old last.new last.call q members last.is_run last.upto (last.ended status.TooManyLines e) is

pub only_paused : (words : List (List ℕ)) (name : List ℕ) (from to : Kept) (olds news : List MemorySink) (calls : List ProgramCall) (q : Request) → IsOnly words name from to olds news calls q
    → EndAs calls status.Paused → HasPaused words from olds news
only_paused words name from to olds news calls q only e =
    let last = only.last in
    let pauses : Pauses words true from.held (Some (memory_sink_held last.old)) (Some (memory_sink_held last.new)) =
    subst (λ (k : Kept). Pauses words true k.held (Some (memory_sink_held last.old)) (Some (memory_sink_held last.new))) only.same
    (run_pauses words last.mid to last.old last.new last.call last.is_run (last.ended status.Paused e)) in
    let one = only.one in
    let place = last.place_is in
    let at : last.place ≡ 0 = omega (arith, one, place) in
    subst (λ k. HoldsAt (λ (s : MemorySink). HoldsAt (λ (t : MemorySink). Pauses words true from.held (Some (memory_sink_held s)) (Some (memory_sink_held t))) news k) olds k) at
    (λ d e. subst (λ (s : MemorySink). Pauses words true from.held (Some (memory_sink_held s)) (Some (memory_sink_held (get_or news last.place e)))) (sym (last.old_is d))
    (subst (λ (t : MemorySink). Pauses words true from.held (Some (memory_sink_held last.old)) (Some (memory_sink_held t))) (sym (last.new_is e)) pauses))
