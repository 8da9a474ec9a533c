-- What the outcome of words says of the statuses.
use Rattle.std.proofs.Common.{◌≡◌, ◌⊎◌, ◌≤◌, ℕ, List, [], true, Result, Ok, Err, IsErrOf, length, inl, inr, refl, sym, ap, ◌∙◌, subst}
use Rattle.std.specs.Prelude.{OnOk}
use Rattle.dd_model.specs.Symbol.{Symbol}
use Rattle.dd_front_jobs.specs.declared.portions.Portion.{Portion}
use Rattle.dd_front_jobs.specs.Portions.{ArePortionMembers}
use Rattle.dd_ports.specs.Causes.{Rose}
use Rattle.dd_ports.specs.Grows.{GrowsByPrefix}
use Rattle.dd_ports.specs.declared.sink.SinkFault.{SinkFault as WriteFault}
use Rattle.dd_ports.specs.declared.sink.SinkFault.TheVariants.{Failed, Memory as NoRoom}
use Rattle.dd_check.specs.declared.checkpoint.ResumeKind.{ResumeKind}
use Rattle.dd_check.specs.Calls.{Begin, Resume}
use Rattle.dd_check.specs.ChainStarts.{Start}
use Rattle.dd_pages_and_checkpoints.specs.MostLines.{most_lines}
use Rattle.dd_pages_and_checkpoints.specs.Runs.{WritesRest}
use Rattle.dd_suite_tasks.specs.declared.ending.Ending.{Ending}
use Rattle.dd_suite_tasks.specs.declared.ending.Ending.TheVariants as ending
use Rattle.dd_suite_tasks.specs.declared.status.Status.{Status}
use Rattle.dd_suite_tasks.specs.declared.status.Status.TheVariants.{Done, Usage, Refused, Paused, StoreFault, SinkFault, Memory, TooManyLines}
use Rattle.dd_suite_tasks.specs.Arguments.{AreRefused, IsFileAccepted, IsCheckAccepted, KeepUnder, SameButKept}
use Rattle.dd_suite_tasks.specs.Beginnings.{HoldsSomeCheck}
use Rattle.dd_suite_tasks.specs.Cuts.{Pauses, CutsShort, IsEndOfOwn}
use Rattle.dd_suite_tasks.specs.Endings.{status_of}
use Rattle.dd_suite_tasks.specs.Messages.{IsItsCause}
use Rattle.dd_suite_tasks.specs.Outside.{Before, After, WritesNothing, KeepsNames}
use Rattle.dd_suite_tasks.specs.Output.{AppendsOutput, IsKnownOutput, IsFileOutput}
use Rattle.dd_suite_tasks.specs.Runs.{IsStopped, IsCallOf}
use Rattle.dd_suite_tasks.specs.Stops.{IsOutcome, untaken, unread, on_file, of_merge, of_exercise, of_run}
use Rattle.dd_suite_tasks.specs.Words.{Order, run_command, file_command, AskForRun, AskFor, AskToResume, NameFile, AreTaken}
use Rattle.dd_suite.proofs.ExerciseOutcomes.{exercise_known, exercise_whole, exercise_complete, exercise_told, exercise_sink, exercise_never}
use Rattle.dd_suite_tasks.specs.Merges.{AskToMerge, IsMergeOfHeld}
use Rattle.dd_suite_tasks.specs.MergeEndings.{IsMergeAccepted}
use Rattle.dd_suite.proofs.MergeOutcomes.{merge_known, merge_whole, merge_nothing, merge_refused, merge_quiet, merge_complete, merge_told, merge_store, merge_sink, merge_never}
use Rattle.dd_suite.proofs.FileOutcomes.{file_known, file_whole, file_nothing, file_refused, file_quiet, file_complete, file_told, file_store, file_sink, file_usage, file_ends}
use Rattle.dd_suite_tasks.proofs.Requests.{one_order, one_merge, not_both, run_or_merge, file_or_merge, run_or_exercise, file_or_exercise, merge_or_exercise}
use Rattle.dd_suite.proofs.RunEndings.{done_ending, usage_ending, store_ending, sink_ending, whole_result}
use Rattle.dd_suite.proofs.RunOutcomes.{ran_known, ran_whole, ran_pauses, ran_cuts, ran_store, ran_quiet, ran_told, ran_complete}
use Rattle.dd_suite.proofs.RunOutcomes.{stop_refused, stop_complete, stop_told, run_usage, run_store, run_sink, stop_usage, stop_store, stop_sink}
use Rattle.dd_suite.proofs.RunOutputs.{output_of, rest_written, few_members}

-- what was told in whole, or was cut off by a fault that was counted, or for want of memory
pub told_or_short : (r : Result Unit WriteFault) (A B C : Type 0) → OnOk r A → (IsErrOf r Failed → B) → (IsErrOf r NoRoom → C) → A ⊎ (B ⊎ C)
told_or_short (Ok u) A B C whole failed short = inl whole
told_or_short (Err Failed) A B C whole failed short = inr (inl (failed refl))
told_or_short (Err NoRoom) A B C whole failed short = inr (inr (short refl))

-- the status of an ending is another one
other : (e f : Ending) (s : Status) → e ≡ f → status_of e ≡ s → status_of f ≡ s
other e f s is h = sym (ap status_of is) ∙ h

module _ (words : List (List ℕ)) (end : Ending) (before : Before) (after : After) where
  pub known : IsOutcome words end before after → (bytes : List ℕ) → IsKnownOutput words before.tells before.held bytes → GrowsByPrefix before.written after.written bytes
  known (untaken e none left) bytes is = ([], bytes, refl, left.nothing)
  known (unread e left) bytes is = ([], bytes, refl, left.nothing)
  known (on_file command name asked ends) bytes is = file_known words command name before after asked end ends bytes is
  known (of_exercise start count asked ends) bytes is = exercise_known words start count before after asked end ends bytes is
  known (of_merge names asked ends) bytes is = merge_known words names before after asked end ends bytes is
  known (of_run order asked (inl ends)) bytes is = ran_known words order before after asked (status_of end) ends.ran bytes is
  known (of_run order asked (inr stops)) bytes is = ([], bytes, refl, stops.not_run.nothing)

  pub whole : IsOutcome words end before after → status_of end ≡ Done → AppendsOutput words before.tells before.held before.written after.written
  whole (untaken e none left) h = let f = other end ending.Usage Done e h in absurd (cc)
  whole (unread e left) h = let f = other end ending.Memory Done e h in absurd (cc)
  whole (on_file command name asked ends) h = file_whole words command name before after asked end ends (done_ending end h)
  whole (of_exercise start count asked ends) h = exercise_whole words start count before after asked end ends (done_ending end h)
  whole (of_merge names asked ends) h = merge_whole words names before after asked end ends (done_ending end h)
  whole (of_run order asked (inl ends)) h = ran_whole words order before after asked (status_of end) ends.ran h
  whole (of_run order asked (inr stops)) h = let f : IsStopped Done = subst IsStopped h stops.not_run.stopped in absurd f

  call : IsOutcome words end before after → (order : Order) → AskForRun words order → IsCallOf order (status_of end) before after
  call (untaken e none left) order asked = absurd (none (run_command order.task asked.pace order.pause, asked.command))
  call (unread e left) order asked = inr (record { stopped = subst (λ x. IsStopped (status_of x)) (sym e) tt; nothing = left.nothing; same = left.same })
  call (on_file command name named ends) order asked = absurd (not_both words order command name asked named)
  call (of_exercise start count is ends) order asked = absurd (run_or_exercise words order start count asked is)
  call (of_merge names is ends) order asked = absurd (run_or_merge words order names asked is)
  call (of_run other is (inl ends)) order asked = subst (λ o. IsCallOf o (status_of end) before after) (one_order words other order is asked) (inl ends.ran)
  call (of_run other is (inr stops)) order asked = inr stops.not_run

  pub call_as : IsOutcome words end before after → (state : Status) → state ≡ status_of end → (order : Order) → AskForRun words order → IsCallOf order state before after
  call_as outcome state e order asked = subst (λ s. IsCallOf order s before after) (sym e) (call outcome order asked)

  -- words that go on from no checkpoint text write nothing, and leave every name as it was
  pub not_resumed : IsOutcome words end before after → (kind : ResumeKind) (name : List ℕ) → AskToResume words kind name → (HoldsSomeCheck kind before.tells (before.held name) → ⊥)
      → WritesNothing before after × KeepsNames before after
  not_resumed outcome kind name asked none = go (call outcome (record { task = Resume kind name; round = asked.round; pause = asked.pause }) asked.run)
    where
      go : IsCallOf (record { task = Resume kind name; round = asked.round; pause = asked.pause }) (status_of end) before after → WritesNothing before after × KeepsNames before after
      go (inl ran) = absurd (none ran.begins.held_is)
      go (inr stops) = (stops.nothing, stops.same)

  pub usage : IsOutcome words end before after → status_of end ≡ Usage → AreTaken words → ⊥
  usage (untaken e none left) h = none
  usage (unread e left) h = let f = other end ending.Memory Usage e h in absurd (cc)
  usage (on_file command name asked ends) h = absurd (file_usage command name end before after (usage_ending end h) ends.cause)
  usage (of_exercise start count asked ends) h = absurd (exercise_never end before.sink_faults after.sink_faults Usage ends.cause h tt)
  usage (of_merge names asked ends) h = absurd (merge_never names end before after Usage ends.cause h tt)
  usage (of_run order asked (inl ends)) h = absurd (run_usage end ends.ran.start order.pause before after (usage_ending end h) ends.cause)
  usage (of_run order asked (inr stops)) h = absurd (stop_usage end order.task before after (usage_ending end h) stops.cause)

  pub not_taken : IsOutcome words end before after → (¬ AreTaken words) → (status_of end ≡ Usage) ⊎ (status_of end ≡ Memory)
  not_taken (untaken e none left) h = inl (ap status_of e)
  not_taken (unread e left) h = inr (ap status_of e)
  not_taken (on_file command name asked ends) h = absurd (h (file_command command name, asked))
  not_taken (of_exercise start count asked ends) h = absurd (h (_, asked))
  not_taken (of_merge names asked ends) h = absurd (h (_, asked))
  not_taken (of_run order asked o) h = absurd (h (run_command order.task asked.pace order.pause, asked.command))

  pub refused : IsOutcome words end before after → status_of end ≡ Refused → AreRefused words before.tells before.held
  refused (untaken e none left) h = let f = other end ending.Usage Refused e h in absurd (cc)
  refused (unread e left) h = let f = other end ending.Memory Refused e h in absurd (cc)
  refused (on_file command name asked ends) h = file_refused words command name before after asked end ends h
  refused (of_exercise start count asked ends) h = absurd (exercise_never end before.sink_faults after.sink_faults Refused ends.cause h tt)
  refused (of_merge names asked ends) h = merge_refused words names before after asked end ends h
  refused (of_run order asked (inl ends)) h = absurd (ran_quiet words order before after asked (status_of end) ends.ran (inl h))
  refused (of_run order asked (inr stops)) h = stop_refused words order before after asked end stops h

  quiet : IsOutcome words end before after → (status_of end ≡ Refused) ⊎ ((status_of end ≡ StoreFault) × ((name : List ℕ) → KeepUnder words name → ⊥)) → WritesNothing before after
  quiet (untaken e none left) h = left.nothing
  quiet (unread e left) h = left.nothing
  quiet (on_file command name asked ends) (inl h) = file_quiet words command name before after asked end ends (inl h)
  quiet (on_file command name asked ends) (inr h) = file_quiet words command name before after asked end ends (inr h.0)
  quiet (of_exercise start count asked ends) (inl h) = absurd (exercise_never end before.sink_faults after.sink_faults Refused ends.cause h tt)
  quiet (of_exercise start count asked ends) (inr h) = absurd (exercise_never end before.sink_faults after.sink_faults StoreFault ends.cause h.0 tt)
  quiet (of_merge names asked ends) (inl h) = merge_quiet words names before after asked end ends (inl h)
  quiet (of_merge names asked ends) (inr h) = merge_quiet words names before after asked end ends (inr h.0)
  quiet (of_run order asked (inl ends)) h = absurd (ran_quiet words order before after asked (status_of end) ends.ran h)
  quiet (of_run order asked (inr stops)) h = stops.not_run.nothing

  pub quiet_as : IsOutcome words end before after → (state : Status) → state ≡ status_of end → (state ≡ Refused) ⊎ ((state ≡ StoreFault) × ((name : List ℕ) → KeepUnder words name → ⊥))
      → WritesNothing before after
  quiet_as outcome state e h = quiet outcome (subst (λ s. (s ≡ Refused) ⊎ ((s ≡ StoreFault) × ((name : List ℕ) → KeepUnder words name → ⊥))) e h)

  pub nothing : IsOutcome words end before after → NameFile words → ((text : List ℕ) → IsFileOutput words before.tells before.held text → ⊥) → WritesNothing before after
  nothing (untaken e none left) named no_text = left.nothing
  nothing (unread e left) named no_text = left.nothing
  nothing (on_file command name asked ends) named no_text = file_nothing words command name before after asked end ends no_text
  nothing (of_exercise start count asked ends) named no_text = absurd (file_or_exercise words named.0 named.1 start count named.2 asked)
  nothing (of_merge names asked ends) named no_text = absurd (file_or_merge words named.0 named.1 names named.2 asked)
  nothing (of_run order asked o) named no_text = absurd (not_both words order named.0 named.1 asked named.2)

  -- words that merge files with no merged text write nothing
  pub not_merged : IsOutcome words end before after → (names : List (List ℕ)) → AskToMerge words names → ((text : List ℕ) → IsMergeOfHeld names before.tells before.held text → ⊥) → WritesNothing before after
  not_merged (untaken e none left) names asked no_text = left.nothing
  not_merged (unread e left) names asked no_text = left.nothing
  not_merged (on_file command name is ends) names asked no_text = absurd (file_or_merge words command name names is asked)
  not_merged (of_merge others is ends) names asked no_text =
      merge_nothing words others before after is end ends
      (λ text output. no_text text (subst (λ ns. IsMergeOfHeld ns before.tells before.held text) (one_merge words output.names names output.asked asked) output.text))
  not_merged (of_exercise start count is ends) names asked no_text = absurd (merge_or_exercise words names start count asked is)
  not_merged (of_run order is o) names asked no_text = absurd (run_or_merge words order names is asked)

  -- ## What the store holds, and its faults

  all_same : KeepsNames before after → before.tells ≡ true → SameButKept words before.held after.held
  all_same same told name free = same told name

  pub store : IsOutcome words end before after → before.tells ≡ true → SameButKept words before.held after.held
  store (untaken e none left) = all_same left.same
  store (unread e left) = all_same left.same
  store (on_file command name asked ends) = all_same ends.same
  store (of_exercise start count asked ends) = all_same ends.same
  store (of_merge names asked ends) = all_same ends.same
  store (of_run order asked (inl ends)) = ran_store words order before after asked (status_of end) ends.ran
  store (of_run order asked (inr stops)) = all_same stops.not_run.same

  pub store_fault : IsOutcome words end before after → status_of end ≡ StoreFault → Rose before.store_faults after.store_faults
  store_fault (untaken e none left) h = let f = other end ending.Usage StoreFault e h in absurd (cc)
  store_fault (unread e left) h = let f = other end ending.Memory StoreFault e h in absurd (cc)
  store_fault (on_file command name asked ends) h = file_store command name end before after (store_ending end h) ends.cause
  store_fault (of_exercise start count asked ends) h = absurd (exercise_never end before.sink_faults after.sink_faults StoreFault ends.cause h tt)
  store_fault (of_merge names asked ends) h = merge_store names end before after (store_ending end h) ends.cause
  store_fault (of_run order asked (inl ends)) h = run_store end ends.ran.start order.pause before after (store_ending end h) ends.cause
  store_fault (of_run order asked (inr stops)) h = stop_store end order.task before after (store_ending end h) stops.cause

  pub sink_fault : IsOutcome words end before after → status_of end ≡ SinkFault → Rose before.sink_faults after.sink_faults
  sink_fault (untaken e none left) h = let f = other end ending.Usage SinkFault e h in absurd (cc)
  sink_fault (unread e left) h = let f = other end ending.Memory SinkFault e h in absurd (cc)
  sink_fault (on_file command name asked ends) h = file_sink command name end before after (sink_ending end h) ends.cause
  sink_fault (of_exercise start count asked ends) h = exercise_sink end before.sink_faults after.sink_faults (sink_ending end h) ends.cause
  sink_fault (of_merge names asked ends) h = merge_sink names end before after (sink_ending end h) ends.cause
  sink_fault (of_run order asked (inl ends)) h = run_sink end ends.ran.start order.pause before after (sink_ending end h) ends.cause
  sink_fault (of_run order asked (inr stops)) h = absurd (stop_sink end order.task before after (sink_ending end h) stops.cause)

  -- ## Runs that leave out lines

  pub paused : IsOutcome words end before after → status_of end ≡ Paused → Pauses words before.tells before.held before.written after.written
  paused (untaken e none left) h = let f = other end ending.Usage Paused e h in absurd (cc)
  paused (unread e left) h = let f = other end ending.Memory Paused e h in absurd (cc)
  paused (on_file command name asked ends) h = absurd (file_ends command name end before after ends.cause (inl h))
  paused (of_exercise start count asked ends) h = absurd (exercise_never end before.sink_faults after.sink_faults Paused ends.cause h tt)
  paused (of_merge names asked ends) h = absurd (merge_never names end before after Paused ends.cause h tt)
  paused (of_run order asked (inl ends)) h = ran_pauses words order before after asked (status_of end) ends.ran h
  paused (of_run order asked (inr stops)) h = let f : IsStopped Paused = subst IsStopped h stops.not_run.stopped in absurd f

  pub cut_short : IsOutcome words end before after → status_of end ≡ TooManyLines → CutsShort words before.tells before.held before.written after.written
  cut_short (untaken e none left) h = let f = other end ending.Usage TooManyLines e h in absurd (cc)
  cut_short (unread e left) h = let f = other end ending.Memory TooManyLines e h in absurd (cc)
  cut_short (on_file command name asked ends) h = absurd (file_ends command name end before after ends.cause (inr h))
  cut_short (of_exercise start count asked ends) h = absurd (exercise_never end before.sink_faults after.sink_faults TooManyLines ends.cause h tt)
  cut_short (of_merge names asked ends) h = absurd (merge_never names end before after TooManyLines ends.cause h tt)
  cut_short (of_run order asked (inl ends)) h = ran_cuts words order before after asked (status_of end) ends.ran h
  cut_short (of_run order asked (inr stops)) h = let f : IsStopped TooManyLines = subst IsStopped h stops.not_run.stopped in absurd f

  pub not_cut : IsOutcome words end before after → status_of end ≡ Done → (q : Portion) (members : List Symbol) → AskFor words q → ArePortionMembers q members → length members ≤ most_lines
  not_cut outcome h q members asked is = go (call outcome (record { task = Begin q asked.name; round = asked.round; pause = asked.pause }) asked.run)
    where
      go : IsCallOf (record { task = Begin q asked.name; round = asked.round; pause = asked.pause }) (status_of end) before after → length members ≤ most_lines
      go (inl ran) =
          let out = output_of asked.name ran.start asked.round asked.pause before after ran.result ran.runs in
          let rest = rest_written ran.start asked.pause before.written after.written ran.result out.0 (whole_result ran.result (sym h ∙ ran.status_is)) out.1 in
          few_members q asked.pause out.0 members (subst (λ (s : Start). WritesRest s asked.pause out.0) ran.begins rest) is
      go (inr stops) = let f : IsStopped Done = subst IsStopped h stops.stopped in absurd f

  pub complete : IsOutcome words end before after → AreTaken words → IsFileAccepted words before.tells before.held → IsCheckAccepted words before.tells before.held → IsMergeAccepted words before.tells before.held
      → (¬ Rose before.store_faults after.store_faults) → (¬ Rose before.sink_faults after.sink_faults) → IsEndOfOwn (status_of end) ⊎ (status_of end ≡ Memory)
  complete (untaken e none left) taken file check merged kept sank = absurd (none taken)
  complete (unread e left) taken file check merged kept sank = inr (ap status_of e)
  complete (on_file command name asked ends) taken file check merged kept sank = file_complete words command name before after asked end ends file kept sank
  complete (of_exercise start count asked ends) taken file check merged kept sank = exercise_complete end before.sink_faults after.sink_faults ends.cause sank
  complete (of_merge names asked ends) taken file check merged kept sank = merge_complete words names before after asked end ends merged kept sank
  complete (of_run order asked (inl ends)) taken file check merged kept sank = ran_complete end ends.ran.start order.pause before after ends.cause kept sank
  complete (of_run order asked (inr stops)) taken file check merged kept sank = inr (stop_complete words order before after asked end stops check kept)

  pub told : IsOutcome words end before after → IsItsCause end words before.tells before.held
  told (untaken e none left) = subst (λ x. IsItsCause x words before.tells before.held) (sym e) tt
  told (unread e left) = subst (λ x. IsItsCause x words before.tells before.held) (sym e) tt
  told (on_file command name asked ends) = file_told words command name before after asked end ends
  told (of_exercise start count asked ends) = exercise_told end words before before.sink_faults after.sink_faults ends.cause
  told (of_merge names asked ends) = merge_told words names before after asked end ends
  told (of_run order asked (inl ends)) = ran_told words order before after asked end ends
  told (of_run order asked (inr stops)) = stop_told words order before after asked end stops
