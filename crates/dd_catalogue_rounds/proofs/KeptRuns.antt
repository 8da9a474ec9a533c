-- Runs that keep checkpoints.
use Rattle.std.proofs.Common.{◌≡◌, ◌≢◌, ◌⊎◌, ℕ, ◌*◌, ◌<◌, ◌≤◌, min, List, [], ◌∷◌, ◌++◌, Bool, true, false, Option, Result, Ok, Err, IsOk, IfOk, length, length-append, append_assoc, take, inl, inr, ⊎_elim, refl, sym, ap, ◌∙◌, subst, arith}
use Rattle.std.proofs.lemmas.List.{append-nil, take_all, take-append-le}
use Rattle.std.specs.Io.KnownBytes.{Appends}
use Rattle.std.specs.List.{AllByRecursion, Contains}
use Rattle.std.proofs.lemmas.Bool.{cases_eq}
use Rattle.std.specs.Prelude.{if◌then◌else◌, MatchBool}
use Rattle.dd_model.specs.Position.{IsWhollyBefore, IsWithin}
use Rattle.dd_model.specs.Text.{AreLines, beginning, first_job}
use Rattle.dd_model.specs.declared.jobs.Job.{Job}
use Rattle.dd_model.specs.declared.jobs.Position.{Position}
use Rattle.dd_model.specs.declared.jobs.Position.TheVariants.{At, End}
use Rattle.dd_model.proofs.Ascending.{same_when_whole}
use Rattle.dd_model.proofs.Lists.{Contains-head, Contains-none}
use Rattle.dd_model.proofs.Without.{without_there, without_kept}
use Rattle.dd_front.specs.declared.entry.Entry.{Entry}
use Rattle.dd_front.specs.Machine.{Machine, StandsAt, jobs_of}
use Rattle.dd_front.specs.Step.{at_symbol}
use Rattle.dd_front.proofs.Absorbing.{all_back}
use Rattle.dd_front.proofs.Entries.{jobs_opened}
use Rattle.dd_front.proofs.Standing.{stands_once, stands_somewhere}
use Rattle.dd_front_jobs.specs.declared.portions.Portion.{Portion}
use Rattle.dd_front_jobs.specs.Portions.{IsPortionJob}
use Rattle.dd_front_jobs.proofs.PortionLaws.{portion_job}
use Rattle.dd_check.specs.declared.checkpoint.Checkpoint.{Checkpoint}
use Rattle.dd_ports.proofs.Growth.{Appends_trans}
use Rattle.dd_check.specs.Between.{AreLinesBetween}
use Rattle.dd_check.specs.Clauses.{HasWork}
use Rattle.dd_check.specs.ChainPuts.{IsPut, IsStop, IsNextMember}
use Rattle.dd_check.specs.ChainStarts.{Start, first_start}
use Rattle.dd_pages_and_checkpoints.specs.Pages.{IsEmpty}
use Rattle.dd_pages_and_checkpoints.specs.Rounds.{AreJobsFrom, AreOpen}
use Rattle.dd_pages_and_checkpoints.specs.MostLines.{most_lines}
use Rattle.dd_pages_and_checkpoints.specs.Runs.{IsLimit, IsPause, IsBeforePause, Finishes}
use Rattle.dd_pages_and_checkpoints.specs.declared.finish.Finish.TheVariants.{Whole, Paused, CutShort}
use Rattle.dd_pages_and_checkpoints.specs.declared.limit.Limit.{Limit}
use Rattle.dd_pages_and_checkpoints.specs.Saves.{HoldsCheckAt, Saves, SavesFirst, IsOfRound}
use Rattle.dd_pages_and_checkpoints.specs.Names.{KeepsName, PutsCheck, PutsAtEnd, PutsAtPause, PutsBeforeLast, LeavesName, FinishesName, HasRun}
use Rattle.dd_pages_and_checkpoints.specs.declared.fault.RunFault.{RunFault}
use Rattle.dd_pages_and_checkpoints.specs.declared.finish.Finish.{Finish}
use Rattle.dd_pages_and_checkpoints.specs.declared.pages.Page.{Page}
use Rattle.dd_catalogue_rounds.specs.Works.{AreWork, IsStarted}
use Rattle.dd_catalogue_rounds.specs.Ways.{Way, IsUnderWay, IsFull}
use Rattle.dd_catalogue_rounds.specs.Outs.{IsPartOut}
use Rattle.dd_catalogue_rounds.specs.Kept.{HasNotMoved, IsPutAt, HasKept, IsMid, IsHead}
use Rattle.dd_catalogue_rounds.proofs.JobsFrom.{from_opening}
use Rattle.dd_catalogue_rounds.proofs.Outcomes.{WentOut, went_out, held_between, lines_between, shown_earlier, finish_whole, finish_full, full_lines}
use Rattle.dd_catalogue_rounds.proofs.RoundEntries.{done_early}
use Rattle.dd_catalogue_rounds.proofs.WaySteps.{appends_nothing, way_first, way_part, full_part, begun_open}
use Rattle.dd_catalogue_rounds.proofs.Working.{IsRoundStop, begun_of, work_left, taken_part}

-- a run with a job has work
has_work : (s : Start) (jobs : List Job) (c : Job) → AreWork s.portion s.at jobs → Contains jobs c → HasWork s
has_work s jobs c work there =
    let of = work.extend c there in
    record {
      job = of.job;
      opening = from_opening s.portion s.at work.whole of.job work.from of.listed;
      left = (without_there (IsWhollyBefore s.at) work.from.opening work.whole of.job work.from.left of.listed).1;
    }

pub job_work : (w : Way) (now : Option (List ℕ)) (page : Page) (f : Machine) (c : Job) → ((job : Job) → Contains w.jobs job → HasWork w.start) → IsUnderWay w now page f → Contains (jobs_of f.entries) c → HasWork w.start
job_work w now page f c owed way there = let own = way.emitted.held.go_on.extend c there in owed own.0 own.1

-- a run may stop between two rounds
pub round_stop : (q : Portion) (p : Position) → IsRoundStop q p → IsStop q p
round_stop q End stop = tt
round_stop q (At job) stop = inl stop

-- ## Checkpoints that were put

-- what tells all of some bytes tells as much of more
more_put : (s : Start) (held : Option (List ℕ)) (base z output : List ℕ) (c : Checkpoint) → output ≡ base ++ z → c.bytes ≡ length base → IsPut held base s c → IsPut held output s c
more_put s held base z output c is all put =
    let size = ap length is ∙ length-append base z in
    let low : c.bytes ≤ length base = omega (arith, all) in
    let front : take c.bytes output ≡ take c.bytes base = ap (take c.bytes) is ∙ take-append-le c.bytes base z low in
    record {
      text = put.text;
      held = put.held;
      is_text = put.is_text;
      fit = put.fit;
      run = put.run;
      request = put.request;
      within = omega (arith, size, all);
      written = subst (AreLinesBetween s.portion s.at c.at s.lines c.lines) (sym front) put.written;
      stop = put.stop;
    }

-- a checkpoint that was put where the machine stands, with all its lines written
pub check_put : (s : Start) (page : Page) (f : Machine) (held : Option (List ℕ)) (output : List ℕ) (check : HoldsCheckAt s page f held) → page.collected.written ≡ length output
    → AreLinesBetween s.portion s.at check.is_check.check.at s.lines page.count output → IsStop s.portion check.is_check.check.at → IsPut held output s check.is_check.check
check_put s page f held output check bytes lines stop =
    let c = check.is_check.check in
    let all : c.bytes ≡ length output = check.is_check.bytes ∙ bytes in
    let whole : take c.bytes output ≡ output = take_all c.bytes output (omega (arith, all)) in
    record {
      text = check.text;
      held = check.held_is;
      is_text = check.is_check.is_text;
      fit = check.is_check.fit;
      run = check.is_check.run;
      request = check.is_check.request;
      within = omega (arith, all);
      written = subst (AreLinesBetween s.portion s.at c.at s.lines c.lines) (sym whole) (subst (λ n. AreLinesBetween s.portion s.at c.at s.lines n output) (sym check.is_check.lines) lines);
      stop = stop;
    }

-- ## What the name is left with

-- a run that wrote nothing shows no member
pub none_shown : (s : Start) (most : ℕ) (p : Position) → IsOfRound s most p []
none_shown s most p m member later shown not = let shorter = shown.shorter in absurd (omega (arith, shorter))

-- a checkpoint that tells all of the output: each member of it is before where the checkpoint stands
told_shown : (s : Start) (most : ℕ) (p : Position) (output : List ℕ) (n : ℕ) → AreLinesBetween s.portion s.at p s.lines n output → IsOfRound s most p output
told_shown s most p output n lines m member later shown not = absurd (not (shown_earlier s p n output lines m member shown))

-- a checkpoint that tells all of some bytes, and more went out of the same round
puts_more : (s : Start) (most : ℕ) (held : Option (List ℕ)) (told z output : List ℕ) (p : Position) → output ≡ told ++ z → IsOfRound s most p output → IsPutAt s held told p → PutsCheck s most held output
puts_more s most held told z output p is rounds put =
    record { check = put.put.check; put = more_put s held told z output put.put.check is put.put.all put.put.put; of_round = subst (λ x. IsOfRound s most x output) (sym put.at_is) rounds }

-- Where a run ends in a round, the name holds what it held when the round began.
left_name : (s : Start) (most : ℕ) (pause : Option ℕ) (before held : Option (List ℕ)) (told z output : List ℕ) (p : Position) (result : Result Finish RunFault) → output ≡ told ++ z → IsOfRound s most p output
    → HasNotMoved s before held told p ⊎ IsPutAt s held told p → IfOk result (FinishesName s pause before held output) → LeavesName s most pause before held result output
left_name s most pause before held told z output p result is rounds kept finishes = record {
  held = ⊎_elim (λ same. inl (record { same = same.same; of_round = subst (λ x. IsOfRound s most x output) same.at_start rounds })) (λ put. inr (puts put)) kept;
  first = λ one worked. ⊎_elim (λ same. absurd (same.later one)) puts kept;
  idle = λ later none. ⊎_elim (λ same. same.same) (λ put. absurd (⊎_elim later none put.put.due)) kept;
  finish = finishes;
}
  where
    puts : IsPutAt s held told p → PutsCheck s most held output
    puts put = puts_more s most held told z output p is rounds put

pub no_more : (base more : List ℕ) (n : ℕ) → n ≡ length (base ++ more) → n ≡ length base → more ≡ []
no_more base [] n all some = refl
no_more base (x ∷ xs) n all some = let size = length-append base (x ∷ xs) in absurd (omega (arith, all, some, size))

-- what a run leaves that stopped, whatever the fault is called
pub other_fault : (s : Start) (most : ℕ) (pause : Option ℕ) (old now : Option (List ℕ)) (tells : Bool) (before after : Option (List ℕ)) (a b : RunFault) → HasRun s most pause old now tells before after (Err a)
    → HasRun s most pause old now tells before after (Err b)
other_fault s most pause old now tells before after a b run = record {
  output = run.output;
  is_output = record { appended = run.is_output.appended; front = run.is_output.front; finishes = tt };
  left = λ told. let left = run.left told in record { held = left.held; first = λ one worked. left.first one (⊎_elim (λ some. inl some) (λ ok. cc) worked); idle = left.idle; finish = tt };
}

-- ## In the midst of a round

module _ (w : Way) (tells here : Bool) (old before held now : Option (List ℕ)) (page : Page) (f : Machine) (mid : IsMid w tells here old before held now page f) where
  -- nothing was written since the round began
  none_written : mid.under.lines.written ≡ []
  none_written = no_more w.base mid.under.lines.written page.collected.written mid.under.lines.bytes mid.settled

  whole_base : w.base ++ mid.under.lines.written ≡ w.base
  whole_base = ap (λ xs. w.base ++ xs) none_written ∙ append-nil w.base

  pub mid_went : (later : Option (List ℕ)) (part : IsPartOut w later) → WentOut w old later (w.base ++ part.out.written)
  mid_went later part = went_out w old later part mid.appended

  -- what goes out is of the round
  pub mid_round : (later : Option (List ℕ)) (part : IsPartOut w later) → IsOfRound w.start w.most w.since (w.base ++ part.out.written)
  mid_round later part m member after shown not =
      ⊎_elim
      (λ early. absurd (not early))
      (λ under. record { jobs = mid.work.whole; from = mid.work.from; under = record { job = under.job; listed = subst (λ ks. Contains ks under.job) mid.round_is under.listed; under = under.under } })
      ((mid_went later part).shown m member after shown)

  mid_out : WentOut w old now w.base
  mid_out = subst (WentOut w old now) whole_base (mid_went now (way_part w now page f mid.under))

  mid_lines : (p : Position) → StandsAt f.from f.entries p → AreLinesBetween w.start.portion w.start.at p w.start.lines page.count w.base
  mid_lines p stands =
      subst (AreLinesBetween w.start.portion w.start.at p w.start.lines page.count) whole_base
      (lines_between w now page f mid.under.members p mid.under.emitted.work mid.under.emitted.covers mid.under.emitted.held mid.under.lines mid.empty stands)

  -- the name, where nothing more was written
  name_left : (pause : Option ℕ) (result : Result Finish RunFault) (k : HasKept w.start w.most before held w.base w.since here) → IfOk result (FinishesName w.start pause before held w.base)
      → LeavesName w.start w.most pause before held result w.base
  name_left pause result k finishes = left_name w.start w.most pause before held k.told k.more w.base k.at result k.parts k.rounds k.kept finishes

  -- the run stopped, and nothing more was written
  pub mid_stopped : (pause : Option ℕ) (fault : RunFault) → HasRun w.start w.most pause old now tells before held (Err fault)
  mid_stopped pause fault = record {
    output = w.base;
    is_output = record { appended = mid_out.appended; front = mid_out.front; finishes = tt };
    left = λ told. name_left pause (Err fault) (mid.kept told) tt;
  }

  -- some of the lines of the round were not written
  pub mid_failed : here ≡ true → (later : Option (List ℕ)) (pause : Option ℕ) (fault : RunFault) → IsPartOut w later → HasRun w.start w.most pause old later tells before held (Err fault)
  mid_failed stays later pause fault part =
      let output = w.base ++ part.out.written in
      let went = mid_went later part in
      record {
        output = output;
        is_output = record { appended = went.appended; front = went.front; finishes = tt };
        left = λ told.
            let k = mid.kept told in
            left_name w.start w.most pause before held k.told (k.more ++ part.out.written) output k.at (Err fault) (ap (λ xs. xs ++ part.out.written) k.parts ∙ append_assoc k.told k.more part.out.written)
            (subst (λ p. IsOfRound w.start w.most p output) (sym (k.is_here stays)) (mid_round later part)) k.kept tt;
      }

  -- ## A checkpoint of where the machine stands

  module _ (after : Option (List ℕ)) (check : HoldsCheckAt w.start page f after) (stop : IsStop w.start.portion check.is_check.check.at) where
    put_base : IsPut after w.base w.start check.is_check.check
    put_base = check_put w.start page f after w.base check mid.settled (mid_lines check.is_check.check.at check.is_check.stands) stop

    put_rounds : IsOfRound w.start w.most check.is_check.check.at w.base
    put_rounds = told_shown w.start w.most check.is_check.check.at w.base page.count (mid_lines check.is_check.check.at check.is_check.stands)

    pub puts_base : PutsCheck w.start w.most after w.base
    puts_base = record { check = check.is_check.check; put = put_base; of_round = put_rounds }

    puts_end : check.is_check.check.at ≡ End → PutsAtEnd w.start after w.base
    puts_end end = record { check = check.is_check.check; put = put_base; all = check.is_check.bytes ∙ mid.settled; at_end = end }

    put_here : page.count < most_lines → (w.start.number ≡ 1) ⊎ HasWork w.start → IsPutAt w.start after w.base check.is_check.check.at
    put_here low due = record {
      put = record {
        check = check.is_check.check;
        put = put_base;
        all = check.is_check.bytes ∙ mid.settled;
        before_last = subst (λ n. n < most_lines) (sym check.is_check.lines) low;
        due = due;
      };
      at_is = refl;
    }

    pub kept_here : page.count < most_lines → (w.start.number ≡ 1) ⊎ HasWork w.start → StandsAt f.from f.entries w.since → HasKept w.start w.most before after w.base w.since true
    kept_here low due stands = record {
      told = w.base;
      more = [];
      parts = sym (append-nil w.base);
      at = check.is_check.check.at;
      kept = inr (put_here low due);
      rounds = put_rounds;
      is_here = λ true_now. stands_once f.from check.is_check.check.at w.since f.entries check.is_check.stands stands;
      all_told = λ true_now. refl;
    }

  -- the run may stop where such a checkpoint stands
  stop_of : (after : Option (List ℕ)) (check : HoldsCheckAt w.start page f after) → StandsAt f.from f.entries w.since → IsStop w.start.portion w.since → IsStop w.start.portion check.is_check.check.at
  stop_of after check stands stop = subst (IsStop w.start.portion) (sym (stands_once f.from check.is_check.check.at w.since f.entries check.is_check.stands stands)) stop

  -- where it was put
  pub mid_saved : (after : Option (List ℕ)) → StandsAt f.from f.entries w.since → IsStop w.start.portion w.since → page.count < most_lines → (w.start.number ≡ 1) ⊎ HasWork w.start
      → (tells ≡ true → HoldsCheckAt w.start page f after) → IsMid w tells true old before after now page f
  mid_saved after stands stop low due saves = record {
    appended = mid.appended;
    known_is = mid.known_is;
    under = mid.under;
    empty = mid.empty;
    settled = mid.settled;
    some = mid.some;
    work = mid.work;
    later = mid.later;
    round_is = mid.round_is;
    kept = λ told. let check = saves told in kept_here after check (stop_of after check stands stop) low due stands;
    due = inl refl;
    owed = mid.owed;
  }

  -- and where it could not be put
  pub mid_unsaved : (after : Option (List ℕ)) (pause : Option ℕ) (fault : RunFault) → StandsAt f.from f.entries w.since → IsStop w.start.portion w.since
      → (w.start.number ≡ 1) ⊎ HasWork w.start → (tells ≡ true → Saves {T = Unit} w.start page f held after (Err fault)) → HasRun w.start w.most pause old now tells before after (Err fault)
  mid_unsaved after pause fault stands stop due saves = record {
    output = w.base;
    is_output = record { appended = mid_out.appended; front = mid_out.front; finishes = tt };
    left = λ told.
        ⊎_elim
        (λ same. subst (λ x. LeavesName w.start w.most pause before x (Err fault) w.base) (sym same) (name_left pause (Err fault) (mid.kept told) tt))
        (λ check.
        let puts = puts_base after check (stop_of after check stands stop) in
        record { held = inr puts; first = λ one worked. puts; idle = λ later none. absurd (⊎_elim later none due); finish = tt })
        (saves told);
  }

  -- ## Ends of the run's own

  no_work : jobs_of f.entries ≡ [] → w.ahead ≡ jobs_of f.entries → w.since ≡ w.start.at → HasWork w.start → ⊥
  no_work none ahead same work =
      let there = (mid.work.from.is_opening.members work.job).1 work.opening in
      let kept = without_kept (IsWhollyBefore w.since) mid.work.from.opening mid.work.whole work.job mid.work.from.left there (subst (λ at. ¬ IsWhollyBefore at work.job) (sym same) work.left) in
      let part = mid.work.each work.job kept in
      Contains-none part.part (subst (λ js. Contains js part.part) (ahead ∙ none) part.listed)

  pub mid_whole : here ≡ true → (pause : Option ℕ) (limit : Limit) → IsLimit w.start.lines pause limit → page.count ≤ limit.last → f.entries ≡ [] → w.ahead ≡ jobs_of f.entries → (w.since ≡ w.start.at) ⊎ (w.since ≡ End)
      → HasRun w.start w.most pause old now tells before held (Ok Whole)
  mid_whole stays pause limit is low none ahead ended = record {
    output = w.base;
    is_output = record { appended = mid_out.appended; front = mid_out.front; finishes = finish_whole w.start pause limit page.count w.base is (mid_lines End (subst (λ es. StandsAt f.from es End) (sym none) refl)) low };
    left = λ told. let k = mid.kept told in name_left pause (Ok Whole) k (works k);
  }
    where
      at_end : (k : HasKept w.start w.most before held w.base w.since here) → HasWork w.start → w.since ≡ End → IsPutAt w.start held k.told k.at → PutsAtEnd w.start held w.base
      at_end k work end put =
          let whole : w.base ≡ k.told = k.parts ∙ ap (λ xs. k.told ++ xs) (k.all_told stays) ∙ append-nil k.told in
          record {
            check = put.put.check;
            put = more_put w.start held k.told k.more w.base put.put.check k.parts put.put.all put.put.put;
            all = put.put.all ∙ ap length (sym whole);
            at_end = put.at_is ∙ k.is_here stays ∙ end;
          }

      works : (k : HasKept w.start w.most before held w.base w.since here) → HasWork w.start → PutsAtEnd w.start held w.base
      works k work =
          ⊎_elim
          (λ same. absurd (no_work (ap jobs_of none) ahead same work))
          (λ end. ⊎_elim (λ same. absurd (no_work (ap jobs_of none) ahead (sym (k.is_here stays) ∙ same.at_start) work)) (λ put. at_end k work end put) k.kept)
          ended

  -- the same, where the checkpoint of the end was put last
  pub mid_ended : (after : Option (List ℕ)) (pause : Option ℕ) (limit : Limit) → IsLimit w.start.lines pause limit → page.count ≤ limit.last → f.entries ≡ [] → HasWork w.start → (tells ≡ true → HoldsCheckAt w.start page f after)
      → HasRun w.start w.most pause old now tells before after (Ok Whole)
  mid_ended after pause limit is low none due saves = record {
    output = w.base;
    is_output = record { appended = mid_out.appended; front = mid_out.front; finishes = finish_whole w.start pause limit page.count w.base is (mid_lines End (subst (λ es. StandsAt f.from es End) (sym none) refl)) low };
    left = λ told.
        let check = saves told in
        let end : check.is_check.check.at ≡ End = subst (λ es. StandsAt f.from es check.is_check.check.at) none check.is_check.stands in
        let stop = subst (IsStop w.start.portion) (sym end) tt in
        let puts = puts_base after check stop in
        record { held = inr puts; first = λ one worked. puts; idle = λ later idle. absurd (idle due); finish = λ work. puts_end after check stop end };
  }

  -- it came to the last line
  module _ (due : HasWork w.start) (later : Option (List ℕ)) (new : Page) (h : Machine) (limit : Limit) (full : IsFull w later new limit.last h) (empty : IsEmpty new) (pause : Option ℕ) (is : IsLimit w.start.lines pause limit)
      (rounds : (told : tells ≡ true) → IsOfRound w.start w.most (mid.kept told).at (w.base ++ full.lines.written))
    where
      abbrev full_output : List ℕ
      full_output = w.base ++ full.lines.written

      put_full : (after : Option (List ℕ)) (check : HoldsCheckAt w.start new h after) → IsPut after full_output w.start check.is_check.check × PutsCheck w.start w.most after full_output
      put_full after check =
          let at = check.is_check.check.at in
          let lines = lines_between w later new h full.members at full.work full.covers full.held full.lines empty check.is_check.stands in
          let put = check_put w.start new h after full_output check full.lines.bytes lines (stop_at at (stands_once h.from (at_symbol full.next) at h.entries full.stands check.is_check.stands)) in
          (put, record { check = check.is_check.check; put = put; of_round = told_shown w.start w.most at full_output new.count lines })
        where
          stop_at : (p : Position) → at_symbol full.next ≡ p → IsStop w.start.portion p
          stop_at p same = subst (IsStop w.start.portion) same (inr (record { next = full.next; member = full.member; job_is = refl }))

      pub mid_full : (after : Option (List ℕ)) (result : Result Finish RunFault) → IfOk result (λ finish. finish ≡ (if limit.pauses then Paused else CutShort))
          → (tells ≡ true → MatchBool limit.pauses (Saves w.start new h held after result) (after ≡ held)) → HasRun w.start w.most pause old later tells before after result
      mid_full after result finish saves =
          let went = mid_went later (full_part w later new limit.last h full) in
          record {
            output = full_output;
            is_output = record { appended = went.appended; front = went.front; finishes = finishes result finish };
            left = λ told. leaves limit.pauses is result finish (saves told) (mid.kept told) (rounds told);
          }
        where
          finishes : (r : Result Finish RunFault) → IfOk r (λ finish. finish ≡ (if limit.pauses then Paused else CutShort)) → IfOk r (Finishes w.start pause full_output)
          finishes (Ok end) same = subst (Finishes w.start pause full_output) (sym same) (finish_full w.start pause limit full_output is (full_lines w later new limit.last h full empty))
          finishes (Err fault) same = tt

          same_name : (r : Result Finish RunFault) → IfOk r (FinishesName w.start pause before held full_output) → after ≡ held → (k : HasKept w.start w.most before held w.base w.since here) → IsOfRound w.start w.most k.at full_output
              → LeavesName w.start w.most pause before after r full_output
          same_name r does same k of_round =
              subst (λ x. LeavesName w.start w.most pause before x r full_output) (sym same)
              (left_name w.start w.most pause before held k.told (k.more ++ full.lines.written) full_output k.at r (ap (λ xs. xs ++ full.lines.written) k.parts ∙ append_assoc k.told k.more full.lines.written) of_round k.kept does)

          between : (k : HasKept w.start w.most before held w.base w.since here) → (held ≡ before) ⊎ PutsBeforeLast w.start held full_output
          between k =
              ⊎_elim
              (λ same. inl same.same)
              (λ put. inr (record {
                check = put.put.check;
                put = more_put w.start held k.told (k.more ++ full.lines.written) full_output put.put.check (ap (λ xs. xs ++ full.lines.written) k.parts ∙ append_assoc k.told k.more full.lines.written) put.put.all put.put.put;
                before_last = put.put.before_last;
              }))
              k.kept

          paused : IsPause w.start.lines pause limit.last → (check : HoldsCheckAt w.start new h after) → PutsAtPause w.start pause after full_output
          paused p check = record {
            check = check.is_check.check;
            put = (put_full after check).0;
            pause_is = subst (IsPause w.start.lines pause) (sym (check.is_check.lines ∙ full.count)) p;
            all = check.is_check.bytes ∙ full.lines.bytes;
            next = subst (IsNextMember w.start.portion) (stands_once h.from (at_symbol full.next) check.is_check.check.at h.entries full.stands check.is_check.stands) (record { next = full.next; member = full.member; job_is = refl });
          }

          leaves : (b : Bool) → MatchBool b (IsPause w.start.lines pause limit.last) (IsBeforePause w.start.lines pause limit.last) → (r : Result Finish RunFault) → IfOk r (λ finish. finish ≡ (if b then Paused else CutShort))
              → MatchBool b (Saves w.start new h held after r) (after ≡ held) → (k : HasKept w.start w.most before held w.base w.since here) → IsOfRound w.start w.most k.at full_output
              → LeavesName w.start w.most pause before after r full_output
          leaves true p (Ok end) same check k of_round =
              let puts = (put_full after check).1 in
              record { held = inr puts; first = λ one worked. puts; idle = λ later none. absurd (none due); finish = subst (FinishesName w.start pause before after full_output) (sym same) (paused p check) }
          leaves true p (Err fault) same saves k of_round =
              ⊎_elim
              (λ is. same_name (Err fault) tt is k of_round)
              (λ check. let puts = (put_full after check).1 in record { held = inr puts; first = λ one worked. puts; idle = λ later none. absurd (none due); finish = tt })
              saves
          leaves false p (Ok end) same is k of_round = same_name (Ok end) (subst (FinishesName w.start pause before held full_output) (sym same) (between k)) is k of_round
          leaves false p (Err fault) same is k of_round = same_name (Err fault) tt is k of_round

-- ## Where a machine stands

-- what was under way goes on from all that is written
module _ (w : Way) (now : Option (List ℕ)) (page : Page) (h : Machine) (way : IsUnderWay w now page h) (empty : IsEmpty page) (p : Position) (stands : StandsAt h.from h.entries p) (work : AreWork w.start.portion w.since w.ahead)
    (later : AllByRecursion (λ j. ¬ IsWhollyBefore h.from j) (jobs_of h.entries))
  where
    pub work_here : AreWork w.start.portion p (jobs_of h.entries)
    work_here = work_left w.start.portion w.since p h.from way.emitted.gone h.entries (subst (AreWork w.start.portion w.since) way.emitted.jobs_are work) stands later

    abbrev pub way_here : Way
    way_here = record { start = w.start; jobs = w.jobs; base = w.base ++ way.lines.written; known = now; from = h.from; since = p; ahead = jobs_of h.entries; most = w.most; round = take w.most work_here.whole }

    under_here : IsUnderWay way_here now page h
    under_here =
        let base = w.base ++ way.lines.written in
        let been = way.emitted in
        let between = held_between w.start.portion w.start.at p w.jobs h way.members been.work been.covers been.held stands in
        record {
          members = way.members;
          emitted = record {
            work = been.work;
            covers = been.covers;
            opened = been.opened;
            stays = refl;
            all = work_here.all;
            gone = [];
            jobs_are = refl;
            entries_are = been.entries_are;
            few = been.few;
            held = been.held;
            recent = λ s there. inl ((between.members s).0 there).earlier;
            of_round = λ e there done. taken_part w.start.portion p (jobs_of h.entries) w.most e.job work_here (done_early w.most h.entries e been.few there done);
          };
          lines = record {
            written = [];
            appended = appends_nothing now;
            made = way.lines.made;
            parts = way.lines.parts;
            lines = subst (λ xs. AreLines w.start.lines way.lines.made (xs ++ page.collected.lines.items)) (sym (append-nil base)) way.lines.lines;
            count = way.lines.count;
            bytes = way.lines.bytes ∙ ap length (sym (append-nil base));
          };
        }

    pub mid_here : (tells : Bool) (old before held : Option (List ℕ)) → Appends old w.known w.base → 1 ≤ w.most → HasWork w.start
        → (tells ≡ true → HasKept w.start w.most before held (w.base ++ way.lines.written) p false) → IsMid way_here tells false old before held now page h
    mid_here tells old before held appended some due kept = record {
      appended = Appends_trans old w.known now w.base way.lines.written (w.base ++ way.lines.written) appended way.lines.appended refl;
      known_is = refl;
      under = under_here;
      empty = empty;
      settled = way.lines.bytes;
      some = some;
      work = work_here;
      later = later;
      round_is = refl;
      kept = kept;
      due = inr due;
      owed = λ c there. due;
    }

-- a run whose store is not said to tell
pub untold : (w : Way) (tells here : Bool) (old before held now : Option (List ℕ)) (page : Page) (f : Machine) → IsMid w tells here old before held now page f → (other : Option (List ℕ)) → IsMid w false here old before other now page f
untold w tells here old before held now page f mid other = record {
  appended = mid.appended;
  known_is = mid.known_is;
  under = mid.under;
  empty = mid.empty;
  settled = mid.settled;
  some = mid.some;
  work = mid.work;
  later = mid.later;
  round_is = mid.round_is;
  kept = λ never. cc;
  due = mid.due;
  owed = mid.owed;
}

-- what was kept, with more of the round written since
pub kept_more : (s : Start) (most : ℕ) (before held : Option (List ℕ)) (base more : List ℕ) (since p : Position) (here : Bool) (k : HasKept s most before held base since here) → IsOfRound s most k.at (base ++ more)
    → HasKept s most before held (base ++ more) p false
kept_more s most before held base more since p here k rounds = record {
  told = k.told;
  more = k.more ++ more;
  parts = ap (λ xs. xs ++ more) k.parts ∙ append_assoc k.told k.more more;
  at = k.at;
  kept = k.kept;
  rounds = rounds;
  is_here = λ never. cc;
  all_told = λ never. cc;
}

-- ## Heads

-- what is left where nothing was written
pub none_more : (w : Way) (now : Option (List ℕ)) (page : Page) (f : Machine) (way : IsUnderWay w now page f) → page.collected.written ≡ length w.base → w.base ≡ w.base ++ way.lines.written
none_more w now page f way settled = sym (ap (λ xs. w.base ++ xs) (no_more w.base way.lines.written page.collected.written way.lines.bytes settled) ∙ append-nil w.base)

-- a round has ended: all its entries have left
module _ (w : Way) (now : Option (List ℕ)) (page : Page) (h : Machine) (way : IsUnderWay w now page h) (empty : IsEmpty page) (work : AreWork w.start.portion w.since w.ahead)
    (later : AllByRecursion (λ j. ¬ IsWhollyBefore w.from j) w.ahead) (opens : AreOpen h.entries)
  where
    pub later_left : AllByRecursion (λ j. ¬ IsWhollyBefore h.from j) (jobs_of h.entries)
    later_left =
        all_back (λ j. ¬ IsWhollyBefore h.from j) way.emitted.gone (jobs_of h.entries)
        (subst (AllByRecursion (λ j. ¬ IsWhollyBefore h.from j)) way.emitted.jobs_are (subst (λ from. AllByRecursion (λ j. ¬ IsWhollyBefore from j) w.ahead) (sym way.emitted.stays) later))

    pub head_after : (tells : Bool) (old before held : Option (List ℕ)) → Appends old w.known w.base → 1 ≤ w.most → HasWork w.start
        → ((p : Position) → tells ≡ true → HasKept w.start w.most before held (w.base ++ way.lines.written) p false) → IsHead w.start w.most tells false old before held now page h
    head_after tells old before held appended some due kept =
        let at = stands_somewhere h.from h.entries in
        record {
          way = way_here w now page h way empty at.0 at.1 work later_left;
          start_is = refl;
          most_is = refl;
          mid = mid_here w now page h way empty at.0 at.1 work later_left tells old before held appended some due (kept at.0);
          ahead_is = refl;
          opens = opens;
          stands = λ away. at.1;
          ended = λ none. inr (subst (λ es. StandsAt h.from es at.0) none at.1);
        }

-- ## Before the first round

-- nothing was written, and the run did not come to an end of its own
not_worked : (output : List ℕ) (fault : RunFault) (r : Result Finish RunFault) → output ≡ [] → r ≡ Err fault → (output ≢ []) ⊎ IsOk r → ⊥
not_worked output fault (Ok end) none stopped worked = cc
not_worked output fault (Err e) none stopped worked = ⊎_elim (λ some. some none) (λ ok. cc) worked

-- a run that did nothing
pub nothing_done : (s : Start) (most : ℕ) (pause : Option ℕ) (old before : Option (List ℕ)) (tells : Bool) (fault : RunFault) → HasRun s most pause old old tells before before (Err fault)
nothing_done s most pause old before tells fault = record {
  output = [];
  is_output = record { appended = appends_nothing old; front = λ text is. tt; finishes = tt };
  left = λ told. record { held = inl (record { same = refl; of_round = none_shown s most s.at }); first = λ one worked. absurd (not_worked [] fault (Err fault) refl refl worked); idle = λ later none. refl; finish = tt };
}

module _ (s : Start) (most : ℕ) (some : 1 ≤ most) (old before held : Option (List ℕ)) (page : Page) (f : Machine) (begun : IsStarted s f) (empty : IsEmpty page) (count : page.count ≡ s.lines) (bytes : page.collected.written ≡ 0) where
  listed : jobs_of f.entries ≡ begun.jobs
  listed = ap jobs_of begun.opened.entries ∙ jobs_opened 1 begun.jobs

  abbrev first_way : Position → List Job → Way
  first_way p round = record { start = s; jobs = begun.jobs; base = []; known = old; from = s.at; since = p; ahead = begun.jobs; most = most; round = round }

  -- a run that has not moved, seen from a position where its work begins
  abbrev first_mid : (tells : Bool) (p : Position) (work : AreWork s.portion p begun.jobs) → (tells ≡ true → HasKept s most before held [] p true) → IsMid (first_way p (take most work.whole)) tells true old before held old page f
  first_mid tells p work kept = record {
    appended = appends_nothing old;
    known_is = refl;
    under = way_first s old page f p most (take most work.whole) (begun_of s f begun) empty count bytes;
    empty = empty;
    settled = bytes;
    some = some;
    work = work;
    later = begun.starting.later;
    round_is = refl;
    kept = kept;
    due = inl refl;
    owed = λ c there. has_work s begun.jobs c begun.starting.work there;
  }

  -- its work from where it stands
  work_standing : (p : Position) → StandsAt f.from f.entries p → AreWork s.portion p begun.jobs
  work_standing p stands =
      subst (AreWork s.portion p) listed
      (work_left s.portion s.at p f.from [] f.entries (subst (AreWork s.portion s.at) (sym listed) begun.starting.work) stands
      (subst (AllByRecursion (λ j. ¬ IsWhollyBefore f.from j)) (sym listed) (subst (λ from. AllByRecursion (λ j. ¬ IsWhollyBefore from j) begun.jobs) (sym begun.opened.from) begun.starting.later)))

  -- the first job of all is a job of each opening
  module _ (first : s ≡ first_start s.portion) where
    at_beginning : s.at ≡ beginning
    at_beginning = ap (λ (t : Start). t.at) first

    number_one : s.number ≡ 1
    number_one = ap (λ (t : Start). t.number) first

    first_low : page.count < most_lines
    first_low = let none = ap (λ (t : Start). t.lines) first in omega (arith, count, none)

    begun_stop : (p : Position) (es : List Entry) → jobs_of es ≡ begun.jobs → StandsAt s.at es p → IsRoundStop s.portion p
    begun_stop p [] same stands = subst (IsRoundStop s.portion) (sym stands) tt
    begun_stop p (e ∷ es) same stands =
        ⊎_elim
        (λ begun_it. subst (IsRoundStop s.portion) (sym (begun_it.1 ∙ at_beginning)) (within_first (subst (λ at. IsWhollyBefore at e.job ⊎ IsWithin e.job at) at_beginning begun_it.0)))
        (λ other. subst (IsRoundStop s.portion) (sym other.1) opening)
        stands
      where
        from : AreJobsFrom s.portion s.at begun.jobs
        from = begun.whole number_one

        there : Contains begun.jobs e.job
        there = subst (λ js. Contains js e.job) same (Contains-head e.job (jobs_of es))

        opening : IsPortionJob s.portion e.job
        opening = from_opening s.portion s.at begun.jobs e.job from there

        first_is : (job : Job) → job.size ≡ 1 → job.prefix ≡ 1 ∷ 1 ∷ 1 ∷ [] → job ≡ first_job
        first_is job size prefix = λ i. record { size = size i; prefix = prefix i }

        within_first : IsWhollyBefore beginning e.job ⊎ IsWithin e.job beginning → IsPortionJob s.portion first_job
        within_first (inl wholly) =
            absurd ((without_there (IsWhollyBefore s.at) from.opening begun.jobs e.job from.left there).1 (subst (λ at. IsWhollyBefore at e.job) (sym at_beginning) wholly))
        within_first (inr within) =
            let size = within.0 in
            let numbers = (portion_job s.portion e.job opening).numbers in
            let three : length e.job.prefix ≡ 3 = numbers ∙ ap (λ n. min (3 * n) 9) size in
            subst (IsPortionJob s.portion) (first_is e.job size (sym (same_when_whole e.job.prefix (1 ∷ 1 ∷ 1 ∷ []) within.1 three))) opening

    first_stop : (p : Position) → StandsAt f.from f.entries p → IsRoundStop s.portion p
    first_stop p stands = begun_stop p f.entries listed (subst (λ from. StandsAt from f.entries p) begun.opened.from stands)

    -- the first checkpoint of a chain
    module _ (after : Option (List ℕ)) (check : HoldsCheckAt s page f after) where
      abbrev place : Position
      place = check.is_check.check.at

      standing : IsMid (first_way place (take most (work_standing place check.is_check.stands).whole)) false true old before held old page f
      standing = first_mid false place (work_standing place check.is_check.stands) (λ never. cc)

      first_kept : HasKept s most before after [] place true
      first_kept = kept_here (first_way place (take most (work_standing place check.is_check.stands).whole)) false true old before held old page f standing after check (round_stop s.portion place (first_stop place check.is_check.stands)) first_low (inl number_one) check.is_check.stands

      first_puts : PutsCheck s most after []
      first_puts = puts_base (first_way place (take most (work_standing place check.is_check.stands).whole)) false true old before held old page f standing after check (round_stop s.portion place (first_stop place check.is_check.stands))

  -- it could not be put
  pub first_failed : (s.number ≡ 1 → s ≡ first_start s.portion) → (pause : Option ℕ) (after : Option (List ℕ)) (tells : Bool) (fault : RunFault) → (tells ≡ true → SavesFirst s page f before after (Err fault))
      → HasRun s most pause old old tells before after (Err fault)
  first_failed first pause after tells fault saves = record {
    output = [];
    is_output = record { appended = appends_nothing old; front = λ text is. tt; finishes = tt };
    left = λ told. record {
      held = held_after (saves told);
      first = λ one worked. absurd (not_worked [] fault (Err fault) refl refl worked);
      idle = λ later none. ⊎_elim (λ one. absurd (later one.0)) (λ other. other.1) (saves told);
      finish = tt;
    };
  }
    where
      keeps : after ≡ before → KeepsName s most before after []
      keeps same = record { same = same; of_round = none_shown s most s.at }

      held_after : SavesFirst s page f before after (Err fault) → KeepsName s most before after [] ⊎ PutsCheck s most after []
      held_after = ⊎_elim (λ one. ⊎_elim (λ same. inl (keeps same)) (λ check. inr (first_puts (first one.0) after check)) one.1) (λ later. inl (keeps later.1))

  -- it was put, or the run is a later one
  pub head_first : (s.number ≡ 1 → s ≡ first_start s.portion) → (tells : Bool) → (tells ≡ true → SavesFirst s page f before held (Ok tt)) → IsHead s most tells true old before held old page f
  head_first first tells saves = ⊎_elim (λ one. put one) (λ later. moved later) (cases_eq s.number 1)
    where
      at_it : (p : Position) (work : AreWork s.portion p begun.jobs) → (tells ≡ true → HasKept s most before held [] p true) → (f.entries ≡ [] → (p ≡ s.at) ⊎ (p ≡ End)) → IsHead s most tells true old before held old page f
      at_it p work kept ended = record {
        way = first_way p (take most work.whole);
        start_is = refl;
        most_is = refl;
        mid = first_mid tells p work kept;
        ahead_is = sym listed;
        opens = begun_open s f (begun_of s f begun);
        stands = λ away. cc;
        ended = ended;
      }

      put : s.number ≡ 1 → IsHead s most tells true old before held old page f
      put one =
          let at = stands_somewhere f.from f.entries in
          at_it at.0 (work_standing at.0 at.1)
          (λ told. ⊎_elim
          (λ first_one. subst (λ p. HasKept s most before held [] p true) (stands_once f.from first_one.1.is_check.check.at at.0 f.entries first_one.1.is_check.stands at.1) (first_kept (first one) held first_one.1))
          (λ later. absurd (later.0 one))
          (saves told))
          (λ none. inr (subst (λ es. StandsAt f.from es at.0) none at.1))

      moved : (¬ (s.number ≡ 1)) → IsHead s most tells true old before held old page f
      moved later =
          at_it s.at begun.starting.work
          (λ told. record {
            told = [];
            more = [];
            parts = refl;
            at = s.at;
            kept = inl (record { same = ⊎_elim (λ one. absurd (later one.0)) (λ other. other.1) (saves told); none = refl; at_start = refl; later = later });
            rounds = none_shown s most s.at;
            is_here = λ stays. refl;
            all_told = λ stays. refl;
          })
          (λ none. inl refl)
