-- Rounds of a run that keeps checkpoints.
use Rattle.std.proofs.Common.{◌≡◌, ◌⊎◌, ℕ, ◌<◌, ◌≤◌, List, [], ◌∷◌, ◌++◌, Bool, true, false, Option, Result, Ok, Err, IfOk, length, take, inr, ⊎_elim, refl, sym, ap, ◌∙◌, subst, arith}
use Rattle.std.specs.Prelude.{if◌then◌else◌, MatchBool}
use Rattle.std.specs.List.{AllByRecursion, Contains}
use Rattle.dd_model.specs.Position.{IsWhollyBefore}
use Rattle.dd_model.specs.declared.jobs.Job.{Job}
use Rattle.dd_model.specs.declared.jobs.Position.{Position}
use Rattle.dd_model.specs.declared.jobs.Position.TheVariants.{End}
use Rattle.dd_model.proofs.Ascending.{all-append}
use Rattle.dd_model.proofs.Lists.{Contains-head}
use Rattle.dd_front.specs.declared.entry.Entry.{Entry}
use Rattle.dd_front.specs.Machine.{Machine, StandsAt, jobs_of}
use Rattle.dd_front.proofs.Standing.{stands_once}
use Rattle.dd_check.specs.ChainPuts.{IsStop}
use Rattle.dd_check.specs.Clauses.{HasWork}
use Rattle.dd_check.specs.ChainStarts.{Start}
use Rattle.dd_pages_and_checkpoints.specs.Pages.{IsEmpty}
use Rattle.dd_pages_and_checkpoints.specs.Rounds.{AreOpen}
use Rattle.dd_pages_and_checkpoints.specs.MostLines.{most_lines}
use Rattle.dd_pages_and_checkpoints.specs.Runs.{IsLimit}
use Rattle.dd_pages_and_checkpoints.specs.Names.{HasRun}
use Rattle.dd_pages_and_checkpoints.specs.Saves.{HoldsCheckAt, Saves, IsOfRound}
use Rattle.dd_pages_and_checkpoints.specs.declared.fault.RunFault.{RunFault}
use Rattle.dd_pages_and_checkpoints.specs.declared.finish.Finish.{Finish}
use Rattle.dd_pages_and_checkpoints.specs.declared.finish.Finish.TheVariants.{Whole, Paused, CutShort}
use Rattle.dd_pages_and_checkpoints.specs.declared.limit.Limit.{Limit}
use Rattle.dd_pages_and_checkpoints.specs.declared.pages.Page.{Page}
use Rattle.dd_catalogue_rounds.specs.Works.{AreWork, IsLongAsWhole}
use Rattle.dd_catalogue_rounds.specs.Splits.{IsSplit, IsGroupDone}
use Rattle.dd_catalogue_rounds.specs.Ways.{Way, IsUnderWay, IsFull}
use Rattle.dd_catalogue_rounds.specs.Outs.{IsPartOut}
use Rattle.dd_catalogue_rounds.specs.Kept.{IsMid, IsHead}
use Rattle.dd_catalogue_rounds.proofs.KeptRuns.{head_after, job_work, kept_more, mid_ended, mid_failed, mid_full, mid_round, mid_saved, mid_stopped, mid_unsaved, mid_whole, round_stop}
use Rattle.dd_catalogue_rounds.proofs.RoundEntries.{round_behind}
use Rattle.dd_catalogue_rounds.proofs.Splits.{refined_keeps, split_opens}
use Rattle.dd_catalogue_rounds.proofs.WaySteps.{full_part, way_part, way_round, way_split}
use Rattle.dd_catalogue_rounds.proofs.Working.{taken_part, whole_stop, work_along, work_split}

-- ## A round, after some splits

module _ (w : Way) (now : Option (List ℕ)) (page : Page) (whole : List Job) where
  -- a run under way, whose work is what its machine has, in parts of the same jobs
  record IsSplitWay (f : Machine) : Type 0 where
    under : IsUnderWay (record w { ahead = jobs_of f.entries }) now page f
    opens : AreOpen f.entries
    work : AreWork w.start.portion w.since (jobs_of f.entries)
    same : work.whole ≡ whole
    later : AllByRecursion (λ j. ¬ IsWhollyBefore f.from j) (jobs_of f.entries)

  split_way : (f g : Machine) → IsSplit w.start.portion.request f g → IsSplitWay f → IsSplitWay g
  split_way f g split way =
      let p = w.start.portion in
      let jobs : jobs_of f.entries ≡ split.first.job ∷ jobs_of split.rest = ap jobs_of split.parts in
      let old = work_along p w.since (jobs_of f.entries) (split.first.job ∷ jobs_of split.rest) jobs way.work in
      let mid = work_split p w.since split.first.job (jobs_of split.rest) split.children old.0 split.are in
      let new = work_along p w.since (split.children ++ jobs_of split.rest) (jobs_of g.entries) (sym split.jobs) mid.0 in
      let was = subst (AllByRecursion (λ j. ¬ IsWhollyBefore f.from j)) jobs way.later in
      record {
        under = way_split (record w { ahead = jobs_of f.entries }) now page f g split way.opens way.under;
        opens = split_opens p.request f g split way.opens;
        work = new.0;
        same = new.1 ∙ mid.1 ∙ old.1 ∙ way.same;
        later =
            subst (λ from. AllByRecursion (λ j. ¬ IsWhollyBefore from j) (jobs_of g.entries)) (sym split.from)
            (subst (AllByRecursion (λ j. ¬ IsWhollyBefore f.from j)) (sym split.jobs) (all-append (λ j. ¬ IsWhollyBefore f.from j) split.children (jobs_of split.rest) (split.later was.0) was.1));
      }

module _ (s : Start) (most : ℕ) (tells here : Bool) (old before held now : Option (List ℕ)) (page : Page) (f : Machine) (head : IsHead s most tells here old before held now page f) where
  abbrev w : Way
  w = head.way

  module _ (g : Machine) (group : IsGroupDone w.start.portion.request w.most f g) where
    first : IsSplitWay w now page head.mid.work.whole f
    first =
        let along = work_along w.start.portion w.since w.ahead (jobs_of f.entries) head.ahead_is head.mid.work in
        record {
          under = subst (λ js. IsUnderWay (record w { ahead = js }) now page f) head.ahead_is head.mid.under;
          opens = head.opens;
          work = along.0;
          same = along.1;
          later = subst (AllByRecursion (λ j. ¬ IsWhollyBefore f.from j)) head.ahead_is (subst (λ from. AllByRecursion (λ j. ¬ IsWhollyBefore from j) w.ahead) (sym head.mid.under.emitted.stays) head.mid.later);
        }

    ready : IsSplitWay w now page head.mid.work.whole group.ready
    ready = refined_keeps (IsSplitWay w now page head.mid.work.whole) w.start.portion.request f group.ready (split_way w now page head.mid.work.whole) group.refined first

    abbrev pub group_way : Way
    group_way = record w { ahead = jobs_of group.ready.entries }

    group_under : IsUnderWay group_way now page g
    group_under =
        way_round group_way w.most now page group.ready g group.round ready.opens (round_behind w.most w.most group.ready g group.round ready.opens (omega arith))
        (λ c there.
        let part = taken_part w.start.portion w.since (jobs_of group.ready.entries) w.most c ready.work there in
        record { job = part.job; listed = subst (λ js. Contains js part.job) (ap (take w.most) ready.same ∙ sym head.mid.round_is) part.listed; extends = part.extends })
        ready.under

    -- the round has a job
    pub group_work : HasWork w.start
    group_work = go group.ready.entries refl
      where
        some : 1 ≤ length group.ready.entries
        some = let one = group.round.some in let enough = group.round.may.enough in omega (arith, one, enough)

        go : (es : List Entry) → group.ready.entries ≡ es → HasWork w.start
        go [] none = let size = ap length none in absurd (omega (arith, size, some))
        go (e ∷ es) is = job_work group_way now page group.ready e.job head.mid.owed ready.under (subst (λ ds. Contains (jobs_of ds) e.job) (sym is) (Contains-head e.job (jobs_of es)))

    pub group_mid : IsMid group_way tells here old before held now page g
    group_mid = record {
      appended = head.mid.appended;
      known_is = head.mid.known_is;
      under = group_under;
      empty = head.mid.empty;
      settled = head.mid.settled;
      some = head.mid.some;
      work = ready.work;
      later = subst (λ from. AllByRecursion (λ j. ¬ IsWhollyBefore from j) (jobs_of group.ready.entries)) ready.under.emitted.stays ready.later;
      round_is = head.mid.round_is ∙ ap (take w.most) (sym ready.same);
      kept = head.mid.kept;
      due = inr group_work;
      owed = head.mid.owed;
    }

  -- ## Between two rounds

  pub head_stopped : (pause : Option ℕ) (fault : RunFault) → HasRun s most pause old now tells before held (Err fault)
  head_stopped pause fault =
      subst (λ x. HasRun x most pause old now tells before held (Err fault)) head.start_is
      (subst (λ n. HasRun w.start n pause old now tells before held (Err fault)) head.most_is (mid_stopped w tells here old before held now page f head.mid pause fault))

  head_limit : (pause : Option ℕ) (limit : Limit) → IsLimit s.lines pause limit → IsLimit w.start.lines pause limit
  head_limit pause limit is = subst (λ (x : Start). IsLimit x.lines pause limit) (sym head.start_is) is

  pub head_whole : here ≡ true → (pause : Option ℕ) (limit : Limit) → IsLimit s.lines pause limit → page.count ≤ limit.last → f.entries ≡ [] → HasRun s most pause old now tells before held (Ok Whole)
  head_whole stays pause limit is low none =
      subst (λ x. HasRun x most pause old now tells before held (Ok Whole)) head.start_is
      (subst (λ n. HasRun w.start n pause old now tells before held (Ok Whole)) head.most_is
      (mid_whole w tells here old before held now page f head.mid stays pause limit (head_limit pause limit is) low none head.ahead_is
      (subst (λ (x : Start). (w.since ≡ x.at) ⊎ (w.since ≡ End)) (sym head.start_is) (head.ended none))))

module _ (s : Start) (most : ℕ) (tells : Bool) (old before held now : Option (List ℕ)) (page : Page) (f : Machine) (head : IsHead s most tells false old before held now page f) where
  abbrev v : Way
  v = head.way

  head_work : HasWork head.way.start
  head_work = ⊎_elim (λ never. cc) (λ work. work) head.mid.due

  -- a place where a checkpoint may be put between two rounds
  pub place_stop : (at : Position) → StandsAt f.from f.entries at → IsLongAsWhole at → IsStop head.way.start.portion head.way.since
  place_stop at stands long =
      let way = head.mid.under.emitted in
      let later = subst (AllByRecursion (λ j. ¬ IsWhollyBefore f.from j)) head.ahead_is (subst (λ from. AllByRecursion (λ j. ¬ IsWhollyBefore from j) head.way.ahead) (sym way.stays) head.mid.later) in
      let stop = whole_stop head.way.start.portion head.way.since f.from at f.entries (subst (AreWork head.way.start.portion head.way.since) head.ahead_is head.mid.work) stands later long in
      subst (IsStop head.way.start.portion) (stands_once f.from at head.way.since f.entries stands (head.stands refl)) (round_stop head.way.start.portion at stop)

  module _ (at : Position) (stands : StandsAt f.from f.entries at) (long : IsLongAsWhole at) where
    pub head_saved : page.count < most_lines → (after : Option (List ℕ)) → (tells ≡ true → HoldsCheckAt s page f after) → IsHead s most tells true old before after now page f
    head_saved low after saves = record {
      way = head.way;
      start_is = head.start_is;
      most_is = head.most_is;
      mid =
          mid_saved head.way tells false old before held now page f head.mid after (head.stands refl) (place_stop at stands long) low (inr head_work)
          (λ told. subst (λ x. HoldsCheckAt x page f after) (sym head.start_is) (saves told));
      ahead_is = head.ahead_is;
      opens = head.opens;
      stands = λ away. head.stands refl;
      ended = head.ended;
    }

    pub head_unsaved : (after : Option (List ℕ)) (pause : Option ℕ) (fault : RunFault) → (tells ≡ true → Saves {T = Unit} s page f held after (Err fault)) → HasRun s most pause old now tells before after (Err fault)
    head_unsaved after pause fault saves =
        subst (λ x. HasRun x most pause old now tells before after (Err fault)) head.start_is
        (subst (λ n. HasRun head.way.start n pause old now tells before after (Err fault)) head.most_is
        (mid_unsaved head.way tells false old before held now page f head.mid after pause fault (head.stands refl) (place_stop at stands long) (inr head_work)
        (λ told. subst (λ x. Saves {T = Unit} x page f held after (Err fault)) (sym head.start_is) (saves told))))

  -- the checkpoint of the end was put last
  pub head_ended : (after : Option (List ℕ)) (pause : Option ℕ) (limit : Limit) → IsLimit s.lines pause limit → page.count ≤ limit.last → f.entries ≡ [] → (tells ≡ true → HoldsCheckAt s page f after) → HasRun s most pause old now tells before after (Ok Whole)
  head_ended after pause limit is low none saves =
      subst (λ x. HasRun x most pause old now tells before after (Ok Whole)) head.start_is
      (subst (λ n. HasRun head.way.start n pause old now tells before after (Ok Whole)) head.most_is
      (mid_ended head.way tells false old before held now page f head.mid after pause limit (head_limit s most tells false old before held now page f head pause limit is) low none head_work
      (λ told. subst (λ x. HoldsCheckAt x page f after) (sym head.start_is) (saves told))))

-- ## Lines of a round that were written

module _ (w : Way) (tells : Bool) (old before held mid_now : Option (List ℕ)) (page : Page) (f : Machine) (mid : IsMid w tells true old before held mid_now page f) (now : Option (List ℕ)) (new : Page) (h : Machine) where
  pub written_head : IsUnderWay w now new h → IsEmpty new → AreOpen h.entries → HasWork w.start → IsHead w.start w.most tells false old before held now new h
  written_head way empty opens work =
      head_after w now new h way empty mid.work mid.later opens tells old before held mid.appended mid.some work
      (λ p told.
      let k = mid.kept told in
      kept_more w.start w.most before held w.base way.lines.written w.since p true k
      (subst (λ at. IsOfRound w.start w.most at (w.base ++ way.lines.written)) (sym (k.is_here refl)) (mid_round w tells true old before held mid_now page f mid now (way_part w now new h way))))

  pub written_full : (limit : Limit) → IsFull w now new limit.last h → IsEmpty new → HasWork w.start → (pause : Option ℕ) → IsLimit w.start.lines pause limit → (after : Option (List ℕ)) (result : Result Finish RunFault)
      → IfOk result (λ finish. finish ≡ (if limit.pauses then Paused else CutShort)) → (tells ≡ true → MatchBool limit.pauses (Saves w.start new h held after result) (after ≡ held)) → HasRun w.start w.most pause old now tells before after result
  written_full limit full empty work pause is after result finish saves =
      mid_full w tells true old before held mid_now page f mid work now new h limit full empty pause is
      (λ told. subst (λ at. IsOfRound w.start w.most at (w.base ++ full.lines.written)) (sym ((mid.kept told).is_here refl)) (mid_round w tells true old before held mid_now page f mid now (full_part w now new limit.last h full)))
      after result finish saves

  pub written_part : (pause : Option ℕ) (fault : RunFault) → IsPartOut w now → HasRun w.start w.most pause old now tells before held (Err fault)
  written_part pause fault part = mid_failed w tells true old before held mid_now page f mid refl now pause fault part
