-- A run that keeps checkpoints, at the next member of a round.
use Rattle.std.proofs.Common.{◌≡◌, ℕ, zero, suc, ◌+◌, ◌<◌, ◌≤◌, List, [], ◌++◌, Bool, true, false, Option, Result, Err, IfOk, length, min, inr, ⊎_elim, refl, sym, ap, ◌∙◌, subst, arith, add-zero}
use Rattle.std.specs.Prelude.{if◌then◌else◌, MatchBool}
use Rattle.std.proofs.lemmas.Bool.{cases_lt}
use Rattle.std.proofs.lemmas.List.{append-nil}
use Rattle.std.specs.List.{AllByRecursion}
use Rattle.dd_model.specs.Position.{IsWhollyBefore}
use Rattle.dd_model.specs.declared.jobs.Position.{Position}
use Rattle.dd_front.specs.Machine.{Machine, jobs_of}
use Rattle.dd_front.specs.Rounds.{open_jobs}
use Rattle.dd_front.specs.Step.{EmitsPart, at_symbol}
use Rattle.dd_check.specs.Clauses.{HasWork}
use Rattle.dd_check.specs.ChainPuts.{IsStop}
use Rattle.std.specs.Io.KnownBytes.{Appends}
use Rattle.dd_pages_and_checkpoints.specs.Pages.{HasLines, IsEmpty}
use Rattle.dd_pages_and_checkpoints.specs.MostLines.{most_lines}
use Rattle.dd_pages_and_checkpoints.specs.Runs.{IsLimit}
use Rattle.dd_pages_and_checkpoints.specs.Names.{HasRun}
use Rattle.dd_pages_and_checkpoints.specs.Saves.{HoldsCheckAt, Saves, IsOfRound}
use Rattle.dd_pages_and_checkpoints.specs.declared.fault.RunFault.{RunFault}
use Rattle.dd_pages_and_checkpoints.specs.declared.finish.Finish.{Finish}
use Rattle.dd_pages_and_checkpoints.specs.declared.finish.Finish.TheVariants.{Paused, CutShort}
use Rattle.dd_pages_and_checkpoints.specs.declared.limit.Limit.{Limit}
use Rattle.dd_pages_and_checkpoints.specs.declared.pages.Page.{Page}
use Rattle.dd_catalogue_rounds.specs.Works.{AreWork}
use Rattle.dd_catalogue_rounds.specs.Ways.{Way, HasEmitted, IsUnderWay, IsFull}
use Rattle.dd_catalogue_rounds.specs.Kept.{HasKept, IsMid, IsHead}
use Rattle.dd_catalogue_rounds.specs.Steps.{AreEmptied, IsPastEmpty, IsAtNext, GoesOnHere}
use Rattle.dd_catalogue_rounds.proofs.KeptRuns.{head_after, kept_more, mid_round, mid_full, mid_here, mid_saved, mid_unsaved, no_more, none_more, way_here}
use Rattle.dd_catalogue_rounds.proofs.Outcomes.{limit_most}
use Rattle.dd_catalogue_rounds.proofs.WaySteps.{emits_first, full_part, part_full, waiting_emitted}

-- entries that have no member to emit have left
pub emptied_way : (n : ℕ) (w : Way) (now : Option (List ℕ)) (page : Page) (f g : Machine) → AreEmptied n f g → IsUnderWay w now page f → IsUnderWay w now page g
emptied_way zero w now page f g same way = subst (IsUnderWay w now page) (sym same) way
emptied_way (suc n) w now page f g (h, before, emits) way =
    let here = emptied_way n w now page f h before way in
    record {
      members = here.members;
      emitted = subst (HasEmitted w g) (append-nil here.members) (emits_first h g [] emits w here.members here.emitted);
      lines = here.lines;
    }

pub emptied_waiting : (n : ℕ) (f g : Machine) → AreEmptied n f g → open_jobs g.entries ≡ open_jobs f.entries
emptied_waiting zero f g same = ap (λ (m : Machine). open_jobs m.entries) same
emptied_waiting (suc n) f g (h, before, emits) = waiting_emitted h g [] emits ∙ emptied_waiting n f h before

pub next_waiting : (f m : Machine) → IsAtNext f m → open_jobs m.entries ≡ open_jobs f.entries
next_waiting f m at = ap (λ (x : Machine). open_jobs x.entries) at.part.after ∙ emptied_waiting at.count f at.ready at.emptied

-- so many lines come before the next member as there are
full_next : (w : Way) (now : Option (List ℕ)) (page : Page) (h m : Machine) → EmitsPart h 0 m [] → IsUnderWay w now page h → IsFull w now page page.count m
full_next w now page h m part way =
    subst (λ n. IsFull w now page n m) (add-zero page.count)
    (part_full w now now page h m 0 [] part way page (λ k base start ss lines. subst (HasLines k base start now page) (sym (append-nil ss)) lines) (sym (add-zero page.count)))

-- ## At a member, with all lines before it written

module _ (w : Way) (now : Option (List ℕ)) (page : Page) (m : Machine) (last : ℕ) (full : IsFull w now page last m) (empty : IsEmpty page) (work : AreWork w.start.portion w.since w.ahead) where
  abbrev pub next_from : Way
  next_from = record w { from = at_symbol full.next }

  abbrev pub next_way : IsUnderWay next_from now page m
  next_way = record { members = full.members; emitted = full.emitted; lines = full.lines }

  pub later_from : AllByRecursion (λ j. ¬ IsWhollyBefore m.from j) (jobs_of m.entries)
  later_from = subst (λ from. AllByRecursion (λ j. ¬ IsWhollyBefore from j) (jobs_of m.entries)) (sym full.emitted.stays) full.later

  abbrev pub member_way : Way
  member_way = way_here next_from now page m next_way empty (at_symbol full.next) full.stands work later_from

  -- the run stands there
  pub member_mid : (tells : Bool) (old before held : Option (List ℕ)) → Appends old w.known w.base → 1 ≤ w.most → HasWork w.start
      → (tells ≡ true → HasKept w.start w.most before held (w.base ++ full.lines.written) (at_symbol full.next) false) → IsMid member_way tells false old before held now page m
  member_mid tells old before held appended some due kept = mid_here next_from now page m next_way empty (at_symbol full.next) full.stands work later_from tells old before held appended some due kept

  -- a member
  pub next_stop : IsStop w.start.portion (at_symbol full.next)
  next_stop = inr (record { next = full.next; member = full.member; job_is = refl })

  -- with a line of its own
  pub next_low : (pause : Option ℕ) (limit : Limit) → IsLimit w.start.lines pause limit → page.count < limit.last → page.count < most_lines
  next_low pause limit is low = let most = limit_most w.start.lines pause limit is in omega (arith, low, most)

module _ (w : Way) (tells : Bool) (old before held now : Option (List ℕ)) (page : Page) (f : Machine) (mid : IsMid w tells false old before held now page f) where
  work_due : HasWork w.start
  work_due = ⊎_elim (λ never. cc) (λ work. work) mid.due

  -- nothing more was written, and the name stays
  same_kept : (v : Way) (g : Machine) (way : IsUnderWay v now page g) (p : Position) → v.base ≡ w.base → tells ≡ true → HasKept w.start w.most before held (v.base ++ way.lines.written) p false
  same_kept v g way p same told =
      let k = mid.kept told in
      let whole : w.base ≡ v.base ++ way.lines.written = sym same ∙ none_more v now page g way (mid.settled ∙ ap length (sym same)) in
      subst (λ output. HasKept w.start w.most before held output p false) whole
      (record { told = k.told; more = k.more; parts = k.parts; at = k.at; kept = k.kept; rounds = k.rounds; is_here = λ never. cc; all_told = λ never. cc })

  -- no entry of the round has a member
  pub member_none : (g : Machine) → IsPastEmpty f g → IsHead w.start w.most tells false old before held now page g
  member_none g past =
      let way = emptied_way past.count w now page f g past.emptied mid.under in
      head_after w now page g way mid.empty mid.work mid.later past.opens tells old before held mid.appended mid.some work_due (λ p told. same_kept w g way p refl told)

  module _ (m : Machine) (at : IsAtNext f m) where
    ready_way : IsUnderWay w now page at.ready
    ready_way = emptied_way at.count w now page f at.ready at.emptied mid.under

    full : IsFull w now page page.count m
    full = full_next w now page at.ready m at.part ready_way

    here_mid : IsMid (member_way w now page m page.count full mid.empty mid.work) tells false old before held now page m
    here_mid =
        member_mid w now page m page.count full mid.empty mid.work tells old before held mid.appended mid.some work_due
        (λ told. same_kept (next_from w now page m page.count full mid.empty mid.work) m (next_way w now page m page.count full mid.empty mid.work) (at_symbol full.next) refl told)

    module _ (pause : Option ℕ) (limit : Limit) (is : IsLimit w.start.lines pause limit) where
      -- its line may not be written
      pub member_full : page.count ≡ limit.last → (after : Option (List ℕ)) (result : Result Finish RunFault) → IfOk result (λ finish. finish ≡ (if limit.pauses then Paused else CutShort))
          → (tells ≡ true → MatchBool limit.pauses (Saves w.start page m held after result) (after ≡ held)) → HasRun w.start w.most pause old now tells before after result
      member_full count after result finish saves =
          let whole : IsFull w now page limit.last m = subst (λ n. IsFull w now page n m) count full in
          mid_full w tells false old before held now page f mid work_due now page m limit whole mid.empty pause is
          (λ told. subst (IsOfRound w.start w.most (mid.kept told).at) (sym (written_none whole)) (mid.kept told).rounds) after result finish saves
        where
          written_none : (some : IsFull w now page limit.last m) → w.base ++ some.lines.written ≡ w.base
          written_none some = ap (λ xs. w.base ++ xs) (no_more w.base some.lines.written page.collected.written some.lines.bytes mid.settled) ∙ append-nil w.base

      -- its checkpoint could not be put
      pub member_unsaved : page.count < limit.last → (after : Option (List ℕ)) (fault : RunFault) → (tells ≡ true → Saves {T = Unit} w.start page m held after (Err fault)) → HasRun w.start w.most pause old now tells before after (Err fault)
      member_unsaved low after fault saves = mid_unsaved (member_way w now page m page.count full mid.empty mid.work) tells false old before held now page m here_mid after pause fault full.stands (next_stop w now page m page.count full mid.empty mid.work) (inr work_due) saves

      -- and where it was put
      pub member_saved : page.count < limit.last → (after : Option (List ℕ)) → (tells ≡ true → HoldsCheckAt w.start page m after) → GoesOnHere w tells old before after now page m
      member_saved low after saves = record {
        way = member_way w now page m page.count full mid.empty mid.work;
        start_is = refl;
        most_is = refl;
        mid = mid_saved (member_way w now page m page.count full mid.empty mid.work) tells false old before held now page m here_mid after full.stands (next_stop w now page m page.count full mid.empty mid.work) (next_low w now page m page.count full mid.empty mid.work pause limit is low) (inr work_due) saves;
      }

-- ## At a member, after lines of its round

module _ (w : Way) (tells : Bool) (old before held mid_now : Option (List ℕ)) (page : Page) (f : Machine) (mid : IsMid w tells true old before held mid_now page f) (now : Option (List ℕ)) (new : Page) (m : Machine) (last : ℕ)
    (full : IsFull w now new last m) (empty : IsEmpty new) (due : HasWork w.start) (pause : Option ℕ) (limit : Limit) (is : IsLimit w.start.lines pause limit) (low : new.count < limit.last)
  where
    after_mid : IsMid (member_way w now new m last full empty mid.work) tells false old before held now new m
    after_mid =
        member_mid w now new m last full empty mid.work tells old before held mid.appended mid.some due
        (λ told.
        let k = mid.kept told in
        kept_more w.start w.most before held w.base full.lines.written w.since (at_symbol full.next) true k
        (subst (λ at. IsOfRound w.start w.most at (w.base ++ full.lines.written)) (sym (k.is_here refl)) (mid_round w tells true old before held mid_now page f mid now (full_part w now new last m full))))

    -- the checkpoint of there could not be put
    pub after_unsaved : (after : Option (List ℕ)) (fault : RunFault) → (tells ≡ true → Saves {T = Unit} w.start new m held after (Err fault)) → HasRun w.start w.most pause old now tells before after (Err fault)
    after_unsaved after fault saves =
        mid_unsaved (member_way w now new m last full empty mid.work) tells false old before held now new m after_mid after pause fault full.stands (next_stop w now new m last full empty mid.work) (inr due) saves

    -- and where it was put
    pub after_saved : (after : Option (List ℕ)) → (tells ≡ true → HoldsCheckAt w.start new m after) → GoesOnHere w tells old before after now new m
    after_saved after saves = record {
      way = member_way w now new m last full empty mid.work;
      start_is = refl;
      most_is = refl;
      mid = mid_saved (member_way w now new m last full empty mid.work) tells false old before held now new m after_mid after full.stands (next_stop w now new m last full empty mid.work) (next_low w now new m last full empty mid.work pause limit is low) (inr due) saves;
    }

-- ## As many lines as fit

pub less_than : (count last most next : ℕ) → count ≡ last → last ≡ min most next → (last ≡ most → ⊥) → count < most
less_than count last most next same is other = ⊎_elim (λ low. low) (λ high. absurd (other (omega (arith, same, is, high)))) (cases_lt count most)

pub more_than : (old count last most : ℕ) → count ≡ last → last ≡ min most (old + 65536) → (last ≡ most → ⊥) → (old < count) × (count ≤ most)
more_than old count last most same is other = ⊎_elim (λ low. (omega (arith, same, is, low), omega (arith, low))) (λ high. absurd (other (omega (arith, same, is, high)))) (cases_lt count most)
