-- Runs that keep no checkpoint.
use Rattle.std.proofs.Common.{◌≡◌, ℕ, zero, suc, ◌<◌, ◌≤◌, List, [], ◌∷◌, ◌++◌, Option, Bool, true, false, MatchBool, length, refl, sym, ap, ◌∙◌, subst, inr, arith}
use Rattle.dd_model.specs.Symbol.{Symbol}
use Rattle.dd_model.specs.Jobs.{IsJobOf}
use Rattle.dd_model.specs.Request.{IsValid}
use Rattle.dd_model.specs.declared.jobs.Job.{Job}
use Rattle.dd_model.specs.declared.requests.Request.{Request}
use Rattle.dd_front.specs.Machine.{Machine, jobs_of}
use Rattle.dd_front.specs.Rounds.{open_jobs}
use Rattle.dd_front.proofs.Absorbing.{all_back}
use Rattle.dd_board.specs.Desk.{AreJobsOf}
use Rattle.dd_check.specs.ChainStarts.{Start}
use Rattle.dd_pages_and_checkpoints.specs.Pages.{HasLines, IsEmpty}
use Rattle.dd_pages_and_checkpoints.specs.Rounds.{AreOpen, IsRoundDone, IsAtEnd}
use Rattle.dd_pages_and_checkpoints.specs.declared.pages.Page.{Page}
use Rattle.dd_catalogue_rounds.specs.Works.{IsBegun}
use Rattle.dd_catalogue_rounds.specs.Splits.{IsSplit, IsRefined, IsGroupDone, AreSplits}
use Rattle.dd_catalogue_rounds.specs.Ways.{Way, HasEmitted, IsUnderWay}
use Rattle.dd_catalogue_rounds.proofs.RoundEntries.{open_all, length_jobs, none_behind, opens_back, round_jobs, take_inside}
use Rattle.dd_catalogue_rounds.proofs.Splits.{refined_keeps, split_jobs, split_opens}
use Rattle.dd_catalogue_rounds.proofs.WaySteps.{begun_open, none_done, way_first, way_round, way_split}
use Rattle.dd_catalogue_rounds.proofs.Weights.{weighed, lighter_round, lighter_split}

-- All jobs are of one round, since nothing is kept between two.
abbrev pub plain_way : Start → List Job → Option (List ℕ) → Machine → Way
plain_way s jobs known f = record { start = s; jobs = jobs; base = []; known = known; from = f.from; since = s.at; ahead = jobs_of f.entries; most = length (jobs_of f.entries); round = jobs }

-- Where all entries are open, what was emitted is so in this way.
pub plain_emitted : (w : Way) (f : Machine) (ss : List Symbol) → HasEmitted w f ss → AreOpen f.entries → HasEmitted (plain_way w.start w.jobs w.known f) f ss
plain_emitted w f ss been opens = record {
  work = been.work;
  covers = been.covers;
  opened = been.opened;
  stays = refl;
  all = all_back (IsJobOf w.start.portion.request) been.gone (jobs_of f.entries) (subst (AreJobsOf w.start.portion.request) been.jobs_are been.all);
  gone = [];
  jobs_are = refl;
  entries_are = open_all f.entries opens;
  few = opens_back (length (jobs_of f.entries)) f.entries opens;
  held = been.held;
  recent = λ s there. inr (been.held.go_on.emitted s there).0.under;
  of_round = none_done (plain_way w.start w.jobs w.known f) f.entries opens;
}

pub plain_here : (w : Way) (now : Option (List ℕ)) (page : Page) (f : Machine) → w.base ≡ [] → IsUnderWay w now page f → AreOpen f.entries → IsUnderWay (plain_way w.start w.jobs w.known f) now page f
plain_here w now page f none way opens = record {
  members = way.members;
  emitted = plain_emitted w f way.members way.emitted opens;
  lines = subst (λ base. HasLines w.start.lines base w.known now page way.members) none way.lines;
}

-- nothing was done yet
pub plain_begun : (s : Start) (known : Option (List ℕ)) (page : Page) (f : Machine) (begun : IsBegun s f) → IsEmpty page → page.count ≡ s.lines → page.collected.written ≡ 0 → IsUnderWay (plain_way s begun.jobs known f) known page f
plain_begun s known page f begun empty count bytes =
    plain_here (record { start = s; jobs = begun.jobs; base = []; known = known; from = s.at; since = s.at; ahead = begun.jobs; most = 0; round = [] }) known page f refl
    (way_first s known page f s.at 0 [] begun empty count bytes) (begun_open s f begun)

module _ (s : Start) (jobs : List Job) (known now : Option (List ℕ)) (page : Page) where
  -- a run under way, all of whose entries wait
  record IsWaiting (f : Machine) : Type 0 where
    way : IsUnderWay (plain_way s jobs known f) now page f
    opens : AreOpen f.entries

  waiting_split : (f g : Machine) → IsSplit s.portion.request f g → IsWaiting f → IsWaiting g
  waiting_split f g split ready =
      let opens = split_opens s.portion.request f g split ready.opens in
      record {
        way = plain_here (record (plain_way s jobs known f) { ahead = jobs_of g.entries }) now page g refl (way_split (plain_way s jobs known f) now page f g split ready.opens ready.way) opens;
        opens = opens;
      }

  pub plain_refined : (f g : Machine) → IsRefined s.portion.request f g → IsUnderWay (plain_way s jobs known f) now page f → AreOpen f.entries → IsUnderWay (plain_way s jobs known g) now page g
  plain_refined f g refined way opens = (refined_keeps IsWaiting s.portion.request f g waiting_split refined (record { way = way; opens = opens })).way

  -- a round is done, after some splits
  pub plain_group : (most : ℕ) (f g : Machine) (group : IsGroupDone s.portion.request most f g) → IsUnderWay (plain_way s jobs known f) now page f → AreOpen f.entries
      → IsUnderWay (plain_way s jobs known group.ready) now page g
  plain_group most f g group way opens =
      let h = group.ready in
      let ready = plain_refined f h group.refined way opens in
      let open_now = refined_keeps (λ m. AreOpen m.entries) s.portion.request f h (λ a b split. split_opens s.portion.request a b split) group.refined opens in
      let long = ap length (round_jobs most h g group.round) in
      let size = length_jobs g.entries in
      way_round (plain_way s jobs known h) most now page h g group.round open_now (none_behind (length (jobs_of h.entries)) g.entries (omega (arith, long, size)))
      (λ c there. let own = ready.emitted.held.go_on.extend c (take_inside most (jobs_of h.entries) c there) in record { job = own.0; listed = own.1; extends = own.2 }) ready

-- ## What is left

record IsLight (q : Request) (w : ℕ) (f : Machine) : Type 0 where
  jobs : AreJobsOf q (jobs_of f.entries)
  opens : AreOpen f.entries
  light : weighed (open_jobs f.entries) ≤ w

light_split : (q : Request) (w : ℕ) → IsValid q → (f g : Machine) → IsSplit q f g → IsLight q w f → IsLight q w g
light_split q w valid f g split light =
    let less = lighter_split q f g valid light.jobs light.opens split in
    let old = light.light in
    record { jobs = split_jobs q f g split light.jobs; opens = split_opens q f g split light.opens; light = omega (arith, less, old) }

pub lighter_group : (q : Request) (most : ℕ) (f g : Machine) → IsValid q → AreJobsOf q (jobs_of f.entries) → AreOpen f.entries → IsGroupDone q most f g → weighed (open_jobs g.entries) < weighed (open_jobs f.entries)
lighter_group q most f g valid jobs opens group =
    let start : IsLight q (weighed (open_jobs f.entries)) f = record { jobs = jobs; opens = opens; light = omega arith } in
    let ready = refined_keeps (IsLight q (weighed (open_jobs f.entries))) q f group.ready (light_split q (weighed (open_jobs f.entries)) valid) group.refined start in
    let less = lighter_round most group.ready g group.round ready.opens in
    let low = ready.light in
    omega (arith, less, low)

no_front : (xs ys : List Job) → xs ++ ys ≡ [] → xs ≡ []
no_front [] ys is = refl
no_front (x ∷ xs) ys is = absurd cc

-- where nothing is left after some splits, nothing was left before, and there was none
pub nothing_left : (q : Request) (f g : Machine) → IsRefined q f g → g.entries ≡ [] → (f.entries ≡ []) × (g ≡ f)
nothing_left q f g refined none = go refined.count refined.splits
  where
    go : (n : ℕ) → AreSplits q n f g → (f.entries ≡ []) × (g ≡ f)
    go zero same = (ap (λ (m : Machine). m.entries) (sym same) ∙ none, same)
    go (suc n) (h, before, split) =
        let empty : split.children ++ jobs_of split.rest ≡ [] = sym split.jobs ∙ ap jobs_of none in
        absurd (split.are.some (no_front split.children (jobs_of split.rest) empty))

-- a round after some splits
pub kept_group_after : (q : Request) (f h g : Machine) (few most : ℕ) (more : Bool) → few ≤ most → IsRefined q f h → MatchBool more (IsRoundDone few h g) (IsAtEnd h g) → MatchBool more (IsGroupDone q most f g) (IsAtEnd f g)
kept_group_after q f h g few most true low refined round =
    let size = round.few in
    record { ready = h; refined = refined; round = record { count = round.count; some = round.some; few = omega (arith, size, low); found = round.found; may = round.may; absorbs = round.absorbs } }
kept_group_after q f h g few most false low refined end =
    let left = nothing_left q f h refined end.none in
    record { none = left.0; same = end.same ∙ left.1 }

pub group_after : (q : Request) (f h g : Machine) (most : ℕ) (more : Bool) → IsRefined q f h → MatchBool more (IsRoundDone most h g) (IsAtEnd h g) → MatchBool more ((m : ℕ) × IsGroupDone q m f g) (f.entries ≡ [])
group_after q f h g most true refined round = (most, record { ready = h; refined = refined; round = round })
group_after q f h g most false refined end = (nothing_left q f h refined end.none).0
