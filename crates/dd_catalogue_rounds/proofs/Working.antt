-- What a run has to do, and what is left of it.
use Rattle.std.proofs.Common.{◌≡◌, ◌≢◌, ◌⊎◌, ℕ, zero, suc, ◌+◌, ◌*◌, ◌≤◌, min, length, List, [], ◌∷◌, ◌++◌, take, inl, inr, ⊎_elim, refl, sym, ap, ◌∙◌, subst, arith}
use Rattle.std.proofs.lemmas.Bool.{cases_eq}
use Rattle.std.proofs.lemmas.List.{length_push}
use Rattle.std.proofs.lemmas.List.Elements.{Contains-append_cases, Contains-append_left, Contains-append_right}
use Rattle.std.specs.List.{AllByRecursion, Contains}
use Rattle.dd_model.specs.Symbol.{Symbol}
use Rattle.dd_model.specs.Lists.{IsWithout}
use Rattle.dd_model.specs.Position.{IsWhollyBefore, IsWithin}
use Rattle.dd_model.specs.Jobs.{IsJobOf, IsMemberUnder, AreChildren}
use Rattle.dd_model.specs.Joined.{IsPartBelow, IsUnderOne}
use Rattle.dd_model.specs.declared.requests.Request.{Request}
use Rattle.dd_model.specs.declared.jobs.Job.{Job}
use Rattle.dd_model.specs.declared.jobs.Position.{Position}
use Rattle.dd_model.specs.declared.jobs.Position.TheVariants.{At, End}
use Rattle.dd_model.proofs.Ascending.{all-append, begins_itself, begins_length, begins_through, same_when_whole}
use Rattle.dd_model.proofs.Differing.{Comes, begins_or_not, one_begins, comes_fronts, comes_before_later, smaller_apart}
use Rattle.dd_model.proofs.Lists.{Contains-none, Contains-head, Contains-later, Contains-cases, each_of, all_from_members}
use Rattle.dd_model.proofs.Orders.{job_cmp_total, job_not_below_itself}
use Rattle.dd_model.proofs.Pairs.{ArePairs, part_pairs, pairs_ascending_jobs, pairs_apart, pairs_across, pairs_back, pairs_front, pairs_append}
use Rattle.dd_model.proofs.Positions.{begun_before, not_before_itself, part_fronts, under_wholly_before, wholly_or_not}
use Rattle.dd_model.proofs.Without.{without_kept, without_pairs, without_there}
use Rattle.dd_front.specs.declared.entry.Entry.{Entry}
use Rattle.dd_front.specs.Absorbed.{Extends}
use Rattle.dd_front.specs.Machine.{Machine, StandsAt, jobs_of}
use Rattle.dd_front.proofs.Absorbing.{all_back}
use Rattle.dd_front.proofs.Splitting.{child_extends, children_pairs}
use Rattle.dd_front.proofs.Standing.{under_extended}
use Rattle.dd_front_jobs.specs.declared.portions.Portion.{Portion}
use Rattle.dd_front_jobs.specs.Portions.{IsPortionJob, IsPortionMember}
use Rattle.dd_front_jobs.proofs.PortionLaws.{portion_job, under_portion}
use Rattle.dd_board.specs.Desk.{AreJobsOf}
use Rattle.dd_check.specs.ChainStarts.{Start}
use Rattle.dd_pages_and_checkpoints.specs.Rounds.{AreJobsFrom}
use Rattle.dd_catalogue_rounds.specs.Works.{IsPartOfOne, HasPart, AreWork, AreWithin, CoverRest, IsStarting, IsStarted, IsBegun, IsLongAsWhole}
use Rattle.dd_catalogue_rounds.specs.Splits.{IsNoLonger}
use Rattle.dd_catalogue_rounds.proofs.JobsFrom.{from_ascending, from_apart, from_jobs, from_opening, from_pairs, one_first, opening_pairs}
use Rattle.dd_catalogue_rounds.proofs.RoundEntries.{take_nothing, take_within}
use Rattle.dd_check.proofs.Fronts.{without_some}
use Rattle.dd_front.proofs.GoingOn.{under_child}

extends_itself : (job : Job) → Extends job job
extends_itself job = record { size = refl; begins = begins_itself job.prefix }

extends_through : (c d job : Job) → Extends c d → Extends d job → Extends c job
extends_through c d job a b = record { size = a.size ∙ b.size; begins = begins_through job.prefix d.prefix c.prefix b.begins a.begins }

-- jobs of a portion that are whole
pub whole_work : (p : Portion) (at : Position) (jobs : List Job) → AreJobsFrom p at jobs → AreWork p at jobs
whole_work p at jobs from = record {
  whole = jobs;
  from = from;
  extend = λ c there. record { job = c; listed = there; extends = extends_itself c };
  each = λ job there. record { part = job; listed = there; extends = extends_itself job };
  ascending = from_ascending p at jobs from;
  apart = from_apart p at jobs from;
  all = from_jobs p at jobs from;
}

pub work_pairs : (p : Portion) (at : Position) (jobs : List Job) → AreWork p at jobs → ArePairs IsPartBelow jobs
work_pairs p at jobs work = part_pairs jobs work.ascending work.apart

-- what is under one of the jobs is a member
pub work_member : (p : Portion) (at : Position) (jobs : List Job) (s : Symbol) → AreWork p at jobs → IsUnderOne p.request jobs s → IsPortionMember p s
work_member p at jobs s work under =
    let part = work.extend under.job under.listed in
    under_portion p work.from.opening s work.from.is_opening
    (record {
      job = part.job;
      listed = (without_there (IsWhollyBefore at) work.from.opening work.whole part.job work.from.left part.listed).0;
      under = under_extended p.request under.job part.job s part.extends under.under;
    })

pub work_within : (p : Portion) (at : Position) (jobs : List Job) → AreWork p at jobs → AreWithin p jobs
work_within p at jobs work = record { members = λ s under. work_member p at jobs s work under; ascending = work.ascending; apart = work.apart; all = work.all }

-- a run that was started has begun
abbrev pub begun_of : (s : Start) (f : Machine) → IsStarted s f → IsBegun s f
begun_of s f started = record { jobs = started.jobs; within = work_within s.portion s.at started.jobs started.starting.work; covers = started.starting.covers; opened = started.opened }

-- ## Parts in order

-- one job does not extend two that are apart
not_of_both : (j k c : Job) → IsPartBelow j k → Extends c j → Extends c k → ⊥
not_of_both j k c part ej ek =
    let apart = part.apart (sym ej.size ∙ ek.size) in
    ⊎_elim apart.0 apart.1 (one_begins j.prefix k.prefix c.prefix ej.begins ek.begins)

-- no job is both before and after another
not_around : (c d : Job) → IsPartBelow c d → IsPartBelow d c → ⊥
not_around c d a b = job_not_below_itself c c (job_cmp_total.trans c d c a.below b.below) refl refl

-- what extends the one is before what extends the other
parts_below : (j k c d : Job) → IsPartBelow j k → Extends c j → Extends d k → IsPartBelow c d
parts_below j k c d part ec ed = part_fronts j k c d part ec.size ed.size ec.begins ed.begins

extends_or_not : (c job : Job) → Extends c job ⊎ ¬ Extends c job
extends_or_not c job = ⊎_elim
    (λ size. ⊎_elim (λ begins. inl (record { size = size; begins = begins })) (λ differs. inr (λ e. differs e.begins)) (begins_or_not job.prefix c.prefix))
    (λ differs. inr (λ e. differs e.size))
    (cases_eq c.size job.size)

-- Jobs in parts: each is a part of one of these, and each of these has a part.
record ArePartsOf (whole jobs : List Job) : Type 0 where
  extend : (c : Job) → Contains jobs c → IsPartOfOne whole c
  each : (job : Job) → Contains whole job → HasPart jobs job
  ordered : ArePairs IsPartBelow whole
  pairs : ArePairs IsPartBelow jobs

-- the first part is one of the first job
first_part : (w : Job) (ws : List Job) (d : Job) (ds : List Job) → ArePartsOf (w ∷ ws) (d ∷ ds) → Extends d w
first_part w ws d ds are =
    let of = are.extend d (Contains-head d ds) in
    ⊎_elim
    (λ same. subst (Extends d) (sym same) of.extends)
    (λ later.
    let order = each_of (IsPartBelow w) ws of.job are.ordered.0 later in
    let part = are.each w (Contains-head w ws) in
    absurd (⊎_elim
    (λ same. not_of_both w of.job d order (subst (λ c. Extends c w) (sym same) part.extends) of.extends)
    (λ among. not_around d part.part (each_of (IsPartBelow d) ds part.part are.pairs.0 among) (parts_below w of.job part.part d order part.extends of.extends))
    (Contains-cases d part.part ds part.listed)))
    (Contains-cases w of.job ws of.listed)

-- without the first part, where the next one is of the same job
parts_same : (w : Job) (ws : List Job) (d e : Job) (es : List Job) → ArePartsOf (w ∷ ws) (d ∷ e ∷ es) → Extends e w → ArePartsOf (w ∷ ws) (e ∷ es)
parts_same w ws d e es are same = record {
  extend = λ c there. are.extend c (Contains-later d c (e ∷ es) there);
  each = λ job there.
      ⊎_elim
      (λ is. record { part = e; listed = Contains-head e es; extends = subst (Extends e) is same })
      (λ later.
      let part = are.each job there in
      ⊎_elim
      (λ first. absurd (not_of_both w job d (each_of (IsPartBelow w) ws job are.ordered.0 later) (first_part w ws d (e ∷ es) are) (subst (λ c. Extends c job) (sym first) part.extends)))
      (λ among. record { part = part.part; listed = among; extends = part.extends })
      (Contains-cases d part.part (e ∷ es) part.listed))
      (Contains-cases w job ws there);
  ordered = are.ordered;
  pairs = are.pairs.1;
}

-- and where it is not
parts_next : (w : Job) (ws : List Job) (d e : Job) (es : List Job) → ArePartsOf (w ∷ ws) (d ∷ e ∷ es) → ¬ Extends e w → ArePartsOf ws (e ∷ es)
parts_next w ws d e es are differs = record {
  extend = λ c there.
      let of = are.extend c (Contains-later d c (e ∷ es) there) in
      ⊎_elim
      (λ is. absurd (none c there (subst (Extends c) (sym is) of.extends)))
      (λ later. record { job = of.job; listed = later; extends = of.extends })
      (Contains-cases w of.job ws of.listed);
  each = λ job there.
      let part = are.each job (Contains-later w job ws there) in
      ⊎_elim
      (λ first. absurd (not_of_both w job d (each_of (IsPartBelow w) ws job are.ordered.0 there) (first_part w ws d (e ∷ es) are) (subst (λ c. Extends c job) (sym first) part.extends)))
      (λ among. record { part = part.part; listed = among; extends = part.extends })
      (Contains-cases d part.part (e ∷ es) part.listed);
  ordered = are.ordered.1;
  pairs = are.pairs.1;
}
  where
    none : (c : Job) → Contains (e ∷ es) c → ¬ Extends c w
    none c there extends =
        ⊎_elim
        (λ first. differs (subst (λ x. Extends x w) (sym first) extends))
        (λ among.
        let of = are.extend e (Contains-later d e (e ∷ es) (Contains-head e es)) in
        ⊎_elim
        (λ is. differs (subst (Extends e) (sym is) of.extends))
        (λ later. not_around e c (each_of (IsPartBelow e) es c are.pairs.1.0 among) (parts_below w of.job c e (each_of (IsPartBelow w) ws of.job are.ordered.0 later) extends of.extends))
        (Contains-cases w of.job ws of.listed))
        (Contains-cases e c es there)

wider : (n m : ℕ) (jobs : List Job) (c : Job) → n ≤ m → IsPartOfOne (take n jobs) c → IsPartOfOne (take m jobs) c
wider n m jobs c low part = record { job = part.job; listed = take_within n m jobs part.job low part.listed; extends = part.extends }

-- the first parts are parts of as many of the first jobs
parts_taken : (n : ℕ) (whole jobs : List Job) (c : Job) → ArePartsOf whole jobs → Contains (take n jobs) c → IsPartOfOne (take n whole) c
parts_taken zero whole jobs c are there = absurd (Contains-none c (subst (λ xs. Contains xs c) (take_nothing jobs) there))
parts_taken (suc n) whole [] c are there = absurd (Contains-none c there)
parts_taken (suc n) [] (d ∷ ds) c are there = let of = are.extend d (Contains-head d ds) in absurd (Contains-none of.job of.listed)
parts_taken (suc n) (w ∷ ws) (d ∷ []) c are there =
    ⊎_elim
    (λ first. record { job = w; listed = Contains-head w (take n ws); extends = subst (λ x. Extends x w) first (first_part w ws d [] are) })
    (λ later. absurd (none_taken n later))
    (Contains-cases d c (take n []) there)
  where
    none_taken : (k : ℕ) → Contains (take k []) c → ⊥
    none_taken zero among = Contains-none c among
    none_taken (suc k) among = Contains-none c among
parts_taken (suc n) (w ∷ ws) (d ∷ e ∷ es) c are there =
    ⊎_elim
    (λ first. record { job = w; listed = Contains-head w (take n ws); extends = subst (λ x. Extends x w) first (first_part w ws d (e ∷ es) are) })
    (λ later. ⊎_elim
    (λ same. wider n (suc n) (w ∷ ws) c (omega arith) (parts_taken n (w ∷ ws) (e ∷ es) c (parts_same w ws d e es are same) later))
    (λ differs.
    let part = parts_taken n ws (e ∷ es) c (parts_next w ws d e es are differs) later in
    record { job = part.job; listed = Contains-later w part.job (take n ws) part.listed; extends = part.extends })
    (extends_or_not e w))
    (Contains-cases d c (take n (e ∷ es)) there)

pub taken_part : (p : Portion) (at : Position) (jobs : List Job) (n : ℕ) (c : Job) (work : AreWork p at jobs) → Contains (take n jobs) c → IsPartOfOne (take n work.whole) c
taken_part p at jobs n c work there =
    parts_taken n work.whole jobs c
    (record {
      extend = work.extend;
      each = work.each;
      ordered = from_pairs p at work.whole work.from;
      pairs = work_pairs p at jobs work;
    })
    there

-- ## Children in the place of the first

some_of : (xs : List Job) → xs ≢ [] → (x : Job) × Contains xs x
some_of [] some = absurd (some refl)
some_of (x ∷ xs) some = (x, Contains-head x xs)

-- the children of a job of a request are jobs of it
pub children_jobs : (q : Request) (job : Job) (cs jobs : List Job) → AreChildren q job cs → AreJobsOf q (job ∷ jobs) → AreJobsOf q (cs ++ jobs)
children_jobs q job cs jobs children all = all-append (IsJobOf q) cs jobs (all_from_members (IsJobOf q) cs small) all.1
  where
    small : (c : Job) → Contains cs c → IsJobOf q c
    small c there =
        let is = children.extensions.extend c there in
        let own = all.0 in
        let long : length c.prefix ≡ length job.prefix + 1 = ap (λ (x : Job). length x.prefix) is.1 ∙ length_push job.prefix is.0 in
        let size : c.size ≡ job.size = ap (λ (x : Job). x.size) is.1 in
        let shorter = children.shorter in
        let positive = own.positive in
        let few = own.small in
        record { positive = omega (arith, size, positive); small = omega (arith, size, few); short = omega (arith, long, size, shorter) }

-- the first of the jobs, in parts of which none is left out
pub work_split : (p : Portion) (at : Position) (job : Job) (jobs cs : List Job) (work : AreWork p at (job ∷ jobs)) → AreChildren p.request job cs → (now : AreWork p at (cs ++ jobs)) × (now.whole ≡ work.whole)
work_split p at job jobs cs work children =
    let pairs : ArePairs IsPartBelow (cs ++ jobs) = children_pairs p.request [] jobs cs job (work_pairs p at (job ∷ jobs) work) children in (
      record {
        whole = work.whole;
        from = work.from;
        extend = λ c there.
            ⊎_elim
            (λ child.
            let of = work.extend job (Contains-head job jobs) in
            record { job = of.job; listed = of.listed; extends = extends_through c job of.job (child_of c child) of.extends })
            (λ later. work.extend c (Contains-later job c jobs later))
            (Contains-append_cases cs jobs c there);
        each = λ whole there.
            let part = work.each whole there in
            ⊎_elim
            (λ first.
            let child = some_of cs children.some in
            record {
              part = child.0;
              listed = Contains-append_left cs jobs child.0 child.1;
              extends = extends_through child.0 job whole (child_of child.0 child.1) (subst (λ x. Extends x whole) (sym first) part.extends);
            })
            (λ later. record { part = part.part; listed = Contains-append_right cs jobs part.part later; extends = part.extends })
            (Contains-cases job part.part jobs part.listed);
        ascending = pairs_ascending_jobs (cs ++ jobs) pairs;
        apart = pairs_apart (cs ++ jobs) pairs;
        all = children_jobs p.request job cs jobs children work.all;
      },
      refl,
    )
  where
    child_of : (c : Job) → Contains cs c → Extends c job
    child_of c there = child_extends job c (children.extensions.extend c there)

-- The first of the jobs, in parts, without those that are wholly before the position. Some part is left.
module _ (p : Portion) (at : Position) (job : Job) (jobs cs ds : List Job) (children : AreChildren p.request job cs) (left : IsWithout (IsWhollyBefore at) cs ds) (some : ds ≢ []) where
  child : (d : Job) → Contains ds d → Contains cs d
  child d there = (without_there (IsWhollyBefore at) cs ds d left there).0

  pub cut_work : AreWork p at (job ∷ jobs) → AreWork p at (ds ++ jobs)
  cut_work work =
      let split = work_split p at job jobs cs work children in
      let whole = work_pairs p at (cs ++ jobs) split.0 in
      let pairs : ArePairs IsPartBelow (ds ++ jobs) =
      pairs_append IsPartBelow ds jobs (without_pairs (IsWhollyBefore at) IsPartBelow cs ds left (pairs_front IsPartBelow cs jobs whole)) (pairs_back IsPartBelow cs jobs whole)
      (λ x y hx hy. pairs_across IsPartBelow cs jobs whole x y (child x hx) hy) in
      record {
        whole = work.whole;
        from = work.from;
        extend = λ c there.
            ⊎_elim
            (λ part.
            let of = work.extend job (Contains-head job jobs) in
            record { job = of.job; listed = of.listed; extends = extends_through c job of.job (child_extends job c (children.extensions.extend c (child c part))) of.extends })
            (λ later. work.extend c (Contains-later job c jobs later))
            (Contains-append_cases ds jobs c there);
        each = λ of there.
            let part = work.each of there in
            ⊎_elim
            (λ first.
            let one = some_of ds some in
            record {
              part = one.0;
              listed = Contains-append_left ds jobs one.0 one.1;
              extends = extends_through one.0 job of (child_extends job one.0 (children.extensions.extend one.0 (child one.0 one.1))) (subst (λ x. Extends x of) (sym first) part.extends);
            })
            (λ later. record { part = part.part; listed = Contains-append_right ds jobs part.part later; extends = part.extends })
            (Contains-cases job part.part jobs part.listed);
        ascending = pairs_ascending_jobs (ds ++ jobs) pairs;
        apart = pairs_apart (ds ++ jobs) pairs;
        all = all-append (IsJobOf p.request) ds jobs (all_from_members (IsJobOf p.request) ds (λ d there. each_of (IsJobOf p.request) (cs ++ jobs) d split.0.all (Contains-append_left cs jobs d (child d there)))) work.all.1;
      }

  pub cut_covers : CoverRest p at (job ∷ jobs) → CoverRest p at (ds ++ jobs)
  cut_covers covers s member later =
      let under = covers s member later in
      ⊎_elim
      (λ first.
      let part = under_child p.request job cs s children (subst (λ j. IsMemberUnder p.request j s) (sym first) under.under) in
      let kept = without_kept (IsWhollyBefore at) cs ds part.job left part.listed (λ wholly. later (under_wholly_before p.request at part.job s wholly part.under)) in
      record { job = part.job; listed = Contains-append_left ds jobs part.job kept; under = part.under })
      (λ among. record { job = under.job; listed = Contains-append_right ds jobs under.job among; under = under.under })
      (Contains-cases job under.job jobs under.listed)

  pub cut_starting : IsStarting p at (job ∷ jobs) → IsStarting p at (ds ++ jobs)
  cut_starting starting = record {
    work = cut_work starting.work;
    covers = cut_covers starting.covers;
    later = all-append (λ j. ¬ IsWhollyBefore at j) ds jobs (all_from_members (λ j. ¬ IsWhollyBefore at j) ds (λ d there. (without_there (IsWhollyBefore at) cs ds d left there).1)) starting.later.1;
  }

-- ## What is left

-- what extends a job that is wholly before a position is wholly before it
wholly_extended : (at : Position) (c job : Job) → Extends c job → IsWhollyBefore at job → IsWhollyBefore at c
wholly_extended End c job extends wholly = tt
wholly_extended (At p) c job extends wholly =
    subst (λ n. Comes n c.prefix p.size p.prefix) (sym extends.size)
    (comes_fronts job.size p.size job.prefix p.prefix c.prefix p.prefix wholly extends.begins (begins_itself p.prefix))

-- Where a machine stands that still has these jobs, they are the work from there.
pub work_left : (p : Portion) (since at from : Position) (gone : List Job) (es : List Entry) → AreWork p since (gone ++ jobs_of es) → StandsAt from es at
    → AllByRecursion (λ j. ¬ IsWhollyBefore from j) (jobs_of es) → AreWork p at (jobs_of es)
work_left p since at from gone [] work stands later = record {
  whole = [];
  from = record {
    opening = work.from.opening;
    is_opening = work.from.is_opening;
    left = all_gone_none (IsWhollyBefore at) work.from.opening (all_from_members (IsWhollyBefore at) work.from.opening (λ job there. subst (λ z. IsWhollyBefore z job) (sym stands) tt));
  };
  extend = λ c there. absurd (Contains-none c there);
  each = λ job there. absurd (Contains-none job there);
  ascending = tt;
  apart = tt;
  all = tt;
}
  where
    all_gone_none : {A : Type 0} (P : A → Type 0) (xs : List A) → AllByRecursion P xs → IsWithout P xs []
    all_gone_none P [] all = tt
    all_gone_none P (x ∷ xs) all = (all.0, all_gone_none P xs all.1)
work_left p since at from gone (e ∷ es) work stands later = record {
  whole = kept.0;
  from = record { opening = work.from.opening; is_opening = work.from.is_opening; left = kept.1 };
  extend = λ c there.
      let of = work.extend c (Contains-append_right gone here c there) in
      record {
        job = of.job;
        listed = without_kept (IsWhollyBefore at) work.from.opening kept.0 of.job kept.1 (in_opening of.job of.listed) (λ wholly. not_yet c there (wholly_extended at c of.job of.extends wholly));
        extends = of.extends;
      };
  each = λ job there.
      let own = without_there (IsWhollyBefore at) work.from.opening kept.0 job kept.1 there in
      let part = work.each job (without_kept (IsWhollyBefore since) work.from.opening work.whole job work.from.left own.0 (λ early. passed job own.0 own.1 early)) in
      ⊎_elim
      (λ before. part_left job own.0 own.1 part.part before part.extends)
      (λ left. record { part = part.part; listed = left; extends = part.extends })
      (Contains-append_cases gone here part.part part.listed);
  ascending = pairs_ascending_jobs here (pairs_back IsPartBelow gone here pairs);
  apart = pairs_apart here (pairs_back IsPartBelow gone here pairs);
  all = all_back (IsJobOf p.request) gone here work.all;
}
  where
    here : List Job
    here = e.job ∷ jobs_of es

    pairs : ArePairs IsPartBelow (gone ++ here)
    pairs = work_pairs p since (gone ++ here) work

    kept : (ys : List Job) × IsWithout (IsWhollyBefore at) work.from.opening ys
    kept = without_some (IsWhollyBefore at) (wholly_or_not at) work.from.opening

    in_opening : (job : Job) → Contains work.whole job → Contains work.from.opening job
    in_opening job there = (without_there (IsWhollyBefore since) work.from.opening work.whole job work.from.left there).0

    begun : IsWhollyBefore at e.job ⊎ IsWithin e.job at
    begun = ⊎_elim
        (λ h. subst (λ z. IsWhollyBefore z e.job ⊎ IsWithin e.job z) (sym h.1) h.0)
        (λ h. subst (λ z. IsWhollyBefore z e.job ⊎ IsWithin e.job z) (sym h.1) (inr (refl, begins_itself e.job.prefix)))
        stands

    first_later : ¬ IsWhollyBefore at e.job
    first_later = ⊎_elim
        (λ h. subst (λ z. ¬ IsWhollyBefore z e.job) (sym h.1) later.0)
        (λ h. subst (λ z. ¬ IsWhollyBefore z e.job) (sym h.1) (not_before_itself e.job))
        stands

    not_yet : (c : Job) → Contains here c → ¬ IsWhollyBefore at c
    not_yet c there wholly =
        ⊎_elim
        (λ first. first_later (subst (IsWhollyBefore at) (sym first) wholly))
        (λ after. first_later (begun_before at e.job c (each_of (IsPartBelow e.job) (jobs_of es) c (pairs_back IsPartBelow gone here pairs).0 after) (inl wholly)))
        (Contains-cases e.job c (jobs_of es) there)

    -- the job of which the first one left is a part
    first_of : IsPartOfOne work.whole e.job
    first_of = work.extend e.job (Contains-append_right gone here e.job (Contains-head e.job (jobs_of es)))

    -- where a job of the portion lies, seen from there
    side : (job : Job) → Contains work.from.opening job → (job ≡ first_of.job) ⊎ (IsPartBelow job first_of.job ⊎ IsPartBelow first_of.job job)
    side job there = one_first IsPartBelow work.from.opening job first_of.job (opening_pairs p work.from.opening work.from.is_opening) there (in_opening first_of.job first_of.listed)

    earlier : (job : Job) → IsPartBelow job first_of.job → IsWhollyBefore at job
    earlier job below = begun_before at job e.job (parts_below job first_of.job job e.job below (extends_itself job) first_of.extends) begun

    passed : (job : Job) → Contains work.from.opening job → (¬ IsWhollyBefore at job) → IsWhollyBefore since job → ⊥
    passed job there not wholly =
        let own = without_there (IsWhollyBefore since) work.from.opening work.whole first_of.job work.from.left first_of.listed in
        ⊎_elim
        (λ same. own.1 (subst (IsWhollyBefore since) same wholly))
        (λ apart. ⊎_elim
        (λ below. not (earlier job below))
        (λ above. own.1 (begun_before since first_of.job job above (inl wholly)))
        apart)
        (side job there)

    part_left : (job : Job) → Contains work.from.opening job → (¬ IsWhollyBefore at job) → (c : Job) → Contains gone c → Extends c job → HasPart here job
    part_left job there not c before extends =
        ⊎_elim
        (λ same. record { part = e.job; listed = Contains-head e.job (jobs_of es); extends = subst (Extends e.job) (sym same) first_of.extends })
        (λ apart. ⊎_elim
        (λ below. absurd (not (earlier job below)))
        (λ above. absurd (not_around c e.job
        (pairs_across IsPartBelow gone here pairs c e.job before (Contains-head e.job (jobs_of es)))
        (parts_below first_of.job job e.job c above first_of.extends extends)))
        apart)
        (side job there)

-- what extends a job is not wholly before a position that is not in the job
pub child_later : (at : Position) (c job : Job) → Extends c job → ¬ IsWhollyBefore at job → ¬ IsWithin job at → ¬ IsWhollyBefore at c
child_later End c job extends later within wholly = later tt
child_later (At p) c job extends later within wholly =
    ⊎_elim
    (λ low. let size = extends.size in absurd (omega (arith, low, size)))
    (λ both. (smaller_apart c.prefix job.prefix both.1).1 extends.begins)
    (comes_before_later c.size job.size p.size c.prefix job.prefix p.prefix wholly later within)

-- nor before the job itself
pub child_not_before : (c job : Job) → Extends c job → ¬ IsWhollyBefore (At job) c
child_not_before c job extends wholly =
    ⊎_elim
    (λ low. let size = extends.size in absurd (omega (arith, low, size)))
    (λ both. (smaller_apart c.prefix job.prefix both.1).1 extends.begins)
    wholly

-- nor before where a machine goes on that stands in front of it
pub child_stays : (from at : Position) (e : Entry) (es : List Entry) (c : Job) → StandsAt from (e ∷ es) at → IsNoLonger at e.job → ¬ IsWhollyBefore from e.job → Extends c e.job → ¬ IsWhollyBefore from c
child_stays from at e es c stands short later extends =
    ⊎_elim
    (λ begun. ⊎_elim (λ wholly. absurd (later wholly)) (λ within. inside from within (subst (λ z. IsNoLonger z e.job) begun.1 short)) begun.0)
    (λ other. child_later from c e.job extends later (λ within. other.0 (inr within)))
    stands
  where
    inside : (p : Position) → IsWithin e.job p → IsNoLonger p e.job → ¬ IsWhollyBefore p c
    inside End within low wholly = absurd within
    inside (At r) within low wholly =
        let long = begins_length e.job.prefix r.prefix within.1 in
        let same : r.prefix ≡ e.job.prefix = same_when_whole e.job.prefix r.prefix within.1 (omega (arith, long, low)) in
        child_not_before c e.job extends
        (subst (λ xs. Comes c.size c.prefix e.job.size xs) same (subst (λ n. Comes c.size c.prefix n r.prefix) (sym within.0) wholly))

-- a part that is as long as the jobs of an opening is one of them
pub whole_part : (p : Portion) (at : Position) (jobs : List Job) (c : Job) → AreWork p at jobs → Contains jobs c → length c.prefix ≡ min (3 * c.size) 9 → IsPortionJob p c
whole_part p at jobs c work there long =
    let of = work.extend c there in
    let opening = from_opening p at work.whole of.job work.from of.listed in
    let size = of.extends.size in
    let numbers : length of.job.prefix ≡ length c.prefix = (portion_job p of.job opening).numbers ∙ ap (λ n. min (3 * n) 9) (sym size) ∙ sym long in
    let prefix : c.prefix ≡ of.job.prefix = same_when_whole of.job.prefix c.prefix of.extends.begins numbers in
    subst (IsPortionJob p) (λ i. record { size = sym size i; prefix = sym prefix i }) opening

-- where a run stands between two rounds: at a job of the portion, or at the end
abbrev pub IsRoundStop : Portion → Position → Type 0
IsRoundStop p End = Unit {0}
IsRoundStop p (At job) = IsPortionJob p job

-- where a machine stands that has such work, it may stop, if the position is as long as the jobs of an opening
pub whole_stop : (p : Portion) (since from at : Position) (es : List Entry) → AreWork p since (jobs_of es) → StandsAt from es at → AllByRecursion (λ j. ¬ IsWhollyBefore from j) (jobs_of es) → IsLongAsWhole at → IsRoundStop p at
whole_stop p since from at [] work stands later long = subst (IsRoundStop p) (sym stands) tt
whole_stop p since from at (e ∷ es) work stands later long =
    ⊎_elim
    (λ begun. ⊎_elim (λ wholly. absurd (later.0 wholly)) (λ within. subst (IsRoundStop p) (sym begun.1) (inside from within (subst IsLongAsWhole begun.1 long))) begun.0)
    (λ other. subst (IsRoundStop p) (sym other.1) (whole_part p since (jobs_of (e ∷ es)) e.job work here (subst IsLongAsWhole other.1 long)))
    stands
  where
    here : Contains (jobs_of (e ∷ es)) e.job
    here = Contains-head e.job (jobs_of es)

    of : IsPartOfOne work.whole e.job
    of = work.extend e.job here

    -- the job of the portion is as long as the position, so the part is the job
    inside : (q : Position) → IsWithin e.job q → IsLongAsWhole q → IsRoundStop p q
    inside End within whole = absurd within
    inside (At r) within whole =
        let opening = from_opening p since work.whole of.job work.from of.listed in
        let numbers = (portion_job p of.job opening).numbers in
        let size = of.extends.size in
        let inner = begins_length of.job.prefix e.job.prefix of.extends.begins in
        let outer = begins_length e.job.prefix r.prefix within.1 in
        let same_size = ap (λ n. min (3 * n) 9) (sym size ∙ within.0) in
        let long : length e.job.prefix ≡ length r.prefix = omega (arith, numbers, inner, outer, whole, same_size) in
        let same : r.prefix ≡ e.job.prefix = same_when_whole e.job.prefix r.prefix within.1 long in
        let here_long : length e.job.prefix ≡ min (3 * e.job.size) 9 = long ∙ whole ∙ ap (λ n. min (3 * n) 9) (sym within.0) in
        subst (IsPortionJob p) (λ i. record { size = within.0 i; prefix = sym same i }) (whole_part p since (jobs_of (e ∷ es)) e.job work here here_long)

-- work is known by its jobs, along an equation of lists
pub work_along : (p : Portion) (at : Position) (js ks : List Job) → js ≡ ks → (work : AreWork p at js) → (now : AreWork p at ks) × (now.whole ≡ work.whole)
work_along p at js ks same work = subst (λ xs. (now : AreWork p at xs) × (now.whole ≡ work.whole)) same (work, refl)
