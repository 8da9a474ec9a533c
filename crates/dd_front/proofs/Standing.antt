-- Where a machine stands, and what is before that position.
use Rattle.std.proofs.Common.{◌≡◌, ◌⊎◌, ◌↔◌, List, [], ◌∷◌, refl, sym, ◌∙◌, subst, inl, inr, ⊎_elim}
use Rattle.std.specs.List.{Contains}
use Rattle.dd_model.specs.Symbol.{Symbol}
use Rattle.dd_model.specs.Position.{IsBefore}
use Rattle.dd_model.specs.Jobs.{IsMemberUnder}
use Rattle.dd_model.specs.Joined.{IsUnderOne, IsPartBelow}
use Rattle.dd_model.specs.declared.requests.Request.{Request}
use Rattle.dd_model.specs.declared.jobs.Job.{Job}
use Rattle.dd_model.specs.declared.jobs.Position.{Position}
use Rattle.dd_model.specs.declared.jobs.Position.TheVariants.{At, End}
use Rattle.dd_model.proofs.Lists.{Contains-none, Contains-head, Contains-cases}
use Rattle.dd_model.proofs.Ascending.{begins_through}
use Rattle.dd_model.proofs.Positions.{under_not_before, before_later, before_begun, before_unbegun, wholly_or_not, within_or_not}
use Rattle.dd_model.proofs.JoinedLists.{first_parts}
use Rattle.dd_front.specs.declared.entry.Entry.{Entry}
use Rattle.dd_front.specs.Machine.{IsBegun, StandsAt, jobs_of}
use Rattle.dd_front.specs.Covered.{IsLater, IsBetween}
use Rattle.dd_front.specs.Absorbed.{Extends}
use Rattle.dd_front.specs.Held.{IsPast, GoOn}

pub begun_or_not : (from : Position) (job : Job) → IsBegun from job ⊎ ¬ IsBegun from job
begun_or_not from job =
    ⊎_elim
    (λ wholly. inl (inl wholly))
    (λ not_wholly. ⊎_elim
    (λ within. inl (inr within))
    (λ not_within. inr (λ begun. ⊎_elim not_wholly not_within begun))
    (within_or_not job from))
    (wholly_or_not from job)

pub stands_once : (from a b : Position) (es : List Entry) → StandsAt from es a → StandsAt from es b → a ≡ b
stands_once from a b [] sa sb = sa ∙ sym sb
stands_once from a b (e ∷ es) sa sb =
    ⊎_elim
    (λ ha. ⊎_elim (λ hb. ha.1 ∙ sym hb.1) (λ hb. absurd (hb.0 ha.0)) sb)
    (λ ha. ⊎_elim (λ hb. absurd (ha.0 hb.0)) (λ hb. ha.1 ∙ sym hb.1) sb)
    sa

pub stands_somewhere : (from : Position) (es : List Entry) → (a : Position) × StandsAt from es a
stands_somewhere from [] = (End, refl)
stands_somewhere from (e ∷ es) = ⊎_elim (λ begun. (from, inl (begun, refl))) (λ not. (At e.job, inr (not, refl))) (begun_or_not from e.job)

-- the same by the jobs of the entries
abbrev pub JobsStandAt : Position → List Job → Position → Type 0
JobsStandAt from [] at = at ≡ End
JobsStandAt from (j ∷ js) at = (IsBegun from j × (at ≡ from)) ⊎ ((¬ IsBegun from j) × (at ≡ At j))

pub jobs_stand : (from at : Position) (es : List Entry) → StandsAt from es at → JobsStandAt from (jobs_of es) at
jobs_stand from at [] h = h
jobs_stand from at (e ∷ es) h = h

-- what is under a job is under each that it extends
pub under_extended : (q : Request) (child job : Job) (s : Symbol) → Extends child job → IsMemberUnder q child s → IsMemberUnder q job s
under_extended q child job s extends under = record {
  member = under.member;
  size = under.size ∙ extends.size;
  begins = begins_through job.prefix child.prefix _ extends.begins under.begins;
}

module _ (q : Request) (opening : List Job) (at : Position) (jobs : List Job) (from : Position) (out : List Symbol) (go : GoOn q opening at jobs from out) where
  -- what is under the jobs is under the opening
  pub inside : (s : Symbol) → IsUnderOne q jobs s → IsUnderOne q opening s
  inside s under =
      let whole = go.extend under.job under.listed in
      record { job = whole.0; listed = whole.1; under = under_extended q under.job whole.0 s whole.2 under.under }

-- what the jobs still have is not before where they stand
pub later_not_before : (q : Request) (opening : List Job) (at from stands : Position) (jobs : List Job) (out : List Symbol) (s : Symbol) → GoOn q opening at jobs from out
    → JobsStandAt from jobs stands → IsLater q jobs from s → IsBefore stands s → ⊥
later_not_before q opening at from stands [] out s go stand later before = Contains-none later.under.job later.under.listed
later_not_before q opening at from stands (j ∷ js) out s go (inl stand) later before = later.later (subst (λ p. IsBefore p s) stand.1 before)
later_not_before q opening at from stands (j ∷ js) out s go (inr stand) later before =
    let before_first : IsBefore (At j) s = subst (λ p. IsBefore p s) stand.1 before in
    let job = later.under.job in
    ⊎_elim
    (λ first. under_not_before q j s (subst (λ k. IsMemberUnder q k s) (sym first) later.under.under) before_first)
    (λ further.
    let part : IsPartBelow j job = first_parts j job js go.ascending_jobs go.apart further in
    under_not_before q job s later.under.under (before_later j job s part before_first))
    (Contains-cases j job js later.under.listed)

-- what is before the position of the members is before where the jobs stand
pub before_stands : (from stands : Position) (jobs : List Job) (s : Symbol) → JobsStandAt from jobs stands → IsBefore from s → IsBefore stands s
before_stands from stands [] s stand before = subst (λ p. IsBefore p s) (sym stand) tt
before_stands from stands (j ∷ js) s (inl stand) before = subst (λ p. IsBefore p s) (sym stand.1) before
before_stands from stands (j ∷ js) s (inr stand) before =
    subst (λ p. IsBefore p s) (sym stand.1) (before_unbegun from j s (λ wholly. stand.0 (inl wholly)) (λ within. stand.0 (inr within)) before)

pub past_stands : (from stands : Position) (jobs : List Job) (s : Symbol) → JobsStandAt from jobs stands → IsPast jobs from s → IsBefore stands s
past_stands from stands jobs s stand (inl before) = before_stands from stands jobs s stand before
past_stands from stands [] s stand (inr each) = subst (λ p. IsBefore p s) (sym stand) tt
past_stands from stands (j ∷ js) s (inl stand) (inr each) = subst (λ p. IsBefore p s) (sym stand.1) (before_begun from j s stand.0 (each j (Contains-head j js)))
past_stands from stands (j ∷ js) s (inr stand) (inr each) = subst (λ p. IsBefore p s) (sym stand.1) (each j (Contains-head j js))

-- what was emitted are the members before where the jobs stand
pub emitted_between : (q : Request) (opening : List Job) (at from stands : Position) (jobs : List Job) (out : List Symbol) → GoOn q opening at jobs from out
    → JobsStandAt from jobs stands → (s : Symbol) → Contains out s ↔ IsBetween q opening at stands s
emitted_between q opening at from stands jobs out go stand s = (
  (λ there. let e = go.emitted s there in record { from = e.0; before = past_stands from stands jobs s stand e.1 }),
  (λ between. ⊎_elim
      (λ there. there)
      (λ later. absurd (later_not_before q opening at from stands jobs out s go stand later between.before))
      (go.complete s between.from)),
)

-- and what the jobs still have are those from there on
pub left_from : (q : Request) (opening : List Job) (at from stands : Position) (jobs : List Job) (out : List Symbol) → GoOn q opening at jobs from out
    → JobsStandAt from jobs stands → (s : Symbol) → IsLater q jobs from s ↔ IsLater q opening stands s
left_from q opening at from stands jobs out go stand s = (
  (λ later. record {
    under = inside q opening at jobs from out go s later.under;
    later = λ before. later_not_before q opening at from stands jobs out s go stand later before;
  }),
  (λ later.
      let not_at = λ (before : IsBefore at s). later.later (before_stands from stands jobs s stand (go.further s later.under.under.member before)) in
      ⊎_elim
      (λ there. absurd (later.later (past_stands from stands jobs s stand (go.emitted s there).1)))
      (λ left. left)
      (go.complete s (record { under = later.under; later = not_at }))),
)
