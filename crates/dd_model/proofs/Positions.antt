-- Positions, jobs and symbols in order.
use Rattle.std.proofs.Common.{◌≡◌, ◌⊎◌, ℕ, zero, suc, ◌*◌, ◌<◌, List, [], ◌∷◌, length, get_or, take, drop, sym, ap, ◌∙◌, subst, inl, inr, ⊎_elim, arith}
use Rattle.std.proofs.lemmas.Bool.{cases_eq}
use Rattle.std.specs.Ordering.{nat_cmp, ordering_then}
use Rattle.std.specs.Cmp.Lexicographic.{slice_cmp}
use Rattle.std.specs.FinMap.{nat_cmp-IsAntisymmetric}
use Rattle.std.specs.List.{AllByRecursion}
use Rattle.std.specs.declared.cmp.Ordering.TheVariants.{Equal}
use Rattle.dd_model.specs.Symbol.{Symbol, IsTable}
use Rattle.dd_model.specs.Lists.{Begins, IsWithout}
use Rattle.dd_model.specs.Code.{code, IsBelow}
use Rattle.dd_model.specs.Wanted.{IsAscending}
use Rattle.dd_model.specs.Jobs.{IsJobBelow, IsMemberUnder}
use Rattle.dd_model.specs.Joined.{IsPartBelow}
use Rattle.dd_model.specs.Position.{IsBefore, IsWhollyBefore, IsWithin}
use Rattle.dd_model.specs.declared.requests.Request.{Request}
use Rattle.dd_model.specs.declared.jobs.Job.{Job}
use Rattle.dd_model.specs.declared.jobs.Position.{Position}
use Rattle.dd_model.specs.declared.jobs.Position.TheVariants.{At, End}
use Rattle.dd_model.proofs.Lists.{all_from_members, each_of}
use Rattle.dd_model.proofs.Codes.{length-code}
use Rattle.dd_model.proofs.Orders.{nat_cmp-less, nat_cmp-same, less_number}
use Rattle.dd_model.proofs.Ascending.{begins_itself}
use Rattle.dd_model.proofs.Without.{without_drop}
use Rattle.dd_model.proofs.Differing.{less_or_same, less_smaller, smaller_less, less_of_one_length, smaller_apart, begins_or_not, Comes, comes_through, comes_not_itself, comes_fronts, comes_or_not, comes_of_two, comes_before_later}

-- ## Symbols

comes_below : (s t : Symbol) → Comes s.size (code s) t.size (code t) → IsBelow s t
comes_below s t (inl h) = ap (λ o. ordering_then o (slice_cmp nat_cmp (code s) (code t))) (nat_cmp-less s.size t.size h)
comes_below s t (inr h) =
    ap (λ o. ordering_then o (slice_cmp nat_cmp (code s) (code t))) (subst (λ z. nat_cmp s.size z ≡ Equal) h.0 (nat_cmp-same s.size))
    ∙ smaller_less (code s) (code t) h.1

as_long_codes : (s t : Symbol) → IsTable s → IsTable t → s.size ≡ t.size → length (code s) ≡ length (code t)
as_long_codes s t is it size = length-code s is ∙ ap (λ n. 5 * n) size ∙ sym (length-code t it)

below_comes : (s t : Symbol) → IsTable s → IsTable t → IsBelow s t → Comes s.size (code s) t.size (code t)
below_comes s t is it below =
    ⊎_elim
    (λ first. inl (less_number s.size t.size first))
    (λ both.
    let size : s.size ≡ t.size = nat_cmp-IsAntisymmetric s.size t.size both.0 in
    inr (size, less_of_one_length (code s) (code t) (as_long_codes s t is it size) both.1))
    (less_or_same (nat_cmp s.size t.size) (slice_cmp nat_cmp (code s) (code t)) below)

-- what is not before a position stays so upward in the order
pub before_below : (at : Position) (s t : Symbol) → IsTable s → IsTable t → IsBelow s t → IsBefore at t → IsBefore at s
before_below End s t is it below before = tt
before_below (At p) s t is it below before = comes_through s.size t.size p.size (code s) (code t) p.prefix (below_comes s t is it below) before

-- what is before a position is below what is not
pub below_over : (at : Position) (s t : Symbol) → IsTable s → IsTable t → IsBefore at s → ¬ IsBefore at t → IsBelow s t
below_over End s t is it before not_before = absurd (not_before tt)
below_over (At p) s t is it before not_before =
    comes_below s t (comes_of_two s.size t.size p.size (code s) (code t) p.prefix (as_long_codes s t is it) before not_before)

pub before_or_not : (at : Position) (s : Symbol) → IsBefore at s ⊎ ¬ IsBefore at s
before_or_not End s = inl tt
before_or_not (At p) s = comes_or_not s.size p.size (code s) p.prefix

-- before the position of a symbol is what is below it
pub before_symbol : (s t : Symbol) → IsTable s → IsTable t → IsBelow s t → IsBefore (At (record { size = t.size; prefix = code t })) s
before_symbol s t is it below = below_comes s t is it below

pub below_symbol : (s t : Symbol) → IsBefore (At (record { size = t.size; prefix = code t })) s → IsBelow s t
below_symbol s t before = comes_below s t before

-- Where the first i of an ascending list are before a position and the next one is not, the others are what is not before it.
pub later_drop : (at : Position) (ss : List Symbol) (i : ℕ) (d : Symbol) → IsAscending ss → AllByRecursion IsTable ss → AllByRecursion (IsBefore at) (take i ss) → (i < length ss → ¬ IsBefore at (get_or ss i d))
    → IsWithout (IsBefore at) ss (drop i ss)
later_drop at ss i d ascending tables before next = without_drop (IsBefore at) i ss before (rest ss i ascending tables next)
  where
    rest : (ts : List Symbol) (k : ℕ) → IsAscending ts → AllByRecursion IsTable ts → (k < length ts → ¬ IsBefore at (get_or ts k d)) → AllByRecursion (λ t. ¬ IsBefore at t) (drop k ts)
    rest [] zero order are not = tt
    rest [] (suc k) order are not = tt
    rest (t ∷ ts) zero order are not = (
      not (omega arith),
      all_from_members (λ u. ¬ IsBefore at u) ts (λ u there is_before. not (omega arith) (before_below at t u are.0 (each_of IsTable ts u are.1 there) (each_of (IsBelow t) ts u order.0 there) is_before)),
    )
    rest (t ∷ ts) (suc k) order are not = rest ts k order.1 are.1 (λ low. not (omega arith))

-- ## Jobs

part_comes : (j k : Job) → IsPartBelow j k → Comes j.size j.prefix k.size k.prefix
part_comes j k part =
    ⊎_elim
    (λ first. inl (less_number j.size k.size first))
    (λ both.
    let size : j.size ≡ k.size = nat_cmp-IsAntisymmetric j.size k.size both.0 in
    ⊎_elim (λ begins. absurd ((part.apart size).0 begins)) (λ smaller. inr (size, smaller)) (less_smaller j.prefix k.prefix both.1))
    (less_or_same (nat_cmp j.size k.size) (slice_cmp nat_cmp j.prefix k.prefix) part.below)

job_comes_below : (j k : Job) → Comes j.size j.prefix k.size k.prefix → IsJobBelow j k
job_comes_below j k (inl h) = ap (λ o. ordering_then o (slice_cmp nat_cmp j.prefix k.prefix)) (nat_cmp-less j.size k.size h)
job_comes_below j k (inr h) =
    ap (λ o. ordering_then o (slice_cmp nat_cmp j.prefix k.prefix)) (subst (λ z. nat_cmp j.size z ≡ Equal) h.0 (nat_cmp-same j.size))
    ∙ smaller_less j.prefix k.prefix h.1

comes_part : (j k : Job) → Comes j.size j.prefix k.size k.prefix → IsPartBelow j k
comes_part j k comes = record {
  below = job_comes_below j k comes;
  apart = λ size. ⊎_elim (λ lower. absurd (omega arith)) (λ both. smaller_apart j.prefix k.prefix both.1) comes;
}

-- both jobs may have longer prefixes
pub part_fronts : (j k j' k' : Job) → IsPartBelow j k → j'.size ≡ j.size → k'.size ≡ k.size → Begins j.prefix j'.prefix → Begins k.prefix k'.prefix → IsPartBelow j' k'
part_fronts j k j' k' part sj sk bj bk =
    comes_part j' k'
    (subst (λ m. Comes m j'.prefix k'.size k'.prefix) (sym sj)
    (subst (λ n. Comes j.size j'.prefix n k'.prefix) (sym sk)
    (comes_fronts j.size k.size j.prefix k.prefix j'.prefix k'.prefix (part_comes j k part) bj bk)))

-- what comes with a symbol under a job comes with the job, and the other way round
under_comes : (q : Request) (j : Job) (s : Symbol) (m : ℕ) (xs : List ℕ) → IsMemberUnder q j s → Comes m xs j.size j.prefix → Comes m xs s.size (code s)
under_comes q j s m xs under comes =
    subst (λ n. Comes m xs n (code s)) (sym under.size) (comes_fronts m j.size xs j.prefix xs (code s) comes (begins_itself xs) under.begins)

comes_under : (q : Request) (j : Job) (s : Symbol) (n : ℕ) (ys : List ℕ) → IsMemberUnder q j s → Comes j.size j.prefix n ys → Comes s.size (code s) n ys
comes_under q j s n ys under comes =
    subst (λ m. Comes m (code s) n ys) (sym under.size) (comes_fronts j.size n j.prefix ys (code s) ys comes under.begins (begins_itself ys))

-- what is under a job is below what is under a later one that is apart from it
pub under_below : (q : Request) (j k : Job) (s t : Symbol) → IsPartBelow j k → IsMemberUnder q j s → IsMemberUnder q k t → IsBelow s t
under_below q j k s t part us ut =
    comes_below s t (under_comes q k t s.size (code s) ut (comes_under q j s k.size k.prefix us (part_comes j k part)))

-- what is under a job that is wholly before a position is before it
pub under_wholly_before : (q : Request) (at : Position) (j : Job) (s : Symbol) → IsWhollyBefore at j → IsMemberUnder q j s → IsBefore at s
under_wholly_before q End j s wholly under = tt
under_wholly_before q (At p) j s wholly under = comes_under q j s p.size p.prefix under wholly

-- what is under a job is not before the job
pub under_not_before : (q : Request) (j : Job) (s : Symbol) → IsMemberUnder q j s → ¬ IsBefore (At j) s
under_not_before q j s under before = comes_not_itself s.size (code s) (under_comes q j s s.size (code s) under before)

-- and what is before the job is below it
pub before_under : (q : Request) (j : Job) (s t : Symbol) → IsBefore (At j) s → IsMemberUnder q j t → IsBelow s t
before_under q j s t before under = comes_below s t (under_comes q j t s.size (code s) under before)

pub before_later : (j k : Job) (s : Symbol) → IsPartBelow j k → IsBefore (At j) s → IsBefore (At k) s
before_later j k s part before = comes_through s.size j.size k.size (code s) j.prefix k.prefix before (part_comes j k part)

-- what is before a job is before each with a longer prefix
pub before_longer : (j k : Job) (s : Symbol) → k.size ≡ j.size → Begins j.prefix k.prefix → IsBefore (At j) s → IsBefore (At k) s
before_longer j k s size begins before =
    subst (λ n. Comes s.size (code s) n k.prefix) (sym size) (comes_fronts s.size j.size (code s) j.prefix (code s) k.prefix before (begins_itself (code s)) begins)

pub under_before_later : (q : Request) (j k : Job) (s : Symbol) → IsPartBelow j k → IsMemberUnder q j s → IsBefore (At k) s
under_before_later q j k s part under = comes_under q j s k.size k.prefix under (part_comes j k part)

-- a job before one that is wholly before a position, or that has the position within it, is wholly before it
pub begun_before : (at : Position) (j k : Job) → IsPartBelow j k → IsWhollyBefore at k ⊎ IsWithin k at → IsWhollyBefore at j
begun_before End j k part begun = tt
begun_before (At p) j k part (inl wholly) = comes_through j.size k.size p.size j.prefix k.prefix p.prefix (part_comes j k part) wholly
begun_before (At p) j k part (inr within) =
    subst (λ n. Comes j.size j.prefix n p.prefix) within.0
    (comes_fronts j.size k.size j.prefix k.prefix j.prefix p.prefix (part_comes j k part) (begins_itself j.prefix) within.1)

-- what is before a job that is wholly before a position, or that has the position within it, is before the position
pub before_begun : (at : Position) (j : Job) (s : Symbol) → IsWhollyBefore at j ⊎ IsWithin j at → IsBefore (At j) s → IsBefore at s
before_begun End j s begun before = tt
before_begun (At p) j s (inl wholly) before = comes_through s.size j.size p.size (code s) j.prefix p.prefix before wholly
before_begun (At p) j s (inr within) before =
    subst (λ n. Comes s.size (code s) n p.prefix) within.0
    (comes_fronts s.size j.size (code s) j.prefix (code s) p.prefix before (begins_itself (code s)) within.1)

-- what is before a position is before each job that is not wholly before it and that does not have the position within it
pub before_unbegun : (at : Position) (j : Job) (s : Symbol) → ¬ IsWhollyBefore at j → ¬ IsWithin j at → IsBefore at s → IsBefore (At j) s
before_unbegun End j s not_wholly not_within before = absurd (not_wholly tt)
before_unbegun (At p) j s not_wholly not_within before =
    comes_before_later s.size j.size p.size (code s) j.prefix p.prefix before not_wholly not_within

-- so nothing under such a job is before the position
pub unbegun_not_before : (q : Request) (at : Position) (j : Job) (s : Symbol) → ¬ IsWhollyBefore at j → ¬ IsWithin j at → IsMemberUnder q j s → ¬ IsBefore at s
unbegun_not_before q at j s not_wholly not_within under before = under_not_before q j s under (before_unbegun at j s not_wholly not_within before)

pub wholly_or_not : (at : Position) (j : Job) → IsWhollyBefore at j ⊎ ¬ IsWhollyBefore at j
wholly_or_not End j = inl tt
wholly_or_not (At p) j = comes_or_not j.size p.size j.prefix p.prefix

pub within_or_not : (j : Job) (at : Position) → IsWithin j at ⊎ ¬ IsWithin j at
within_or_not j End = inr (λ h. h)
within_or_not j (At p) =
    ⊎_elim
    (λ same. ⊎_elim (λ h. inl (same, h)) (λ not. inr (λ h. not h.1)) (begins_or_not j.prefix p.prefix))
    (λ different. inr (λ h. different h.0))
    (cases_eq j.size p.size)

-- no job is before itself
pub not_before_itself : (job : Job) → IsWhollyBefore (At job) job → ⊥
not_before_itself job (inl low) = omega (arith, low)
not_before_itself job (inr (same, smaller)) = (smaller_apart job.prefix job.prefix smaller).0 (begins_itself job.prefix)
