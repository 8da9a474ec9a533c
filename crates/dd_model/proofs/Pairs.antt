-- Lists of which each item has a relation to all that follow it.
use Rattle.std.proofs.Common.{List, [], ◌∷◌, ◌++◌, subst, ⊎_elim}
use Rattle.std.proofs.lemmas.List.Elements.{Contains-append_right, Contains-append_left, Contains-append_cases}
use Rattle.std.specs.List.{AllByRecursion, Contains}
use Rattle.dd_model.specs.Symbol.{Symbol}
use Rattle.dd_model.specs.Code.{IsBelow}
use Rattle.dd_model.specs.Wanted.{IsAscending}
use Rattle.dd_model.specs.Jobs.{IsJobBelow, AreJobsApart, AreAscendingJobs, AreApart}
use Rattle.dd_model.specs.Joined.{IsPartBelow}
use Rattle.dd_model.specs.declared.jobs.Job.{Job}
use Rattle.dd_model.proofs.Lists.{Contains-none, Contains-head, Contains-later, Contains-cases, each_of, all_from_members}

abbrev pub ArePairs : {A : Type 0} → (A → A → Type 0) → List A → Type 0
ArePairs R [] = Unit {0}
ArePairs R (x ∷ xs) = AllByRecursion (R x) xs × ArePairs R xs

pub pairs_append : {A : Type 0} (R : A → A → Type 0) (xs ys : List A) → ArePairs R xs → ArePairs R ys → ((x y : A) → Contains xs x → Contains ys y → R x y) → ArePairs R (xs ++ ys)
pairs_append R [] ys hx hy across = hy
pairs_append R (x ∷ xs) ys hx hy across = (
  all_from_members (R x) (xs ++ ys) (λ z there. ⊎_elim
      (λ early. each_of (R x) xs z hx.0 early)
      (λ late. across x z (Contains-head x xs) late)
      (Contains-append_cases xs ys z there)),
  pairs_append R xs ys hx.1 hy (λ a b ha hb. across a b (Contains-later x a xs ha) hb),
)

pub pairs_front : {A : Type 0} (R : A → A → Type 0) (xs ys : List A) → ArePairs R (xs ++ ys) → ArePairs R xs
pairs_front R [] ys pairs = tt
pairs_front R (x ∷ xs) ys pairs = (
  all_from_members (R x) xs (λ z there. each_of (R x) (xs ++ ys) z pairs.0 (Contains-append_left xs ys z there)),
  pairs_front R xs ys pairs.1,
)

pub pairs_back : {A : Type 0} (R : A → A → Type 0) (xs ys : List A) → ArePairs R (xs ++ ys) → ArePairs R ys
pairs_back R [] ys pairs = pairs
pairs_back R (x ∷ xs) ys pairs = pairs_back R xs ys pairs.1

pub pairs_across : {A : Type 0} (R : A → A → Type 0) (xs ys : List A) → ArePairs R (xs ++ ys) → (x y : A) → Contains xs x → Contains ys y → R x y
pairs_across R [] ys pairs a b ha hb = absurd (Contains-none a ha)
pairs_across R (x ∷ xs) ys pairs a b ha hb =
    ⊎_elim
    (λ first. subst (λ z. R z b) first (each_of (R x) (xs ++ ys) b pairs.0 (Contains-append_right xs ys b hb)))
    (λ later. pairs_across R xs ys pairs.1 a b later hb)
    (Contains-cases x a xs ha)

pub ascending_pairs : (ss : List Symbol) → IsAscending ss → ArePairs IsBelow ss
ascending_pairs [] h = tt
ascending_pairs (s ∷ ss) h = (h.0, ascending_pairs ss h.1)

pub pairs_ascending : (ss : List Symbol) → ArePairs IsBelow ss → IsAscending ss
pairs_ascending [] h = tt
pairs_ascending (s ∷ ss) h = (h.0, pairs_ascending ss h.1)

-- jobs that ascend and are apart
pub part_pairs : (jobs : List Job) → AreAscendingJobs jobs → AreApart jobs → ArePairs IsPartBelow jobs
part_pairs [] ascending apart = tt
part_pairs (j ∷ jobs) ascending apart = (
  all_from_members (IsPartBelow j) jobs (λ k there. record { below = each_of (IsJobBelow j) jobs k ascending.0 there; apart = each_of (AreJobsApart j) jobs k apart.0 there }),
  part_pairs jobs ascending.1 apart.1,
)

pub pairs_ascending_jobs : (jobs : List Job) → ArePairs IsPartBelow jobs → AreAscendingJobs jobs
pairs_ascending_jobs [] h = tt
pairs_ascending_jobs (j ∷ jobs) h = (
  all_from_members (IsJobBelow j) jobs (λ k there. (each_of (IsPartBelow j) jobs k h.0 there).below),
  pairs_ascending_jobs jobs h.1,
)

pub pairs_apart : (jobs : List Job) → ArePairs IsPartBelow jobs → AreApart jobs
pairs_apart [] h = tt
pairs_apart (j ∷ jobs) h = (
  all_from_members (AreJobsApart j) jobs (λ k there. (each_of (IsPartBelow j) jobs k h.0 there).apart),
  pairs_apart jobs h.1,
)
