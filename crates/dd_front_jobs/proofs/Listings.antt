-- A list of which each item comes before all that follow it is determined by its members.
use Rattle.std.proofs.Common.{◌≡◌, ◌⊎◌, List, [], ◌∷◌, refl, sym, ap, ◌∙◌, subst, inl, inr, ⊎_elim}
use Rattle.std.specs.List.{AllByRecursion, Contains}
use Rattle.dd_model.specs.Symbol.{Symbol}
use Rattle.dd_model.specs.Code.{IsBelow}
use Rattle.dd_model.specs.Wanted.{IsAscending}
use Rattle.dd_model.specs.Jobs.{IsJobBelow, AreAscendingJobs}
use Rattle.dd_model.specs.declared.requests.Request.{Request}
use Rattle.dd_model.specs.declared.jobs.Job.{Job}
use Rattle.dd_model.proofs.Lists.{Contains-none, Contains-head, Contains-later, Contains-cases, each_of}
use Rattle.dd_model.proofs.Orders.{jobs_not_both, not_below_both}
use Rattle.dd_model.proofs.Pairs.{ArePairs, ascending_pairs}
use Rattle.dd_front_jobs.specs.Opening.{IsOpening}

-- R is an order of which no two items are both before each other
module _ {A : Type 0} (R : A → A → Type 0) (both : (x y : A) → R x y → R y x → ⊥) where
  abbrev Includes : List A → List A → Type 0
  Includes xs ys = (x : A) → Contains xs x → Contains ys x

  same_first : (x y : A) → (x ≡ y) ⊎ R x y → (y ≡ x) ⊎ R y x → x ≡ y
  same_first x y (inl e) b = e
  same_first x y (inr a) (inl e) = sym e
  same_first x y (inr a) (inr b) = absurd (both x y a b)

  first_or_later : (x y : A) (xs : List A) → AllByRecursion (R x) xs → Contains (x ∷ xs) y → (x ≡ y) ⊎ R x y
  first_or_later x y xs all there = ⊎_elim (λ same. inl same) (λ later. inr (each_of (R x) xs y all later)) (Contains-cases x y xs there)

  rest_includes : (z : A) (xs ys : List A) → AllByRecursion (R z) xs → Includes (z ∷ xs) (z ∷ ys) → Includes xs ys
  rest_includes z xs ys all there x own =
      ⊎_elim
      (λ same. let below = each_of (R z) xs x all own in absurd (both z z (subst (R z) (sym same) below) (subst (R z) (sym same) below)))
      (λ later. later)
      (Contains-cases z x ys (there x (Contains-later z x xs own)))

  pub same_listed : (xs ys : List A) → ArePairs R xs → ArePairs R ys → Includes xs ys → Includes ys xs → xs ≡ ys
  same_listed [] [] hx hy there back = refl
  same_listed [] (y ∷ ys) hx hy there back = absurd (Contains-none y (back y (Contains-head y ys)))
  same_listed (x ∷ xs) [] hx hy there back = absurd (Contains-none x (there x (Contains-head x xs)))
  same_listed (x ∷ xs) (y ∷ ys) hx hy there back =
      let first : x ≡ y = same_first x y (first_or_later x y xs hx.0 (back y (Contains-head y ys))) (first_or_later y x ys hy.0 (there x (Contains-head x xs))) in
      let pairs : ArePairs R (x ∷ ys) = subst (λ z. ArePairs R (z ∷ ys)) (sym first) hy in
      let on : Includes (x ∷ xs) (x ∷ ys) = subst (λ z. Includes (x ∷ xs) (z ∷ ys)) (sym first) there in
      let off : Includes (x ∷ ys) (x ∷ xs) = subst (λ z. Includes (z ∷ ys) (x ∷ xs)) (sym first) back in
      ap (λ z. z ∷ xs) first ∙ ap (λ zs. y ∷ zs) (same_listed xs ys hx.1 pairs.1 (rest_includes x xs ys hx.0 on) (rest_includes x ys xs pairs.0 off))

job_pairs : (jobs : List Job) → AreAscendingJobs jobs → ArePairs IsJobBelow jobs
job_pairs [] h = tt
job_pairs (j ∷ jobs) h = (h.0, job_pairs jobs h.1)

-- a request has one opening
pub one_opening : (q : Request) (xs ys : List Job) → IsOpening q xs → IsOpening q ys → xs ≡ ys
one_opening q xs ys hx hy =
    same_listed IsJobBelow jobs_not_both xs ys (job_pairs xs hx.ascending) (job_pairs ys hy.ascending)
    (λ j there. (hy.members j).1 ((hx.members j).0 there))
    (λ j there. (hx.members j).1 ((hy.members j).0 there))

-- symbols that ascend
pub one_ascending : (ss ts : List Symbol) → IsAscending ss → IsAscending ts → ((s : Symbol) → Contains ss s → Contains ts s) → ((s : Symbol) → Contains ts s → Contains ss s) → ss ≡ ts
one_ascending ss ts hs ht = same_listed IsBelow not_below_both ss ts (ascending_pairs ss hs) (ascending_pairs ts ht)
