-- From four chambers on, a size has the prefixes of ten chambers that have no greater number.
use Rattle.std.proofs.Common.{◌≡◌, ℕ, zero, suc, ◌+◌, ◌*◌, ◌<◌, ◌≤◌, max, min, Bool, true, false, cond, List, [], ◌∷◌, length, get_or, map, take, refl, sym, ap, ◌∙◌, subst, ⊎_elim, arith}
use Rattle.std.proofs.lemmas.Bool.{ltb-true, lt-ltb}
use Rattle.std.proofs.lemmas.List.{take_more}
use Rattle.std.proofs.lemmas.List.Elements.{All-filter, All-from_recursion, All-contains, filter_passes}
use Rattle.std.proofs.Math.Dec.{ltb}
use Rattle.std.specs.List.{AllByRecursion, Contains, filter}
use Rattle.std.specs.Ordering.{nat_cmp, ordering_then}
use Rattle.std.specs.Cmp.Lexicographic.{slice_cmp}
use Rattle.std.specs.declared.cmp.Ordering.TheVariants.{Equal}
use Rattle.dd_model.specs.declared.jobs.Job.{Job}
use Rattle.dd_model.specs.Jobs.{IsJobBelow, AreAscendingJobs}
use Rattle.dd_model.proofs.Lists.{Contains-none, Contains-head, Contains-later, Contains-cases, Contains-map, each_of, all_from_members}
use Rattle.dd_model.proofs.Orders.{nat_cmp-same}
use Rattle.dd_front_jobs.specs.FirstVisit.{IsFirstVisitPrefix, greatest}
use Rattle.dd_front_jobs.specs.Opening.{IsJobUnder, AreJobsUnder}
use Rattle.dd_front_jobs.proofs.Growth.{greatest_push}
use Rattle.dd_front_jobs.proofs.CodeFronts.{le_greatest}

-- the greatest number grows by at most one a place
grown : (n : ℕ) (xs : List ℕ) → IsFirstVisitPrefix n xs → (t : ℕ) → t ≤ length xs → greatest (take t xs) ≤ t + 1
grown n xs is zero low = omega arith
grown n xs is (suc t) low =
    let before = grown n xs is t (omega arith) in
    let here = is.next t (omega arith) in
    let more : greatest (take (t + 1) xs) ≡ max (greatest (take t xs)) (get_or xs t 0) = ap greatest (take_more xs t 0 (omega arith)) ∙ greatest_push (take t xs) (get_or xs t 0) in
    let next : suc t ≡ t + 1 = omega arith in
    let same : greatest (take (suc t) xs) ≡ greatest (take (t + 1) xs) = ap (λ j. greatest (take j xs)) next in
    omega arith

first_visit_alike : (n m : ℕ) (xs : List ℕ) → length xs ≡ 9 → 4 ≤ n → 4 ≤ m → ((t : ℕ) → t < length xs → get_or xs t 0 ≤ m) → IsFirstVisitPrefix n xs → IsFirstVisitPrefix m xs
first_visit_alike n m xs nine some large low is = record {
  within = λ t h. ((is.within t h).0, low t h);
  short = omega arith;
  involutive = is.involutive;
  distinct = is.distinct;
  next = is.next;
  reached = λ k one below told. is.reached k one (omega arith) told;
}

-- a prefix of nine numbers has none above 10
low_ten : (n : ℕ) (xs : List ℕ) → length xs ≡ 9 → IsFirstVisitPrefix n xs → (t : ℕ) → t < length xs → get_or xs t 0 ≤ 10
low_ten n xs nine is t low = let next = is.next t low in let before = grown n xs is t (omega arith) in omega arith

greatest_low : (n : ℕ) (xs : List ℕ) → 1 ≤ n → ((t : ℕ) → t < length xs → get_or xs t 0 ≤ n) → greatest xs ≤ n
greatest_low n [] some low = some
greatest_low n (x ∷ xs) some low =
    let rest = greatest_low n xs some (λ t h. low (suc t) (omega arith)) in
    let first = low 0 (omega arith) in
    omega arith

-- the job of another size with the same prefix
abbrev pub of_size : ℕ → Job → Job
of_size n job = record { size = n; prefix = job.prefix }

mapped_from : (f : Job → Job) (xs : List Job) (y : Job) → Contains (map f xs) y → (x : Job) × Contains xs x × (f x ≡ y)
mapped_from f [] y there = absurd (Contains-none y there)
mapped_from f (x ∷ xs) y there =
    ⊎_elim
    (λ first. (x, Contains-head x xs, first))
    (λ later. let it = mapped_from f xs y later in (it.0, Contains-later x it.0 xs it.1, it.2))
    (Contains-cases (f x) y (map f xs) there)

below_alike : (n : ℕ) (j k : Job) → j.size ≡ k.size → IsJobBelow j k → IsJobBelow (of_size n j) (of_size n k)
below_alike n j k size below =
    let c = slice_cmp nat_cmp j.prefix k.prefix in
    let here : nat_cmp j.size k.size ≡ Equal = subst (λ z. nat_cmp j.size z ≡ Equal) size (nat_cmp-same j.size) in
    ap (λ o. ordering_then o c) (nat_cmp-same n) ∙ sym (ap (λ o. ordering_then o c) here) ∙ below

ascending_alike : (n : ℕ) (jobs : List Job) → ((job : Job) → Contains jobs job → job.size ≡ 10) → AreAscendingJobs jobs → AreAscendingJobs (map (of_size n) jobs)
ascending_alike n [] size up = tt
ascending_alike n (j ∷ js) size up = (
  all_from_members (IsJobBelow (of_size n j)) (map (of_size n) js) (λ y there.
      let x = mapped_from (of_size n) js y there in
      let equal : j.size ≡ x.0.size = size j (Contains-head j js) ∙ sym (size x.0 (Contains-later j x.0 js x.1)) in
      subst (IsJobBelow (of_size n j)) x.2 (below_alike n j x.0 equal (each_of (IsJobBelow j) js x.0 up.0 x.1))),
  ascending_alike n js (λ job there. size job (Contains-later j job js there)) up.1,
)

-- no number of the prefix is above a size
abbrev pub fits : ℕ → Job → Bool
fits n job = ltb (greatest job.prefix) (n + 1)

-- the jobs of a size that have the prefixes of jobs of ten chambers
abbrev pub alike : ℕ → List Job → List Job
alike n jobs = map (of_size n) (filter (fits n) jobs)

kept_there : (p : Job → Bool) (xs : List Job) (y : Job) → Contains (filter p xs) y → Contains xs y × (p y ≡ true)
kept_there p xs y there =
    let self = All-from_recursion (Contains xs) xs (all_from_members (Contains xs) xs (λ x here. here)) in
    (All-contains (Contains xs) (filter p xs) y (All-filter p (Contains xs) xs self) there, All-contains (λ x. p x ≡ true) (filter p xs) y (filter_passes p xs) there)

later_kept : (b : Bool) (x : Job) (zs : List Job) (y : Job) → Contains zs y → Contains (cond b (x ∷ zs) zs) y
later_kept true x zs y there = Contains-later x y zs there
later_kept false x zs y there = there

there_kept : (p : Job → Bool) (xs : List Job) (y : Job) → Contains xs y → p y ≡ true → Contains (filter p xs) y
there_kept p [] y there pass = there
there_kept p (x ∷ xs) y there pass =
    ⊎_elim
    (λ first. subst (λ b. Contains (cond b (x ∷ filter p xs) (filter p xs)) y) (sym (ap p first ∙ pass)) (subst (λ z. Contains (x ∷ filter p xs) z) first (Contains-head x (filter p xs))))
    (λ later. later_kept (p x) x (filter p xs) y (there_kept p xs y later pass))
    (Contains-cases x y xs there)

ascending_with : (b : Bool) (x : Job) (zs : List Job) → AllByRecursion (IsJobBelow x) zs → AreAscendingJobs zs → AreAscendingJobs (cond b (x ∷ zs) zs)
ascending_with true x zs below up = (below, up)
ascending_with false x zs below up = up

ascending_kept : (p : Job → Bool) (xs : List Job) → AreAscendingJobs xs → AreAscendingJobs (filter p xs)
ascending_kept p [] up = tt
ascending_kept p (x ∷ xs) up =
    ascending_with (p x) x (filter p xs)
    (all_from_members (IsJobBelow x) (filter p xs) (λ y there. each_of (IsJobBelow x) xs y up.0 (kept_there p xs y there).0))
    (ascending_kept p xs up.1)

-- the jobs of a size, from those of ten chambers
pub jobs_alike : (n : ℕ) (jobs : List Job) → 4 ≤ n → AreJobsUnder 10 9 [] jobs → AreJobsUnder n (min (3 * n) 9) [] (alike n jobs)
jobs_alike n jobs large are =
    let nine : min (3 * n) 9 ≡ 9 = omega arith in
    record {
      ascending = ascending_alike n (filter (fits n) jobs) (λ job there. ((are.members job).0 (kept_there (fits n) jobs job there).0).size) (ascending_kept (fits n) jobs are.ascending);
      members = λ job. (
        (λ there.
            let x = mapped_from (of_size n) (filter (fits n) jobs) job there in
            let kept = kept_there (fits n) jobs x.0 x.1 in
            let under = (are.members x.0).0 kept.0 in
            let low = ltb-true (greatest x.0.prefix) (n + 1) kept.1 in
            subst (IsJobUnder n (min (3 * n) 9) []) x.2 (record {
              size = refl;
              numbers = under.numbers ∙ sym nine;
              begins = tt;
              first_visit = first_visit_alike 10 n x.0.prefix under.numbers (omega arith) large (λ t h. let le = le_greatest x.0.prefix t h in omega arith) under.first_visit;
            })),
        (λ under.
            let other = of_size 10 job in
            let numbers = under.numbers ∙ nine in
            let first = under.first_visit in
            let there : Contains jobs other = (are.members other).1 (record {
              size = refl;
              numbers = numbers;
              begins = tt;
              first_visit = first_visit_alike n 10 job.prefix numbers large (omega arith) (low_ten n job.prefix numbers first) first;
            }) in
            let low = greatest_low n job.prefix (omega arith) (λ t h. (first.within t h).1) in
            let pass = lt-ltb (greatest job.prefix) (n + 1) (omega arith) in
            let same : of_size n other ≡ job = λ x. record { size = sym under.size x; prefix = job.prefix } in
            subst (Contains (alike n jobs)) same (Contains-map (of_size n) (filter (fits n) jobs) other (there_kept (fits n) jobs other there pass))),
      );
    }
