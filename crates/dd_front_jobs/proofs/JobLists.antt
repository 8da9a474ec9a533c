-- Lists of jobs that grow by the jobs under a longer prefix.
use Rattle.std.proofs.Common.{◌≡◌, ◌↔◌, ℕ, ◌+◌, ◌*◌, ◌<◌, ◌≤◌, min, List, [], ◌∷◌, ◌++◌, length, get_or, take, refl, sym, ap, ◌∙◌, subst, ⊎_elim, arith}
use Rattle.std.proofs.lemmas.Bool.{cases_lt}
use Rattle.std.proofs.lemmas.List.{append_assoc, length_push}
use Rattle.std.proofs.lemmas.List.Elements.{Contains-append_right, Contains-append_left, Contains-append_cases, Contains-push}
use Rattle.std.specs.List.{Contains}
use Rattle.std.specs.Ordering.{nat_cmp, ordering_then}
use Rattle.std.specs.Cmp.{nat_cmp_is}
use Rattle.std.specs.Cmp.Lexicographic.{slice_cmp}
use Rattle.std.specs.declared.cmp.Ordering.TheVariants.{Less, Equal}
use Rattle.dd_model.specs.Lists.{Begins}
use Rattle.dd_model.specs.declared.jobs.Job.{Job}
use Rattle.dd_model.specs.declared.requests.Request.{Request}
use Rattle.dd_front_jobs.specs.FirstVisit.{IsFirstVisitPrefix, CanFollow}
use Rattle.dd_model.specs.Jobs.{IsJobBelow, AreAscendingJobs}
use Rattle.dd_model.proofs.Lists.{Contains-none, Contains-one, all_from_members}
use Rattle.dd_model.proofs.Orders.{nat_cmp-same}
use Rattle.dd_front_jobs.specs.Opening.{IsOpening, IsJobUnder, AreJobsUnder}
use Rattle.dd_front_jobs.specs.Under.{Appends}
use Rattle.dd_model.proofs.Ascending.{all-append, less_at, agree_from, begins_more, begins_less, begins_itself, same_when_whole}
use Rattle.dd_front_jobs.proofs.Growth.{begins_take}
use Rattle.dd_front_jobs.proofs.FirstVisits.{first_less, first_front}

pub jobs_one_after_another : (xs ys : List Job) → AreAscendingJobs xs → AreAscendingJobs ys → ((j k : Job) → Contains xs j → Contains ys k → IsJobBelow j k) → AreAscendingJobs (xs ++ ys)
jobs_one_after_another [] ys hx hy below = hy
jobs_one_after_another (x ∷ xs) ys hx hy below = (
  all-append (IsJobBelow x) xs ys hx.0
      (all_from_members (IsJobBelow x) ys (λ t there. below x t (Contains-append_left (x ∷ []) xs x (Contains-push [] x)) there)),
  jobs_one_after_another xs ys hx.1 hy (λ s t hs ht. below s t (Contains-append_right (x ∷ []) xs s hs) ht),
)

-- a job of a smaller size
pub below_by_size : (j k : Job) → j.size < k.size → IsJobBelow j k
below_by_size j k less = let e : nat_cmp j.size k.size ≡ Less = sym (nat_cmp_is j.size k.size Less less) in ap (λ o. ordering_then o (slice_cmp nat_cmp j.prefix k.prefix)) e

-- a job of this size with a smaller number after the same ones
pub below_by_number : (j k : Job) (prefix : List ℕ) → j.size ≡ k.size → Begins prefix j.prefix → Begins prefix k.prefix → length prefix < length j.prefix → length prefix < length k.prefix
    → get_or j.prefix (length prefix) 0 < get_or k.prefix (length prefix) 0 → IsJobBelow j k
below_by_number j k prefix size bj bk lj lk less =
    ap (λ o. ordering_then o (slice_cmp nat_cmp j.prefix k.prefix)) (subst (λ z. nat_cmp j.size z ≡ Equal) size (nat_cmp-same j.size))
    ∙ less_at j.prefix k.prefix (length prefix) (agree_from prefix j.prefix k.prefix bj bk) lj lk less

-- the jobs under a prefix with a next number below k
pub record AreJobsBefore (n end : ℕ) (prefix : List ℕ) (k : ℕ) (jobs : List Job) : Type 0 where
  pub ascending : AreAscendingJobs jobs
  pub members : (job : Job) → Contains jobs job ↔ (IsJobUnder n end prefix job × (get_or job.prefix (length prefix) 0 < k))

number_inside : (n end : ℕ) (prefix : List ℕ) (job : Job) → length prefix < end → IsJobUnder n end prefix job → (1 ≤ get_or job.prefix (length prefix) 0) × (get_or job.prefix (length prefix) 0 ≤ n)
number_inside n end prefix job low under = let numbers = under.numbers in under.first_visit.within (length prefix) (omega arith)

longer_under : (n end : ℕ) (prefix : List ℕ) (k : ℕ) (job : Job) → length prefix < end → IsJobUnder n end prefix job → get_or job.prefix (length prefix) 0 ≡ k → IsJobUnder n end (prefix ++ k ∷ []) job
longer_under n end prefix k job low under next = record {
  size = under.size;
  numbers = under.numbers;
  begins = let numbers = under.numbers in begins_more prefix job.prefix k (omega arith) under.begins next;
  first_visit = under.first_visit;
}

shorter_under : (n end : ℕ) (prefix : List ℕ) (k : ℕ) (job : Job) → IsJobUnder n end (prefix ++ k ∷ []) job → IsJobUnder n end prefix job × (get_or job.prefix (length prefix) 0 ≡ k)
shorter_under n end prefix k job under =
    let parts = begins_less prefix job.prefix k under.begins in
    (record { size = under.size; numbers = under.numbers; begins = parts.0; first_visit = under.first_visit }, parts.1)

jobs_more : (n end : ℕ) (prefix : List ℕ) (k : ℕ) (js ks : List Job) → length prefix < end → AreJobsBefore n end prefix k js → AreJobsUnder n end (prefix ++ k ∷ []) ks → AreJobsBefore n end prefix (k + 1) (js ++ ks)
jobs_more n end prefix k js ks low part more = record {
  ascending = jobs_one_after_another js ks part.ascending more.ascending (λ a b ha hb.
      let ua = (part.members a).0 ha in
      let ub = shorter_under n end prefix k b ((more.members b).0 hb) in
      let na = ua.0.numbers in
      let nb = ub.0.numbers in
      let less = ua.1 in
      let next = ub.1 in
      below_by_number a b prefix (ua.0.size ∙ sym ub.0.size) ua.0.begins ub.0.begins (omega arith) (omega arith) (omega arith));
  members = λ job. (
    (λ there. ⊎_elim
        (λ early. let u = (part.members job).0 early in (u.0, let less = u.1 in omega arith))
        (λ late. let u = shorter_under n end prefix k job ((more.members job).0 late) in (u.0, let next = u.1 in omega arith))
        (Contains-append_cases js ks job there)),
    (λ under. ⊎_elim
        (λ early. Contains-append_left js ks job ((part.members job).1 (under.0, early)))
        (λ late. let less = under.1 in Contains-append_right js ks job ((more.members job).1 (longer_under n end prefix k job low under.0 (omega arith))))
        (cases_lt (get_or job.prefix (length prefix) 0) k)),
  );
}

-- the next number of a job can follow
next_can : (n end : ℕ) (prefix : List ℕ) (k : ℕ) (job : Job) → length prefix < end → IsJobUnder n end prefix job → get_or job.prefix (length prefix) 0 ≡ k → CanFollow n prefix k
next_can n end prefix k job low under next =
    let numbers = under.numbers in
    let longer = longer_under n end prefix k job low under next in
    let size = length_push prefix k in
    let front : take (length (prefix ++ k ∷ [])) job.prefix ≡ prefix ++ k ∷ [] = begins_take (prefix ++ k ∷ []) job.prefix longer.begins in
    let first = first_front n job.prefix (length (prefix ++ k ∷ [])) under.first_visit (omega arith) in
    (first_less n prefix k (subst (IsFirstVisitPrefix n) front first)).1

jobs_skip : (n end : ℕ) (prefix : List ℕ) (k : ℕ) (js : List Job) → length prefix < end → (CanFollow n prefix k → ⊥) → AreJobsBefore n end prefix k js → AreJobsBefore n end prefix (k + 1) js
jobs_skip n end prefix k js low cannot part = record {
  ascending = part.ascending;
  members = λ job. (
    (λ there. let u = (part.members job).0 there in (u.0, let less = u.1 in omega arith)),
    (λ under. (part.members job).1 (
      under.0,
      ⊎_elim
          (λ early. early)
          (λ late. let less = under.1 in absurd (cannot (next_can n end prefix k job low under.0 (omega arith))))
          (cases_lt (get_or job.prefix (length prefix) 0) k),
    )),
  );
}

jobs_all : (n end : ℕ) (prefix : List ℕ) (k : ℕ) (js : List Job) → length prefix < end → ((j : ℕ) → CanFollow n prefix j → j < k) → AreJobsBefore n end prefix k js → AreJobsUnder n end prefix js
jobs_all n end prefix k js low beyond part = record {
  ascending = part.ascending;
  members = λ job. (
    (λ there. ((part.members job).0 there).0),
    (λ under. (part.members job).1 (under, beyond (get_or job.prefix (length prefix) 0) (next_can n end prefix (get_or job.prefix (length prefix) 0) job low under refl))),
  );
}

jobs_whole : (n end : ℕ) (prefix : List ℕ) (job : Job) → length prefix ≡ end → IsFirstVisitPrefix n prefix → job.size ≡ n → job.prefix ≡ prefix → AreJobsUnder n end prefix (job ∷ [])
jobs_whole n end prefix job whole first size is = record {
  ascending = (tt, tt);
  members = λ k. (
    (λ there.
        let same : job ≡ k = Contains-one job k there in
        subst (IsJobUnder n end prefix) same (record {
          size = size;
          numbers = ap length is ∙ whole;
          begins = subst (Begins prefix) (sym is) (begins_itself prefix);
          first_visit = subst (IsFirstVisitPrefix n) (sym is) first;
        })),
    (λ under.
        let a : k.prefix ≡ job.prefix = same_when_whole prefix k.prefix under.begins (whole ∙ sym under.numbers) ∙ sym is in
        let b : k.size ≡ job.size = under.size ∙ sym size in
        let same : job ≡ k = λ x. record { size = sym b x; prefix = sym a x } in
        subst (Contains (job ∷ [])) same (Contains-push [] job)),
  );
}

none_more : {A : Type 0} (xs : List A) → xs ≡ xs ++ []
none_more [] = refl
none_more (x ∷ xs) = ap (λ ys. x ∷ ys) (none_more xs)

pub adds_none : (n end : ℕ) (prefix : List ℕ) (old : List Job) → length prefix < end → Appends (AreJobsBefore n end prefix 1) old old
adds_none n end prefix old low = record {
  list = [];
  grown = none_more old;
  holds = record {
    ascending = tt;
    members = λ job. (
      (λ there. absurd (Contains-none job there)),
      (λ under. let inside = number_inside n end prefix job low under.0 in let some = inside.0 in let less = under.1 in absurd (omega (arith, some, less))),
    );
  };
}

pub adds_more : (n end : ℕ) (prefix : List ℕ) (k : ℕ) (old mid new : List Job) → length prefix < end → Appends (AreJobsBefore n end prefix k) old mid → Appends (AreJobsUnder n end (prefix ++ k ∷ [])) mid new
    → Appends (AreJobsBefore n end prefix (k + 1)) old new
adds_more n end prefix k old mid new low a b = record {
  list = a.list ++ b.list;
  grown = b.grown ∙ ap (λ xs. xs ++ b.list) a.grown ∙ append_assoc old a.list b.list;
  holds = jobs_more n end prefix k a.list b.list low a.holds b.holds;
}

pub adds_skip : (n end : ℕ) (prefix : List ℕ) (k : ℕ) (old mid : List Job) → length prefix < end → (CanFollow n prefix k → ⊥) → Appends (AreJobsBefore n end prefix k) old mid → Appends (AreJobsBefore n end prefix (k + 1)) old mid
adds_skip n end prefix k old mid low cannot a = record { list = a.list; grown = a.grown; holds = jobs_skip n end prefix k a.list low cannot a.holds }

-- no number from k on can follow
pub adds_all : (n end : ℕ) (prefix : List ℕ) (k : ℕ) (old new : List Job) → length prefix < end → ((j : ℕ) → CanFollow n prefix j → j < k)
    → Appends (AreJobsBefore n end prefix k) old new → Appends (AreJobsUnder n end prefix) old new
adds_all n end prefix k old new low beyond a = record { list = a.list; grown = a.grown; holds = jobs_all n end prefix k a.list low beyond a.holds }

pub adds_whole : (n end : ℕ) (prefix : List ℕ) (job : Job) (old : List Job) → length prefix ≡ end → IsFirstVisitPrefix n prefix → job.size ≡ n → job.prefix ≡ prefix → Appends (AreJobsUnder n end prefix) old (old ++ job ∷ [])
adds_whole n end prefix job old whole first size is = record { list = job ∷ []; grown = refl; holds = jobs_whole n end prefix job whole first size is }

-- the opening as far as the sizes below k
pub record AreOpeningBelow (k : ℕ) (jobs : List Job) : Type 0 where
  pub ascending : AreAscendingJobs jobs
  pub members : (job : Job) → Contains jobs job ↔ ((1 ≤ job.size) × (job.size < k) × (length job.prefix ≡ min (3 * job.size) 9) × IsFirstVisitPrefix job.size job.prefix)

pub opening_more : (k : ℕ) (old new : List Job) → 1 ≤ k → AreOpeningBelow k old → Appends (AreJobsUnder k (min (3 * k) 9) []) old new → AreOpeningBelow (k + 1) new
opening_more k old new pos part more = subst (AreOpeningBelow (k + 1)) (sym more.grown) (record {
  ascending = jobs_one_after_another old more.list part.ascending more.holds.ascending (λ a b ha hb.
      let ua = (part.members a).0 ha in
      let ub = (more.holds.members b).0 hb in
      let less = ua.1 in
      let size = ub.size in
      below_by_size a b (omega arith));
  members = λ job. (
    (λ there. ⊎_elim
        (λ early. let u = (part.members job).0 early in let less = u.1 in (u.0, omega arith, u.2, u.3))
        (λ late.
        let u = (more.holds.members job).0 late in
        let size = u.size in
        let min_is : min (3 * k) 9 ≡ min (3 * job.size) 9 = ap (λ n. min (3 * n) 9) (sym size) in
        (omega arith, omega arith, u.numbers ∙ min_is, subst (λ n. IsFirstVisitPrefix n job.prefix) (sym size) u.first_visit))
        (Contains-append_cases old more.list job there)),
    (λ is. ⊎_elim
        (λ early. Contains-append_left old more.list job ((part.members job).1 (is.0, early, is.2, is.3)))
        (λ late.
        let less = is.1 in
        let size : job.size ≡ k = omega arith in
        Contains-append_right old more.list job ((more.holds.members job).1 (record {
          size = size;
          numbers = is.2 ∙ ap (λ n. min (3 * n) 9) size;
          begins = tt;
          first_visit = subst (λ n. IsFirstVisitPrefix n job.prefix) size is.3;
        })))
        (cases_lt job.size k)),
  );
})

pub opening_whole : (q : Request) (jobs : List Job) → AreOpeningBelow (q.chambers + 1) jobs → IsOpening q jobs
opening_whole q jobs part = record {
  ascending = part.ascending;
  members = λ job. (
    (λ there. let u = (part.members job).0 there in let less = u.1 in record { size = (u.0, omega arith); numbers = u.2; first_visit = u.3 }),
    (λ is. let most = is.size.1 in (part.members job).1 (is.size.0, omega arith, is.numbers, is.first_visit)),
  );
}
