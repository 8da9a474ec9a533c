-- The jobs with one number more under which a member may be.
use Rattle.std.proofs.Common.{◌≡◌, ℕ, ◌+◌, ◌*◌, ◌<◌, ◌⊎◌, true, false, eqb, List, [], ◌∷◌, ◌++◌, length, get_or, take, refl, sym, ap, ◌∙◌, subst, inl, inr, ⊎_elim, arith, zero, suc}
use Rattle.std.proofs.lemmas.Bool.Decides.{nat_tests}
use Rattle.std.proofs.lemmas.Bool.{cases_lt}
use Rattle.std.proofs.lemmas.List.{length_push, get_or_push}
use Rattle.std.proofs.lemmas.List.Elements.{Contains-append_left, Contains-append_cases, Contains-push}
use Rattle.std.specs.List.{Contains}
use Rattle.dd_model.specs.Symbol.{Symbol}
use Rattle.dd_model.specs.Lists.{Begins}
use Rattle.dd_model.specs.Code.{code}
use Rattle.dd_model.specs.declared.jobs.Job.{Job}
use Rattle.dd_model.specs.declared.requests.Request.{Request}
use Rattle.dd_front_jobs.specs.FirstVisit.{IsFirstVisitPrefix, CanFollow}
use Rattle.dd_model.specs.Jobs.{IsJobBelow, AreAscendingJobs, extended}
use Rattle.dd_model.specs.Jobs.{IsMemberUnder, AreExtensions, AreChildren}
use Rattle.dd_model.proofs.Lists.{Contains-one}
use Rattle.dd_model.proofs.Ascending.{begins_from, begins_less}
use Rattle.dd_front_jobs.proofs.Growth.{begins_take}
use Rattle.dd_branch_tables.proofs.Follows.{member_orderly}
use Rattle.dd_front_jobs.proofs.FirstVisits.{first_less, old_at}
use Rattle.dd_front_jobs.proofs.CodeFronts.{front_first_visit}
use Rattle.dd_front_jobs.proofs.JobLists.{below_by_number, jobs_one_after_another}
use Rattle.dd_front_jobs.specs.Under.{HasNothingUnder}
use Rattle.dd_branch_tables.specs.Stem.{Any}

-- Nothing is under a prefix that is not in the order of first visits.
pub none_out_of_order : (q : Request) (job : Job) (k : ℕ) → length job.prefix < 3 * job.size → (CanFollow job.size job.prefix k → ⊥) → (s : Symbol) → IsMemberUnder q (extended job k) s → ⊥
none_out_of_order q job k short cannot s under =
    let longer = length_push job.prefix k in
    let size = under.size in
    let is = member_orderly q s under.member in
    let front : take (length (job.prefix ++ k ∷ [])) (code s) ≡ job.prefix ++ k ∷ [] = begins_take (job.prefix ++ k ∷ []) (code s) under.begins in
    let first = front_first_visit s is (length (job.prefix ++ k ∷ [])) (omega arith) in
    let here = subst (IsFirstVisitPrefix job.size) front (subst (λ n. IsFirstVisitPrefix n (take (length (job.prefix ++ k ∷ [])) (code s))) size first) in
    cannot (first_less job.size job.prefix k here).1

begins_old : (xs : List ℕ) (k : ℕ) → Begins xs (xs ++ k ∷ [])
begins_old xs k = let longer = length_push xs k in begins_from xs (xs ++ k ∷ []) (omega arith) (λ u h. old_at xs k u h)

extended_below : (job : Job) (a b : ℕ) → a < b → IsJobBelow (extended job a) (extended job b)
extended_below job a b less =
    let la = length_push job.prefix a in
    let lb = length_push job.prefix b in
    let na : get_or (job.prefix ++ a ∷ []) (length job.prefix) 0 ≡ a = get_or_push job.prefix a 0 (length job.prefix) refl in
    let nb : get_or (job.prefix ++ b ∷ []) (length job.prefix) 0 ≡ b = get_or_push job.prefix b 0 (length job.prefix) refl in
    below_by_number (extended job a) (extended job b) job.prefix refl (begins_old job.prefix a) (begins_old job.prefix b) (omega arith) (omega arith) (omega arith)

-- a child with a number below m
pub record IsChildBelow (job : Job) (m : ℕ) (child : Job) : Type 0 where
  pub number : ℕ
  pub below : number < m
  pub is : child ≡ extended job number

-- the extensions by numbers below m
pub record AreExtensionsBelow (q : Request) (job : Job) (m : ℕ) (jobs : List Job) : Type 0 where
  pub ascending : AreAscendingJobs jobs
  pub extend : (child : Job) → Contains jobs child → IsChildBelow job m child
  pub complete : (k : ℕ) → k < m → Contains jobs (extended job k) ⊎ ((s : Symbol) → IsMemberUnder q (extended job k) s → ⊥)

none_zero : (q : Request) (job : Job) → length job.prefix < 3 * job.size → (s : Symbol) → IsMemberUnder q (extended job 0) s → ⊥
none_zero q job short = none_out_of_order q job 0 short (λ can. let pos = can.positive in absurd (omega arith))

pub extensions_first : (q : Request) (job : Job) → length job.prefix < 3 * job.size → AreExtensionsBelow q job 1 []
extensions_first q job short = record {
  ascending = tt;
  extend = λ child there. absurd (let below = there.1 in omega arith);
  complete = λ k low. let e : 0 ≡ k = omega arith in inr (subst (λ j. (s : Symbol) → IsMemberUnder q (extended job j) s → ⊥) e (none_zero q job short));
}

pub extensions_more : (q : Request) (job : Job) (m : ℕ) (jobs : List Job) → AreExtensionsBelow q job m jobs → AreExtensionsBelow q job (m + 1) (jobs ++ extended job m ∷ [])
extensions_more q job m jobs old = record {
  ascending = jobs_one_after_another jobs (extended job m ∷ []) old.ascending (tt, tt) (λ a b ha hb.
      let child = old.extend a ha in
      let last : extended job m ≡ b = Contains-one (extended job m) b hb in
      subst (λ j. IsJobBelow j b) (sym child.is) (subst (IsJobBelow (extended job child.number)) last (extended_below job child.number m child.below)));
  extend = λ child there. ⊎_elim
      (λ early. let c = old.extend child early in record { number = c.number; below = let low = c.below in omega arith; is = c.is })
      (λ late. record { number = m; below = omega arith; is = sym (Contains-one (extended job m) child late) })
      (Contains-append_cases jobs (extended job m ∷ []) child there);
  complete = λ k low. ⊎_elim
      (λ early. ⊎_elim (λ there. inl (Contains-append_left jobs (extended job m ∷ []) (extended job k) there)) (λ none. inr none) (old.complete k early))
      (λ late. let e : m ≡ k = omega arith in inl (subst (λ j. Contains (jobs ++ extended job m ∷ []) (extended job j)) e (Contains-push jobs (extended job m))))
      (cases_lt k m);
}

pub extensions_skip : (q : Request) (job : Job) (m : ℕ) (jobs : List Job) → ((s : Symbol) → IsMemberUnder q (extended job m) s → ⊥) → AreExtensionsBelow q job m jobs → AreExtensionsBelow q job (m + 1) jobs
extensions_skip q job m jobs none old = record {
  ascending = old.ascending;
  extend = λ child there. let c = old.extend child there in record { number = c.number; below = let low = c.below in omega arith; is = c.is };
  complete = λ k low. ⊎_elim
      (λ early. old.complete k early)
      (λ late. let e : m ≡ k = omega arith in inr (subst (λ j. (s : Symbol) → IsMemberUnder q (extended job j) s → ⊥) e none))
      (cases_lt k m);
}

pub extensions_all : (q : Request) (job : Job) (jobs : List Job) → length job.prefix < 3 * job.size → AreExtensionsBelow q job (job.size + 1) jobs → AreExtensions q job jobs
extensions_all q job jobs short old = record {
  ascending = old.ascending;
  extend = λ child there. let c = old.extend child there in (c.number, c.is);
  complete = λ k. ⊎_elim
      (λ early. old.complete k early)
      (λ late. inr (none_out_of_order q job k short (λ can. let small = can.small in absurd (omega arith))))
      (cases_lt k (job.size + 1));
}

-- one child where there is none else
pub one_child : (q : Request) (job : Job) (jobs new : List Job) → length job.prefix < 3 * job.size → jobs ≡ [] → new ≡ jobs ++ extended job 1 ∷ [] → AreExtensions q job jobs → AreChildren q job new
one_child q job jobs new short none grown old =
    let whole : new ≡ extended job 1 ∷ [] = grown ∙ ap (λ js. js ++ extended job 1 ∷ []) none in
    record {
      shorter = short;
      some = λ e. let clash : extended job 1 ∷ [] ≡ [] = sym whole ∙ e in absurd (ends clash);
      extensions = subst (AreExtensions q job) (sym whole) (record {
        ascending = (tt, tt);
        extend = λ child there. (1, sym (Contains-one (extended job 1) child there));
        complete = λ k. ⊎_elim
            (λ there. absurd (let low = (subst (λ js. Contains js (extended job k)) none there).1 in omega arith))
            (λ nothing. inr nothing)
            (old.complete k);
      });
    }
  where
    ends : extended job 1 ∷ [] ≡ [] → ⊥
    ends e = let l : length (extended job 1 ∷ []) ≡ 0 = ap length e in omega arith

pub some_children : (q : Request) (job : Job) (jobs : List Job) → length job.prefix < 3 * job.size → (length jobs ≡ 0 → ⊥) → AreExtensions q job jobs → AreChildren q job jobs
some_children q job jobs short some old = record { shorter = short; some = λ e. some (ap length e); extensions = old }

-- a list of no length
pub no_items : (jobs : List Job) → length jobs ≡ 0 → jobs ≡ []
no_items [] e = refl
no_items (j ∷ js) e = absurd (omega arith)

-- what the test for no items says of the length
pub no_length : (n l : ℕ) → true ≡ eqb n 0 → n ≡ l → l ≡ 0
no_length n l test e = grind (arith, nat_tests)

pub some_length : (n l : ℕ) → false ≡ eqb n 0 → n ≡ l → l ≡ 0 → ⊥
some_length n l test e z = grind (arith, nat_tests)

-- nothing orderly is under a job, and so no member
pub none_of_any : (q : Request) (job : Job) → HasNothingUnder Any job.size job.prefix → (s : Symbol) → IsMemberUnder q job s → ⊥
none_of_any q job none s under = none s (record { wanted = tt; orderly = member_orderly q s under.member; size = under.size; begins = under.begins })

begins_take_front : (xs ys : List ℕ) (k : ℕ) → Begins xs ys → Begins (take k xs) ys
begins_take_front xs ys zero b = tt
begins_take_front [] ys (suc k) b = tt
begins_take_front (x ∷ xs) [] (suc k) b = absurd b
begins_take_front (x ∷ xs) (y ∷ ys) (suc k) b = (b.0, begins_take_front xs ys k b.1)

-- Nothing is under a prefix where nothing is under its front.
pub none_under_front : (n k : ℕ) (prefix : List ℕ) → HasNothingUnder Any n (take k prefix) → HasNothingUnder Any n prefix
none_under_front n k prefix none s under =
    none s (record { wanted = tt; orderly = under.orderly; size = under.size; begins = begins_take_front prefix (code s) k under.begins })

-- nothing is under a longer prefix that is not in the order of first visits
pub none_cannot : (n : ℕ) (prefix : List ℕ) (k : ℕ) → length prefix < 3 * n → (CanFollow n prefix k → ⊥) → HasNothingUnder Any n (prefix ++ k ∷ [])
none_cannot n prefix k short cannot s under =
    let longer = length_push prefix k in
    let size = under.size in
    let front : take (length (prefix ++ k ∷ [])) (code s) ≡ prefix ++ k ∷ [] = begins_take (prefix ++ k ∷ []) (code s) under.begins in
    let first = front_first_visit s under.orderly (length (prefix ++ k ∷ [])) (omega arith) in
    let here = subst (IsFirstVisitPrefix n) front (subst (λ m. IsFirstVisitPrefix m (take (length (prefix ++ k ∷ [])) (code s))) size first) in
    cannot (first_less n prefix k here).1

-- no extension of a job under which nothing is has a member
pub extensions_none : (q : Request) (job : Job) → HasNothingUnder Any job.size job.prefix → AreExtensions q job []
extensions_none q job none = record {
  ascending = tt;
  extend = λ child there. absurd (let below = there.1 in omega arith);
  complete = λ k. inr (λ s under. none s (record { wanted = tt; orderly = member_orderly q s under.member; size = under.size; begins = (begins_less job.prefix (code s) k under.begins).0 }));
}
