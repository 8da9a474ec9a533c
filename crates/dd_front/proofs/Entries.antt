-- Entries: their jobs, their numbers, and entries put in the place of one.
use Rattle.std.proofs.Common.{◌≡◌, ◌≢◌, ◌⊎◌, ℕ, ◌+◌, ◌<◌, ◌≤◌, List, [], ◌∷◌, ◌++◌, length, refl, sym, ap, ◌∙◌, subst, inl, inr, ⊎_elim, arith}
use Rattle.std.proofs.lemmas.Bool.{eq-eqb, ne_eqb, cond-true, cond-false}
use Rattle.std.proofs.lemmas.List.{append_assoc, map-append}
use Rattle.std.proofs.lemmas.List.Elements.{Contains-append_right, Contains-append_left, Contains-append_cases}
use Rattle.std.specs.Prelude.{nat_eq}
use Rattle.std.specs.List.{AllByRecursion, Contains}
use Rattle.dd_model.specs.Symbol.{Symbol}
use Rattle.dd_model.specs.declared.requests.Request.{Request}
use Rattle.dd_model.specs.declared.jobs.Job.{Job}
use Rattle.dd_model.proofs.Lists.{Contains-none, Contains-head, Contains-later, Contains-cases, Contains-one, each_of, all_from_members}
use Rattle.dd_model.proofs.Pairs.{ArePairs, pairs_append, pairs_front, pairs_back, pairs_across}
use Rattle.dd_front.specs.declared.entry.Entry.{Entry}
use Rattle.dd_front.specs.declared.entry.State.TheVariants.{Open, Out, Done}
use Rattle.dd_front.specs.Machine.{entry_of, open_entries, jobs_of}
use Rattle.dd_front.specs.Step.{replaced}
use Rattle.dd_front.specs.Absorbed.{list_of, found_by}
use Rattle.dd_front.proofs.Replaced.{none_replaced}
use Rattle.dd_front.specs.Numbers.{HaveOwnNumbers, AreNumbered}
use Rattle.dd_front.specs.Held.{AreFound}

abbrev pub Differ : Entry → Entry → Type 0
Differ a b = a.number ≢ b.number

pub own_pairs : (es : List Entry) → HaveOwnNumbers es → ArePairs Differ es
own_pairs [] own = tt
own_pairs (e ∷ es) own = (all_from_members (Differ e) es (λ d there same. each_of (λ d. d.number ≢ e.number) es d own.1 there (sym same)), own_pairs es own.2)

pairs_own : (es : List Entry) → ((e : Entry) → Contains es e → 1 ≤ e.number) → ArePairs Differ es → HaveOwnNumbers es
pairs_own [] low pairs = tt
pairs_own (e ∷ es) low pairs = (
  low e (Contains-head e es),
  all_from_members (λ d. d.number ≢ e.number) es (λ d there same. each_of (Differ e) es d pairs.0 there (sym same)),
  pairs_own es (λ d there. low d (Contains-later e d es there)) pairs.1,
)

pub numbered_from : (next : ℕ) (es : List Entry) → ((e : Entry) → Contains es e → (1 ≤ e.number) × (e.number < next)) → ArePairs Differ es → AreNumbered next es
numbered_from next es range pairs = record {
  own = pairs_own es (λ e there. (range e there).0) pairs;
  below = all_from_members (λ e. e.number < next) es (λ e there. (range e there).1);
}

lowest : (es : List Entry) → HaveOwnNumbers es → AllByRecursion (λ e. 1 ≤ e.number) es
lowest [] own = tt
lowest (e ∷ es) own = (own.0, lowest es own.2)

pub range_of : (next : ℕ) (es : List Entry) → AreNumbered next es → (e : Entry) → Contains es e → (1 ≤ e.number) × (e.number < next)
range_of next es are e there = (each_of (λ d. 1 ≤ d.number) es e (lowest es are.own) there, each_of (λ d. d.number < next) es e are.below there)

-- ## What entries have found

pub found_by-append : (xs ys : List Entry) → found_by (xs ++ ys) ≡ found_by xs ++ found_by ys
found_by-append [] ys = refl
found_by-append (x ∷ xs) ys = ap (λ ss. list_of x.state ++ ss) (found_by-append xs ys) ∙ sym (append_assoc (list_of x.state) (found_by xs) (found_by ys))

-- ## Open entries

pub jobs_opened : (k : ℕ) (jobs : List Job) → jobs_of (open_entries k jobs) ≡ jobs
jobs_opened k [] = refl
jobs_opened k (job ∷ jobs) = ap (λ js. job ∷ js) (jobs_opened (k + 1) jobs)

pub record IsOpenFrom (k n : ℕ) (e : Entry) : Type 0 where
  pub from : k ≤ e.number
  pub below : e.number < k + n
  pub is_open : e.state ≡ Open

pub opened_entry : (k : ℕ) (jobs : List Job) (e : Entry) → Contains (open_entries k jobs) e → IsOpenFrom k (length jobs) e
opened_entry k [] e there = absurd (Contains-none e there)
opened_entry k (job ∷ jobs) e there =
    ⊎_elim
    (λ first.
    let number : k ≡ e.number = ap (λ (x : Entry). x.number) first in
    record { from = omega arith; below = omega arith; is_open = sym (ap (λ (x : Entry). x.state) first) })
    (λ later.
    let r = opened_entry (k + 1) jobs e later in
    let from = r.from in
    let below = r.below in
    record { from = omega arith; below = omega arith; is_open = r.is_open })
    (Contains-cases (entry_of k job Open) e (open_entries (k + 1) jobs) there)

opened_differ : (k : ℕ) (jobs : List Job) → ArePairs Differ (open_entries k jobs)
opened_differ k [] = tt
opened_differ k (job ∷ jobs) = (
  all_from_members (Differ (entry_of k job Open)) (open_entries (k + 1) jobs) (λ e there same. let from = (opened_entry (k + 1) jobs e there).from in absurd (omega arith)),
  opened_differ (k + 1) jobs,
)

pub opened_numbered : (jobs : List Job) → AreNumbered (length jobs + 1) (open_entries 1 jobs)
opened_numbered jobs =
    numbered_from (length jobs + 1) (open_entries 1 jobs)
    (λ e there. let o = opened_entry 1 jobs e there in let from = o.from in let below = o.below in (omega arith, omega arith))
    (opened_differ 1 jobs)

pub open_not_done : (list : List Symbol) → Open ≡ Done list → ⊥
open_not_done list e = cc

pub out_not_done : (list : List Symbol) → Out ≡ Done list → ⊥
out_not_done list e = cc

pub done_once : (a b : List Symbol) → Done a ≡ Done b → a ≡ b
done_once a b e = cc

pub opened_found : (q : Request) (k : ℕ) (jobs : List Job) → AreFound q (open_entries k jobs)
opened_found q k jobs e there list done = absurd (open_not_done list (sym (opened_entry k jobs e there).is_open ∙ done))

-- ## Entries in the place of one

-- where an entry stands, and what stands there instead
pub record IsInPlace (k : ℕ) (new : Entry → List Entry) (es : List Entry) (e : Entry) : Type 0 where
  pub front : List Entry
  pub back : List Entry
  pub before : es ≡ front ++ e ∷ back
  pub after : replaced k new es ≡ front ++ (new e ++ back)

pub in_place : (k : ℕ) (new : Entry → List Entry) (es : List Entry) (e : Entry) → ArePairs Differ es → Contains es e → e.number ≡ k → IsInPlace k new es e
in_place k new [] e distinct there number = absurd (Contains-none e there)
in_place k new (x ∷ xs) e distinct there number =
    ⊎_elim
    (λ first.
    let same : x.number ≡ k = ap (λ (y : Entry). y.number) first ∙ number in
    record {
      front = [];
      back = xs;
      before = ap (λ y. y ∷ xs) first;
      after =
          ap (λ ys. ys ++ replaced k new xs) (cond-true (nat_eq x.number k) (new x) (x ∷ []) (eq-eqb x.number k same))
          ∙ ap (λ ys. new x ++ ys) (none_replaced k new xs (all_from_members (λ y. y.number ≢ k) xs (λ y hy is. each_of (Differ x) xs y distinct.0 hy (same ∙ sym is))))
          ∙ ap (λ y. new y ++ xs) first;
    })
    (λ later.
    let differs : x.number ≢ k = λ is. each_of (Differ x) xs e distinct.0 later (is ∙ sym number) in
    let rest = in_place k new xs e distinct.1 later number in
    record {
      front = x ∷ rest.front;
      back = rest.back;
      before = ap (λ ys. x ∷ ys) rest.before;
      after = ap (λ ys. ys ++ replaced k new xs) (cond-false (nat_eq x.number k) (new x) (x ∷ []) (ne_eqb x.number k differs)) ∙ ap (λ ys. x ∷ ys) rest.after;
    })
    (Contains-cases x e xs there)

pub jobs_middle : (front back news : List Entry) → jobs_of (front ++ (news ++ back)) ≡ jobs_of front ++ (jobs_of news ++ jobs_of back)
jobs_middle front back news =
    map-append (λ (e : Entry). e.job) front (news ++ back) ∙ ap (λ js. jobs_of front ++ js) (map-append (λ (e : Entry). e.job) news back)

-- each entry of what stands there instead
middle_cases : (front back news : List Entry) (e old : Entry) → Contains (front ++ (news ++ back)) e → Contains (front ++ old ∷ back) e ⊎ Contains news e
middle_cases front back news e old there =
    ⊎_elim
    (λ early. inl (Contains-append_left front (old ∷ back) e early))
    (λ late. ⊎_elim
    (λ new. inr new)
    (λ later. inl (Contains-append_right front (old ∷ back) e (Contains-later old e back later)))
    (Contains-append_cases news back e late))
    (Contains-append_cases front (news ++ back) e there)

pub middle_found : (q : Request) (front back news : List Entry) (old : Entry) → AreFound q (front ++ old ∷ back) → AreFound q news → AreFound q (front ++ (news ++ back))
middle_found q front back news old found fresh e there =
    ⊎_elim (λ kept. found e kept) (λ new. fresh e new) (middle_cases front back news e old there)

-- numbers go on being from 1 on, below the next free one and distinct, where entries with distinct numbers come that no other has
middle_numbered : (next more : ℕ) (front back news : List Entry) (old : Entry) → next ≤ more → AreNumbered next (front ++ old ∷ back) → ArePairs Differ news → ((e : Entry) → Contains news e → (1 ≤ e.number) × (e.number < more))
    → ((e other : Entry) → Contains news e → Contains front other ⊎ Contains back other → e.number ≢ other.number) → AreNumbered more (front ++ (news ++ back))
middle_numbered next more front back news old least are pairs range differ =
    let olds = own_pairs (front ++ old ∷ back) are.own in
    let behind : ArePairs Differ (old ∷ back) = pairs_back Differ front (old ∷ back) olds in
    numbered_from more (front ++ (news ++ back))
    (λ e there. ⊎_elim
    (λ kept. let r = range_of next (front ++ old ∷ back) are e kept in let low = r.0 in let high = r.1 in (low, omega arith))
    (λ new. range e new)
    (middle_cases front back news e old there))
    (pairs_append Differ front (news ++ back)
    (pairs_front Differ front (old ∷ back) olds)
    (pairs_append Differ news back pairs behind.1 (λ e other he ho. differ e other he (inr ho)))
    (λ e other he ho. ⊎_elim
    (λ new same. differ other e new (inl he) (sym same))
    (λ later. pairs_across Differ front (old ∷ back) olds e other he (Contains-later old other back later))
    (Contains-append_cases news back other ho)))

pub one_numbered : (next : ℕ) (front back : List Entry) (old new : Entry) → new.number ≡ old.number → AreNumbered next (front ++ old ∷ back) → AreNumbered next (front ++ (new ∷ [] ++ back))
one_numbered next front back old new same are =
    let olds = own_pairs (front ++ old ∷ back) are.own in
    let behind : ArePairs Differ (old ∷ back) = pairs_back Differ front (old ∷ back) olds in
    middle_numbered next next front back (new ∷ []) old (omega arith) are (tt, tt)
    (λ e there. subst (λ n. (1 ≤ n) × (n < next)) (sym same ∙ is e there) (range_of next (front ++ old ∷ back) are old (Contains-append_right front (old ∷ back) old (Contains-head old back))))
    (λ e other there where_other. ⊎_elim
    (λ early equal. pairs_across Differ front (old ∷ back) olds other old early (Contains-head old back) (sym equal ∙ sym (is e there) ∙ same))
    (λ late equal. each_of (Differ old) back other behind.0 late (sym same ∙ is e there ∙ equal))
    where_other)
  where
    is : (e : Entry) → Contains (new ∷ []) e → new.number ≡ e.number
    is e there = ap (λ (x : Entry). x.number) (Contains-one new e there)

-- and where open entries with the next numbers come
pub opened_in_place : (next : ℕ) (front back : List Entry) (old : Entry) (jobs : List Job) → AreNumbered next (front ++ old ∷ back) → AreNumbered (next + length jobs) (front ++ (open_entries next jobs ++ back))
opened_in_place next front back old jobs are =
    let place = range_of next (front ++ old ∷ back) are old (Contains-append_right front (old ∷ back) old (Contains-head old back)) in
    let low = place.0 in
    let high = place.1 in
    middle_numbered next (next + length jobs) front back (open_entries next jobs) old (omega arith) are (opened_differ next jobs)
    (λ e there. let o = opened_entry next jobs e there in let from = o.from in let below = o.below in (omega arith, omega arith))
    (λ e other there where_other equal.
    let from = (opened_entry next jobs e there).from in
    let below = (range_of next (front ++ old ∷ back) are other (⊎_elim
    (λ early. Contains-append_left front (old ∷ back) other early)
    (λ late. Contains-append_right front (old ∷ back) other (Contains-later old other back late))
    where_other)).1 in
    absurd (omega arith))
