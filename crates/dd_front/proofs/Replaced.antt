-- Entries with others in the place of one of them.
use Rattle.std.proofs.Common.{◌≡◌, ◌≢◌, ℕ, zero, suc, ◌+◌, ◌<◌, ◌≤◌, true, false, cond, nat_eq, List, [], ◌∷◌, ◌++◌, length, get_or, set, take, drop, refl, sym, ap, ◌∙◌, subst, ⊎_elim, add-zero, arith}
use Rattle.std.proofs.lemmas.Bool.Decides.{eqb_tells}
use Rattle.std.proofs.lemmas.List.{set_split}
use Rattle.std.specs.List.{AllByRecursion}
use Rattle.dd_model.proofs.Ascending.{all-append}
use Rattle.dd_model.specs.declared.jobs.Job.{Job}
use Rattle.dd_front.specs.declared.entry.Entry.{Entry}
use Rattle.dd_front.specs.declared.entry.State.{State}
use Rattle.dd_front.specs.declared.entry.State.TheVariants.{Open}
use Rattle.dd_front.specs.Machine.{entry_of, open_entries}
use Rattle.dd_front.specs.Step.{replaced, with_state, split_entries}
use Rattle.dd_front.specs.Numbers.{HaveOwnNumbers, AreBelow}
use Rattle.dd_front.specs.Places.{IsPlaceOf, HasNoneOf}
use Rattle.dd_front.specs.Invariant.{AreListed}
use Rattle.dd_model.specs.declared.requests.Request.{Request}

-- ## Properties of all

pub all-map : {A : Type 0} (P Q : A → Type 0) (xs : List A) → ((x : A) → P x → Q x) → AllByRecursion P xs → AllByRecursion Q xs
all-map P Q [] f h = tt
all-map P Q (x ∷ xs) f h = (f x h.0, all-map P Q xs f h.1)

pub all_replaced : (P : Entry → Type 0) (k : ℕ) (new : Entry → List Entry) (es : List Entry) → ((e : Entry) → P e → AllByRecursion P (new e)) → AllByRecursion P es → AllByRecursion P (replaced k new es)
all_replaced P k new [] f h = tt
all_replaced P k new (e ∷ es) f h =
    all-append P (cond (nat_eq e.number k) (new e) (e ∷ [])) (replaced k new es)
    (elim (nat_eq e.number k) as (λ b. AllByRecursion P (cond b (new e) (e ∷ []))) [ true ↦ f e h.0 | false ↦ (h.0, tt) ])
    (all_replaced P k new es f h.1)

-- ## What is replaced

here : (k : ℕ) (new : Entry → List Entry) (e : Entry) (es : List Entry) → nat_eq e.number k ≡ true → replaced k new (e ∷ es) ≡ new e ++ replaced k new es
here k new e es t = ap (λ b. cond b (new e) (e ∷ []) ++ replaced k new es) t

not_here : (k : ℕ) (new : Entry → List Entry) (e : Entry) (es : List Entry) → nat_eq e.number k ≡ false → replaced k new (e ∷ es) ≡ e ∷ replaced k new es
not_here k new e es t = ap (λ b. cond b (new e) (e ∷ []) ++ replaced k new es) t

pub none_replaced : (k : ℕ) (new : Entry → List Entry) (es : List Entry) → HasNoneOf k es → replaced k new es ≡ es
none_replaced k new [] none = refl
none_replaced k new (e ∷ es) none = ⊎_elim
    (λ yes. absurd (none.0 yes.1))
    (λ no. not_here k new e es no.0 ∙ ap (λ ds. e ∷ ds) (none_replaced k new es none.1))
    (eqb_tells e.number k)

-- one entry alone is replaced
pub replaced_at : (k : ℕ) (new : Entry → List Entry) (es : List Entry) (i : ℕ) (d : Entry) → HaveOwnNumbers es → IsPlaceOf k es i
    → replaced k new es ≡ take i es ++ (new (get_or es i d) ++ drop (suc i) es)
replaced_at k new [] i d own there = absurd there
replaced_at k new (e ∷ es) zero d own there = ⊎_elim
    (λ yes. here k new e es yes.0 ∙ ap (λ ds. new e ++ ds) (none_replaced k new es (subst (λ n. AllByRecursion (λ b. b.number ≢ n) es) there own.1)))
    (λ no. absurd (no.1 there))
    (eqb_tells e.number k)
replaced_at k new (e ∷ es) (suc i) d own there = ⊎_elim
    (λ yes. absurd (there.0 yes.1))
    (λ no. not_here k new e es no.0 ∙ ap (λ ds. e ∷ ds) (replaced_at k new es i d own.2 there.1))
    (eqb_tells e.number k)

-- ## Numbers

numbers_from : (next : ℕ) (jobs : List Job) → AllByRecursion (λ e. next ≤ e.number) (open_entries next jobs)
numbers_from next [] = tt
numbers_from next (job ∷ jobs) = (omega arith, all-map (λ e. next + 1 ≤ e.number) (λ e. next ≤ e.number) (open_entries (next + 1) jobs) (λ e h. omega arith) (numbers_from (next + 1) jobs))

-- numbers are given one after the other
pub opened_below : (next : ℕ) (jobs : List Job) → AreBelow (next + length jobs) (open_entries next jobs)
opened_below next [] = tt
opened_below next (job ∷ jobs) = (omega arith, all-map (λ e. e.number < next + 1 + length jobs) (λ e. e.number < next + length (job ∷ jobs)) (open_entries (next + 1) jobs) (λ e h. omega arith) (opened_below (next + 1) jobs))

pub opened_own : (next : ℕ) (jobs : List Job) → 1 ≤ next → HaveOwnNumbers (open_entries next jobs)
opened_own next [] one = tt
opened_own next (job ∷ jobs) one = (
  one,
  all-map (λ e. next + 1 ≤ e.number) (λ e. e.number ≢ next) (open_entries (next + 1) jobs) (λ e h same. absurd (omega arith)) (numbers_from (next + 1) jobs),
  opened_own (next + 1) jobs (omega arith),
)

own-append : (xs ys : List Entry) (next : ℕ) → HaveOwnNumbers xs → HaveOwnNumbers ys → AllByRecursion (λ e. next ≤ e.number) xs → AreBelow next ys → HaveOwnNumbers (xs ++ ys)
own-append [] ys next hx hy from below = hy
own-append (x ∷ xs) ys next hx hy from below =
    let low = from.0 in (
      hx.0,
      all-append (λ d. d.number ≢ x.number) xs ys hx.1 (all-map (λ d. d.number < next) (λ d. d.number ≢ x.number) ys (λ d h same. absurd (omega arith)) below),
      own-append xs ys next hx.2 hy from.1 below,
    )

-- the entry in another state
abbrev pub restated : State → Entry → List Entry
restated state e = entry_of e.number e.job state ∷ []

own_spread : (k next : ℕ) (jobs : List Job) (es : List Entry) → 1 ≤ next → HaveOwnNumbers es → AreBelow next es → HaveOwnNumbers (replaced k (λ e. open_entries next jobs) es)
own_spread k next jobs [] one own below = tt
own_spread k next jobs (e ∷ es) one own below =
    let new : Entry → List Entry = λ d. open_entries next jobs in
    ⊎_elim
    (λ yes.
    let rest : replaced k new es ≡ es = none_replaced k new es (subst (λ n. AllByRecursion (λ d. d.number ≢ n) es) yes.1 own.1) in
    subst HaveOwnNumbers (sym (here k new e es yes.0 ∙ ap (λ ds. open_entries next jobs ++ ds) rest))
    (own-append (open_entries next jobs) es next (opened_own next jobs one) own.2 (numbers_from next jobs) below.1))
    (λ no.
    let low = below.0 in
    let later = all_replaced (λ d. d.number ≢ e.number) k new es
    (λ d differs. all-map (λ d. next ≤ d.number) (λ d. d.number ≢ e.number) (open_entries next jobs) (λ d from same. absurd (omega arith)) (numbers_from next jobs)) own.1 in
    subst HaveOwnNumbers (sym (not_here k new e es no.0)) (own.0, later, own_spread k next jobs es one own.2 below.1))
    (eqb_tells e.number k)

-- new entries take numbers that no other has
pub own_split : (k next : ℕ) (jobs : List Job) (es : List Entry) → 1 ≤ next → HaveOwnNumbers es → AreBelow next es → HaveOwnNumbers (split_entries k next jobs es)
own_split zero next jobs es one own below = own
own_split (suc k) next jobs es one own below = own_spread (suc k) next jobs es one own below

-- ## In a vector

-- the number 0, and numbers that no entry has, change nothing
pub state_of_none : (k : ℕ) (state : State) (es : List Entry) → HasNoneOf k es → with_state k state es ≡ es
state_of_none zero state es none = refl
state_of_none (suc k) state es none = none_replaced (suc k) (restated state) es none

pub split_of_none : (k next : ℕ) (jobs : List Job) (es : List Entry) → HasNoneOf k es → split_entries k next jobs es ≡ es
split_of_none zero next jobs es none = refl
split_of_none (suc k) next jobs es none = none_replaced (suc k) (λ e. open_entries next jobs) es none

positive : (k : ℕ) (es : List Entry) (i : ℕ) → HaveOwnNumbers es → IsPlaceOf k es i → 1 ≤ k
positive k [] i own there = absurd there
positive k (e ∷ es) zero own there = let one = own.0 in omega arith
positive k (e ∷ es) (suc i) own there = positive k es i own.2 there.1

-- a new state at the place of the number
pub state_at : (k : ℕ) (state : State) (es : List Entry) (i : ℕ) (d : Entry) → HaveOwnNumbers es → IsPlaceOf k es i → i < length es
    → with_state k state es ≡ set es i (entry_of (get_or es i d).number (get_or es i d).job state)
state_at zero state es i d own there low = absurd (omega (arith, positive zero es i own there))
state_at (suc k) state es i d own there low =
    replaced_at (suc k) (restated state) es i d own there ∙ sym (set_split es i (entry_of (get_or es i d).number (get_or es i d).job state) low)

-- new entries at the place of the number
pub split_at : (k next : ℕ) (jobs : List Job) (es : List Entry) (i : ℕ) (d : Entry) → HaveOwnNumbers es → IsPlaceOf k es i
    → split_entries k next jobs es ≡ take i es ++ (open_entries next jobs ++ drop (suc i) es)
split_at zero next jobs es i d own there = absurd (omega (arith, positive zero es i own there))
split_at (suc k) next jobs es i d own there = replaced_at (suc k) (λ e. open_entries next jobs) es i d own there

-- one job more
pub opened_push : (first : ℕ) (jobs : List Job) (job : Job) → open_entries first (jobs ++ job ∷ []) ≡ open_entries first jobs ++ entry_of (first + length jobs) job Open ∷ []
opened_push first [] job = ap (λ k. entry_of k job Open ∷ []) (sym (add-zero first))
opened_push first (j ∷ jobs) job =
    let e : first + 1 + length jobs ≡ first + length (j ∷ jobs) = omega arith in
    ap (λ es. entry_of first j Open ∷ es) (opened_push (first + 1) jobs job ∙ ap (λ k. open_entries (first + 1) jobs ++ entry_of k job Open ∷ []) e)

-- open entries have no list
pub opened_listed : (q : Request) (next : ℕ) (jobs : List Job) → AreListed q (open_entries next jobs)
opened_listed q next [] = tt
opened_listed q next (job ∷ jobs) = (tt, opened_listed q (next + 1) jobs)
