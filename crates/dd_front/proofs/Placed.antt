-- The place of the entry of a number, and the entry that stands there.
use Rattle.std.proofs.Common.{◌≡◌, ◌≢◌, ◌⊎◌, ◌↔◌, ℕ, zero, suc, ◌+◌, ◌<◌, ◌≤◌, Bool, IsTrue, List, [], ◌∷◌, length, get_or, refl, sym, ap, ◌∙◌, subst, inl, inr, ⊎_elim, arith}
use Rattle.std.proofs.lemmas.List.Elements.{Contains-get_or}
use Rattle.std.specs.List.{Contains}
use Rattle.dd_model.proofs.Lists.{Contains-cases, each_of}
use Rattle.dd_model.specs.declared.jobs.Job.{Job}
use Rattle.dd_front.specs.declared.entry.Entry.{Entry}
use Rattle.dd_front.specs.declared.entry.State.{State}
use Rattle.dd_front.specs.Machine.{entry_of}
use Rattle.dd_front.specs.Numbers.{HaveOwnNumbers}
use Rattle.dd_front.specs.Places.{IsPlaceOf, HasNoneOf, IsEntryOf}

pub within : (k : ℕ) (es : List Entry) (i : ℕ) → IsPlaceOf k es i → i < length es
within k [] i there = absurd there
within k (e ∷ es) zero there = omega arith
within k (e ∷ es) (suc i) there = let low = within k es i there.1 in omega arith

pub number_at : (k : ℕ) (es : List Entry) (i : ℕ) (d : Entry) → IsPlaceOf k es i → (get_or es i d).number ≡ k
number_at k [] i d there = absurd there
number_at k (e ∷ es) zero d there = there
number_at k (e ∷ es) (suc i) d there = number_at k es i d there.1

-- an entry with another number stands elsewhere
pub place_apart : (k : ℕ) (es : List Entry) (i j : ℕ) (d : Entry) → IsPlaceOf k es i → (get_or es j d).number ≢ k → i ≢ j
place_apart k es i j d there other same = other (ap (λ n. (get_or es n d).number) (sym same) ∙ number_at k es i d there)

-- where numbers are own, each entry of a number is the first one
pub place_own : (k : ℕ) (es : List Entry) (i : ℕ) (d : Entry) → HaveOwnNumbers es → i < length es → (get_or es i d).number ≡ k → IsPlaceOf k es i
place_own k [] i d own low is = absurd (omega arith)
place_own k (e ∷ es) zero d own low is = is
place_own k (e ∷ es) (suc i) d own low is =
    let there : Contains es (get_or es i d) = Contains-get_or es i d (omega arith) in
    ((λ same. each_of (λ b. b.number ≢ e.number) es (get_or es i d) own.1 there (is ∙ sym same)), place_own k es i d own.2 (omega arith) is)

only_at : (k : ℕ) (es : List Entry) (i : ℕ) (d x : Entry) → HaveOwnNumbers es → IsPlaceOf k es i → Contains es x → x.number ≡ k → x ≡ get_or es i d
only_at k [] i d x own there stands is = absurd there
only_at k (e ∷ es) zero d x own there stands is = ⊎_elim
    (λ first. sym first)
    (λ later. absurd (each_of (λ b. b.number ≢ e.number) es x own.1 later (is ∙ sym there)))
    (Contains-cases e x es stands)
only_at k (e ∷ es) (suc i) d x own there stands is = ⊎_elim
    (λ first. absurd (there.0 (ap (λ b. b.number) first ∙ is)))
    (λ later. only_at k es i d x own.2 there.1 later is)
    (Contains-cases e x es stands)

pub entry_at : (k : ℕ) (es : List Entry) (i : ℕ) (d : Entry) → HaveOwnNumbers es → IsPlaceOf k es i → IsEntryOf k es (get_or es i d)
entry_at k es i d own there = record {
  stands = Contains-get_or es i d (within k es i there);
  number = number_at k es i d there;
  only = λ x stands is. only_at k es i d x own there stands is;
}

-- ## A search on both sides of a place

-- so many were looked at on each side of a place, and the entry of a number is none of them
abbrev pub IsFarther : ℕ → List Entry → ℕ → ℕ → Type 0
IsFarther k es near step = (i : ℕ) → IsPlaceOf k es i → (i + step < near) ⊎ (near + step ≤ i)

-- the next one on each side is not the one either
pub one_farther : (k : ℕ) (es : List Entry) (near step : ℕ) → IsFarther k es near step → ((i : ℕ) → IsPlaceOf k es i → i + step + 1 ≢ near) → ((i : ℕ) → IsPlaceOf k es i → near + step ≢ i)
    → IsFarther k es near (step + 1)
one_farther k es near step far behind ahead i there =
    let not_behind = behind i there in
    let not_ahead = ahead i there in
    ⊎_elim (λ low. inl (omega arith)) (λ high. inr (omega arith)) (far i there)

-- nothing is left
pub none_farther : (k : ℕ) (es : List Entry) (near step : ℕ) → near ≤ length es → length es ≤ step → IsFarther k es near step → HasNoneOf k es
none_farther k es near step inside all far =
    none_placed k es (λ i there. let low = within k es i there in ⊎_elim (λ behind. omega arith) (λ ahead. omega arith) (far i there))
  where
    none_placed : (n : ℕ) (ds : List Entry) → ((i : ℕ) → ¬ IsPlaceOf n ds i) → HasNoneOf n ds
    none_placed n [] none = tt
    none_placed n (d ∷ ds) none = (none zero, none_placed n ds (λ i there. none (suc i) (none zero, there)))

-- ## The job and the state of the entry of a number

pub stands_with : (k : ℕ) (es : List Entry) (e : Entry) (job : Job) (state : State) → IsEntryOf k es e → Contains es (entry_of k job state) ↔ ((e.job ≡ job) × (e.state ≡ state))
stands_with k es e job state is = (
  (λ there. let same = is.only (entry_of k job state) there refl in (sym (ap (λ d. d.job) same), sym (ap (λ d. d.state) same))),
  (λ both. subst (Contains es) (ap (λ n. entry_of n e.job e.state) is.number ∙ ap (λ j. entry_of k j e.state) both.0 ∙ ap (λ s. entry_of k job s) both.1) is.stands),
)

-- what a test of the state tells
pub state_where : (k : ℕ) (es : List Entry) (e : Entry) (state : State) (r : Bool) → IsEntryOf k es e → IsTrue r ↔ (e.state ≡ state) → IsTrue r ↔ ((job : Job) × Contains es (entry_of k job state))
state_where k es e state r is told = (
  (λ yes. (e.job, (stands_with k es e e.job state is).1 (refl, told.0 yes))),
  (λ h. told.1 ((stands_with k es e h.0 state is).0 h.1).1),
)

-- where there is none, none has this job and this state
pub none_with : (k : ℕ) (es : List Entry) (state : State) (job : Job) → HasNoneOf k es → ¬ Contains es (entry_of k job state)
none_with k es state job none there = each_of (λ e. e.number ≢ k) es (entry_of k job state) none there refl
