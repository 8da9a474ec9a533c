-- Turns of a pair: how many fix a chamber, over its whole cell, and that they are at most as many as the chambers.
use Rattle.std.proofs.Common.{◌≡◌, ℕ, zero, suc, ◌+◌, ◌-◌, ◌*◌, ◌/◌, ◌%◌, ◌<◌, ◌≤◌, ◌⊎◌, Bool, true, false, eqb, ◌||◌, List, [], ◌∷◌, length, refl, sym, ap, ◌∙◌, subst, inl, inr, ⊎_elim, arith}
use Rattle.std.proofs.lemmas.Bool.{cases_eq, cases_lt}
use Rattle.std.proofs.lemmas.Map.Steps.{length-le_from_distinct_below}
use Rattle.std.specs.List.{IsDistinct, AllByRecursion, list_any}
use borrow.Author.Tests.{eqb-true}
use Rattle.dd_model.specs.declared.index.Index.{Index}
use Rattle.dd_model.specs.declared.pair.Pair.{Pair}
use Rattle.dd_model.specs.Symbol.{Symbol, AreInvolutions, IsChamber, Word, first, second, turn, op, act, power}
use Rattle.dd_model.specs.Cell.{IsWordOf, turned, IsPeriod, IsLeastTurns}
use Rattle.dd_model.proofs.Words.{act-append, act_within, act-backwards, backwards}

pub turned_within : (s : Symbol) → AreInvolutions s → (p : Pair) (k d : ℕ) → IsChamber s d → IsChamber s (turned s p k d)
turned_within s inv p k d h = act_within s inv (power (turn p) k) d h

pub turned-suc : (s : Symbol) (p : Pair) (k d : ℕ) → turned s p (suc k) d ≡ turned s p k (act s (turn p) d)
turned-suc s p k d = act-append s (turn p) (power (turn p) k) d

-- the last turn comes last
pub turned-last : (s : Symbol) (p : Pair) (k d : ℕ) → turned s p (suc k) d ≡ act s (turn p) (turned s p k d)
turned-last s p zero d = turned-suc s p zero d
turned-last s p (suc k) d = turned-suc s p (suc k) d ∙ turned-last s p k (act s (turn p) d) ∙ ap (act s (turn p)) (sym (turned-suc s p k d))

pub turned-add : (s : Symbol) (p : Pair) (a b d : ℕ) → turned s p (a + b) d ≡ turned s p b (turned s p a d)
turned-add s p zero b d = let e : zero + b ≡ b = omega arith in ap (λ k. turned s p k d) e
turned-add s p (suc a) b d =
    let e : suc a + b ≡ suc (a + b) = omega arith in
    ap (λ k. turned s p k d) e ∙ turned-suc s p (a + b) d ∙ turned-add s p a b (act s (turn p) d) ∙ ap (turned s p b) (sym (turned-suc s p a d))

-- as many turns lead different chambers to different chambers
pub turned_apart : (s : Symbol) → AreInvolutions s → (p : Pair) (k d e : ℕ) → IsChamber s d → IsChamber s e → turned s p k d ≡ turned s p k e → d ≡ e
turned_apart s inv p k d e hd he same =
    let w = power (turn p) k in
    sym (act-backwards s inv w d hd) ∙ ap (act s (backwards w)) same ∙ act-backwards s inv w e he

-- whole rounds fix the chamber
pub turned-mul : (s : Symbol) (p : Pair) (r d : ℕ) → turned s p r d ≡ d → (q : ℕ) → turned s p (q * r) d ≡ d
turned-mul s p r d fixed zero = let e : zero * r ≡ 0 = omega arith in ap (λ k. turned s p k d) e
turned-mul s p r d fixed (suc q) =
    let e : suc q * r ≡ q * r + r = omega arith in
    ap (λ k. turned s p k d) e ∙ turned-add s p (q * r) r d ∙ ap (turned s p r) (turned-mul s p r d fixed q) ∙ fixed

-- The period divides each number of turns that fixes the chamber.
pub period_divides : (s : Symbol) (p : Pair) (d r m : ℕ) → IsPeriod s p d r → turned s p m d ≡ d → m % r ≡ 0
period_divides s p d r m is fixed =
    let pos = is.positive in
    let split : m ≡ m / r * r + m % r = grind arith in
    let rest : turned s p (m % r) d ≡ d =
    sym (ap (turned s p (m % r)) (turned-mul s p r d is.fixed (m / r))) ∙ sym (turned-add s p (m / r * r) (m % r) d) ∙ ap (λ k. turned s p k d) (sym split) ∙ fixed in
    ⊎_elim
    (λ zero_rest. zero_rest)
    (λ some_rest. let l = is.least (m % r) (omega arith) rest in absurd (omega arith))
    (cases_eq (m % r) 0)

pub period_turns : (s : Symbol) (p : Pair) (d r m : ℕ) → IsPeriod s p d r → m % r ≡ 0 → turned s p m d ≡ d
period_turns s p d r m is even =
    let pos = is.positive in
    let split : m ≡ m / r * r = grind arith in
    ap (λ k. turned s p k d) split ∙ turned-mul s p r d is.fixed (m / r)

-- d after k turns the other way round
abbrev back : Pair → Word
back p = second p ∷ first p ∷ []

abbrev unturned : Symbol → Pair → ℕ → ℕ → ℕ
unturned s p k d = act s (power (back p) k) d

unturned-suc : (s : Symbol) (p : Pair) (k d : ℕ) → unturned s p (suc k) d ≡ unturned s p k (act s (back p) d)
unturned-suc s p k d = act-append s (back p) (power (back p) k) d

back-turn : (s : Symbol) → AreInvolutions s → (p : Pair) (d : ℕ) → IsChamber s d → act s (back p) (act s (turn p) d) ≡ d
back-turn s inv p d h =
    ap (op s (first p)) ((inv (second p)).involutive (op s (first p) d) ((inv (first p)).within d h)) ∙ (inv (first p)).involutive d h

unturned-turned : (s : Symbol) → AreInvolutions s → (p : Pair) (k d : ℕ) → IsChamber s d → unturned s p k (turned s p k d) ≡ d
unturned-turned s inv p zero d h = refl
unturned-turned s inv p (suc k) d h =
    ap (unturned s p (suc k)) (turned-last s p k d)
    ∙ unturned-suc s p k (act s (turn p) (turned s p k d))
    ∙ ap (unturned s p k) (back-turn s inv p (turned s p k d) (turned_within s inv p k d h))
    ∙ unturned-turned s inv p k d h

-- A turn of a neighbor is the neighbor of a turn the other way round.
turned-first : (s : Symbol) → AreInvolutions s → (p : Pair) (k d : ℕ) → IsChamber s d → turned s p k (op s (first p) d) ≡ op s (first p) (unturned s p k d)
turned-first s inv p zero d h = refl
turned-first s inv p (suc k) d h =
    let i = first p in
    let j = second p in
    let hj = (inv j).within d h in
    let e = op s i (op s j d) in
    turned-suc s p k (op s i d)
    ∙ ap (λ x. turned s p k (op s j x)) ((inv i).involutive d h)
    ∙ ap (turned s p k) (sym ((inv i).involutive (op s j d) hj))
    ∙ turned-first s inv p k e ((inv i).within (op s j d) hj)
    ∙ ap (op s i) (sym (unturned-suc s p k d))

turned-second : (s : Symbol) → AreInvolutions s → (p : Pair) (k d : ℕ) → IsChamber s d → turned s p k (op s (second p) d) ≡ op s (second p) (unturned s p k d)
turned-second s inv p zero d h = refl
turned-second s inv p (suc k) d h =
    let i = first p in
    let j = second p in
    let hj = (inv j).within d h in
    let e = op s i (op s j d) in
    turned-suc s p k (op s j d)
    ∙ turned-second s inv p k e ((inv i).within (op s j d) hj)
    ∙ ap (op s j) (sym (unturned-suc s p k d))

unturned_fixed : (s : Symbol) → AreInvolutions s → (p : Pair) (k d : ℕ) → IsChamber s d → turned s p k d ≡ d → unturned s p k d ≡ d
unturned_fixed s inv p k d h fixed = sym (ap (unturned s p k) fixed) ∙ unturned-turned s inv p k d h

fixed_along : (s : Symbol) → AreInvolutions s → (p : Pair) (k d : ℕ) → IsChamber s d → turned s p k d ≡ d
    → (i : Index) → (i ≡ first p) ⊎ (i ≡ second p) → turned s p k (op s i d) ≡ op s i d
fixed_along s inv p k d h fixed i letter =
    ⊎_elim
    (λ is. subst (λ j. turned s p k (op s j d) ≡ op s j d) (sym is) (turned-first s inv p k d h ∙ ap (op s (first p)) (unturned_fixed s inv p k d h fixed)))
    (λ is. subst (λ j. turned s p k (op s j d) ≡ op s j d) (sym is) (turned-second s inv p k d h ∙ ap (op s (second p)) (unturned_fixed s inv p k d h fixed)))
    letter

-- What fixes one chamber of a cell fixes each.
pub fixed_from : (s : Symbol) → AreInvolutions s → (p : Pair) (k : ℕ) (w : Word) (d : ℕ) → IsChamber s d → IsWordOf p w → turned s p k (act s w d) ≡ act s w d → turned s p k d ≡ d
fixed_from s inv p k [] d h letters fixed = fixed
fixed_from s inv p k (i ∷ w) d h letters fixed =
    let next = op s i d in
    let hn = (inv i).within d h in
    let there = fixed_from s inv p k w next hn letters.1 fixed in
    subst (λ x. turned s p k x ≡ x) ((inv i).involutive d h) (fixed_along s inv p k next hn there i letters.0)

pub IsLeastTurns-from_period : (s : Symbol) → AreInvolutions s → (p : Pair) (d r : ℕ) → IsChamber s d → IsPeriod s p d r → IsLeastTurns s p d r
IsLeastTurns-from_period s inv p d r h is = record {
  positive = is.positive;
  chamber = d;
  in_cell = record { word = []; letters = tt; leads = refl };
  fixed = is.fixed;
  least = λ k e pos there fixed.
      is.least k pos (fixed_from s inv p k there.word d h there.letters (subst (λ x. turned s p k x ≡ x) (sym there.leads) fixed));
}

pub least_turns_unique : (s : Symbol) (p : Pair) (d r r' : ℕ) → IsLeastTurns s p d r → IsLeastTurns s p d r' → r ≡ r'
least_turns_unique s p d r r' a b =
    let low = a.least r' b.chamber b.positive b.in_cell b.fixed in
    let high = b.least r a.chamber a.positive a.in_cell a.fixed in
    omega arith

-- Of n turns none of which fixes d before the last, there are at most as many as chambers.
abbrev places : (ℕ → ℕ) → ℕ → ℕ → List ℕ
places f k zero = []
places f k (suc n) = f k ∷ places f (k + 1) n

length-places : (f : ℕ → ℕ) (k n : ℕ) → length (places f k n) ≡ n
length-places f k zero = refl
length-places f k (suc n) = ap suc (length-places f (k + 1) n)

other_places : (f : ℕ → ℕ) (x k n : ℕ) → ((j : ℕ) → k ≤ j → j < k + n → x ≡ f j → ⊥) → AllByRecursion (λ y. eqb x y ≡ false) (places f k n)
other_places f x k zero apart = tt
other_places f x k (suc n) apart = (
  grind (arith, apart k (omega arith) (omega arith)),
  other_places f x (k + 1) n (λ j low high. apart j (omega arith) (omega arith)),
)

distinct_places : (f : ℕ → ℕ) (k n : ℕ) → ((i j : ℕ) → i < j → j < k + n → f i ≡ f j → ⊥) → IsDistinct eqb (places f k n)
unfolding IsDistinct
distinct_places f k zero apart = tt
distinct_places f k (suc n) apart = (
  other_places f (f k) (k + 1) n (λ j low high. apart k j (omega arith) (omega arith)),
  distinct_places f (k + 1) n (λ i j below high. apart i j below (omega arith)),
)

or_cases : (a b : Bool) → a || b ≡ true → (a ≡ true) ⊎ (b ≡ true)
or_cases true b h = inl refl
or_cases false b h = inr h

places_below : (f : ℕ → ℕ) (m k n : ℕ) → ((j : ℕ) → f j < m) → (q : ℕ) → list_any (eqb q) (places f k n) ≡ true → q < m
places_below f m k zero below q h = cc
places_below f m k (suc n) below q h =
    ⊎_elim
    (λ here. let e : q ≡ f k = eqb-true q (f k) here in subst (λ x. x < m) (sym e) (below k))
    (λ later. places_below f m (k + 1) n below q later)
    (or_cases (eqb q (f k)) (list_any (eqb q) (places f (k + 1) n)) h)

pub period_bound : (s : Symbol) → AreInvolutions s → (p : Pair) (d n : ℕ) → IsChamber s d → ((k : ℕ) → 1 ≤ k → k < n → turned s p k d ≡ d → ⊥) → n ≤ s.size
period_bound s inv p d n h unfixed =
    let f : ℕ → ℕ = λ k. turned s p k d - 1 in
    let inside : (j : ℕ) → IsChamber s (turned s p j d) = λ j. turned_within s inv p j d h in
    let below : (j : ℕ) → f j < s.size = λ j. let w = inside j in omega (arith, w.0, w.1) in
    let apart : (i j : ℕ) → i < j → j < 0 + n → f i ≡ f j → ⊥ = λ i j low high same.
    let a = inside i in
    let b = inside j in
    let equal : turned s p i d ≡ turned s p j d = omega (arith, a.0, b.0, same) in
    let sum : j - i + i ≡ j = omega arith in
    let e : turned s p i (turned s p (j - i) d) ≡ turned s p j d = sym (turned-add s p (j - i) i d) ∙ ap (λ k. turned s p k d) sum in
    unfixed (j - i) (omega arith) (omega arith)
    (turned_apart s inv p i (turned s p (j - i) d) d (inside (j - i)) h (e ∙ sym equal)) in
    let bound = length-le_from_distinct_below (places f 0 n) s.size (distinct_places f 0 n apart) (places_below f s.size 0 n below) in
    let size = length-places f 0 n in
    omega arith

-- Where some positive number of turns fixes a chamber, there is a least one.
period_from : (s : Symbol) (p : Pair) (d j k : ℕ) → 1 ≤ k → ((i : ℕ) → 1 ≤ i → i < k → turned s p i d ≡ d → ⊥) → turned s p (k + j) d ≡ d → (r : ℕ) × IsPeriod s p d r
period_from s p d zero k pos before fixed =
    let e : k + zero ≡ k = omega arith in
    (k, record { positive = pos; fixed = subst (λ n. turned s p n d ≡ d) e fixed; least = λ i low there. ⊎_elim (λ early. absurd (before i low early there)) (λ late. late) (cases_lt i k) })
period_from s p d (suc j) k pos before fixed =
    ⊎_elim
    (λ here. (k, record { positive = pos; fixed = here; least = λ i low there. ⊎_elim (λ early. absurd (before i low early there)) (λ late. late) (cases_lt i k) }))
    (λ moved.
    let e : k + suc j ≡ k + 1 + j = omega arith in
    period_from s p d j (k + 1) (omega arith)
    (λ i low high there. ⊎_elim (λ early. before i low early there) (λ late. let same : i ≡ k = omega arith in moved (subst (λ n. turned s p n d ≡ d) same there)) (cases_lt i k))
    (subst (λ n. turned s p n d ≡ d) e fixed))
    (cases_eq (turned s p k d) d)

pub period_exists : (s : Symbol) (p : Pair) (d m : ℕ) → 1 ≤ m → turned s p m d ≡ d → (r : ℕ) × IsPeriod s p d r
period_exists s p d m pos fixed =
    let e : m ≡ 1 + (m - 1) = omega arith in
    period_from s p d (m - 1) 1 (omega arith) (λ i low high _. absurd (omega arith)) (subst (λ n. turned s p n d ≡ d) e fixed)
