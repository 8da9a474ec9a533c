-- Chambers that an involution fixes: a chain has two, if one that both involutions fix is counted twice, and a cycle none.
use Rattle.std.proofs.Common.{◌≡◌, ℕ, zero, suc, ◌+◌, ◌-◌, ◌*◌, ◌%◌, ◌<◌, ◌≤◌, Bool, false, cond, eqb, List, map, refl, sym, ap, ◌∙◌, subst, inl, inr, ⊎_elim, arith}
use Rattle.std.specs.List.{Contains, sum_by}
use Rattle.std.specs.List.Sorted.{IsStrictlyIncreasing}
use Rattle.std.proofs.lemmas.Bool.{cases_eq, eq-eqb, ne_eqb}
use Rattle.std.proofs.lemmas.List.{length-map, get_or-map}
use Rattle.std.proofs.lemmas.List.Elements.{Contains-get_or}
use Rattle.std.proofs.lemmas.List.Kept.{AllPairs-from_increasing}
use Rattle.std.proofs.lemmas.List.Sums.{sum_by-cons}
use Rattle.dd_model.specs.declared.index.Index.{Index}
use Rattle.dd_model.specs.declared.pair.Pair.{Pair}
use Rattle.dd_model.specs.Symbol.{Symbol, AreInvolutions, IsChamber, first, second, turn, op, act}
use Rattle.dd_model.specs.Code.{count_from}
use Rattle.dd_model.specs.Cell.{IsChain, turned, IsPeriod}
use Rattle.dd_model.proofs.Counts.{AreApart, same_totals}
use Rattle.dd_model.proofs.Turns.{turned_within, turned-suc, turned-last, turned-add, turned-mul, turned_apart, period_divides, period_turns}
use Rattle.dd_model.proofs.CountFrom.{length-count_from, get_or-count_from}
use Rattle.dd_cells.specs.Cells.{AreMembers}
use Rattle.dd_cells.proofs.CellSizes.{chain_size}
use Rattle.dd_cells.proofs.CellSums.{sum_by_listed, sum_by_none, sum_by-map}
use Rattle.dd_cells.proofs.ChainLemmas.{reflected_place, place_in_chain}

-- ## Multiples of r among numbers that follow one another

abbrev pub one_if : Bool → ℕ
one_if b = cond b 1 0

abbrev hit : ℕ → ℕ → ℕ
hit r n = one_if (eqb (n % r) 0)

-- how many of the n numbers from c on are multiples of r
abbrev window : ℕ → ℕ → ℕ → ℕ
window r c zero = 0
window r c (suc n) = hit r c + window r (c + 1) n

window-add : (r c a b : ℕ) → window r c (a + b) ≡ window r c a + window r (c + a) b
window-add r c zero b =
    let e : zero + b ≡ b = omega arith in
    let z : c + zero ≡ c = omega arith in
    ap (window r c) e ∙ ap (λ x. window r x b) (sym z) ∙ omega arith
window-add r c (suc a) b =
    let e : suc a + b ≡ suc (a + b) = omega arith in
    let z : c + 1 + a ≡ c + suc a = omega arith in
    ap (window r c) e
    ∙ ap (λ n. hit r c + n) (window-add r (c + 1) a b ∙ ap (λ x. window r (c + 1) a + window r x b) z)
    ∙ omega arith

hit_none : (r n : ℕ) → 1 ≤ n → n < r → hit r n ≡ 0
hit_none r n low high = let e : n % r ≡ n = grind arith in grind arith

window_none : (r c n : ℕ) → 1 ≤ c → c + n ≤ r → window r c n ≡ 0
window_none r c zero low high = refl
window_none r c (suc n) low high =
    let a = hit_none r c low (omega arith) in
    let b = window_none r (c + 1) n (omega arith) (omega arith) in
    omega arith

hit_round : (r c : ℕ) → 1 ≤ r → hit r (c + r) ≡ hit r c
hit_round r c some = let e : (c + r) % r ≡ c % r = grind arith in ap (λ n. one_if (eqb n 0)) e

-- each r numbers that follow one another have one multiple of r
window_one : (r c : ℕ) → 1 ≤ r → window r c r ≡ 1
window_one zero c some = absurd (omega arith)
window_one (suc r) zero some =
    let none = window_none (suc r) 1 r (omega arith) (omega arith) in
    let e : 0 % suc r ≡ 0 = grind arith in
    let here : hit (suc r) 0 ≡ 1 = ap (λ n. one_if (eqb n 0)) e in
    let z : zero + 1 ≡ 1 = refl in
    omega arith
window_one (suc r) (suc c) some =
    let before = window_one (suc r) c some in
    let next : c + 1 ≡ suc c = omega arith in
    let more : suc (suc r) ≡ suc r + 1 = omega arith in
    let split : window (suc r) c (suc (suc r)) ≡ window (suc r) c (suc r) + window (suc r) (c + suc r) 1 =
    ap (window (suc r) c) more ∙ window-add (suc r) c (suc r) 1 in
    let last : window (suc r) (c + suc r) 1 ≡ hit (suc r) c = let t = hit_round (suc r) c (omega arith) in omega arith in
    let front : window (suc r) c (suc (suc r)) ≡ hit (suc r) c + window (suc r) (suc c) (suc r) = ap (λ x. hit (suc r) c + window (suc r) x (suc r)) next in
    omega arith

window_two : (r c : ℕ) → 1 ≤ r → window r c (2 * r) ≡ 2
window_two r c some =
    let e : 2 * r ≡ r + r = omega arith in
    let a = window_one r c some in
    let b = window_one r (c + r) some in
    ap (window r c) e ∙ window-add r c r r ∙ omega arith

-- pairs of numbers that follow one another
window_pairs : (r c a n : ℕ) → sum_by (λ k. hit r (c + 2 * k) + hit r (c + 2 * k + 1)) (count_from a n) ≡ window r (c + 2 * a) (2 * n)
window_pairs r c a zero = refl
window_pairs r c a (suc n) =
    let f : ℕ → ℕ = λ k. hit r (c + 2 * k) + hit r (c + 2 * k + 1) in
    let e : 2 * suc n ≡ suc (suc (2 * n)) = omega arith in
    let z : c + 2 * (a + 1) ≡ c + 2 * a + 1 + 1 = omega arith in
    let rest = window_pairs r c (a + 1) n in
    let here = sum_by-cons f a (count_from (a + 1) n) in
    let later : window r (c + 2 * (a + 1)) (2 * n) ≡ window r (c + 2 * a + 1 + 1) (2 * n) = ap (λ x. window r x (2 * n)) z in
    let whole : window r (c + 2 * a) (2 * suc n) ≡ hit r (c + 2 * a) + (hit r (c + 2 * a + 1) + window r (c + 2 * a + 1 + 1) (2 * n)) = ap (window r (c + 2 * a)) e in
    omega arith

-- ## Reflections of turned chambers

-- a turn, a reflection and a turn are the reflection
turn_back : (s : Symbol) → AreInvolutions s → (p : Pair) (y : ℕ) → IsChamber s y → act s (turn p) (op s (first p) (act s (turn p) y)) ≡ op s (first p) y
turn_back s inv p y h =
    let i = first p in
    let j = second p in
    let hi = (inv i).within y h in
    ap (op s j) ((inv i).involutive (op s j (op s i y)) ((inv j).within (op s i y) hi)) ∙ (inv j).involutive (op s i y) hi

turns_back : (s : Symbol) → AreInvolutions s → (p : Pair) (k x : ℕ) → IsChamber s x → turned s p k (op s (first p) (turned s p k x)) ≡ op s (first p) x
turns_back s inv p zero x h = refl
turns_back s inv p (suc k) x h =
    let i = first p in
    let y = turned s p k x in
    turned-suc s p k (op s i (turned s p (suc k) x))
    ∙ ap (λ z. turned s p k (act s (turn p) (op s i z))) (turned-last s p k x)
    ∙ ap (turned s p k) (turn_back s inv p y (turned_within s inv p k x h))
    ∙ turns_back s inv p k x h

-- the second involution is the first, and a turn
second_by_turn : (s : Symbol) → AreInvolutions s → (p : Pair) (y : ℕ) → IsChamber s y → act s (turn p) (op s (first p) y) ≡ op s (second p) y
second_by_turn s inv p y h = ap (op s (second p)) ((inv (first p)).involutive y h)

-- Turns of d that lead where m turns lead.
same_place_from : (s : Symbol) → AreInvolutions s → (p : Pair) (d r m a x : ℕ) → IsChamber s d → IsPeriod s p d r → x + m ≡ 2 * r
    → turned s p m d ≡ turned s p a d → (a + x) % r ≡ 0
same_place_from s inv p d r m a x h period sum same =
    let swap : m + x ≡ 2 * r = omega arith in
    period_divides s p d r (a + x) period
    (turned-add s p a x d ∙ ap (turned s p x) (sym same) ∙ sym (turned-add s p m x d) ∙ ap (λ n. turned s p n d) swap ∙ turned-mul s p r d period.fixed 2)

same_place_to : (s : Symbol) → AreInvolutions s → (p : Pair) (d r m a x : ℕ) → IsChamber s d → IsPeriod s p d r → x + m ≡ 2 * r
    → (a + x) % r ≡ 0 → turned s p m d ≡ turned s p a d
same_place_to s inv p d r m a x h period sum even =
    let swap : m + x ≡ 2 * r = omega arith in
    turned_apart s inv p x (turned s p m d) (turned s p a d) (turned_within s inv p m d h) (turned_within s inv p a d h)
    (sym (turned-add s p m x d) ∙ ap (λ n. turned s p n d) swap ∙ turned-mul s p r d period.fixed 2
    ∙ sym (period_turns s p d r (a + x) period even) ∙ turned-add s p a x d)

-- ## Flags

-- 1 where the involution fixes the chamber
abbrev pub fixed_flag : Symbol → Index → ℕ → ℕ
fixed_flag s i d = one_if (eqb (op s i d) d)

abbrev pub flags : Symbol → Pair → ℕ → ℕ
flags s p d = fixed_flag s (first p) d + fixed_flag s (second p) d

same_test : (a b x y : ℕ) → (a ≡ b → x ≡ y) → (x ≡ y → a ≡ b) → one_if (eqb a b) ≡ one_if (eqb x y)
same_test a b x y to from =
    ⊎_elim
    (λ e. ap one_if (eq-eqb a b e ∙ sym (eq-eqb x y (to e))))
    (λ ne. ap one_if (ne_eqb a b ne ∙ sym (ne_eqb x y (λ e. ne (from e)))))
    (cases_eq a b)

doubled : (s : Symbol) (p : Pair) (k d : ℕ) → turned s p k (turned s p k d) ≡ turned s p (2 * k) d
doubled s p k d = let e : 2 * k ≡ k + k = omega arith in sym (turned-add s p k k d) ∙ ap (λ n. turned s p n d) (sym e)

-- the first involution fixes a turned chamber exactly where a number is a multiple of r
first_flag : (s : Symbol) → AreInvolutions s → (p : Pair) (d r m c k : ℕ) → IsChamber s d → IsPeriod s p d r → turned s p m d ≡ op s (first p) d
    → c + 1 + m ≡ 2 * r → fixed_flag s (first p) (turned s p k d) ≡ hit r (c + 2 * k + 1)
first_flag s inv p d r m c k h period reflected sum =
    let i = first p in
    let x = turned s p k d in
    let hx = turned_within s inv p k d h in
    let number : 2 * k + (c + 1) ≡ c + 2 * k + 1 = omega arith in
    same_test (op s i x) x ((c + 2 * k + 1) % r) 0
    (λ fixed. ap (λ n. n % r) (sym number) ∙ same_place_from s inv p d r m (2 * k) (c + 1) h period sum
    (reflected ∙ sym (turns_back s inv p k d h) ∙ ap (turned s p k) fixed ∙ doubled s p k d))
    (λ even. turned_apart s inv p k (op s i x) x ((inv i).within x hx) hx
    (turns_back s inv p k d h ∙ sym reflected
    ∙ same_place_to s inv p d r m (2 * k) (c + 1) h period sum (ap (λ n. n % r) number ∙ even) ∙ sym (doubled s p k d)))

second_flag : (s : Symbol) → AreInvolutions s → (p : Pair) (d r m c k : ℕ) → IsChamber s d → IsPeriod s p d r → turned s p m d ≡ op s (first p) d
    → c + 1 + m ≡ 2 * r → fixed_flag s (second p) (turned s p k d) ≡ hit r (c + 2 * k)
second_flag s inv p d r m c k h period reflected sum =
    let i = first p in
    let j = second p in
    let x = turned s p k d in
    let hx = turned_within s inv p k d h in
    let hi = (inv i).within x hx in
    let number : 2 * k + c ≡ c + 2 * k = omega arith in
    let total : c + suc m ≡ 2 * r = omega arith in
    let moved : turned s p k (op s j x) ≡ turned s p (suc m) d =
    ap (turned s p k) (sym (second_by_turn s inv p x hx)) ∙ sym (turned-suc s p k (op s i x)) ∙ turned-last s p k (op s i x)
    ∙ ap (act s (turn p)) (turns_back s inv p k d h ∙ sym reflected) ∙ sym (turned-last s p m d) in
    same_test (op s j x) x ((c + 2 * k) % r) 0
    (λ fixed. ap (λ n. n % r) (sym number) ∙ same_place_from s inv p d r (suc m) (2 * k) c h period total
    (sym moved ∙ ap (turned s p k) fixed ∙ doubled s p k d))
    (λ even. turned_apart s inv p k (op s j x) x ((inv j).within x hx) hx
    (moved ∙ same_place_to s inv p d r (suc m) (2 * k) c h period total (ap (λ n. n % r) number ∙ even) ∙ sym (doubled s p k d)))

-- ## Cells

pub apart_from_increasing : (xs : List ℕ) → IsStrictlyIncreasing xs → AreApart xs
apart_from_increasing xs up i j low high same =
    let below = AllPairs-from_increasing xs up i j 0 low high in omega arith

Contains-map : (f : ℕ → ℕ) (n k : ℕ) → k < n → Contains (map f (count_from 0 n)) (f k)
Contains-map f n k below =
    let size = length-count_from 0 n in
    let long = length-map (count_from 0 n) f in
    subst (Contains (map f (count_from 0 n))) (get_or-map f (count_from 0 n) k 0 0 (omega arith) ∙ ap f (get_or-count_from 0 n k below ∙ omega arith))
    (Contains-get_or (map f (count_from 0 n)) k 0 (omega arith))

-- A sum over a chain is the sum over the turned chambers.
sum_over_chain : (s : Symbol) → AreInvolutions s → (p : Pair) (d r : ℕ) (members : List ℕ) (g : ℕ → ℕ) → IsChamber s d → IsPeriod s p d r → IsChain s p d
    → AreMembers s p d members → sum_by g members ≡ sum_by (λ k. g (turned s p k d)) (count_from 0 r)
sum_over_chain s inv p d r members g h period chain are =
    let at : ℕ → ℕ = λ k. turned s p k d in
    let places = map at (count_from 0 r) in
    let size = chain_size s inv p d r members h period chain are in
    let long = length-map (count_from 0 r) at in
    let count = length-count_from 0 r in
    let totals = same_totals (λ x. x) g members places (apart_from_increasing members are.ascending)
    (λ e listed.
    let place = place_in_chain s inv p d r e h period chain ((are.each e).0 listed) in
    subst (Contains places) place.leads (Contains-map at r place.turns place.below))
    (omega arith) in
    sym (sum_by-map (λ x. x) g members) ∙ totals.sum ∙ sum_by-map (λ x. x) g places ∙ sum_by-map g at (count_from 0 r)

pub flags_of_chain : (s : Symbol) → AreInvolutions s → (p : Pair) (d r : ℕ) (members : List ℕ) → IsChamber s d → IsPeriod s p d r → IsChain s p d
    → AreMembers s p d members → sum_by (flags s p) members ≡ 2
flags_of_chain s inv p d r members h period chain are =
    let place = reflected_place s inv p d r 0 h period chain in
    let m = place.turns in
    let below = place.below in
    let c = 2 * r - (1 + m) in
    let sum : c + 1 + m ≡ 2 * r = omega arith in
    let zero_start : c + 2 * 0 ≡ c = omega arith in
    sum_over_chain s inv p d r members (flags s p) h period chain are
    ∙ sum_by_listed (λ k. flags s p (turned s p k d)) (λ k. hit r (c + 2 * k) + hit r (c + 2 * k + 1)) (count_from 0 r) (λ k listed.
    let a = first_flag s inv p d r m c k h period place.leads sum in
    let b = second_flag s inv p d r m c k h period place.leads sum in
    omega arith)
    ∙ window_pairs r c 0 r
    ∙ ap (λ x. window r x (2 * r)) zero_start
    ∙ window_two r c period.positive

pub flags_of_cycle : (s : Symbol) (p : Pair) (d : ℕ) (members : List ℕ) → (IsChain s p d → ⊥) → AreMembers s p d members → sum_by (flags s p) members ≡ 0
flags_of_cycle s p d members cycle are =
    sum_by_none (flags s p) members (λ e listed.
    let there = (are.each e).0 listed in
    let a : eqb (op s (first p) e) e ≡ false = ne_eqb (op s (first p) e) e (λ fixed. cycle (record { chamber = e; in_cell = there; fixed = inl fixed })) in
    let b : eqb (op s (second p) e) e ≡ false = ne_eqb (op s (second p) e) e (λ fixed. cycle (record { chamber = e; in_cell = there; fixed = inr fixed })) in
    let ca = ap one_if a in
    let cb = ap one_if b in
    omega arith)
