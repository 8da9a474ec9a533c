-- The sums over the ends at the vertices: weighted and added up each edge counts once, and numbers without shifts that are balanced at
-- each vertex where they are not 0 are equal at the two ends of each edge.
use Rattle.std.proofs.Common.{◌≡◌, ℕ, zero, suc, ◌+◌, ◌*◌, ◌<◌, ◌≤◌, ◌⊎◌, ℤ, pos, negsuc, nat_abs, ◌+ℤ◌, ◌-ℤ◌, ◌*ℤ◌, List, [], ◌∷◌, refl, sym, ap, ◌∙◌, ⊎_elim, arith}
use Rattle.std.specs.List.{AllByRecursion}
use Rattle.std.proofs.lemmas.Int.{ints}
use Rattle.dd_lattice.specs.declared.net_edge.NetEdge.{NetEdge}
use Rattle.dd_lattice.proofs.Rings.{at, nat, equal, ◌⊞◌, ◌⊟◌, ◌⊠◌}
use Rattle.dd_draw.proofs.Totals.{total, total-same, total-sum, total-zero, total_at}
use Rattle.dd_draw.specs.Placement.{if_same, pull}

-- both ends of an edge are vertices
pub record IsInside (n : ℕ) (e : NetEdge) : Type 0 where
  pub from_low : 1 ≤ e.from
  pub from : e.from ≤ n
  pub to_low : 1 ≤ e.to
  pub to : e.to ≤ n

-- the difference of a weight at the two ends, times that of the places
abbrev pub flow : (ℕ → ℤ) → (NetEdge → ℤ) → ℤ → (ℕ → ℤ) → List NetEdge → ℤ
flow g shift q xs [] = pos 0
flow g shift q xs (e ∷ es) = (g e.from -ℤ g e.to) *ℤ ((xs e.to +ℤ q *ℤ shift e) -ℤ xs e.from) +ℤ flow g shift q xs es

pub weighted : (g : ℕ → ℤ) (shift : NetEdge → ℤ) (q : ℤ) (xs : ℕ → ℤ) (es : List NetEdge) (n : ℕ) → AllByRecursion (IsInside n) es
    → total (λ k. g (suc k) *ℤ pull shift q xs es (suc k)) n ≡ flow g shift q xs es
weighted g shift q xs [] n inside =
    total-zero (λ k. g (suc k) *ℤ pos 0) n (λ k h. equal (at (g (suc k)) ⊠ nat 0) (nat 0) (omega arith))
weighted g shift q xs (e ∷ es) n inside =
    let s = q *ℤ shift e in
    let there : ℕ → ℤ = λ v. (xs e.to +ℤ s) -ℤ xs v in
    let back : ℕ → ℤ = λ v. (xs e.from -ℤ s) -ℤ xs v in
    let one : ℕ → ℤ = λ k. g (suc k) *ℤ if_same e.from (suc k) (there (suc k)) in
    let two : ℕ → ℤ = λ k. g (suc k) *ℤ if_same e.to (suc k) (back (suc k)) in
    let rest : ℕ → ℤ = λ k. g (suc k) *ℤ pull shift q xs es (suc k) in
    total-same (λ k. g (suc k) *ℤ pull shift q xs (e ∷ es) (suc k)) (λ k. (one k +ℤ two k) +ℤ rest k) n
    (λ k h.
    let a = at (g (suc k)) in
    let x = at (if_same e.from (suc k) (there (suc k))) in
    let y = at (if_same e.to (suc k) (back (suc k))) in
    let z = at (pull shift q xs es (suc k)) in
    equal (a ⊠ ((x ⊞ y) ⊞ z)) (((a ⊠ x) ⊞ (a ⊠ y)) ⊞ (a ⊠ z)) (omega arith))
    ∙ total-sum (λ k. one k +ℤ two k) rest n
    ∙ ap (λ z. z +ℤ total rest n) (total-sum one two n)
    ∙ ap (λ z. (z +ℤ total two n) +ℤ total rest n) (total_at g there e.from n inside.0.from_low inside.0.from)
    ∙ ap (λ z. (g e.from *ℤ there e.from +ℤ z) +ℤ total rest n) (total_at g back e.to n inside.0.to_low inside.0.to)
    ∙ ap (λ z. (g e.from *ℤ there e.from +ℤ g e.to *ℤ back e.to) +ℤ z) (weighted g shift q xs es n inside.1)
    ∙ equal
    (((at (g e.from) ⊠ ((at (xs e.to) ⊞ at s) ⊟ at (xs e.from))) ⊞ (at (g e.to) ⊠ ((at (xs e.from) ⊟ at s) ⊟ at (xs e.to)))) ⊞ at (flow g shift q xs es))
    (((at (g e.from) ⊟ at (g e.to)) ⊠ ((at (xs e.to) ⊞ at s) ⊟ at (xs e.from))) ⊞ at (flow g shift q xs es)) (omega arith)

-- ## Without shifts

square : (z : ℤ) → z *ℤ z ≡ pos (nat_abs z * nat_abs z)
square (pos n) = refl
square (negsuc n) = refl

-- the squares of the differences at the edges
squares : (ℕ → ℤ) → List NetEdge → ℕ
squares h [] = 0
squares h (e ∷ es) = nat_abs (h e.from -ℤ h e.to) * nat_abs (h e.from -ℤ h e.to) + squares h es

flow_is : (shift : NetEdge → ℤ) (h : ℕ → ℤ) (es : List NetEdge) → flow h shift (pos 0) h es ≡ pos 0 -ℤ pos (squares h es)
unfolding squares
flow_is shift h [] = refl
flow_is shift h (e ∷ es) =
    let d = h e.from -ℤ h e.to in
    let rest = flow_is shift h es in
    let size : pos (nat_abs d * nat_abs d) ≡ d *ℤ d = sym (square d) in
    let first : d *ℤ ((h e.to +ℤ pos 0 *ℤ shift e) -ℤ h e.from) ≡ pos 0 -ℤ d *ℤ d =
    equal ((at (h e.from) ⊟ at (h e.to)) ⊠ ((at (h e.to) ⊞ (nat 0 ⊠ at (shift e))) ⊟ at (h e.from)))
    (nat 0 ⊟ ((at (h e.from) ⊟ at (h e.to)) ⊠ (at (h e.from) ⊟ at (h e.to)))) (omega arith) in
    sum_of (nat_abs d * nat_abs d) (squares h es) (d *ℤ d) (d *ℤ ((h e.to +ℤ pos 0 *ℤ shift e) -ℤ h e.from)) (flow h shift (pos 0) h es) size first rest
  where
    sum_of : (m n : ℕ) (a b c : ℤ) → pos m ≡ a → b ≡ pos 0 -ℤ a → c ≡ pos 0 -ℤ pos n → b +ℤ c ≡ pos 0 -ℤ pos (m + n)
    sum_of m n a b c p q r = omega (arith, ints)

no_square : (n m : ℕ) → n * n + m ≡ 0 → n ≡ 0
no_square zero m e = refl
no_square (suc n) m e = absurd (omega arith)

no_size : (a b : ℤ) → nat_abs (a -ℤ b) ≡ 0 → a ≡ b
no_size a b e = equal_from (a -ℤ b) e (equal (at a) (at b ⊞ (at a ⊟ at b)) (omega arith))
  where
    equal_from : (d : ℤ) → nat_abs d ≡ 0 → a ≡ b +ℤ d → a ≡ b
    equal_from (pos zero) e p = omega (arith, ints)
    equal_from (pos (suc n)) e p = absurd (omega arith)
    equal_from (negsuc n) e p = absurd (omega arith)

-- a function has one value at the two ends of each edge
abbrev pub IsLevel : (ℕ → ℤ) → NetEdge → Type 0
IsLevel h e = h e.from ≡ h e.to

level_from_squares : (h : ℕ → ℤ) (es : List NetEdge) → squares h es ≡ 0 → AllByRecursion (IsLevel h) es
unfolding squares
level_from_squares h [] e = tt
level_from_squares h (x ∷ es) e = (
  no_size (h x.from) (h x.to) (no_square (nat_abs (h x.from -ℤ h x.to)) (squares h es) e),
  level_from_squares h es (omega arith),
)

-- Where the number at a vertex is not 0 it is balanced.
pub level : (shift : NetEdge → ℤ) (h : ℕ → ℤ) (es : List NetEdge) (n : ℕ) → AllByRecursion (IsInside n) es
    → ((k : ℕ) → k < n → (h (suc k) ≡ pos 0) ⊎ (pull shift (pos 0) h es (suc k) ≡ pos 0)) → AllByRecursion (IsLevel h) es
level shift h es n inside balanced =
    let none : total (λ k. h (suc k) *ℤ pull shift (pos 0) h es (suc k)) n ≡ pos 0 =
    total-zero (λ k. h (suc k) *ℤ pull shift (pos 0) h es (suc k)) n
    (λ k l. ⊎_elim
    (λ e. ap (λ z. z *ℤ pull shift (pos 0) h es (suc k)) e ∙ equal (nat 0 ⊠ at (pull shift (pos 0) h es (suc k))) (nat 0) (omega arith))
    (λ e. ap (λ z. h (suc k) *ℤ z) e ∙ equal (at (h (suc k)) ⊠ nat 0) (nat 0) (omega arith))
    (balanced k l)) in
    let sum = sym (flow_is shift h es) ∙ sym (weighted h shift (pos 0) h es n inside) ∙ none in
    level_from_squares h es (omega (arith, ints, sum))

-- Where all but the first vertex are balanced, so is the first.
pub balanced_first : (shift : NetEdge → ℤ) (q : ℤ) (xs : ℕ → ℤ) (es : List NetEdge) (n : ℕ) → AllByRecursion (IsInside (suc n)) es
    → ((k : ℕ) → k < n → pull shift q xs es (suc (suc k)) ≡ pos 0) → pull shift q xs es 1 ≡ pos 0
balanced_first shift q xs es n inside rest =
    let p : ℕ → ℤ = λ v. pull shift q xs es v in
    let all : total (λ k. pos 1 *ℤ p (suc k)) (suc n) ≡ pos 0 = weighted (λ v. pos 1) shift q xs es (suc n) inside ∙ no_flow es in
    let first : (m : ℕ) → m ≤ n → total (λ k. pos 1 *ℤ p (suc k)) (suc m) ≡ p 1 = count in
    sym (first n (omega arith)) ∙ all
  where
    no_flow : (es : List NetEdge) → flow (λ v. pos 1) shift q xs es ≡ pos 0
    no_flow [] = refl
    no_flow (e ∷ es) =
        let d = (xs e.to +ℤ q *ℤ shift e) -ℤ xs e.from in
        let none : (pos 1 -ℤ pos 1) *ℤ d ≡ pos 0 = equal (nat 0 ⊠ at d) (nat 0) (omega arith) in
        ap (λ z. z +ℤ flow (λ v. pos 1) shift q xs es) none ∙ ap (λ z. pos 0 +ℤ z) (no_flow es)

    count : (m : ℕ) → m ≤ n → total (λ k. pos 1 *ℤ pull shift q xs es (suc k)) (suc m) ≡ pull shift q xs es 1
    count zero low = equal (nat 0 ⊞ (nat 1 ⊠ at (pull shift q xs es 1))) (at (pull shift q xs es 1)) (omega arith)
    count (suc m) low =
        let before = count m (omega arith) in
        let last : pos 1 *ℤ pull shift q xs es (suc (suc m)) ≡ pos 0 = ap (λ z. pos 1 *ℤ z) (rest m (omega arith)) in
        omega (arith, ints, before, last)
