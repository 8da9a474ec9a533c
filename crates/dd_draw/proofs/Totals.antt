-- Sums of whole numbers over the numbers below n.
use Rattle.std.proofs.Common.{◌≡◌, ◌≢◌, ℕ, zero, suc, ◌<◌, ◌≤◌, ℤ, pos, ◌+ℤ◌, ◌-ℤ◌, ◌*ℤ◌, cond, refl, ap, ◌∙◌, ⊎_elim, arith}
use Rattle.std.proofs.lemmas.Int.{ints}
use Rattle.std.proofs.lemmas.Bool.{cases_eq, eq-eqb, ne_eqb}
use Rattle.dd_lattice.proofs.Rings.{at, nat, equal, ◌⊞◌, ◌⊟◌, ◌⊠◌}
use Rattle.dd_draw.specs.Placement.{if_same}

abbrev pub total : (ℕ → ℤ) → ℕ → ℤ
total f zero = pos 0
total f (suc n) = total f n +ℤ f n

pub total-same : (f g : ℕ → ℤ) (n : ℕ) → ((k : ℕ) → k < n → f k ≡ g k) → total f n ≡ total g n
total-same f g zero e = refl
total-same f g (suc n) e =
    let rest = total-same f g n (λ k h. e k (omega arith)) in
    let last = e n (omega arith) in
    omega (arith, ints)

pub total-sum : (f g : ℕ → ℤ) (n : ℕ) → total (λ k. f k +ℤ g k) n ≡ total f n +ℤ total g n
total-sum f g zero = refl
total-sum f g (suc n) = let rest = total-sum f g n in omega (arith, ints)

-- what combines two functions combines their sums
pub total_combined : (f g h : ℕ → ℤ) (a b c : ℤ) (n : ℕ) → ((k : ℕ) → k < n → a *ℤ f k ≡ b *ℤ g k -ℤ c *ℤ h k)
    → a *ℤ total f n ≡ b *ℤ total g n -ℤ c *ℤ total h n
total_combined f g h a b c zero e = equal (at a ⊠ nat 0) ((at b ⊠ nat 0) ⊟ (at c ⊠ nat 0)) (omega arith)
total_combined f g h a b c (suc n) e =
    let rest = total_combined f g h a b c n (λ k l. e k (omega arith)) in
    let last = e n (omega arith) in
    equal (at a ⊠ (at (total f n) ⊞ at (f n))) ((at a ⊠ at (total f n)) ⊞ (at a ⊠ at (f n))) (omega arith)
    ∙ ap (λ z. z +ℤ a *ℤ f n) rest ∙ ap (λ z. (b *ℤ total g n -ℤ c *ℤ total h n) +ℤ z) last
    ∙ equal (((at b ⊠ at (total g n)) ⊟ (at c ⊠ at (total h n))) ⊞ ((at b ⊠ at (g n)) ⊟ (at c ⊠ at (h n))))
    ((at b ⊠ (at (total g n) ⊞ at (g n))) ⊟ (at c ⊠ (at (total h n) ⊞ at (h n)))) (omega arith)

pub total-zero : (f : ℕ → ℤ) (n : ℕ) → ((k : ℕ) → k < n → f k ≡ pos 0) → total f n ≡ pos 0
total-zero f zero e = refl
total-zero f (suc n) e =
    let rest = total-zero f n (λ k h. e k (omega arith)) in
    let last = e n (omega arith) in
    omega (arith, ints)

pub total_one : (f : ℕ → ℤ) (a n : ℕ) → a < n → ((k : ℕ) → k < n → k ≢ a → f k ≡ pos 0) → total f n ≡ f a
total_one f a zero low e = absurd (omega arith)
total_one f a (suc n) low e =
    ⊎_elim
    (λ same.
    let rest = total-zero f n (λ k h. e k (omega arith) (omega arith)) in
    let here : f n ≡ f a = ap f same in
    omega (arith, ints))
    (λ other.
    let rest = total_one f a n (omega arith) (λ k h. e k (omega arith)) in
    let last = e n (omega arith) (λ s. other s) in
    omega (arith, ints))
    (cases_eq n a)

-- a function that is 0 but at two places
pub total_two : (f : ℕ → ℤ) (a b n : ℕ) → a < b → b < n → ((k : ℕ) → k < n → k ≢ a → k ≢ b → f k ≡ pos 0) → total f n ≡ f a +ℤ f b
total_two f a b zero low high e = absurd (omega arith)
total_two f a b (suc n) low high e =
    ⊎_elim
    (λ same.
    let rest = total_one f a n (omega arith) (λ k h away. e k (omega arith) away (omega arith)) in
    let here : f n ≡ f b = ap f same in
    omega (arith, ints))
    (λ other.
    let rest = total_two f a b n low (omega arith) (λ k h. e k (omega arith)) in
    let last = e n (omega arith) (omega arith) (λ s. other s) in
    omega (arith, ints))
    (cases_eq n b)

-- ## At one vertex

pub if_same-same : (u w : ℕ) (z : ℤ) → u ≡ w → if_same u w z ≡ z
if_same-same u w z e = ap (λ b. cond b z (pos 0)) (eq-eqb u w e)

pub if_same-other : (u w : ℕ) (z : ℤ) → u ≢ w → if_same u w z ≡ pos 0
if_same-other u w z n = ap (λ b. cond b z (pos 0)) (ne_eqb u w n)

-- of the terms of all vertices one alone is left
pub total_at : (g f : ℕ → ℤ) (w n : ℕ) → 1 ≤ w → w ≤ n → total (λ k. g (suc k) *ℤ if_same w (suc k) (f (suc k))) n ≡ g w *ℤ f w
total_at g f zero n low high = absurd (omega arith)
total_at g f (suc w) n low high =
    total_one (λ k. g (suc k) *ℤ if_same (suc w) (suc k) (f (suc k))) w n (omega arith)
    (λ k h away. ap (λ z. g (suc k) *ℤ z) (if_same-other (suc w) (suc k) (f (suc k)) (λ e. away (omega arith)))
    ∙ equal (at (g (suc k)) ⊠ nat 0) (nat 0) (omega arith))
    ∙ ap (λ z. g (suc w) *ℤ z) (if_same-same (suc w) (suc w) (f (suc w)) refl)
