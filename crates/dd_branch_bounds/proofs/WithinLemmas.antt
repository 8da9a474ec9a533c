-- Flags that lead to chambers with the same label.
use Rattle.std.proofs.Common.{◌≡◌, ℕ, ◌+◌, ◌*◌, ◌/◌, ◌%◌, ◌⊎◌, Bool, true, false, IsTrue, refl, sym, ap, ◌∙◌, subst, inl, inr, arith}
use Rattle.std.specs.Prelude.{cond, nat_eq}
use Rattle.dd_model.specs.declared.pair.Pair.{Pair}
use Rattle.dd_model.specs.Symbol.{Symbol, IsChamber, first, second, op}
use Rattle.dd_branch_bounds.specs.Ends.{IsInside, AreTables, IsWithin, letter_of, led}

-- ## The involution of a flag

pub letter_in_pair : (p : Pair) (k : ℕ) → (letter_of p k ≡ first p) ⊎ (letter_of p k ≡ second p)
letter_in_pair p k =
    elim (nat_eq k 0) as (λ b. (cond b (first p) (second p) ≡ first p) ⊎ (cond b (first p) (second p) ≡ second p)) [
      | true ↦ inl refl
      | false ↦ inr refl
    ]

-- the even flag of a chamber
pub led_even : (s : Symbol) (p : Pair) (e : ℕ) → led s p (2 * e) ≡ op s (first p) e
led_even s p e =
    let side : 2 * e % 2 ≡ 0 = omega arith in
    let chamber : 2 * e / 2 ≡ e = omega arith in
    ap (λ k. op s (letter_of p k) (2 * e / 2)) side ∙ ap (op s (first p)) chamber

-- the odd one
pub led_odd : (s : Symbol) (p : Pair) (e : ℕ) → led s p (2 * e + 1) ≡ op s (second p) e
led_odd s p e =
    let side : (2 * e + 1) % 2 ≡ 1 = omega arith in
    let chamber : (2 * e + 1) / 2 ≡ e = omega arith in
    ap (λ k. op s (letter_of p k) ((2 * e + 1) / 2)) side ∙ ap (op s (second p)) chamber

-- ## Two flags of which one leads to the chamber of the other

module _ (C : Symbol → Type 0) (n : ℕ) (p : Pair) (full : AreTables C n) (label : ℕ → ℕ) (is_capped : Bool) (x y : ℕ) (inside : IsInside n (x / 2)) (side : (s : Symbol) → C s → y % 2 ≡ x % 2)
    (link : (s : Symbol) → C s → led s p x ≡ y / 2) (same : label (y / 2) ≡ label (x / 2)) (apart : (IsTrue is_capped → ⊥) → y ≡ x → ⊥) where
  back : (s : Symbol) → C s → led s p y ≡ x / 2
  back s c =
      let i = letter_of p (x % 2) in
      let size = (full s c).1 in
      let high = inside.1 in
      let h : IsChamber s (x / 2) = (inside.0, omega (arith, high, size)) in
      ap (λ k. op s (letter_of p k) (y / 2)) (side s c) ∙ ap (op s i) (sym (link s c)) ∙ ((full s c).0.involutions i).involutive (x / 2) h

  elsewhere : (IsTrue is_capped → ⊥) → (s : Symbol) → C s → y / 2 ≡ x / 2 → ⊥
  elsewhere loose s c equal = let even = side s c in let e : y ≡ x = omega (arith, equal, even) in apart loose e

  pub within_first : (z : ℕ) → z ≡ x → IsWithin C p label is_capped z
  within_first z at = subst (IsWithin C p label is_capped) (sym at) (record {
    same = λ s c. ap label (link s c) ∙ same;
    moved = λ loose s c equal. elsewhere loose s c (sym (link s c) ∙ equal);
  })

  pub within_second : (z : ℕ) → z ≡ y → IsWithin C p label is_capped z
  within_second z at = subst (IsWithin C p label is_capped) (sym at) (record {
    same = λ s c. ap label (back s c) ∙ sym same;
    moved = λ loose s c equal. elsewhere loose s c (sym equal ∙ back s c);
  })
