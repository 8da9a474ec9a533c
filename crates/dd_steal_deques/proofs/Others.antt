-- The numbers from 1 to n but one.
use Rattle.std.proofs.Common.{◌≡◌, ◌≢◌, ℕ, zero, suc, ◌+◌, ◌<◌, ◌==◌, Bool, true, false, [], ◌∷◌, ◌++◌, refl, sym, ◌∙◌, ap, arith}
use Rattle.std.specs.Prelude.{if◌then◌else◌}
use Rattle.std.proofs.lemmas.Bool.Decides.{nat_tests}
use Rattle.dd_steal_deques.specs.Numbers.{times}
use Rattle.dd_steal_deques.specs.Places.{others}
use Rattle.dd_steal_deques.proofs.Totals.{times-append}

-- by whether the next one is left out
others_by : (x n : ℕ) (same : Bool) → (suc n == x) ≡ same → others x (suc n) ≡ (if same then others x n else others x n ++ suc n ∷ [])
others_by x n same is = ap (λ b. if b then others x n else others x n ++ suc n ∷ []) is

pub others_more : (x n : ℕ) → n + 1 ≢ x → others x (n + 1) ≡ others x n ++ (n + 1) ∷ []
others_more x n apart = more (suc n == x) refl
  where
    more : (same : Bool) → (suc n == x) ≡ same → others x (n + 1) ≡ others x n ++ (n + 1) ∷ []
    more true is = absurd (apart (grind (arith, nat_tests, is)))
    more false is =
        let next : n + 1 ≡ suc n = omega arith in
        ap (λ m. others x m) next ∙ others_by x n false is ∙ ap (λ m. others x n ++ m ∷ []) (sym next)

pub times_more : (z x n : ℕ) → n + 1 ≢ x → times z (others x (n + 1)) ≡ times z (others x n) + times z ((n + 1) ∷ [])
times_more z x n apart = ap (times z) (others_more x n apart) ∙ times-append z (others x n) ((n + 1) ∷ [])

pub times_beyond : (z x n : ℕ) → n < z → times z (others x n) ≡ 0
times_beyond z x zero lt = refl
times_beyond z x (suc n) lt = beyond (times_beyond z x n (omega (arith, lt))) (suc n == x) refl
  where
    beyond : times z (others x n) ≡ 0 → (same : Bool) → (suc n == x) ≡ same → times z (others x (suc n)) ≡ 0
    beyond before true is = ap (times z) (others_by x n true is) ∙ before
    beyond before false is =
        let last : times z (suc n ∷ []) ≡ 0 = grind (arith, nat_tests, lt) in
        ap (times z) (others_by x n false is) ∙ times-append z (others x n) (suc n ∷ []) ∙ omega (arith, before, last)

-- the one that is left out
pub times_itself : (x n : ℕ) → times x (others x n) ≡ 0
times_itself x zero = refl
times_itself x (suc n) = itself (times_itself x n) (suc n == x) refl
  where
    itself : times x (others x n) ≡ 0 → (same : Bool) → (suc n == x) ≡ same → times x (others x (suc n)) ≡ 0
    itself before true is = ap (times x) (others_by x n true is) ∙ before
    itself before false is =
        let last : times x (suc n ∷ []) ≡ 0 = grind (arith, nat_tests, is) in
        ap (times x) (others_by x n false is) ∙ times-append x (others x n) (suc n ∷ []) ∙ omega (arith, before, last)

pub times_other : (z x n : ℕ) → z < n → z + 1 ≢ x → times (z + 1) (others x n) ≡ 1
times_other z x zero lt apart = absurd (omega (arith, lt))
times_other z x (suc n) lt apart = other (λ below. times_other z x n below apart) (suc n == x) (suc n == z + 1) refl refl
  where
    other : (z < n → times (z + 1) (others x n) ≡ 1) → (same last : Bool) → (suc n == x) ≡ same → (suc n == z + 1) ≡ last → times (z + 1) (others x (suc n)) ≡ 1
    other before true true is at = absurd (apart (grind (arith, nat_tests, is, at)))
    other before true false is at =
        let below : z < n = grind (arith, nat_tests, lt, at) in
        ap (times (z + 1)) (others_by x n true is) ∙ before below
    other before false true is at =
        let beyond : n < z + 1 = grind (arith, nat_tests, at) in
        let one : times (z + 1) (suc n ∷ []) ≡ 1 = grind (arith, nat_tests, at) in
        ap (times (z + 1)) (others_by x n false is) ∙ times-append (z + 1) (others x n) (suc n ∷ []) ∙ omega (arith, one, times_beyond (z + 1) x n beyond)
    other before false false is at =
        let below : z < n = grind (arith, nat_tests, lt, at) in
        let none : times (z + 1) (suc n ∷ []) ≡ 0 = grind (arith, nat_tests, at) in
        ap (times (z + 1)) (others_by x n false is) ∙ times-append (z + 1) (others x n) (suc n ∷ []) ∙ omega (arith, none, before below)
