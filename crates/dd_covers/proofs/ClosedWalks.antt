-- Shifts along walks: there and back they cancel, and round a closed walk many times they multiply.
use Rattle.std.proofs.Common.{◌≡◌, ℕ, zero, suc, ◌+◌, ◌*◌, ◌%◌, [], ◌∷◌, ◌++◌, refl, sym, ap, ◌∙◌, arith}
use Rattle.dd_model.specs.declared.index.Index.{Index}
use Rattle.dd_model.specs.Symbol.{Symbol, AreInvolutions, IsChamber, Word, op, act, power}
use Rattle.dd_model.proofs.Words.{backwards, act-backwards, power_add}
use Rattle.dd_covers.specs.TorusCover.{sum_along}
use Rattle.dd_covers.proofs.Congruences.{AreCongruent, congruent_same, congruent_on, congruent_sum, no_remainder}

pub sum-append : (s : Symbol) (x : Index → ℕ → ℕ) (v w : Word) (d : ℕ) → sum_along s x (v ++ w) d ≡ sum_along s x v d + sum_along s x w (act s v d)
sum-append s x [] w d = omega arith
sum-append s x (i ∷ v) w d = let rest = sum-append s x v w (op s i d) in omega arith

-- as many turns as lead back, many times over
pub sum_of_turns : (s : Symbol) (x : Index → ℕ → ℕ) (w : Word) (d : ℕ) → act s w d ≡ d → (q : ℕ) → sum_along s x (power w q) d ≡ q * sum_along s x w d
sum_of_turns s x w d back zero = omega arith
sum_of_turns s x w d back (suc q) =
    let split = sum-append s x w (power w q) d in
    let rest = sum_of_turns s x w d back q in
    let e = ap (sum_along s x (power w q)) back in
    omega arith

pub power_times : (w : Word) (q r : ℕ) → power (power w r) q ≡ power w (q * r)
power_times w zero r = let e : 0 ≡ 0 * r = omega arith in ap (power w) e
power_times w (suc q) r =
    let e : r + q * r ≡ suc q * r = omega arith in
    ap (λ u. power w r ++ u) (power_times w q r) ∙ sym (power_add w r (q * r)) ∙ ap (power w) e

module _ (s : Symbol) (inv : AreInvolutions s) (k : ℕ) (x : Index → ℕ → ℕ) (opposite : (i : Index) (d : ℕ) → IsChamber s d → (x i d + x i (op s i d)) % k ≡ 0) where
  -- there and back
  pub sum-backwards : (w : Word) (d : ℕ) → IsChamber s d → AreCongruent k (sum_along s x w d + sum_along s x (backwards w) (act s w d)) 0
  sum-backwards [] d h = congruent_same k (0 + 0) 0 refl
  sum-backwards (i ∷ w) d h =
      let e = op s i d in
      let he = (inv i).within d h in
      let far = act s w e in
      let rest = sum-backwards w e he in
      let split = sum-append s x (backwards w) (i ∷ []) far in
      let home : act s (backwards w) far ≡ e = act-backwards s inv w e he in
      let last : sum_along s x (i ∷ []) (act s (backwards w) far) ≡ x i e + 0 = ap (sum_along s x (i ∷ [])) home in
      let both = no_remainder k (x i d + x i e) (opposite i d h) in
      congruent_on k (x i d + sum_along s x w e + sum_along s x (backwards w ++ i ∷ []) far) (x i d + x i e + (sum_along s x w e + sum_along s x (backwards w) far)) 0
      (congruent_same k _ _ (omega arith))
      (congruent_sum k (x i d + x i e) 0 (sum_along s x w e + sum_along s x (backwards w) far) 0 both rest)
