-- The smaller of two bounds, and a share of nothing.
use Rattle.std.proofs.Common.{◌≡◌, ℕ, ◌*◌, ◌⊎◌, min, sym, subst, inl, inr, ⊎_elim, arith}
use Rattle.std.proofs.lemmas.Bool.{cases_lt}
use Rattle.dd_model.specs.declared.pair.Pair.{Pair}
use Rattle.dd_model.specs.declared.requests.Request.{Request}
use Rattle.dd_model.specs.Symbol.{Symbol, degree}
use Rattle.dd_branch_bounds.specs.Shares.{IsSought, IsShare, BoundsReciprocals}
use Rattle.dd_branch_bounds.specs.Units.{share_unit}

-- the smaller of two bounds is one
pub bounds_least : (s : Symbol) (p : Pair) (a b : ℕ) → BoundsReciprocals s p a → BoundsReciprocals s p b → BoundsReciprocals s p (min a b)
bounds_least s p a b one other = ⊎_elim
    (λ low. subst (BoundsReciprocals s p) (sym low) one)
    (λ high. subst (BoundsReciprocals s p) (sym high) other)
    (either_least a b)
  where
    either_least : (a b : ℕ) → (min a b ≡ a) ⊎ (min a b ≡ b)
    either_least a b = ⊎_elim (λ below. inl (omega (arith, below))) (λ from. inr (omega (arith, from))) (cases_lt a b)

-- where a share is 0 nothing is sought
pub none_sought : (q : Request) (P : Symbol) (p : Pair) (d : ℕ) → IsShare q P p share_unit d 0 → (s : Symbol) → IsSought q P s → ⊥
none_sought q P p d is s sought = let none = is s sought in let zero_ : 0 * degree s p d ≡ 0 = omega arith in absurd (omega (arith, none, zero_))
