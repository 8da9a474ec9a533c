-- Each of the numbers 1 to 64 divides the number in whose parts fractions are counted.
use Rattle.std.proofs.Common.{◌≡◌, ℕ, zero, suc, ◌*◌, ◌/◌, ◌≤◌, refl, sym, subst, ⊎_elim, arith}
use Rattle.std.proofs.lemmas.Bool.{cases_eq}
use Rattle.dd_template.specs.Shares.{curvature_unit}

abbrev AreDivided : ℕ → Type 0
AreDivided zero = Unit {0}
AreDivided (suc n) = (suc n * (curvature_unit / suc n) ≡ curvature_unit) × AreDivided n

all_divided : AreDivided 64
all_divided = (refl, (refl, (refl, (refl, (refl, (refl, (refl, (refl, (refl, (refl, (refl, (refl, (refl, (refl, (refl, (refl, (refl, (refl, (refl, (refl, (refl, (refl, (refl, (refl, (refl, (refl, (refl, (refl, (refl, (refl, (refl, (refl, (refl, (refl, (refl, (refl, (refl, (refl, (refl, (refl, (refl, (refl, (refl, (refl, (refl, (refl, (refl, (refl, (refl, (refl, (refl, (refl, (refl, (refl, (refl, (refl, (refl, (refl, (refl, (refl, (refl, (refl, (refl, (refl, tt))))))))))))))))))))))))))))))))))))))))))))))))))))))))))))))))

each : (n : ℕ) → AreDivided n → (c : ℕ) → 1 ≤ c → c ≤ n → c * (curvature_unit / c) ≡ curvature_unit
each zero d c a b = absurd (omega arith)
each (suc n) d c a b =
    ⊎_elim
    (λ same. subst (λ k. k * (curvature_unit / k) ≡ curvature_unit) (sym same) d.0)
    (λ other. each n d.1 c a (omega arith))
    (cases_eq c (suc n))

pub whole_divided : (c : ℕ) → 1 ≤ c → c ≤ 64 → c * (curvature_unit / c) ≡ curvature_unit
whole_divided = each 64 all_divided
