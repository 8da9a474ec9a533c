-- There is a list of seeds.
use Rattle.std.proofs.Common.{◌≡◌, ◌<◌, ℕ, zero, suc, true, false, List, ◌∷◌, get_or, replicate, refl, arith}
use Rattle.dd_model.specs.Symbol.{Symbol}
use Rattle.dd_model.specs.Allowed.{IsFrom}
use Rattle.dd_model.specs.declared.allowed.Allowed.{Allowed}
use Rattle.dd_model.specs.declared.requests.Request.{Request}
use Rattle.dd_quotient.proofs.Texts.{catalogue_exists}
use Rattle.dd_suite_exercise.specs.Seeds.{AreSeeds}

true_at : (n k : ℕ) → k < n → get_or (replicate n true) k false ≡ true
true_at zero k low = absurd (omega (arith, low))
true_at (suc n) zero low = refl
true_at (suc n) (suc k) low = true_at n k (omega (arith, low))

below_true : (n k : ℕ) → get_or (replicate n true) k false ≡ true → k < n
below_true zero k h = absurd (cc)
below_true (suc n) zero h = omega arith
below_true (suc n) (suc k) h = let low = below_true n k h in omega (arith, low)

-- the numbers from 3 to 216
from_three : Allowed
from_three = record { table = false ∷ false ∷ false ∷ replicate 214 true; whole = refl; no_zero = refl }

is_from_three : IsFrom 3 from_three
unfolding from_three
is_from_three zero = (λ h. absurd (cc), λ h. absurd (let low = h.0 in omega (arith, low)))
is_from_three (suc zero) = (λ h. absurd (cc), λ h. absurd (let low = h.0 in omega (arith, low)))
is_from_three (suc (suc zero)) = (λ h. absurd (cc), λ h. absurd (let low = h.0 in omega (arith, low)))
is_from_three (suc (suc (suc k))) = (
  λ h. let low = below_true 214 k h in (omega arith, omega (arith, low)),
  λ h. true_at 214 k (let high = h.1 in omega (arith, high)),
)

pub record HasSeeds : Type 0 where
  pub seeds : List Symbol
  pub are : AreSeeds seeds

pub seeds_exist : HasSeeds
seeds_exist =
    let q : Request = record { chambers = 2; tiles = 0; vertices = 0; faces = from_three; degrees = from_three; minimal = false } in
    let all = catalogue_exists q in
    record {
      seeds = all.0;
      are = record {
        request = q;
        asks = record { chambers = refl; tiles = refl; vertices = refl; faces = is_from_three; degrees = is_from_three; minimal = refl };
        catalogue = all.1;
      };
    }
