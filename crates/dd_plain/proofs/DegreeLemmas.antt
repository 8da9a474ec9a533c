-- Degrees of symbols of at most three chambers.
use Rattle.std.proofs.Common.{◌≡◌, ℕ, zero, suc, ◌*◌, ◌≤◌, refl, subst, arith}
use Rattle.std.specs.List.{Contains}
use Rattle.dd_model.specs.declared.pair.Pair.{Pair}
use Rattle.dd_model.specs.Symbol.{Symbol, IsSymbol, IsChamber, AreInvolutions, degree}
use Rattle.dd_model.specs.Cell.{IsPeriod, IsBranching}
use Rattle.dd_model.specs.Wanted.{IsCrystallographic}
use Rattle.dd_model.proofs.Turns.{period_bound, period_exists, IsLeastTurns-from_period, least_turns_unique}
use Rattle.dd_model.proofs.Branching.{branching_exists}
use Rattle.dd_plain.specs.Choices.{degree_table}
use Rattle.dd_model.proofs.Numbers.{by_three}

-- at most so many turns as there are chambers
pub period_small : (s : Symbol) → AreInvolutions s → (p : Pair) (d r : ℕ) → IsChamber s d → IsPeriod s p d r → r ≤ s.size
period_small s inv p d r h is =
    period_bound s inv p d r h (λ k positive below fixed. let most = is.least k positive fixed in omega arith)

-- a branching value and one to three turns
pub record IsProduct (s : Symbol) (p : Pair) (d : ℕ) : Type 0 where
  pub value : ℕ
  pub branching : IsBranching s p d value
  pub turns : ℕ
  pub some : 1 ≤ turns
  pub few : turns ≤ 3
  pub product : value * turns ≡ degree s p d

pub degree_is_product : (s : Symbol) → IsSymbol s → s.size ≤ 3 → (p : Pair) (d : ℕ) → IsChamber s d → IsProduct s p d
degree_is_product s is few p d h =
    let inv = is.table.involutions in
    let has = is.degrees p d h in
    let period = period_exists s p d (degree s p d) has.positive has.turns in
    let branching = branching_exists s is p d h in
    let b = branching.1 in
    let same : b.r ≡ period.0 = least_turns_unique s p d b.r period.0 b.least_turns (IsLeastTurns-from_period s inv p d period.0 h period.1) in
    let most = period_small s inv p d period.0 h period.1 in
    record {
      value = branching.0;
      branching = b;
      turns = b.r;
      some = b.least_turns.positive;
      few = omega arith;
      product = b.quotient;
    }

-- each of the products is in the table
product_in_table : (v r : ℕ) → IsCrystallographic v → 1 ≤ r → r ≤ 3 → Contains degree_table (v * r)
product_in_table v r (zero, h, e) some few =
    subst (λ x. Contains degree_table (x * r)) e
    (by_three (λ k. Contains degree_table (1 * k)) (0, omega arith, refl) (1, omega arith, refl) (2, omega arith, refl) r some few)
product_in_table v r (suc zero, h, e) some few =
    subst (λ x. Contains degree_table (x * r)) e
    (by_three (λ k. Contains degree_table (2 * k)) (1, omega arith, refl) (3, omega arith, refl) (4, omega arith, refl) r some few)
product_in_table v r (suc (suc zero), h, e) some few =
    subst (λ x. Contains degree_table (x * r)) e
    (by_three (λ k. Contains degree_table (3 * k)) (2, omega arith, refl) (4, omega arith, refl) (6, omega arith, refl) r some few)
product_in_table v r (suc (suc (suc zero)), h, e) some few =
    subst (λ x. Contains degree_table (x * r)) e
    (by_three (λ k. Contains degree_table (4 * k)) (3, omega arith, refl) (5, omega arith, refl) (7, omega arith, refl) r some few)
product_in_table v r (suc (suc (suc (suc zero))), h, e) some few =
    subst (λ x. Contains degree_table (x * r)) e
    (by_three (λ k. Contains degree_table (6 * k)) (4, omega arith, refl) (7, omega arith, refl) (8, omega arith, refl) r some few)
product_in_table v r (suc (suc (suc (suc (suc k)))), h, e) some few = absurd (omega (arith, h))

-- where branching values are crystallographic, degrees are in the table
pub degree_in_table : (s : Symbol) → IsSymbol s → s.size ≤ 3 → (p : Pair) → ((d v : ℕ) → IsChamber s d → IsBranching s p d v → IsCrystallographic v)
    → (d : ℕ) → IsChamber s d → Contains degree_table (degree s p d)
degree_in_table s is few p crystallographic d h =
    let product = degree_is_product s is few p d h in
    subst (Contains degree_table) product.product
    (product_in_table product.value product.turns (crystallographic d product.value h product.branching) product.some product.few)

pub crystallographic_small : (v : ℕ) → IsCrystallographic v → v ≤ 30
crystallographic_small v (zero, h, e) = omega arith
crystallographic_small v (suc zero, h, e) = omega arith
crystallographic_small v (suc (suc zero), h, e) = omega arith
crystallographic_small v (suc (suc (suc zero)), h, e) = omega arith
crystallographic_small v (suc (suc (suc (suc zero))), h, e) = omega arith
crystallographic_small v (suc (suc (suc (suc (suc k)))), h, e) = absurd (omega (arith, h))
