-- The degrees that a cell may have, one branching value after another.
use Rattle.std.proofs.Common.{◌≡◌, ◌≢◌, ℕ, zero, suc, ◌+◌, ◌-◌, ◌*◌, ◌/◌, ◌^◌, ◌%◌, ◌<◌, ◌≤◌, List, [], ◌∷◌, get_or, refl, sym, ap, ◌∙◌, subst, ⊎_elim, arith}
use Rattle.std.proofs.Math.Nat.{div-le_self, div-mul-le_self, mul-le-mul_left}
use Rattle.std.proofs.lemmas.Bool.{cases_eq, cases_lt}
use Rattle.std.proofs.lemmas.Nat.{le-div}
use Rattle.std.proofs.lemmas.Nat.Bits.{bit_at-zero, bit_at_set_other, bit_at_set_same}
use Rattle.std.specs.Int.{bit_at, w32}
use Rattle.std.specs.Int.Bits.{bit_or}
use Rattle.dd_model.specs.Allowed.{IsIn}
use Rattle.dd_model.specs.Wanted.{IsCrystallographic}
use Rattle.dd_model.specs.declared.allowed.Allowed.{Allowed}
use Rattle.dd_model.proofs.WantedDegrees.{by_value}
use Rattle.dd_cells.specs.Fraction.{Divides}
use Rattle.dd_branch_degrees.specs.Choice.{HasBranching, HasShares, IsChoice, IsShare}

-- a number from 1 to 6 other than 5
pub record IsValue (v : ℕ) : Type 0 where
  pub low : 1 ≤ v
  pub high : v ≤ 6
  pub other : v ≢ 5

pub value_of : (v : ℕ) → IsCrystallographic v → IsValue v
value_of =
    by_value IsValue
    (record { low = omega arith; high = omega arith; other = λ e. absurd (omega arith) })
    (record { low = omega arith; high = omega arith; other = λ e. absurd (omega arith) })
    (record { low = omega arith; high = omega arith; other = λ e. absurd (omega arith) })
    (record { low = omega arith; high = omega arith; other = λ e. absurd (omega arith) })
    (record { low = omega arith; high = omega arith; other = λ e. absurd (omega arith) })

-- each branching value divides 12
pub divides_twelve : (v : ℕ) → IsCrystallographic v → Divides v 12
divides_twelve =
    by_value (λ v. Divides v 12)
    (record { quotient = 12; product = refl })
    (record { quotient = 6; product = refl })
    (record { quotient = 4; product = refl })
    (record { quotient = 3; product = refl })
    (record { quotient = 2; product = refl })

pub is_crystallographic : (v : ℕ) → 1 ≤ v → v ≤ 6 → v ≢ 5 → IsCrystallographic v
is_crystallographic zero low high other = absurd (omega arith)
is_crystallographic (suc zero) low high other = (0, omega arith, refl)
is_crystallographic (suc (suc zero)) low high other = (1, omega arith, refl)
is_crystallographic (suc (suc (suc zero))) low high other = (2, omega arith, refl)
is_crystallographic (suc (suc (suc (suc zero)))) low high other = (3, omega arith, refl)
is_crystallographic (suc (suc (suc (suc (suc zero))))) low high other = absurd (other refl)
is_crystallographic (suc (suc (suc (suc (suc (suc zero)))))) low high other = (4, omega arith, refl)
is_crystallographic (suc (suc (suc (suc (suc (suc (suc v))))))) low high other = absurd (omega arith)

-- ## Bits

-- what a choice has beyond the least is one of the bits
pub share_told : (set : Allowed) (r sides shares m e : ℕ) → HasShares set r sides shares → (c : IsChoice set r m) → e + 2 * sides ≡ sides * (12 / c.value) → bit_at shares e ≡ 1
share_told set r sides shares m e are c is = are.all c.value e c.crystallographic (subst (IsIn set) c.product c.allowed) is

-- and each bit is that of a choice
pub choice_told : (set : Allowed) (r sides e : ℕ) → (share : IsShare set r sides e) → IsChoice set r (share.branching.value * r)
choice_told set r sides e share = record { value = share.branching.value; crystallographic = share.branching.crystallographic; product = refl; allowed = share.allowed }

-- the bits of the values below a number
pub record AreSharesBelow (set : Allowed) (r sides shares n : ℕ) : Type 0 where
  pub told : (e : ℕ) → bit_at shares e ≡ 1 → IsShare set r sides e
  pub all : (v e : ℕ) → v < n → IsCrystallographic v → IsIn set (v * r) → e + 2 * sides ≡ sides * (12 / v) → bit_at shares e ≡ 1

pub no_shares : (set : Allowed) (r sides : ℕ) → AreSharesBelow set r sides 0 1
no_shares set r sides = record {
  told = λ e is. absurd (let none = bit_at-zero e in omega (arith, is, none));
  all = λ v e low c. absurd (let some = (value_of v c).low in omega (arith, low, some));
}

-- one value more, which may not stand
pub share_passed : (set : Allowed) (r sides shares n : ℕ) → AreSharesBelow set r sides shares n → (n ≢ 5 → IsIn set (n * r) → ⊥) → AreSharesBelow set r sides shares (n + 1)
share_passed set r sides shares n old none = record {
  told = old.told;
  all = λ v e low c allowed is. ⊎_elim
      (λ early. old.all v e early c allowed is)
      (λ late.
      let same : v ≡ n = omega (arith, low, late) in
      absurd (none (subst (λ x. x ≢ 5) same (value_of v c).other) (subst (λ x. IsIn set (x * r)) same allowed)))
      (cases_lt v n);
}

-- and one that may
pub share_added : (set : Allowed) (r sides shares n s m : ℕ) → AreSharesBelow set r sides shares n → IsCrystallographic n → IsIn set (n * r) → s + 2 * sides ≡ sides * (12 / n) → s < 32 → m ≡ bit_or shares (1 * 2 ^ s % 2 ^ 32)
    → AreSharesBelow set r sides m (n + 1)
share_added set r sides shares n s m old is allowed beyond low same = record {
  told = λ e told. ⊎_elim
      (λ here. record { branching = record { value = n; crystallographic = is; beyond = ap (λ x. x + 2 * sides) here ∙ beyond }; allowed = allowed })
      (λ other. old.told e (sym (bit_at_set_other w32 shares s low e other) ∙ ap (λ x. bit_at x e) (sym same) ∙ told))
      (cases_eq e s);
  all = λ v e less c in_set part. ap (λ x. bit_at x e) same ∙ ⊎_elim
      (λ here. ap (bit_at (bit_or shares (1 * 2 ^ s % 2 ^ 32))) here ∙ bit_at_set_same w32 shares s low)
      (λ other. bit_at_set_other w32 shares s low e other ∙ ⊎_elim
      (λ early. old.all v e early c in_set part)
      (λ late.
      let own : v ≡ n = omega (arith, less, late) in
      let parts : sides * (12 / v) ≡ sides * (12 / n) = ap (λ x. sides * (12 / x)) own in
      absurd (other (omega (arith, part, beyond, parts))))
      (cases_lt v n))
      (cases_eq e s);
}

pub all_shares_told : (set : Allowed) (r sides shares n : ℕ) → 7 ≤ n → AreSharesBelow set r sides shares n → HasShares set r sides shares
all_shares_told set r sides shares n end old = record {
  told = old.told;
  all = λ v e c. old.all v e (let high = (value_of v c).high in omega (arith, high, end)) c;
}

-- ## Parts

-- a greater value has no greater part
pub part_falls : (sides v w : ℕ) → 1 ≤ v → v ≤ w → sides * (12 / w) ≤ sides * (12 / v)
part_falls sides v w some up =
    let a : 12 / w * w ≤ 12 = div-mul-le_self 12 w in
    let b : 12 / w * v ≤ 12 / w * w = mul-le-mul_left (12 / w) up in
    mul-le-mul_left sides (le-div (12 / w) 12 v some (omega (arith, a, b)))

-- and each has at least that of 6
pub part_of_six : (sides v : ℕ) → IsCrystallographic v → 2 * sides ≤ sides * (12 / v)
part_of_six sides v is =
    let value = value_of v is in
    let low : sides * (12 / 6) ≤ sides * (12 / v) = part_falls sides v 6 value.low value.high in
    omega (arith, low)

pub part_at_most : (sides v : ℕ) → sides * (12 / v) ≤ sides * 12
part_at_most sides v = mul-le-mul_left sides (div-le_self 12 v)

-- what is beyond the least
pub share_at_most : (sides e : ℕ) → HasBranching sides e → e ≤ 10 * sides
share_at_most sides e has = let most = part_at_most sides has.value in let is = has.beyond in omega (arith, most, is)

-- what a branching value has beyond it
pub share_exists : (sides v : ℕ) → IsCrystallographic v → sides * (12 / v) - 2 * sides + 2 * sides ≡ sides * (12 / v)
share_exists sides v is = let low = part_of_six sides v is in omega (arith, low)

-- ## A list of values

-- the branching values, each at what a side has beyond 2
abbrev pub values_by_share : List ℕ
values_by_share = 6 ∷ 4 ∷ 3 ∷ 0 ∷ 2 ∷ 0 ∷ 0 ∷ 0 ∷ 0 ∷ 0 ∷ 1 ∷ []

at_share : (v : ℕ) → IsCrystallographic v → (k : ℕ) → k + 2 ≡ 12 / v → get_or values_by_share k 0 ≡ v
at_share =
    by_value (λ v. (k : ℕ) → k + 2 ≡ 12 / v → get_or values_by_share k 0 ≡ v)
    (λ k e. let at : k ≡ 10 = omega (arith, e) in ap (λ j. get_or values_by_share j 0) at)
    (λ k e. let at : k ≡ 4 = omega (arith, e) in ap (λ j. get_or values_by_share j 0) at)
    (λ k e. let at : k ≡ 2 = omega (arith, e) in ap (λ j. get_or values_by_share j 0) at)
    (λ k e. let at : k ≡ 1 = omega (arith, e) in ap (λ j. get_or values_by_share j 0) at)
    (λ k e. let at : k ≡ 0 = omega (arith, e) in ap (λ j. get_or values_by_share j 0) at)

-- of one side or two
pub value_at : (v e sides : ℕ) → IsCrystallographic v → 1 ≤ sides → sides ≤ 2 → e + 2 * sides ≡ sides * (12 / v) → get_or values_by_share (e / 2 ^ (sides / 2)) 0 ≡ v
value_at v e sides c some few is = at_share v c (e / 2 ^ (sides / 2)) (⊎_elim
    (λ low.
    let one : sides ≡ 1 = omega (arith, some, low) in
    let same : e / 2 ^ (sides / 2) ≡ e / 1 = ap (λ s. e / 2 ^ (s / 2)) one in
    let part : sides * (12 / v) ≡ 1 * (12 / v) = ap (λ s. s * (12 / v)) one in
    omega (arith, one, same, part, is))
    (λ high.
    let two : sides ≡ 2 = omega (arith, few, high) in
    let same : e / 2 ^ (sides / 2) ≡ e / 2 = ap (λ s. e / 2 ^ (s / 2)) two in
    let part : sides * (12 / v) ≡ 2 * (12 / v) = ap (λ s. s * (12 / v)) two in
    omega (arith, two, same, part, is))
    (cases_lt sides 2))
