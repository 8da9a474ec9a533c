-- The value of decimal digits, digit by digit.
use Rattle.std.proofs.Common.{◌≡◌, ℕ, suc, ◌+◌, ◌-◌, ◌*◌, ◌^◌, ◌<◌, ◌≤◌, true, List, [], ◌∷◌, ◌++◌, take, get_or, length, All, sym, ap, ◌∙◌, subst, arith}
use Rattle.std.specs.Char.{IsAsciiDigit, is_ascii_digit}
use Rattle.std.proofs.Math.Nat.{pow-succ'}
use Rattle.std.proofs.Math.Seq.{take-suc}
use Rattle.std.proofs.lemmas.Bool.Decides.{nat_tests}
use Rattle.std.proofs.lemmas.List.Sums.{fold-append}
use Rattle.std.proofs.lemmas.List.Elements.{All-append}
use Rattle.dd_words.specs.Values.{value_of}

-- the first i bytes are digits of this value, which fits in as many
pub record AreRead (xs : List ℕ) (i value : ℕ) : Type 0 where
  pub value_is : value ≡ value_of (take i xs)
  pub bound : value < 10 ^ i
  pub digits : All IsAsciiDigit (take i xs)

take_one_more : (xs : List ℕ) (i : ℕ) → i < length xs → take (i + 1) xs ≡ take i xs ++ get_or xs i 0 ∷ []
take_one_more xs i h = let e : i + 1 ≡ suc i = omega arith in ap (λ k. take k xs) e ∙ take-suc xs i 0 h

value_of-take : (xs : List ℕ) (i : ℕ) → i < length xs → value_of (take (i + 1) xs) ≡ 10 * value_of (take i xs) + (get_or xs i 0 - 48)
value_of-take xs i h =
    ap value_of (take_one_more xs i h) ∙ fold-append (λ n digit. 10 * n + (digit - 48)) 0 (take i xs) (get_or xs i 0 ∷ [])

digit_bound : (d : ℕ) → is_ascii_digit d ≡ true → (48 ≤ d) × (d ≤ 57)
digit_bound d h = grind (arith, nat_tests)

one_digit : (d : ℕ) → IsAsciiDigit d → All IsAsciiDigit (d ∷ [])
one_digit d h k e below = let first : 0 ≡ k = omega arith in subst (λ j. (48 ≤ get_or (d ∷ []) j e) × (get_or (d ∷ []) j e ≤ 57)) first h

pub one_more_read : (xs : List ℕ) (i value digit : ℕ) → i < length xs → is_ascii_digit (get_or xs i 0) ≡ true → digit ≡ get_or xs i 0 - 48
    → AreRead xs i value → AreRead xs (i + 1) (10 * value + digit)
one_more_read xs i value digit h test is read =
    let range = digit_bound (get_or xs i 0) test in
    let low = range.0 in
    let high = range.1 in
    let bound = read.bound in
    let power : 10 ^ (i + 1) ≡ 10 * 10 ^ i = let e : i + 1 ≡ suc i = omega arith in ap (λ k. 10 ^ k) e ∙ pow-succ' 10 i in
    record {
      value_is = ap (λ v. 10 * v + digit) read.value_is ∙ ap (λ d. 10 * value_of (take i xs) + d) is ∙ sym (value_of-take xs i h);
      bound = omega arith;
      digits = subst (λ ys. All IsAsciiDigit ys) (sym (take_one_more xs i h)) (All-append IsAsciiDigit (take i xs) (get_or xs i 0 ∷ []) read.digits (one_digit (get_or xs i 0) range));
    }
