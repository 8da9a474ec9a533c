-- The text of a number of one digit, of two or of three.
use Rattle.std.proofs.Common.{◌≡◌, ℕ, List, ◌+◌, ◌/◌, ◌%◌, ◌<◌, ◌≤◌, [], ◌∷◌, ◌++◌, decimal, ◌∙◌, ap, sym, refl, append_assoc, arith}
use Rattle.std.proofs.lemmas.Fmt.{decimal_digit, decimal_step}
use Rattle.itoa.proofs.Decimal.{decimal_two}

pub one_digit : (n one : ℕ) → n < 10 → one ≡ 48 + n → one ∷ [] ≡ decimal n
one_digit n one small e = ap (λ d. d ∷ []) e ∙ sym (decimal_digit n small)

pub two_digits : (n ten one : ℕ) → 10 ≤ n → n < 100 → ten ≡ 48 + n / 10 → one ≡ 48 + n % 10 → ten ∷ one ∷ [] ≡ decimal n
two_digits n ten one large small e f = ap (λ d. d ∷ one ∷ []) e ∙ ap (λ d. (48 + n / 10) ∷ d ∷ []) f ∙ sym (decimal_two n large small)

pub three_digits : (n hundred ten one : ℕ) → 100 ≤ n → n < 1000 → hundred ≡ 48 + n / 100 → ten ≡ 48 + n / 10 % 10 → one ≡ 48 + n % 10 → hundred ∷ ten ∷ one ∷ [] ≡ decimal n
three_digits n hundred ten one large small e f g =
    let front : n / 10 / 10 ≡ n / 100 = omega arith in
    let first : hundred ≡ 48 + n / 10 / 10 = omega arith in
    let two = two_digits (n / 10) hundred ten (omega arith) (omega arith) first f in
    ap (λ d. hundred ∷ ten ∷ d ∷ []) g ∙ ap (λ ds. ds ++ (48 + n % 10) ∷ []) two ∙ sym (decimal_step n (omega arith) (omega arith))

-- digits that are appended one by one
pub two_pushed : (old once twice text : List ℕ) (a b : ℕ) → once ≡ old ++ a ∷ [] → twice ≡ once ++ b ∷ [] → a ∷ b ∷ [] ≡ text → twice ≡ old ++ text
two_pushed old once twice text a b e f is = f ∙ ap (λ t. t ++ b ∷ []) e ∙ append_assoc old (a ∷ []) (b ∷ []) ∙ ap (λ t. old ++ t) is

pub three_pushed : (old once twice all text : List ℕ) (a b c : ℕ) → once ≡ old ++ a ∷ [] → twice ≡ once ++ b ∷ [] → all ≡ twice ++ c ∷ [] → a ∷ b ∷ c ∷ [] ≡ text → all ≡ old ++ text
three_pushed old once twice all text a b c e f g is =
    g ∙ ap (λ t. t ++ c ∷ []) (two_pushed old once twice (a ∷ b ∷ []) a b e f refl) ∙ append_assoc old (a ∷ b ∷ []) (c ∷ []) ∙ ap (λ t. old ++ t) is
