-- The parts of a line.
use Rattle.std.proofs.Common.{◌≡◌, ℕ, ◌<◌, ◌^◌, List, ◌∷◌, ◌++◌, refl, sym, ◌∙◌, inl, inr, arith}
use Rattle.std.proofs.lemmas.List.{append_assoc, append_cancel_left}
use Rattle.std.specs.Prelude.{codes}
use Rattle.std.specs.Fmt.{decimal}
use Rattle.dd_model.specs.Line.{spaced}
use Rattle.dd_model.proofs.Lists.{cons_tail}
use Rattle.dd_model.proofs.Digits.{AreShort, IsDigit, IsOfList, same_number, same_numbers, not_digit_below, not_digit_above}

-- what a line tells: its number, a size, and five lists
pub record LineParts : Type 0 where
  pub number : ℕ
  pub size : ℕ
  pub first : List ℕ
  pub second : List ℕ
  pub third : List ℕ
  pub fourth : List ℕ
  pub fifth : List ℕ

-- the bytes of a line
abbrev pub line_of : LineParts → List ℕ
line_of p =
    codes "<1." ++ decimal p.number ++ codes ":" ++ decimal p.size ++ codes ":" ++ spaced p.first ++ codes "," ++ spaced p.second ++ codes "," ++ spaced p.third ++ codes ":" ++
    spaced p.fourth ++ codes "," ++ spaced p.fifth ++ codes ">\n"

grouped : (a b c d e f g h i j k l m n o p : List ℕ)
    → a ++ b ++ c ++ d ++ e ++ f ++ g ++ h ++ i ++ j ++ k ++ l ++ m ++ n ++ o ++ p
    ≡ a ++ (b ++ (c ++ (d ++ (e ++ (f ++ (g ++ (h ++ (i ++ (j ++ (k ++ (l ++ (m ++ (n ++ (o ++ p))))))))))))))
grouped a b c d e f g h i j k l m n o p = simp (append_assoc) refl

-- what follows the number, the size and each list, and the sign after it, where more bytes come after the line
abbrev after_fourth : LineParts → List ℕ → List ℕ
after_fourth p more = spaced p.fifth ++ 62 ∷ 10 ∷ more

abbrev after_third : LineParts → List ℕ → List ℕ
after_third p more = spaced p.fourth ++ 44 ∷ after_fourth p more

abbrev after_second : LineParts → List ℕ → List ℕ
after_second p more = spaced p.third ++ 58 ∷ after_third p more

abbrev after_first : LineParts → List ℕ → List ℕ
after_first p more = spaced p.second ++ 44 ∷ after_second p more

abbrev after_size : LineParts → List ℕ → List ℕ
after_size p more = spaced p.first ++ 44 ∷ after_first p more

abbrev after_number : LineParts → List ℕ → List ℕ
after_number p more = decimal p.size ++ 58 ∷ after_size p more

abbrev after_start : LineParts → List ℕ → List ℕ
after_start p more = decimal p.number ++ 58 ∷ after_number p more

pub line_grouped : (p : LineParts) (more : List ℕ) → line_of p ++ more ≡ codes "<1." ++ after_start p more
line_grouped p more =
    grouped (codes "<1.") (decimal p.number) (codes ":") (decimal p.size) (codes ":") (spaced p.first) (codes ",") (spaced p.second) (codes ",") (spaced p.third) (codes ":") (spaced p.fourth) (codes ",") (spaced p.fifth) (codes ">\n") more

number_to_colon : (m n : ℕ) (us vs : List ℕ) → m < 10 ^ 64 → n < 10 ^ 64 → decimal m ++ 58 ∷ us ≡ decimal n ++ 58 ∷ vs → (m ≡ n) × (us ≡ vs)
number_to_colon m n us vs hm hn e =
    let both = same_number m n (58 ∷ us) (58 ∷ vs) hm hn (not_digit_above 58 (omega arith)) (not_digit_above 58 (omega arith)) e in
    (both.0, cons_tail _ _ _ _ both.1)

-- no sign between lists is a digit or a space
sign_ends : (c : ℕ) → (32 ≡ c → ⊥) → (IsDigit c → ⊥) → IsOfList c → ⊥
sign_ends c a b (inl e) = a e
sign_ends c a b (inr h) = b h

colon_ends : IsOfList 58 → ⊥
colon_ends = sign_ends 58 (λ e. omega (arith, e)) (not_digit_above 58 (omega arith))

comma_ends : IsOfList 44 → ⊥
comma_ends = sign_ends 44 (λ e. omega (arith, e)) (not_digit_below 44 (omega arith))

angle_ends : IsOfList 62 → ⊥
angle_ends = sign_ends 62 (λ e. omega (arith, e)) (not_digit_above 62 (omega arith))

numbers_to_sign : (c : ℕ) (xs ys us vs : List ℕ) → (IsOfList c → ⊥) → AreShort xs → AreShort ys → spaced xs ++ c ∷ us ≡ spaced ys ++ c ∷ vs → (xs ≡ ys) × (us ≡ vs)
numbers_to_sign c xs ys us vs ends hx hy e =
    let both = same_numbers xs ys (c ∷ us) (c ∷ vs) hx hy ends ends e in
    (both.0, cons_tail _ _ _ _ both.1)

-- numbers whose digits are told
pub record ArePartsShort (p : LineParts) : Type 0 where
  pub number : p.number < 10 ^ 64
  pub size : p.size < 10 ^ 64
  pub first : AreShort p.first
  pub second : AreShort p.second
  pub third : AreShort p.third
  pub fourth : AreShort p.fourth
  pub fifth : AreShort p.fifth

-- a line at the front of some bytes ends at one place, and tells its parts
pub same_parts : (p q : LineParts) (us vs : List ℕ) → ArePartsShort p → ArePartsShort q → line_of p ++ us ≡ line_of q ++ vs → (p ≡ q) × (us ≡ vs)
same_parts p q us vs hp hq same =
    let whole = sym (line_grouped p us) ∙ same ∙ line_grouped q vs in
    let start = append_cancel_left (codes "<1.") (after_start p us) (after_start q vs) whole in
    let number = number_to_colon p.number q.number (after_number p us) (after_number q vs) hp.number hq.number start in
    let size = number_to_colon p.size q.size (after_size p us) (after_size q vs) hp.size hq.size number.1 in
    let first = numbers_to_sign 44 p.first q.first (after_first p us) (after_first q vs) comma_ends hp.first hq.first size.1 in
    let second = numbers_to_sign 44 p.second q.second (after_second p us) (after_second q vs) comma_ends hp.second hq.second first.1 in
    let third = numbers_to_sign 58 p.third q.third (after_third p us) (after_third q vs) colon_ends hp.third hq.third second.1 in
    let fourth = numbers_to_sign 44 p.fourth q.fourth (after_fourth p us) (after_fourth q vs) comma_ends hp.fourth hq.fourth third.1 in
    let fifth = numbers_to_sign 62 p.fifth q.fifth (10 ∷ us) (10 ∷ vs) angle_ends hp.fifth hq.fifth fourth.1 in
    let e0 : p.number ≡ q.number = number.0 in
    let e1 : p.size ≡ q.size = size.0 in
    let e2 : p.first ≡ q.first = first.0 in
    let e3 : p.second ≡ q.second = second.0 in
    let e4 : p.third ≡ q.third = third.0 in
    let e5 : p.fourth ≡ q.fourth = fourth.0 in
    let e6 : p.fifth ≡ q.fifth = fifth.0 in
    (λ x. record { number = e0 x; size = e1 x; first = e2 x; second = e3 x; third = e4 x; fourth = e5 x; fifth = e6 x }, cons_tail _ _ _ _ fifth.1)
