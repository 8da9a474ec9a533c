-- Where a decimal number ends, and which number it is.
use Rattle.std.proofs.Common.{◌≡◌, ◌⊎◌, ℕ, ◌<◌, ◌^◌, List, [], ◌∷◌, ◌++◌, length, refl, sym, ap, ◌∙◌, subst, inl, inr, arith}
use Rattle.std.proofs.lemmas.Fmt.{decimal_is_IsNumeral_wide}
use Rattle.std.proofs.lemmas.Str.Parse.{digit_from_value}
use Rattle.std.specs.Char.{digit_value}
use Rattle.std.specs.Fmt.{decimal}
use Rattle.std.specs.List.{AllByRecursion, flat_map}
use Rattle.std.specs.Str.Parse.{AllDigits, digits_value}
use Rattle.dd_model.specs.Line.{after_space, spaced}

-- a list is empty, or its first byte is not of the kind
abbrev pub Stops : (ℕ → Type 0) → List ℕ → Type 0
Stops P [] = Unit {0}
Stops P (c ∷ cs) = P c → ⊥

-- the longest front of bytes of one kind is the same
pub same_front : (P : ℕ → Type 0) (xs ys us vs : List ℕ) → AllByRecursion P xs → AllByRecursion P ys → Stops P us → Stops P vs → xs ++ us ≡ ys ++ vs → (xs ≡ ys) × (us ≡ vs)
same_front P [] [] us vs px py su sv e = (refl, e)
same_front P [] (y ∷ ys) [] vs px py su sv e = cc
same_front P [] (y ∷ ys) (u ∷ us) vs px py su sv e = let same : y ≡ u = cc in absurd (su (subst P same py.0))
same_front P (x ∷ xs) [] us [] px py su sv e = cc
same_front P (x ∷ xs) [] us (v ∷ vs) px py su sv e = let same : x ≡ v = cc in absurd (sv (subst P same px.0))
same_front P (x ∷ xs) (y ∷ ys) us vs px py su sv e =
    let first : x ≡ y = cc in
    let rest : xs ++ us ≡ ys ++ vs = cc in
    let both = same_front P xs ys us vs px.1 py.1 su sv rest in
    (ap (λ c. c ∷ xs) first ∙ ap (λ cs. y ∷ cs) both.0, both.1)

abbrev pub IsDigit : ℕ → Type 0
IsDigit c = digit_value c < 10

all_digits : (ds : List ℕ) → AllDigits 10 ds → AllByRecursion IsDigit ds
all_digits [] h = tt
all_digits (d ∷ ds) h = (h.0, all_digits ds h.1)

pub decimal_digits : (n : ℕ) → n < 10 ^ 64 → AllByRecursion IsDigit (decimal n)
decimal_digits n h = all_digits (decimal n) (decimal_is_IsNumeral_wide n h).0.1

-- a number is not empty
pub decimal_some : (n : ℕ) → n < 10 ^ 64 → decimal n ≡ [] → ⊥
decimal_some n h e = let some = (decimal_is_IsNumeral_wide n h).0.0 in let none = ap length e in omega (arith, some, none)

pub same_decimal : (m n : ℕ) → m < 10 ^ 64 → n < 10 ^ 64 → decimal m ≡ decimal n → m ≡ n
same_decimal m n hm hn e =
    sym (decimal_is_IsNumeral_wide m hm).1 ∙ ap (digits_value 10) e ∙ (decimal_is_IsNumeral_wide n hn).1

-- a number ends at the first byte that is no digit
pub same_number : (m n : ℕ) (us vs : List ℕ) → m < 10 ^ 64 → n < 10 ^ 64 → Stops IsDigit us → Stops IsDigit vs → decimal m ++ us ≡ decimal n ++ vs → (m ≡ n) × (us ≡ vs)
same_number m n us vs hm hn su sv e =
    let both = same_front IsDigit (decimal m) (decimal n) us vs (decimal_digits m hm) (decimal_digits n hn) su sv e in
    (same_decimal m n hm hn both.0, both.1)

pub not_digit_below : (c : ℕ) → c < 48 → IsDigit c → ⊥
not_digit_below c low h = let r = digit_from_value c h in omega (arith, r.0, r.1)

pub not_digit_above : (c : ℕ) → 57 < c → IsDigit c → ⊥
not_digit_above c high h = let r = digit_from_value c h in omega (arith, r.0, r.1)

-- each number is short enough for its digits to be told
abbrev pub AreShort : List ℕ → Type 0
AreShort xs = AllByRecursion (λ n. n < 10 ^ 64) xs

later_stop : (xs : List ℕ) → Stops IsDigit (flat_map after_space xs)
later_stop [] = tt
later_stop (x ∷ xs) = not_digit_below 32 (omega arith)

same_later : (xs ys : List ℕ) → AreShort xs → AreShort ys → flat_map after_space xs ≡ flat_map after_space ys → xs ≡ ys
same_later [] [] hx hy e = refl
same_later [] (y ∷ ys) hx hy e = cc
same_later (x ∷ xs) [] hx hy e = cc
same_later (x ∷ xs) (y ∷ ys) hx hy e =
    let tails : decimal x ++ flat_map after_space xs ≡ decimal y ++ flat_map after_space ys = cc in
    let both = same_number x y (flat_map after_space xs) (flat_map after_space ys) hx.0 hy.0 (later_stop xs) (later_stop ys) tails in
    ap (λ z. z ∷ xs) both.0 ∙ ap (λ zs. y ∷ zs) (same_later xs ys hx.1 hy.1 both.1)

some_front : (xs ys : List ℕ) → (xs ≡ [] → ⊥) → [] ≡ xs ++ ys → ⊥
some_front [] ys some e = some refl
some_front (x ∷ xs) ys some e = cc

-- a list of numbers is told by its text
pub same_spaced : (xs ys : List ℕ) → AreShort xs → AreShort ys → spaced xs ≡ spaced ys → xs ≡ ys
same_spaced [] [] hx hy e = refl
same_spaced [] (y ∷ ys) hx hy e = absurd (some_front (decimal y) (flat_map after_space ys) (decimal_some y hy.0) e)
same_spaced (x ∷ xs) [] hx hy e = absurd (some_front (decimal x) (flat_map after_space xs) (decimal_some x hx.0) (sym e))
same_spaced (x ∷ xs) (y ∷ ys) hx hy e =
    let both = same_number x y (flat_map after_space xs) (flat_map after_space ys) hx.0 hy.0 (later_stop xs) (later_stop ys) e in
    ap (λ z. z ∷ xs) both.0 ∙ ap (λ zs. y ∷ zs) (same_later xs ys hx.1 hy.1 both.1)

-- the bytes of such a text are digits and spaces
abbrev pub IsOfList : ℕ → Type 0
IsOfList c = (32 ≡ c) ⊎ IsDigit c

all_append : (P : ℕ → Type 0) (xs ys : List ℕ) → AllByRecursion P xs → AllByRecursion P ys → AllByRecursion P (xs ++ ys)
all_append P [] ys hx hy = hy
all_append P (x ∷ xs) ys hx hy = (hx.0, all_append P xs ys hx.1 hy)

digits_of_list : (ds : List ℕ) → AllByRecursion IsDigit ds → AllByRecursion IsOfList ds
digits_of_list [] h = tt
digits_of_list (d ∷ ds) h = (inr h.0, digits_of_list ds h.1)

later_of_list : (xs : List ℕ) → AreShort xs → AllByRecursion IsOfList (flat_map after_space xs)
later_of_list [] h = tt
later_of_list (x ∷ xs) h = (inl refl, all_append IsOfList (decimal x) (flat_map after_space xs) (digits_of_list (decimal x) (decimal_digits x h.0)) (later_of_list xs h.1))

pub spaced_of_list : (xs : List ℕ) → AreShort xs → AllByRecursion IsOfList (spaced xs)
spaced_of_list [] h = tt
spaced_of_list (x ∷ xs) h = all_append IsOfList (decimal x) (flat_map after_space xs) (digits_of_list (decimal x) (decimal_digits x h.0)) (later_of_list xs h.1)

-- a list of numbers ends at the first byte that is neither digit nor space
pub same_numbers : (xs ys us vs : List ℕ) → AreShort xs → AreShort ys → Stops IsOfList us → Stops IsOfList vs → spaced xs ++ us ≡ spaced ys ++ vs → (xs ≡ ys) × (us ≡ vs)
same_numbers xs ys us vs hx hy su sv e =
    let both = same_front IsOfList (spaced xs) (spaced ys) us vs (spaced_of_list xs hx) (spaced_of_list ys hy) su sv e in
    (same_spaced xs ys hx hy both.0, both.1)
