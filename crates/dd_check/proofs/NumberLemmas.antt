-- Numbers are read as they are written.
use Rattle.std.proofs.Common.{◌≡◌, ℕ, ◌+◌, ◌<◌, ◌^◌, ◌==◌, ◌%◌, false, [], ◌∷◌, ◌++◌, sym, ◌∙◌, subst, arith}
use Rattle.std.specs.Prelude.{decimal, Result, Ok, Err}
use Rattle.std.specs.Str.{IsUtf8}
use Rattle.std.specs.Str.Parse.{ParsesUnsigned}
use Rattle.std.proofs.lemmas.Bool.{ne_eqb}
use Rattle.std.proofs.lemmas.Fmt.{parse-decimal, IsAscii-decimal, decimal_by_steps, decimal_injective}
use Rattle.std.proofs.lemmas.Str.{IsUtf8-from_ascii}
use Rattle.dd_check.specs.Texts.{Text}
use Rattle.dd_check.specs.Numerals.{IsShort, IsNumeral}
use Rattle.dd_check.proofs.JoinLemmas.{Avoids}

pub fits : (n : ℕ) → IsShort n → n < 2 ^ 64
fits n h = omega arith

pub no_text : (word : Text) (n : ℕ) → (IsUtf8 word → ⊥) → IsNumeral word n → ⊥
no_text word n never h = never (subst IsUtf8 (sym h.digits) (IsUtf8-from_ascii (decimal n) (IsAscii-decimal n (fits n h.short))))

-- what parsing answers of a numeral
pub parsed : {E : Type 0} (word text : Text) (n : ℕ) (r : Result ℕ E) → text ≡ word → ParsesUnsigned 64 10 text r → IsNumeral word n → r ≡ Ok n
parsed word text n r e h i = parse-decimal 64 n text r (fits n i.short) (fits n i.short) (e ∙ i.digits) h

pub not_refused : {E : Type 0} (word text : Text) (n : ℕ) (r : Result ℕ E) (why : E) → text ≡ word → ParsesUnsigned 64 10 text r → r ≡ Err why → IsNumeral word n → ⊥
not_refused word text n r why e h is i = let ok = parsed word text n r e h i in cc

pub same_parsed : {E : Type 0} (word text : Text) (n number : ℕ) (r : Result ℕ E) → text ≡ word → ParsesUnsigned 64 10 text r → r ≡ Ok number → IsNumeral word n → n ≡ number
same_parsed word text n number r e h is i = let ok = parsed word text n r e h i in cc

-- a byte that is no digit stands in no number
pub avoids_decimal : (c : ℕ) → ((d : ℕ) → d < 10 → (48 + d == c) ≡ false) → (n : ℕ) → n < 2 ^ 64 → Avoids c (decimal n)
avoids_decimal c apart n h = decimal_by_steps (λ _ ds. Avoids c ds) (λ m small. (apart m small, tt)) (λ m ds big a. more (48 + m % 10) ds a (apart (m % 10) (omega arith))) n h
  where
    more : (d : ℕ) (ds : Text) → Avoids c ds → (d == c) ≡ false → Avoids c (ds ++ d ∷ [])
    more d [] a e = (e, tt)
    more d (b ∷ bs) a e = (a.0, more d bs a.1 e)

no_low : (c : ℕ) → c < 48 → (d : ℕ) → d < 10 → (48 + d == c) ≡ false
no_low c small d h = ne_eqb (48 + d) c (λ e. omega arith)

-- line feeds, spaces, commas and dashes are no digits
pub avoids_low : (c : ℕ) → c < 48 → (n : ℕ) → IsShort n → Avoids c (decimal n)
avoids_low c small n h = avoids_decimal c (no_low c small) n (fits n h)

pub same_number : (m n : ℕ) → IsShort m → IsShort n → decimal m ≡ decimal n → m ≡ n
same_number m n a b e = decimal_injective m n (fits m a) (fits n b) e
