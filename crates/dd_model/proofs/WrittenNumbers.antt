-- Numbers and lists that are written are read back.
use Rattle.std.proofs.Common.{◌≡◌, ℕ, ◌+◌, ◌-◌, ◌*◌, ◌/◌, ◌%◌, ◌^◌, ◌<◌, ◌≤◌, true, false, List, [], ◌∷◌, ◌++◌, length, refl, sym, ap, ◌∙◌, subst, arith, append_assoc}
use Rattle.std.specs.Prelude.{decimal, nat_eq, nat_le, if◌then◌else◌}
use Rattle.std.specs.Char.{is_ascii_digit}
use Rattle.std.specs.List.{AllByRecursion, flat_map}
use Rattle.std.proofs.lemmas.Bool.{le-leb, leb-true, ne_eqb, and_parts}
use Rattle.std.proofs.lemmas.Fmt.{decimal_by_steps, length-decimal-le}
use Rattle.std.proofs.lemmas.List.{length-append}
use Rattle.dd_model.specs.declared.tokens.Part.TheVariants.{Sign, Number, Overlong}
use Rattle.dd_model.specs.declared.tokens.Placed.{Placed}
use Rattle.dd_model.specs.Line.{after_space, spaced}
use Rattle.dd_model.specs.Parts.{Cursor, is_blank, past_blanks, digits, past_digits, value_from, number_of, part_of, rest_of, first_part, after_part, Spells}
use Rattle.dd_model.specs.Spelling.{Told, number_part, sign_part, with_list, values}

-- ---- the digits of a number

abbrev IsDigit : ℕ → Type 0
IsDigit b = is_ascii_digit b ≡ true

digit_of : (n : ℕ) → n < 10 → IsDigit (48 + n)
digit_of n h =
    let low : nat_le 48 (48 + n) ≡ true = le-leb 48 (48 + n) (omega arith) in
    let high : nat_le (48 + n) 57 ≡ true = le-leb (48 + n) 57 (omega arith) in
    rw (low, high) refl

record IsDecimal (n : ℕ) (ds : List ℕ) : Type 0 where
  pub some : 1 ≤ length ds
  pub all : AllByRecursion IsDigit ds
  pub value : value_from 0 ds ≡ n

value_more : (v d : ℕ) (ds : List ℕ) → value_from v (ds ++ d ∷ []) ≡ 10 * value_from v ds + (d - 48)
value_more v d [] = refl
value_more v d (b ∷ bs) = value_more (10 * v + (b - 48)) d bs

all_more : (d : ℕ) (ds : List ℕ) → AllByRecursion IsDigit ds → IsDigit d → AllByRecursion IsDigit (ds ++ d ∷ [])
all_more d [] a h = (h, tt)
all_more d (b ∷ bs) a h = (a.0, all_more d bs a.1 h)

one_digit : (n : ℕ) → n < 10 → IsDecimal n ((48 + n) ∷ [])
one_digit n h = record { some = omega arith; all = (digit_of n h, tt); value = omega arith }

more_digits : (n : ℕ) (ds : List ℕ) → 10 ≤ n → IsDecimal (n / 10) ds → IsDecimal n (ds ++ (48 + n % 10) ∷ [])
more_digits n ds h a =
    let v = a.value in
    record {
      some = omega (arith, length-append ds ((48 + n % 10) ∷ []));
      all = all_more (48 + n % 10) ds a.all (digit_of (n % 10) (omega arith));
      value = value_more 0 (48 + n % 10) ds ∙ (omega arith);
    }

is_decimal : (n : ℕ) → n < 1000000000 → IsDecimal n (decimal n)
is_decimal n h = decimal_by_steps IsDecimal one_digit more_digits n (omega arith)

-- ---- the next part

digits_all : (ds : List ℕ) (b : ℕ) (rest : List ℕ) → AllByRecursion IsDigit ds → is_ascii_digit b ≡ false → digits (ds ++ b ∷ rest) ≡ ds
digits_all [] b rest a h = ap (λ t. if t then b ∷ digits rest else []) h
digits_all (d ∷ ds) b rest a h = ap (λ t. if t then d ∷ digits (ds ++ b ∷ rest) else []) a.0 ∙ ap (λ z. d ∷ z) (digits_all ds b rest a.1 h)

past_all : (ds : List ℕ) (b : ℕ) (rest : List ℕ) → AllByRecursion IsDigit ds → is_ascii_digit b ≡ false → past_digits (ds ++ b ∷ rest) ≡ b ∷ rest
past_all [] b rest a h = ap (λ t. if t then past_digits rest else b ∷ rest) h
past_all (d ∷ ds) b rest a h = ap (λ t. if t then past_digits (ds ++ b ∷ rest) else d ∷ (ds ++ b ∷ rest)) a.0 ∙ past_all ds b rest a.1 h

-- a digit is no blank
digit_is_no_blank : (d : ℕ) → IsDigit d → is_blank d ≡ false
digit_is_no_blank d h =
    let low : 48 ≤ d = leb-true 48 d (and_parts (nat_le 48 d) (nat_le d 57) h).0 in
    let a : nat_eq d 32 ≡ false = ne_eqb d 32 (λ e. omega arith) in
    let b : nat_eq d 9 ≡ false = ne_eqb d 9 (λ e. omega arith) in
    let c : nat_eq d 13 ≡ false = ne_eqb d 13 (λ e. omega arith) in
    let e : nat_eq d 10 ≡ false = ne_eqb d 10 (λ f. omega arith) in
    rw (a, b, c, e) refl

-- the number that digits write, with the place of its first digit
pub record ReadsNumber (at n : ℕ) (text : List ℕ) (to : ℕ) (rest : List ℕ) : Type 0 where
  pub place : ℕ
  pub first : first_part (record { at = at; rest = text }) ≡ number_part (record { at = place; value = n })
  pub after : after_part (record { at = at; rest = text }) ≡ record { at = to; rest = rest }

digits_read : (at n : ℕ) (ds : List ℕ) (b : ℕ) (rest : List ℕ) → IsDecimal n ds → length ds ≤ 9 → is_ascii_digit b ≡ false → ReadsNumber at n (ds ++ b ∷ rest) (at + length ds) (b ∷ rest)
unfolding first_part after_part
digits_read at n [] b rest a short h = let s = a.some in absurd (omega arith)
digits_read at n (d ∷ ds) b rest a short h =
    let text = (d ∷ ds) ++ b ∷ rest in
    let all = a.all in
    let no_blank : past_blanks at text ≡ record { at = at; rest = text } =
    ap (λ t. if t then past_blanks (at + 1) (ds ++ b ∷ rest) else record { at = at; rest = text }) (digit_is_no_blank d all.0) in
    let ds_read : digits text ≡ d ∷ ds = digits_all (d ∷ ds) b rest all h in
    let few : nat_le (length (d ∷ ds)) 9 ≡ true = le-leb (length (d ∷ ds)) 9 short in
    let part : part_of text ≡ Number n =
    ap (λ t. if t then number_of (digits text) else Sign d) all.0 ∙ ap number_of ds_read
    ∙ ap (λ t. if t then Number (value_from 0 (d ∷ ds)) else Overlong) few ∙ ap (λ v. Number v) a.value in
    let over : rest_of at text ≡ record { at = at + length (d ∷ ds); rest = b ∷ rest } =
    ap (λ t. if t then record { at = at + length (digits text); rest = past_digits text } else record { at = at + 1; rest = ds ++ b ∷ rest }) all.0
    ∙ ap (λ (zs : List ℕ). record { at = at + length zs; rest = past_digits text }) ds_read
    ∙ ap (λ zs. record { at = at + length (d ∷ ds); rest = zs }) (past_all (d ∷ ds) b rest all h) in
    record {
      place = at;
      first = ap (λ (p : Cursor). record { at = p.at; part = part_of p.rest }) no_blank ∙ ap (λ z. record { at = at; part = z }) part;
      after = ap (λ (p : Cursor). rest_of p.at p.rest) no_blank ∙ over;
    }

pub number_read : (at n b : ℕ) (rest : List ℕ) → n < 1000000000 → is_ascii_digit b ≡ false → ReadsNumber at n (decimal n ++ b ∷ rest) (at + length (decimal n)) (b ∷ rest)
number_read at n b rest small h =
    let e : 10 ^ 9 ≡ 1000000000 = refl in
    digits_read at n (decimal n) b rest (is_decimal n small) (length-decimal-le 9 n (omega arith) (omega arith) (omega arith)) h

-- ---- lists

pub then_number : (at n to : ℕ) (text rest : List ℕ) (r : ReadsNumber at n text to rest) (ps : List Placed) (d : Cursor) → Spells (record { at = to; rest = rest }) ps d
    → Spells (record { at = at; rest = text }) (number_part (record { at = r.place; value = n }) ∷ ps) d
then_number at n to text rest r ps d a = (r.first, subst (λ c. Spells c ps d) (sym r.after) a)

-- a sign is neither a blank nor a digit
pub record IsMark (s : ℕ) : Type 0 where
  pub blank : is_blank s ≡ false
  pub digit : is_ascii_digit s ≡ false

pub then_sign : (at s : ℕ) (rest : List ℕ) → IsMark s → (ps : List Placed) (d : Cursor) → Spells (record { at = at + 1; rest = rest }) ps d
    → Spells (record { at = at; rest = s ∷ rest }) (sign_part s at ∷ ps) d
unfolding first_part after_part
then_sign at s rest m ps d a =
    let here : past_blanks at (s ∷ rest) ≡ record { at = at; rest = s ∷ rest } = ap (λ t. if t then past_blanks (at + 1) rest else record { at = at; rest = s ∷ rest }) m.blank in
    let part : part_of (s ∷ rest) ≡ Sign s = ap (λ t. if t then number_of (digits (s ∷ rest)) else Sign s) m.digit in
    let over : rest_of at (s ∷ rest) ≡ record { at = at + 1; rest = rest } =
    ap (λ t. if t then record { at = at + length (digits (s ∷ rest)); rest = past_digits (s ∷ rest) } else record { at = at + 1; rest = rest }) m.digit in (
      ap (λ (p : Cursor). record { at = p.at; part = part_of p.rest }) here ∙ ap (λ z. record { at = at; part = z }) part,
      subst (λ c. Spells c ps d) (sym (ap (λ (p : Cursor). rest_of p.at p.rest) here ∙ over)) a,
    )

-- a list that is written, read back
pub record ReadsList (at : ℕ) (text xs : List ℕ) (s : ℕ) (rest : List ℕ) : Type 0 where
  pub list : Told
  pub values_are : values list ≡ xs
  pub to : ℕ
  pub spells : (ps : List Placed) (d : Cursor) → Spells (record { at = to; rest = rest }) ps d → Spells (record { at = at; rest = text }) (with_list list s ps) d

abbrev pub IsShort : ℕ → Type 0
IsShort n = n < 1000000000

-- what comes after a number is no digit
record Begins (text : List ℕ) : Type 0 where
  pub byte : ℕ
  pub after : List ℕ
  pub text_is : text ≡ byte ∷ after
  pub no_digit : is_ascii_digit byte ≡ false

tail_begins : (xs : List ℕ) (s : ℕ) (rest : List ℕ) → IsMark s → Begins (flat_map after_space xs ++ s ∷ rest)
tail_begins [] s rest m = record { byte = s; after = rest; text_is = refl; no_digit = m.digit }
tail_begins (x ∷ xs) s rest m = record { byte = 32; after = (decimal x ++ flat_map after_space xs) ++ s ∷ rest; text_is = refl; no_digit = refl }

number_then : (at x : ℕ) (text : List ℕ) → IsShort x → Begins text → ReadsNumber at x (decimal x ++ text) (at + length (decimal x)) text
number_then at x text small b =
    subst (λ t. ReadsNumber at x (decimal x ++ t) (at + length (decimal x)) t) (sym b.text_is) (number_read at x b.byte b.after small b.no_digit)

-- a space may stand before a number
after_a_space : (at x to : ℕ) (text rest : List ℕ) → ReadsNumber (at + 1) x text to rest → ReadsNumber at x (32 ∷ text) to rest
unfolding first_part after_part
after_a_space at x to text rest r = record { place = r.place; first = r.first; after = r.after }

list_cons : (at x to : ℕ) (text left xs : List ℕ) (s : ℕ) (rest : List ℕ) → ReadsNumber at x text to left → ReadsList to left xs s rest → ReadsList at text (x ∷ xs) s rest
list_cons at x to text left xs s rest n l = record {
  list = record { numbers = record { at = n.place; value = x } ∷ l.list.numbers; end = l.list.end };
  values_are = ap (λ zs. x ∷ zs) l.values_are;
  to = l.to;
  spells = λ ps d a. then_number at x to text left n (with_list l.list s ps) d (l.spells ps d a);
}

tail_read : (at : ℕ) (xs : List ℕ) (s : ℕ) (rest : List ℕ) → IsMark s → AllByRecursion IsShort xs → ReadsList at (flat_map after_space xs ++ s ∷ rest) xs s rest
tail_read at [] s rest m a = record { list = record { numbers = []; end = at }; values_are = refl; to = at + 1; spells = λ ps d b. then_sign at s rest m ps d b }
tail_read at (x ∷ xs) s rest m a =
    let left = flat_map after_space xs ++ s ∷ rest in
    let to = at + 1 + length (decimal x) in
    let number : ReadsNumber at x (32 ∷ (decimal x ++ left)) to left = after_a_space at x to (decimal x ++ left) left (number_then (at + 1) x left a.0 (tail_begins xs s rest m)) in
    subst (λ t. ReadsList at t (x ∷ xs) s rest) (ap (λ t. 32 ∷ t) (sym (append_assoc (decimal x) (flat_map after_space xs) (s ∷ rest))))
    (list_cons at x to (32 ∷ (decimal x ++ left)) left xs s rest number (tail_read to xs s rest m a.1))

pub list_read : (at : ℕ) (xs : List ℕ) (s : ℕ) (rest : List ℕ) → IsMark s → AllByRecursion IsShort xs → ReadsList at (spaced xs ++ s ∷ rest) xs s rest
list_read at [] s rest m a = tail_read at [] s rest m a
list_read at (x ∷ xs) s rest m a =
    let left = flat_map after_space xs ++ s ∷ rest in
    let to = at + length (decimal x) in
    subst (λ t. ReadsList at t (x ∷ xs) s rest) (sym (append_assoc (decimal x) (flat_map after_space xs) (s ∷ rest)))
    (list_cons at x to (decimal x ++ left) left xs s rest (number_then at x left a.0 (tail_begins xs s rest m)) (tail_read to xs s rest m a.1))
