-- A number in decimal is counted up: the nines at its end become zeros, and the digit before them one more.
use Rattle.std.proofs.Common.{◌≡◌, ◌⊎◌, ℕ, suc, ◌+◌, ◌-◌, ◌/◌, ◌%◌, ◌^◌, ◌<◌, ◌≤◌, List, [], ◌∷◌, ◌++◌, codes, decimal, length, get_or, set, append_assoc, length-append, sym, ap, ◌∙◌, inl, inr, arith}
use Rattle.std.proofs.lemmas.Bool.{cases_lt}
use Rattle.std.proofs.lemmas.Fmt.{decimal_digit, decimal_step_wide, decimal_is_IsNumeral_wide}
use Rattle.itoa.proofs.Decimal.{decimal_two}
use Rattle.std.proofs.Math.Seq.{get_or-append_seam, set-append_seam}
use Rattle.std.specs.List.{insert}
use Rattle.dd_text.specs.Numbered.{IsNumbered}

-- Of the digits of k the last ones were nines, and are zeros now. Before them stand those of m, at least one, and those of m + 1 with the
-- zeros are the digits of k + 1.
pub record IsCarried (k : ℕ) (rest : List ℕ) (place : ℕ) (text : List ℕ) : Type 0 where
  pub front : ℕ
  pub zeros : List ℕ
  pub text_is : text ≡ codes "<1." ++ decimal front ++ (zeros ++ rest)
  pub place_is : place ≡ 3 + length (decimal front)
  pub next : decimal (k + 1) ≡ decimal (front + 1) ++ zeros
  pub small : front ≤ k
  pub same : length (decimal front) + length zeros ≡ length (decimal k)

-- all digits of k were nines
pub record IsAllCarried (k : ℕ) (rest : List ℕ) (place : ℕ) (text : List ℕ) : Type 0 where
  pub zeros : List ℕ
  pub text_is : text ≡ codes "<1." ++ (zeros ++ rest)
  pub place_is : place ≡ 3
  pub next : decimal (k + 1) ≡ 49 ∷ zeros
  pub same : length zeros ≡ length (decimal k)

abbrev pub IsCarrying : ℕ → List ℕ → ℕ → List ℕ → Type 0
IsCarrying k rest place text = IsCarried k rest place text ⊎ IsAllCarried k rest place text

-- the last digit of a number, and those before it
record IsLast (m : ℕ) (before : List ℕ) : Type 0 where
  pub digits : decimal m ≡ before ++ (48 + m % 10) ∷ []
  pub more : m % 10 < 9 → decimal (m + 1) ≡ before ++ (48 + m % 10 + 1) ∷ []

one_digit : (m : ℕ) → m < 10 → IsLast m []
one_digit m small =
    let same : m % 10 ≡ m = omega arith in
    record {
      digits = decimal_digit m small ∙ ap (λ d. (48 + d) ∷ []) (sym same);
      more = λ below.
          let next : 48 + (m + 1) ≡ 48 + m % 10 + 1 = omega arith in
          decimal_digit (m + 1) (omega arith) ∙ ap (λ d. d ∷ []) next;
    }

more_digits : (m : ℕ) → 10 ≤ m → m + 1 < 10 ^ 64 → IsLast m (decimal (m / 10))
more_digits m large small = record {
  digits = decimal_step_wide m large (omega arith);
  more = λ below.
      let front : (m + 1) / 10 ≡ m / 10 = omega arith in
      let next : 48 + (m + 1) % 10 ≡ 48 + m % 10 + 1 = omega arith in
      decimal_step_wide (m + 1) (omega arith) small ∙ ap (λ q. decimal q ++ (48 + (m + 1) % 10) ∷ []) front ∙ ap (λ d. decimal (m / 10) ++ d ∷ []) next;
}

-- the text before the last digit, that digit, and what comes after it
record IsSplit (text : List ℕ) (place digit : ℕ) (before after : List ℕ) : Type 0 where
  pub text_is : text ≡ (codes "<1." ++ before) ++ digit ∷ after
  pub place_is : place ≡ length (codes "<1." ++ before)

split : (m : ℕ) (before zeros rest text : List ℕ) (place : ℕ) → IsLast m before → text ≡ codes "<1." ++ decimal m ++ (zeros ++ rest) → place ≡ 3 + length (decimal m)
    → IsSplit text (place - 1) (48 + m % 10) before (zeros ++ rest)
split m before zeros rest text place last et ep =
    let digit = 48 + m % 10 in
    let count : length (decimal m) ≡ length before + 1 = ap length last.digits ∙ length-append before (digit ∷ []) in
    record {
      text_is = et ∙ ap (λ ds. codes "<1." ++ ds ++ (zeros ++ rest)) last.digits ∙ ap (λ t. codes "<1." ++ t) (append_assoc before (digit ∷ []) (zeros ++ rest));
      place_is = let all : length (codes "<1." ++ before) ≡ 3 + length before = length-append (codes "<1.") before in omega arith;
    }

split_get : (text : List ℕ) (place digit read : ℕ) (before after : List ℕ) → IsSplit text place digit before after → read ≡ get_or text place read → read ≡ digit
split_get text place digit read before after is here =
    here ∙ ap (λ t. get_or t place read) is.text_is ∙ ap (λ j. get_or ((codes "<1." ++ before) ++ digit ∷ after) j read) is.place_is
    ∙ get_or-append_seam (codes "<1." ++ before) digit after read

split_set : (text : List ℕ) (place digit : ℕ) (before after : List ℕ) (other : ℕ) → IsSplit text place digit before after
    → set text place other ≡ codes "<1." ++ before ++ other ∷ after
split_set text place digit before after other is =
    ap (λ t. set t place other) is.text_is ∙ ap (λ j. set ((codes "<1." ++ before) ++ digit ∷ after) j other) is.place_is ∙ set-append_seam (codes "<1." ++ before) digit after other

-- a digit that is no nine becomes one more
done_at : (k : ℕ) (rest : List ℕ) (place : ℕ) (text : List ℕ) (end tested read : ℕ) (c : IsCarried k rest place text) (before : List ℕ) → IsLast c.front before
    → tested ≡ get_or text (place - 1) tested → tested < 57 → read ≡ get_or text (place - 1) read → end ≡ 3 + length (decimal k)
    → IsNumbered (k + 1) rest (set text (place - 1) (read + 1)) end
done_at k rest place text end tested read c before last test below here end_is =
    let digit = 48 + c.front % 10 in
    let apart = split c.front before c.zeros rest text place last c.text_is c.place_is in
    let small = split_get text (place - 1) digit tested before (c.zeros ++ rest) apart test in
    let is = split_get text (place - 1) digit read before (c.zeros ++ rest) apart here in
    let digits : decimal (k + 1) ≡ before ++ (digit + 1) ∷ c.zeros =
    c.next ∙ ap (λ ds. ds ++ c.zeros) (last.more (omega arith)) ∙ append_assoc before ((digit + 1) ∷ []) c.zeros in
    let old_count : length (decimal c.front) ≡ length before + 1 = ap length last.digits ∙ length-append before (digit ∷ []) in
    let new_count : length (decimal (k + 1)) ≡ length before + suc (length c.zeros) = ap length digits ∙ length-append before ((digit + 1) ∷ c.zeros) in
    record {
      text_is = split_set text (place - 1) digit before (c.zeros ++ rest) (read + 1) apart
          ∙ ap (λ d. codes "<1." ++ before ++ (d + 1) ∷ (c.zeros ++ rest)) is
          ∙ ap (λ t. codes "<1." ++ t) (sym (append_assoc before ((digit + 1) ∷ c.zeros) rest))
          ∙ ap (λ ds. codes "<1." ++ ds ++ rest) (sym digits);
      end_is = let count = c.same in omega arith;
    }

-- a nine becomes a zero
carried_on : (k : ℕ) (rest : List ℕ) (place : ℕ) (text : List ℕ) (c : IsCarried k rest place text) → k + 1 < 10 ^ 64 → c.front % 10 ≡ 9
    → IsCarrying k rest (place - 1) (set text (place - 1) 48)
carried_on k rest place text c small nine = elim (cases_lt c.front 10) [
  | inl low ↦
      let last = one_digit c.front low in
      let apart = split c.front [] c.zeros rest text place last c.text_is c.place_is in
      let count : length (decimal c.front) ≡ 1 = ap length last.digits in
      let ten : c.front + 1 ≡ 10 = omega arith in
      inr (record {
        zeros = 48 ∷ c.zeros;
        text_is = split_set text (place - 1) (48 + c.front % 10) [] (c.zeros ++ rest) 48 apart;
        place_is = let place_is = c.place_is in omega arith;
        next = c.next ∙ ap (λ n. decimal n ++ c.zeros) ten ∙ ap (λ ds. ds ++ c.zeros) (decimal_two 10 (omega arith) (omega arith));
        same = let same = c.same in omega arith;
      })
  | inr high ↦
      let below = c.small in
      let last = more_digits c.front high (omega arith) in
      let q = c.front / 10 in
      let apart = split c.front (decimal q) c.zeros rest text place last c.text_is c.place_is in
      let count : length (decimal c.front) ≡ length (decimal q) + 1 = ap length last.digits ∙ length-append (decimal q) ((48 + c.front % 10) ∷ []) in
      let tens : (c.front + 1) / 10 ≡ q + 1 = omega arith in
      let ones : 48 + (c.front + 1) % 10 ≡ 48 = omega arith in
      inl (record {
        front = q;
        zeros = 48 ∷ c.zeros;
        text_is = split_set text (place - 1) (48 + c.front % 10) (decimal q) (c.zeros ++ rest) 48 apart;
        place_is = let place_is = c.place_is in omega arith;
        next = c.next
            ∙ ap (λ ds. ds ++ c.zeros)
            (decimal_step_wide (c.front + 1) (omega arith) (omega arith) ∙ ap (λ n. decimal n ++ (48 + (c.front + 1) % 10) ∷ []) tens ∙ ap (λ d. decimal (q + 1) ++ d ∷ []) ones)
            ∙ append_assoc (decimal (q + 1)) (48 ∷ []) c.zeros;
        small = omega arith;
        same = let same = c.same in omega arith;
      })
]

-- the digits of a number before the last one
last_of : (m : ℕ) → m + 1 < 10 ^ 64 → (before : List ℕ) × IsLast m before
last_of m small = elim (cases_lt m 10) [ inl low ↦ ([], one_digit m low) | inr high ↦ (decimal (m / 10), more_digits m high small) ]

pub counted : (k : ℕ) (rest : List ℕ) (place : ℕ) (text : List ℕ) (end tested read : ℕ) → IsCarrying k rest place text → k + 1 < 10 ^ 64 → 3 < place
    → tested ≡ get_or text (place - 1) tested → tested < 57 → read ≡ get_or text (place - 1) read → end ≡ 3 + length (decimal k)
    → IsNumbered (k + 1) rest (set text (place - 1) (read + 1)) end
counted k rest place text end tested read (inl c) small some test below here end_is =
    let front = c.small in
    let last = last_of c.front (omega arith) in
    done_at k rest place text end tested read c last.0 last.1 test below here end_is
counted k rest place text end tested read (inr c) small some test below here end_is = let place_is = c.place_is in absurd (omega arith)

pub carry_on : (k : ℕ) (rest : List ℕ) (place : ℕ) (text : List ℕ) (tested : ℕ) → IsCarrying k rest place text → k + 1 < 10 ^ 64 → 3 < place
    → tested ≡ get_or text (place - 1) tested → 57 ≤ tested → IsCarrying k rest (place - 1) (set text (place - 1) 48)
carry_on k rest place text tested (inl c) small some test nine =
    let front = c.small in
    let last = last_of c.front (omega arith) in
    let apart = split c.front last.0 c.zeros rest text place last.1 c.text_is c.place_is in
    let is = split_get text (place - 1) (48 + c.front % 10) tested last.0 (c.zeros ++ rest) apart test in
    carried_on k rest place text c small (omega arith)
carry_on k rest place text tested (inr c) small some test nine = let place_is = c.place_is in absurd (omega arith)

-- where all digits were nines, there is one digit more
pub longer : (k : ℕ) (rest : List ℕ) (place : ℕ) (text : List ℕ) (end : ℕ) → IsCarrying k rest place text → k + 1 < 10 ^ 64 → place ≤ 3
    → end ≡ 3 + length (decimal k) → IsNumbered (k + 1) rest (insert text 3 49) (end + 1)
longer k rest place text end (inl c) small none end_is =
    let front = c.small in
    let some = (decimal_is_IsNumeral_wide c.front (omega arith)).0.0 in
    let place_is = c.place_is in
    absurd (omega arith)
longer k rest place text end (inr c) small none end_is =
    let count : length (decimal (k + 1)) ≡ suc (length c.zeros) = ap length c.next in
    record {
      text_is = ap (λ t. insert t 3 49) c.text_is ∙ ap (λ ds. codes "<1." ++ ds ++ rest) (sym c.next);
      end_is = let same = c.same in omega arith;
    }
