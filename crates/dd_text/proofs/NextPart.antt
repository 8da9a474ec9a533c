-- The next part of a text, from what stands after the blanks.
use Rattle.std.proofs.Common.{◌≡◌, ℕ, Bool, zero, suc, ◌+◌, ◌^◌, ◌<◌, ◌≤◌, true, false, List, [], ◌∷◌, length, refl, sym, ap, ◌∙◌, arith}
use Rattle.std.specs.Prelude.{if◌then◌else◌, nat_eq}
use Rattle.dd_model.specs.Reading.{line_end}
use Rattle.std.specs.Char.{is_ascii_digit}
use Rattle.dd_model.specs.declared.tokens.Part.{Part}
use Rattle.dd_model.specs.declared.tokens.Part.TheVariants.{Sign, Number}
use Rattle.dd_model.specs.declared.tokens.Placed.{Placed}
use Rattle.dd_model.specs.declared.tokens.Numeral.{Numeral}
use Rattle.dd_model.specs.Spelling.{number_part}
use Rattle.dd_model.specs.Parts.{Cursor, is_blank, past_blanks, digits, past_digits, number_of, part_of, rest_of, first_part, after_part}

pub below_nine : (n : ℕ) → n < 9 → 10 ^ n ≤ 100000000
below_nine zero h = omega arith
below_nine (suc zero) h = omega arith
below_nine (suc (suc zero)) h = omega arith
below_nine (suc (suc (suc zero))) h = omega arith
below_nine (suc (suc (suc (suc zero)))) h = omega arith
below_nine (suc (suc (suc (suc (suc zero))))) h = omega arith
below_nine (suc (suc (suc (suc (suc (suc zero)))))) h = omega arith
below_nine (suc (suc (suc (suc (suc (suc (suc zero))))))) h = omega arith
below_nine (suc (suc (suc (suc (suc (suc (suc (suc zero)))))))) h = omega arith
below_nine (suc (suc (suc (suc (suc (suc (suc (suc (suc n))))))))) h = absurd (omega arith)

-- the part that stands after the blanks
pub first_is : (c p : Cursor) (part : Part) → p ≡ past_blanks c.at c.rest → part ≡ part_of p.rest → record { at = p.at; part = part } ≡ first_part c
unfolding first_part
first_is c p part e f = ap (λ x. record { at = p.at; part = x }) f ∙ ap (λ (q : Cursor). record { at = q.at; part = part_of q.rest }) e

pub after_is : (c p d : Cursor) → p ≡ past_blanks c.at c.rest → d ≡ rest_of p.at p.rest → d ≡ after_part c
unfolding after_part
after_is c p d e f = f ∙ ap (λ (q : Cursor). rest_of q.at q.rest) e

pub digit_part : (rest after : List ℕ) (b : ℕ) → rest ≡ b ∷ after → is_ascii_digit b ≡ true → number_of (digits rest) ≡ part_of rest
digit_part rest after b e h = rw e (sym (ap (λ t. if t then number_of (digits (b ∷ after)) else Sign b) h))

pub digit_rest : (at : ℕ) (rest after : List ℕ) (b : ℕ) → rest ≡ b ∷ after → is_ascii_digit b ≡ true → record { at = at + length (digits rest); rest = past_digits rest } ≡ rest_of at rest
digit_rest at rest after b e h = rw e (sym (ap (λ t. if t then record { at = at + length (digits (b ∷ after)); rest = past_digits (b ∷ after) } else record { at = at + 1; rest = after }) h))

pub sign_part_is : (rest after : List ℕ) (b : ℕ) → rest ≡ b ∷ after → is_ascii_digit b ≡ false → Sign b ≡ part_of rest
sign_part_is rest after b e h = rw e (sym (ap (λ t. if t then number_of (digits (b ∷ after)) else Sign b) h))

pub sign_rest : (at : ℕ) (rest after : List ℕ) (b : ℕ) → rest ≡ b ∷ after → is_ascii_digit b ≡ false → record { at = at + 1; rest = after } ≡ rest_of at rest
sign_rest at rest after b e h = rw e (sym (ap (λ t. if t then record { at = at + length (digits (b ∷ after)); rest = past_digits (b ∷ after) } else record { at = at + 1; rest = after }) h))

pub no_rest : (at : ℕ) (rest : List ℕ) → rest ≡ [] → record { at = at; rest = rest } ≡ rest_of at rest
no_rest at rest e = rw e refl

if_le : (t : Bool) (x y : Cursor) (n : ℕ) → length x.rest ≤ n → length y.rest ≤ n → length (if t then x else y).rest ≤ n
if_le true x y n a b = a
if_le false x y n a b = b

past_blanks-le : (at : ℕ) (bs : List ℕ) → length (past_blanks at bs).rest ≤ length bs
past_blanks-le at [] = omega arith
past_blanks-le at (b ∷ bs) = if_le (is_blank b) (past_blanks (at + 1) bs) (record { at = at; rest = b ∷ bs }) (length (b ∷ bs)) (let h = past_blanks-le (at + 1) bs in omega arith) (omega arith)

if_list_le : (t : Bool) (x y : List ℕ) (n : ℕ) → length x ≤ n → length y ≤ n → length (if t then x else y) ≤ n
if_list_le true x y n a b = a
if_list_le false x y n a b = b

past_digits-le : (bs : List ℕ) → length (past_digits bs) ≤ length bs
past_digits-le [] = omega arith
past_digits-le (b ∷ bs) = if_list_le (is_ascii_digit b) (past_digits bs) (b ∷ bs) (length (b ∷ bs)) (let h = past_digits-le bs in omega arith) (omega arith)

-- a number takes at least one byte
number_takes : (t : Bool) (at b v : ℕ) (bs ds : List ℕ) → (if t then number_of ds else Sign b) ≡ Number v
    → length (if◌then◌else◌ {A = Cursor} t (record { at = at + length ds; rest = if t then past_digits bs else b ∷ bs }) (record { at = at + 1; rest = bs })).rest < length (b ∷ bs)
number_takes true at b v bs ds e = let h = past_digits-le bs in omega arith
number_takes false at b v bs ds e = absurd cc

number_shorter : (at v : ℕ) (bs : List ℕ) → part_of bs ≡ Number v → length (rest_of at bs).rest < length bs
number_shorter at v [] e = absurd cc
number_shorter at v (b ∷ bs) e = number_takes (is_ascii_digit b) at b v bs (digits (b ∷ bs)) e

-- after a number fewer bytes are left
pub shorter : (c : Cursor) (x : Numeral) → first_part c ≡ number_part x → length (after_part c).rest < length c.rest
unfolding first_part after_part
shorter c x e =
    let p = past_blanks c.at c.rest in
    let few = past_blanks-le c.at c.rest in
    let fewer = number_shorter p.at x.value p.rest (ap (λ (q : Placed). q.part) e) in
    omega (arith, few, fewer)

rest_of-le : (at : ℕ) (bs : List ℕ) → length (rest_of at bs).rest ≤ length bs
rest_of-le at [] = omega arith
rest_of-le at (b ∷ bs) =
    if_le (is_ascii_digit b) (record { at = at + length (digits (b ∷ bs)); rest = past_digits (b ∷ bs) }) (record { at = at + 1; rest = bs }) (length (b ∷ bs)) (past_digits-le (b ∷ bs)) (omega arith)

-- no part makes a text longer
pub after_part-le : (c : Cursor) → length (after_part c).rest ≤ length c.rest
unfolding after_part
after_part-le c =
    let p = past_blanks c.at c.rest in
    let few = past_blanks-le c.at c.rest in
    let fewer = rest_of-le p.at p.rest in
    omega (arith, few, fewer)

pub line_end-le : (at : ℕ) (bs : List ℕ) → length (line_end at bs).rest ≤ length bs
line_end-le at [] = omega arith
line_end-le at (b ∷ bs) = if_le (nat_eq b 10) (record { at = at; rest = b ∷ bs }) (line_end (at + 1) bs) (length (b ∷ bs)) (omega arith) (let h = line_end-le (at + 1) bs in omega arith)
