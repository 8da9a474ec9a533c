-- What a word is, of which clap reads a name and a value.
use Rattle.std.proofs.Common.{◌≡◌, ◌∙◌, ◌+◌, ◌++◌, ◌||◌, ◌==◌, ℕ, suc, Bool, true, false, not, cond, [], ◌∷◌, Option, Some, None, refl, sym, ap, arith, take, drop}
use Rattle.std.specs.Prelude.{option_and_then, if◌then◌else◌}
use Rattle.std.proofs.lemmas.Bool.Decides.{nat_tests}
use Rattle.std.specs.List.{position_or_len, before_first, after_first}
use Rattle.clap.specs.Lexer.{long_of, short_of, strip_byte, has_byte, name_and_value, long_of_rest, short_of_rest}
use Rattle.dd_words.specs.Values.{Text}

abbrev is_equals : ℕ → Bool
is_equals x = x == 61

-- how much stands before the first sign of equality
abbrev cut : Bool → Text → ℕ
cut b xs = cond (not b) (1 + position_or_len is_equals xs) 0

record Rejoins (b : Bool) (n : ℕ) (t : Text) : Type 0 where
  pub parted : b ≡ true → t ≡ take n t ++ 61 ∷ drop (n + 1) t
  pub whole : b ≡ false → take n t ≡ t

rejoined : (t : Text) → Rejoins (has_byte 61 t) (position_or_len is_equals t) t
rejoined [] = record { parted = λ e. cc; whole = λ e. refl }
rejoined (x ∷ xs) = go (x == 61) (λ e. grind (arith, nat_tests)) (rejoined xs)
  where
    go : (b : Bool) → (b ≡ true → x ≡ 61) → Rejoins (has_byte 61 xs) (position_or_len is_equals xs) xs → Rejoins (b || has_byte 61 xs) (cut b xs) (x ∷ xs)
    go true is h = record { parted = λ e. ap (λ y. y ∷ xs) (is refl); whole = λ e. cc }
    go false is h =
        let n = position_or_len is_equals xs in
        let more : 1 + n ≡ suc n = omega arith in
        let past : suc n + 1 ≡ suc (n + 1) = omega arith in
        record {
          parted = λ e. rw (more, past) (ap (λ ys. x ∷ ys) (h.parted e));
          whole = λ e. rw more (ap (λ ys. x ∷ ys) (h.whole e));
        }

-- the name and the value of a text
abbrev pub spelled : Text → Option Text → Text
spelled name None = name
spelled name (Some x) = name ++ 61 ∷ x

named_text : (t : Text) → spelled (name_and_value t).0 (name_and_value t).1 ≡ t
named_text t = go (has_byte 61 t) (rejoined t)
  where
    go : (b : Bool) → Rejoins b (position_or_len is_equals t) t → spelled (before_first is_equals t) (if b then Some (after_first is_equals t) else None) ≡ t
    go true h = sym (h.parted refl)
    go false h = h.whole refl

named_rest : (t name : Text) (x : Option Text) → long_of_rest t ≡ Some (name, x) → t ≡ spelled name x
named_rest [] name x e = absurd (cc)
named_rest (b ∷ bs) name x e =
    let same : name_and_value (b ∷ bs) ≡ (name, x) = cc in
    sym (named_text (b ∷ bs)) ∙ ap (λ (p : Text × Option Text). spelled p.0 p.1) same

-- what follows a dash
stripped : (t : Text) (rest : Text) → strip_byte 45 t ≡ Some rest → t ≡ 45 ∷ rest
stripped [] rest e = absurd (cc)
stripped (b ∷ bs) rest e = go (b == 45) (λ h. grind (arith, nat_tests)) e
  where
    go : (test : Bool) → (test ≡ true → b ≡ 45) → (if test then Some bs else None) ≡ Some rest → b ∷ bs ≡ 45 ∷ rest
    go true is h = let same : bs ≡ rest = cc in ap (λ y. y ∷ bs) (is refl) ∙ ap (λ ys. 45 ∷ ys) same
    go false is h = absurd (cc)

pub long_word_is : (w name : Text) (x : Option Text) → long_of w ≡ Some (name, x) → w ≡ 45 ∷ 45 ∷ spelled name x
long_word_is w name x e = first (strip_byte 45 w) (λ r h. stripped w r h) refl e
  where
    second : (r : Text) (o : Option Text) → ((s : Text) → o ≡ Some s → r ≡ 45 ∷ s) → w ≡ 45 ∷ r → option_and_then long_of_rest o ≡ Some (name, x) → w ≡ 45 ∷ 45 ∷ spelled name x
    second r None is at h = absurd (cc)
    second r (Some s) is at h = at ∙ ap (λ z. 45 ∷ z) (is s refl) ∙ ap (λ z. 45 ∷ 45 ∷ z) (named_rest s name x h)

    first : (o : Option Text) → ((r : Text) → o ≡ Some r → w ≡ 45 ∷ r) → o ≡ strip_byte 45 w → option_and_then long_of_rest (option_and_then (strip_byte 45) o) ≡ Some (name, x)
        → w ≡ 45 ∷ 45 ∷ spelled name x
    first None is same h = absurd (cc)
    first (Some r) is same h = second r (strip_byte 45 r) (λ s k. stripped r s k) (is r refl) h

-- what follows one dash is some text
pub short_some : (w flags : Text) → short_of w ≡ Some flags → (x : ℕ) × (xs : Text) × (flags ≡ x ∷ xs)
short_some w flags e = first (strip_byte 45 w) e
  where
    pick : (b : Bool) (x : ℕ) (xs : Text) → (if b then None else Some (x ∷ xs)) ≡ Some flags → (x : ℕ) × (xs : Text) × (flags ≡ x ∷ xs)
    pick true x xs h = absurd (cc)
    pick false x xs h = let same : flags ≡ x ∷ xs = cc in (x, xs, same)

    rest : (t : Text) → short_of_rest t ≡ Some flags → (x : ℕ) × (xs : Text) × (flags ≡ x ∷ xs)
    rest [] h = absurd (cc)
    rest (x ∷ xs) h = pick (x == 45) x xs h

    first : (o : Option Text) → option_and_then short_of_rest o ≡ Some flags → (x : ℕ) × (xs : Text) × (flags ≡ x ∷ xs)
    first None h = absurd (cc)
    first (Some t) h = rest t h
