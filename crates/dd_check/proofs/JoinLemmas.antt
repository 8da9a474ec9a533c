-- Texts that are joined with a byte are parted there again.
use Rattle.std.proofs.Common.{◌≡◌, ℕ, ◌==◌, true, false, List, [], ◌∷◌, ◌++◌, map, refl, sym, ap, ◌∙◌, arith, append_assoc}
use Rattle.std.specs.Prelude.{decimal}
use Rattle.std.specs.List.{AllByRecursion, flat_map, join_with_byte}
use Rattle.std.proofs.lemmas.Bool.Decides.{nat_tests}
use Rattle.std.proofs.lemmas.List.{append-nil}
use Rattle.std.proofs.lemmas.List.Elements.{All-from_recursion}
use Rattle.std.proofs.lemmas.List.Splits.{slice_split_at, slice_split_none, join_with_byte-slice_split}
use Rattle.dd_model.specs.Line.{after_space}
use Rattle.dd_check.specs.Texts.{Text, parts_of, lines_of, page}

-- the byte does not stand in the text
abbrev pub Avoids : ℕ → Text → Type 0
Avoids c = AllByRecursion (λ b. (b == c) ≡ false)

same_byte : (c : ℕ) → (c == c) ≡ true
same_byte c = grind (arith, nat_tests)

pub split_joined : (c : ℕ) (x : Text) (xs : List Text) → AllByRecursion (Avoids c) (x ∷ xs) → parts_of c (join_with_byte c (x ∷ xs)) ≡ x ∷ xs
split_joined c x [] a = slice_split_none (λ b. b == c) x (All-from_recursion (λ b. (b == c) ≡ false) x a.0)
split_joined c x (y ∷ ys) a =
    slice_split_at (λ b. b == c) x c (join_with_byte c (y ∷ ys)) (All-from_recursion (λ b. (b == c) ≡ false) x a.0) (same_byte c)
    ∙ ap (λ z. x ∷ z) (split_joined c y ys a.1)

-- what is parted, joined again
pub joined_parts : (c : ℕ) (text : Text) (xs : List Text) → parts_of c text ≡ xs → text ≡ join_with_byte c xs
joined_parts c text xs e = sym (join_with_byte-slice_split c text) ∙ ap (join_with_byte c) e

pub avoids_joined : (c d : ℕ) (xs : List Text) → (d == c) ≡ false → AllByRecursion (Avoids c) xs → Avoids c (join_with_byte d xs)
avoids_joined c d [] e a = tt
avoids_joined c d (x ∷ []) e a = a.0
avoids_joined c d (x ∷ y ∷ ys) e a = avoids_append c x (d ∷ join_with_byte d (y ∷ ys)) a.0 (e, avoids_joined c d (y ∷ ys) e a.1)
  where
    avoids_append : (c : ℕ) (us vs : Text) → Avoids c us → Avoids c vs → Avoids c (us ++ vs)
    avoids_append c [] vs a b = b
    avoids_append c (u ∷ us) vs a b = (a.0, avoids_append c us vs a.1 b)

-- the lines of a page
pub lines_page : (rows : List (List Text)) → AllByRecursion (λ row. Avoids 10 (join_with_byte 32 row)) rows → lines_of (page rows) ≡ map (join_with_byte 32) rows ++ [] ∷ []
lines_page [] a = refl
lines_page (row ∷ rows) a =
    ap lines_of (append_assoc (join_with_byte 32 row) (10 ∷ []) (page rows))
    ∙ slice_split_at (λ b. b == 10) (join_with_byte 32 row) 10 (page rows) (All-from_recursion (λ b. (b == 10) ≡ false) (join_with_byte 32 row) a.0) refl
    ∙ ap (λ z. join_with_byte 32 row ∷ z) (lines_page rows a.1)

pub page_joined : (rows : List (List Text)) → join_with_byte 10 (map (join_with_byte 32) rows ++ [] ∷ []) ≡ page rows
page_joined [] = refl
page_joined (row ∷ []) = sym (append-nil (join_with_byte 32 row ++ 10 ∷ []))
page_joined (row ∷ next ∷ rows) = ap (λ z. join_with_byte 32 row ++ 10 ∷ z) (page_joined (next ∷ rows)) ∙ sym (append_assoc (join_with_byte 32 row) (10 ∷ []) (page (next ∷ rows)))

-- a word and numbers after it
pub numbers_joined : (word : Text) (ns : List ℕ) → join_with_byte 32 (word ∷ map decimal ns) ≡ word ++ flat_map after_space ns
numbers_joined word [] = sym (append-nil word)
numbers_joined word (n ∷ ns) = ap (λ z. word ++ 32 ∷ z) (numbers_joined (decimal n) ns)

-- an item more
pub joined_more : (c : ℕ) (x : Text) (xs : List Text) (y : Text) → join_with_byte c ((x ∷ xs) ++ y ∷ []) ≡ join_with_byte c (x ∷ xs) ++ c ∷ y
joined_more c x [] y = refl
joined_more c x (z ∷ zs) y = ap (λ w. x ++ c ∷ w) (joined_more c z zs y) ∙ sym (append_assoc x (c ∷ join_with_byte c (z ∷ zs)) (c ∷ y))
