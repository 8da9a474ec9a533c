-- A set is told by one list of items, so that a checkpoint has one text.
use Rattle.std.proofs.Common.{◌≡◌, ℕ, ◌+◌, ◌≤◌, List, [], ◌∷◌, refl, sym, ap, ◌∙◌, inl, inr, arith}
use Rattle.std.specs.List.{AllByRecursion}
use Rattle.std.proofs.lemmas.Bool.{cases_lt}
use Rattle.dd_model.proofs.Lists.{each_of}
use Rattle.dd_model.specs.declared.allowed.Allowed.{Allowed}
use Rattle.dd_check.specs.declared.checkpoint.Checkpoint.{Checkpoint}
use Rattle.dd_check.specs.declared.raw_values.Item.{Item}
use Rattle.dd_check.specs.declared.raw_values.Item.TheVariants.{One, Span}
use Rattle.dd_check.specs.Texts.{Text}
use Rattle.dd_check.specs.Sets.{low_of, high_of, IsItem, ArePartedItems, AreParted, AreItems, HasNumberIn, IsSetOf}
use Rattle.dd_check.specs.Checks.{check_text, IsCheckText}
use Rattle.dd_check.proofs.SetReads.{ends_in_order, number_cases, number_first, number_later, no_number}

same_item : (x y : Item) → IsItem x → IsItem y → low_of x ≡ low_of y → high_of x ≡ high_of y → x ≡ y
same_item (One m) (One n) a b p q = ap One p
same_item (One m) (Span low high) a b p q = let c = b.1 in absurd (omega arith)
same_item (Span low high) (One n) a b p q = let c = a.1 in absurd (omega arith)
same_item (Span low high) (Span least most) a b p q = λ i. Span (p i) (q i)

-- a number of later items is beyond the first
beyond : (x : Item) (xs : List Item) (m : ℕ) → AllByRecursion (ArePartedItems x) xs → HasNumberIn xs m → high_of x + 2 ≤ m
beyond x xs m a h = let apart = each_of (ArePartedItems x) xs h.item a h.among in let from = h.from in omega arith

not_below : (x : Item) (xs : List Item) (m : ℕ) → IsItem x → AllByRecursion (ArePartedItems x) xs → HasNumberIn (x ∷ xs) m → low_of x ≤ m
not_below x xs m is a h = elim (number_cases x xs m h) [
  | inl r ↦ r.0
  | inr later ↦ let b = beyond x xs m a later in let o = ends_in_order x is in omega arith
]

-- the first item ends where the other's first does, or later
no_longer : (x y : Item) (xs ys : List Item) → IsItem x → IsItem y → AllByRecursion (ArePartedItems x) xs → low_of x ≡ low_of y
    → ((m : ℕ) → HasNumberIn (y ∷ ys) m → HasNumberIn (x ∷ xs) m) → high_of y ≤ high_of x
no_longer x y xs ys is other a e into = elim (cases_lt (high_of x) (high_of y)) [
  | inl short ↦
      let o = ends_in_order x is in
      absurd (elim (number_cases x xs (high_of x + 1) (into (high_of x + 1) (number_first y ys (high_of x + 1) (omega arith, omega arith)))) [
        | inl r ↦ let to = r.1 in omega arith
        | inr later ↦ let b = beyond x xs (high_of x + 1) a later in omega arith
      ])
  | inr long ↦ long
]

rest_of_numbers : (x y : Item) (xs ys : List Item) (m : ℕ) → AllByRecursion (ArePartedItems x) xs → high_of y ≡ high_of x → ((k : ℕ) → HasNumberIn (x ∷ xs) k → HasNumberIn (y ∷ ys) k)
    → HasNumberIn xs m → HasNumberIn ys m
rest_of_numbers x y xs ys m a e into h = elim (number_cases y ys m (into m (number_later x xs m h))) [
  | inl r ↦ let to = r.1 in let b = beyond x xs m a h in absurd (omega arith)
  | inr later ↦ later
]

one_spelling : (xs ys : List Item) → AllByRecursion IsItem xs → AllByRecursion IsItem ys → AreParted xs → AreParted ys
    → ((m : ℕ) → HasNumberIn xs m → HasNumberIn ys m) → ((m : ℕ) → HasNumberIn ys m → HasNumberIn xs m) → xs ≡ ys
one_spelling [] [] a b p q there back = refl
one_spelling [] (y ∷ ys) a b p q there back = absurd (no_number (low_of y) (back (low_of y) (number_first y ys (low_of y) (omega arith, ends_in_order y b.0))))
one_spelling (x ∷ xs) [] a b p q there back = absurd (no_number (low_of x) (there (low_of x) (number_first x xs (low_of x) (omega arith, ends_in_order x a.0))))
one_spelling (x ∷ xs) (y ∷ ys) a b p q there back =
    let l1 = not_below y ys (low_of x) b.0 q.0 (there (low_of x) (number_first x xs (low_of x) (omega arith, ends_in_order x a.0))) in
    let l2 = not_below x xs (low_of y) a.0 p.0 (back (low_of y) (number_first y ys (low_of y) (omega arith, ends_in_order y b.0))) in
    let low : low_of x ≡ low_of y = omega arith in
    let h1 = no_longer x y xs ys a.0 b.0 p.0 low back in
    let h2 = no_longer y x ys xs b.0 a.0 q.0 (sym low) there in
    let high : high_of x ≡ high_of y = omega arith in
    let rest = one_spelling xs ys a.1 b.1 p.1 q.1 (λ m. rest_of_numbers x y xs ys m p.0 (sym high) there) (λ m. rest_of_numbers y x ys xs m q.0 high back) in
    let first = same_item x y a.0 b.0 low high in
    λ i. first i ∷ rest i

one_list : (xs ys : List Item) (set : Allowed) → AreItems xs → AreItems ys → IsSetOf xs set → IsSetOf ys set → xs ≡ ys
one_list xs ys set a b p q = one_spelling xs ys a.each b.each a.parted b.parted (λ m h. (q m).0 ((p m).1 h)) (λ m h. (p m).0 ((q m).1 h))

pub one_text : (c : Checkpoint) (a b : Text) → IsCheckText c a → IsCheckText c b → a ≡ b
one_text c a b s t =
    let f = one_list s.faces t.faces c.request.faces s.are_faces t.are_faces s.face_set t.face_set in
    let d = one_list s.degrees t.degrees c.request.degrees s.are_degrees t.are_degrees s.degree_set t.degree_set in
    s.text_is ∙ ap (λ z. check_text c z s.degrees) f ∙ ap (λ z. check_text c t.faces z) d ∙ sym t.text_is
