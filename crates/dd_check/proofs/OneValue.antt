-- Words tell at most one value.
use Rattle.std.proofs.Common.{◌≡◌, ℕ, ◌+◌, ◌==◌, Bool, true, false, List, [], ◌∷◌, get_or, drop, map, refl, sym, ap, ◌∙◌, subst, arith}
use Rattle.std.specs.Prelude.{decimal, codes}
use Rattle.std.specs.List.{AllByRecursion}
use Rattle.std.proofs.lemmas.Bool.{ne_eqb}
use Rattle.dd_model.specs.declared.jobs.Position.{Position}
use Rattle.dd_model.specs.declared.jobs.Position.TheVariants.{At, End}
use Rattle.dd_check.specs.declared.raw_values.Item.{Item}
use Rattle.dd_check.specs.declared.raw_values.Item.TheVariants.{One, Span}
use Rattle.dd_check.specs.declared.raw_values.Limits.{Limits}
use Rattle.dd_check.specs.declared.raw_values.OldLimits.{OldLimits}
use Rattle.dd_check.specs.Texts.{Text, parts_of}
use Rattle.dd_check.specs.Numerals.{IsShort}
use Rattle.dd_check.specs.Sets.{ends_of, item_text}
use Rattle.dd_check.specs.Rows.{IsShortItem, filter_word, IsNumberRow, IsLimitsRow, IsOldLimitsRow, IsSetRow, IsPlaceRow}
use Rattle.dd_check.proofs.JoinLemmas.{Avoids}
use Rattle.dd_check.proofs.NumberLemmas.{same_number, avoids_decimal, fits}
use Rattle.dd_check.proofs.WordReads.{ends_parted, items_parted}

-- the k-th words of equal rows
nth : {xs ys : List Text} (k : ℕ) → xs ≡ ys → get_or xs k [] ≡ get_or ys k []
nth k e = ap (λ l. get_or l k []) e

same_numbers : (ms ns : List ℕ) → AllByRecursion IsShort ms → AllByRecursion IsShort ns → map decimal ms ≡ map decimal ns → ms ≡ ns
same_numbers [] [] a b e = refl
same_numbers [] (n ∷ ns) a b e = cc
same_numbers (m ∷ ms) [] a b e = cc
same_numbers (m ∷ ms) (n ∷ ns) a b e =
    let first = same_number m n a.0 b.0 (ap (λ l. get_or l 0 []) e) in
    let others = same_numbers ms ns a.1 b.1 (ap (drop 1) e) in
    cc

same_filter : (a b : Bool) → filter_word a ≡ filter_word b → a ≡ b
same_filter true true e = refl
same_filter true false e = cc
same_filter false true e = cc
same_filter false false e = refl

pub one_number : (key : Text) (words : List Text) (m n : ℕ) → IsNumberRow key words m → IsNumberRow key words n → m ≡ n
one_number key words m n a b = same_number m n a.short b.short (nth 1 (sym a.words_are ∙ b.words_are))

pub one_limits : (words : List Text) (a b : Limits) → IsLimitsRow words a → IsLimitsRow words b → a ≡ b
one_limits words a b p q =
    let e = sym p.words_are ∙ q.words_are in
    let n = same_number a.chambers b.chambers p.chambers q.chambers (nth 1 e) in
    let t = same_number a.tiles b.tiles p.tiles q.tiles (nth 2 e) in
    let v = same_number a.vertices b.vertices p.vertices q.vertices (nth 3 e) in
    let m = same_filter a.minimal b.minimal (nth 4 e) in
    λ i. record { chambers = n i; tiles = t i; vertices = v i; minimal = m i }

pub one_old_limits : (words : List Text) (a b : OldLimits) → IsOldLimitsRow words a → IsOldLimitsRow words b → a ≡ b
one_old_limits words a b p q =
    let e = sym p.words_are ∙ q.words_are in
    let n = same_number a.chambers b.chambers p.chambers q.chambers (nth 1 e) in
    let t = same_number a.tiles b.tiles p.tiles q.tiles (nth 2 e) in
    let v = same_number a.vertices b.vertices p.vertices q.vertices (nth 3 e) in
    let f = same_number a.least_face b.least_face p.least_face q.least_face (nth 4 e) in
    let g = same_number a.least_degree b.least_degree p.least_degree q.least_degree (nth 5 e) in
    let m = same_filter a.minimal b.minimal (nth 6 e) in
    λ i. record { chambers = n i; tiles = t i; vertices = v i; least_face = f i; least_degree = g i; minimal = m i }

same_ends : (a b : Item) → ends_of a ≡ ends_of b → a ≡ b
same_ends (One m) (One n) e = cc
same_ends (One m) (Span low high) e = cc
same_ends (Span low high) (One n) e = cc
same_ends (Span l h) (Span m k) e = cc

same_item : (a b : Item) → IsShortItem a → IsShortItem b → item_text a ≡ item_text b → a ≡ b
same_item a b p q e = same_ends a b (same_numbers (ends_of a) (ends_of b) p q (sym (ends_parted a p) ∙ ap (parts_of 45) e ∙ ends_parted b q))

same_items : (xs ys : List Item) → AllByRecursion IsShortItem xs → AllByRecursion IsShortItem ys → map item_text xs ≡ map item_text ys → xs ≡ ys
same_items [] [] a b e = refl
same_items [] (y ∷ ys) a b e = cc
same_items (x ∷ xs) [] a b e = cc
same_items (x ∷ xs) (y ∷ ys) a b e =
    let first = same_item x y a.0 b.0 (ap (λ l. get_or l 0 []) e) in
    let others = same_items xs ys a.1 b.1 (ap (drop 1) e) in
    cc

pub one_set : (key : Text) (words : List Text) (xs ys : List Item) → IsSetRow key words xs → IsSetRow key words ys → xs ≡ ys
one_set key words xs ys a b =
    same_items xs ys a.short b.short (sym (items_parted xs a.some a.short) ∙ ap (parts_of 44) (nth 1 (sym a.words_are ∙ b.words_are)) ∙ items_parted ys b.some b.short)

no_end : (n : ℕ) → IsShort n → codes "end" ≡ decimal n → ⊥
no_end n h e = differ (subst (Avoids 101) (sym e) (avoids_decimal 101 (λ d low. ne_eqb (48 + d) 101 (λ p. omega arith)) n (fits n h))).0
  where
    differ : (101 == 101) ≡ false → ⊥
    differ p = (cc)

pub one_place : (words : List Text) (a b : Position) → IsPlaceRow words a → IsPlaceRow words b → a ≡ b
one_place words End End p q = refl
one_place words End (At job) p q = absurd (no_end job.size q.short.size (nth 1 (sym p.words_are ∙ q.words_are)))
one_place words (At job) End p q = absurd (no_end job.size p.short.size (nth 1 (sym q.words_are ∙ p.words_are)))
one_place words (At j) (At k) p q =
    let e = sym p.words_are ∙ q.words_are in
    let s = same_number j.size k.size p.short.size q.short.size (nth 1 e) in
    let ns = same_numbers j.prefix k.prefix p.short.numbers q.short.numbers (ap (drop 2) e) in
    λ i. At (record { size = s i; prefix = ns i })
