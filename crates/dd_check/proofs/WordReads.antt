-- Words, as the parts that references lead to.
use Rattle.std.proofs.Common.{◌≡◌, ◌≢◌, ◌↔◌, IsTrue, ℕ, zero, suc, ◌+◌, ◌<◌, ◌≤◌, Bool, true, false, List, [], ◌∷◌, ◌++◌, length, get_or, take, map, refl, sym, ap, ◌∙◌, subst, arith, Option, Some, None}
use Rattle.std.specs.Prelude.{codes, decimal, MatchOption, Vec}
use Rattle.std.specs.Borrow.{Bor}
use Rattle.std.specs.Global.{Global}
use Rattle.std.specs.List.{AllByRecursion}
use Rattle.std.proofs.Math.Seq.{take-suc}
use Rattle.std.proofs.lemmas.List.Splits.{length-slice_split}
use Rattle.std.specs.Cmp.Lexicographic.{same_text, other_text, pointwise}
use Rattle.std.specs.Prelude.{not, nat_eq, ◌==◌}
use Rattle.std.proofs.lemmas.Bool.Decides.{nat_tests}
use Rattle.dd_check.specs.declared.raw_values.Item.{Item}
use Rattle.dd_check.specs.declared.raw_values.Item.TheVariants.{One, Span}
use Rattle.dd_check.specs.Texts.{Text, texts, parts_of}
use Rattle.dd_check.specs.Numerals.{IsShort, IsNumeral}
use Rattle.dd_check.specs.Sets.{ends_of, item_text, set_text}
use Rattle.dd_check.specs.declared.raw_values.Limits.{Limits}
use Rattle.dd_check.specs.declared.raw_values.OldLimits.{OldLimits}
use Rattle.dd_check.specs.Rows.{IsShortItem, IsNumberRow, IsLimitsRow, IsOldLimitsRow, IsSetRow}
use Rattle.dd_check.specs.Faults.{IsLine}
use Rattle.dd_check.specs.Told.{AreEnds, IsItemWord, AreItemWords, IsSetWord, IsWhatTells, IsWhatTellsItems, AreLimitWords, AreOldLimitWords, AreNumerals}
use Rattle.dd_check.proofs.JoinLemmas.{Avoids, split_joined, joined_parts}
use Rattle.dd_check.proofs.NumberLemmas.{avoids_low}
use Rattle.dd_check.proofs.SetReads.{TellsEach, tells_more, tells_none}

pub word_at : (ws : List (Bor Text)) (k : ℕ) (d : Bor Text) → k < length ws → get_or (texts ws) k [] ≡ (get_or ws k d).now
word_at [] k d h = absurd (omega arith)
word_at (w ∷ ws) zero d h = refl
word_at (w ∷ ws) (suc k) d h = word_at ws k d (omega arith)

pub length_texts : (ws : List (Bor Text)) → length (texts ws) ≡ length ws
length_texts [] = refl
length_texts (w ∷ ws) = ap suc (length_texts ws)

-- where the words are a row, the k-th is that of the row
pub nth_word : (ws : List (Bor Text)) (k : ℕ) (d : Bor Text) (row : List Text) → k < length ws → texts ws ≡ row → (get_or ws k d).now ≡ get_or row k []
nth_word ws k d row h e = sym (word_at ws k d h) ∙ ap (λ xs. get_or xs k []) e

pub take_word : (ws : List (Bor Text)) (k : ℕ) (d : Bor Text) → k < length ws → take (k + 1) (texts ws) ≡ take k (texts ws) ++ (get_or ws k d).now ∷ []
take_word ws k d h =
    let e : k + 1 ≡ suc k = omega arith in
    let n = length_texts ws in
    ap (λ j. take j (texts ws)) e ∙ take-suc (texts ws) k [] (omega arith) ∙ ap (λ w. take k (texts ws) ++ w ∷ []) (word_at ws k d h)

pub take_words : (ws : List (Bor Text)) (k : ℕ) → length ws ≤ k → take k (texts ws) ≡ texts ws
take_words [] zero h = refl
take_words [] (suc k) h = refl
take_words (w ∷ ws) zero h = absurd (omega arith)
take_words (w ∷ ws) (suc k) h = ap (λ z. w.now ∷ z) (take_words ws k (omega arith))

-- ---- numbers

pub numbers_more : (ws : List (Bor Text)) (k : ℕ) (d : Bor Text) (ns : List ℕ) (n : ℕ) → k < length ws → IsNumeral (get_or ws k d).now n
    → TellsEach decimal IsShort (take k (texts ws)) ns → TellsEach decimal IsShort (take (k + 1) (texts ws)) (ns ++ n ∷ [])
numbers_more ws k d ns n h is t =
    subst (λ xs. TellsEach decimal IsShort xs (ns ++ n ∷ [])) (sym (take_word ws k d h)) (tells_more decimal IsShort (take k (texts ws)) (get_or ws k d).now ns n t is.digits is.short)

pub numbers_none : (ws : List (Bor Text)) (k : ℕ) (d : Bor Text) → k < length ws → ((n : ℕ) → IsNumeral (get_or ws k d).now n → ⊥) → (ns : List ℕ) → AreNumerals (texts ws) ns → ⊥
numbers_none ws k d h none ns a =
    let same = length_texts ws in
    tells_none decimal IsShort (texts ws) k (omega arith) (λ n e short. none n (record { digits = sym (word_at ws k d h) ∙ e; short = short })) ns
    (record { words_are = a.0; each = a.1 })

-- ---- items

pub item_avoids : (c : ℕ) → c < 45 → (item : Item) → IsShortItem item → Avoids c (item_text item)
item_avoids c h (One n) a = avoids_low c (omega arith) n a.0
item_avoids c h (Span low high) a = between c (decimal low) (decimal high) (avoids_low c (omega arith) low a.0) (avoids_low c (omega arith) high a.1.0) h
  where
    between : (c : ℕ) (xs ys : Text) → Avoids c xs → Avoids c ys → c < 45 → Avoids c (xs ++ 45 ∷ ys)
    between c [] ys a b h = (grind (arith, nat_tests), b)
    between c (x ∷ xs) ys a b h = (a.0, between c xs ys a.1 b h)

pub ends_parted : (item : Item) → IsShortItem item → parts_of 45 (item_text item) ≡ map decimal (ends_of item)
ends_parted (One n) a = split_joined 45 (decimal n) [] (avoids_low 45 (omega arith) n a.0, tt)
ends_parted (Span low high) a =
    split_joined 45 (decimal low) (decimal high ∷ []) (avoids_low 45 (omega arith) low a.0, (avoids_low 45 (omega arith) high a.1.0, tt))

pub item_told : (r : Option Item) (ws : List (Bor Text)) (word : Text) → texts ws ≡ parts_of 45 word → IsWhatTells AreEnds (texts ws) r → IsWhatTells IsItemWord word r
item_told (Some item) ws word e h =
    record { text_is = joined_parts 45 word (map decimal (ends_of item)) (sym e ∙ h.words_are); short = h.short }
item_told None ws word e h = λ item is.
    h item (record { words_are = e ∙ ap (parts_of 45) is.text_is ∙ ends_parted item is.short; short = is.short })

all_avoid : (items : List Item) → AllByRecursion IsShortItem items → AllByRecursion (Avoids 44) (map item_text items)
all_avoid [] a = tt
all_avoid (item ∷ items) a = (item_avoids 44 (omega arith) item a.0, all_avoid items a.1)

pub items_parted : (items : List Item) → items ≢ [] → AllByRecursion IsShortItem items → parts_of 44 (set_text items) ≡ map item_text items
items_parted [] some a = absurd (some refl)
items_parted (item ∷ items) some a = split_joined 44 (item_text item) (map item_text items) (all_avoid (item ∷ items) a)

pub items_more : (ws : List (Bor Text)) (k : ℕ) (d : Bor Text) (items : List Item) (item : Item) → k < length ws → IsItemWord (get_or ws k d).now item
    → TellsEach item_text IsShortItem (take k (texts ws)) items → TellsEach item_text IsShortItem (take (k + 1) (texts ws)) (items ++ item ∷ [])
items_more ws k d items item h is t =
    subst (λ xs. TellsEach item_text IsShortItem xs (items ++ item ∷ [])) (sym (take_word ws k d h))
    (tells_more item_text IsShortItem (take k (texts ws)) (get_or ws k d).now items item t is.text_is is.short)

pub items_none : (ws : List (Bor Text)) (k : ℕ) (d : Bor Text) → k < length ws → ((item : Item) → IsItemWord (get_or ws k d).now item → ⊥)
    → (items : List Item) → AreItemWords (texts ws) items → ⊥
items_none ws k d h none items are =
    let same = length_texts ws in
    tells_none item_text IsShortItem (texts ws) k (omega arith) (λ item eq short. none item (record { text_is = sym (word_at ws k d h) ∙ eq; short = short })) items
    (record { words_are = are.words_are; each = are.short })

pub items_all : (ws : List (Bor Text)) (k : ℕ) (items : List Item) → length ws ≤ k → TellsEach item_text IsShortItem (take k (texts ws)) items → AreItemWords (texts ws) items
items_all ws k items h t = record { words_are = sym (take_words ws k h) ∙ t.words_are; short = t.each }

parts_some : (c : ℕ) (text : Text) → parts_of c text ≡ [] → ⊥
parts_some c text e = let n = length-slice_split (λ b. b == c) text in let m = ap length e in omega arith

pub set_word_told : (r : Option (Vec Item Global)) (word : Text) (words : List Text) → words ≡ parts_of 44 word → IsWhatTellsItems AreItemWords words r → IsWhatTellsItems IsSetWord word r
set_word_told None word words e h = λ items is.
    h items (record { words_are = e ∙ ap (parts_of 44) is.text_is ∙ items_parted items is.some is.short; short = is.short })
set_word_told (Some items) word words e h =
    let parted : parts_of 44 word ≡ map item_text items.items = sym e ∙ h.words_are in
    record { text_is = joined_parts 44 word (map item_text items.items) parted; some = λ empty. parts_some 44 word (parted ∙ ap (map item_text) empty); short = h.short }

-- ---- rows

not_true : (b : Bool) → true ≡ not b → false ≡ b
not_true true e = cc
not_true false e = refl

not_false : (b : Bool) → false ≡ not b → true ≡ b
not_false true e = refl
not_false false e = cc

pub different : (xs ys : Text) → true ≡ not (pointwise nat_eq xs ys) → xs ≢ ys
different xs ys h = other_text xs ys (not_true (pointwise nat_eq xs ys) h)

pub same_word : (xs ys : Text) → false ≡ not (pointwise nat_eq xs ys) → xs ≡ ys
same_word xs ys h = same_text xs ys (not_false (pointwise nat_eq xs ys) h)

pub two_words : (ws : List (Bor Text)) (d e : Bor Text) (a b : Text) → 2 ≤ length ws → length ws < 3 → (get_or ws 0 d).now ≡ a → (get_or ws 1 e).now ≡ b
    → texts ws ≡ a ∷ b ∷ []
two_words (x ∷ y ∷ []) d e a b low high p q = cc
two_words ws d e a b low high p q = absurd (omega arith)

pub five_words : (ws : List (Bor Text)) (d0 d1 d2 d3 d4 : Bor Text) (a0 a1 a2 a3 a4 : Text) → 5 ≤ length ws → length ws < 6
    → (get_or ws 0 d0).now ≡ a0 → (get_or ws 1 d1).now ≡ a1 → (get_or ws 2 d2).now ≡ a2 → (get_or ws 3 d3).now ≡ a3 → (get_or ws 4 d4).now ≡ a4
    → texts ws ≡ a0 ∷ a1 ∷ a2 ∷ a3 ∷ a4 ∷ []
five_words (x0 ∷ x1 ∷ x2 ∷ x3 ∷ x4 ∷ []) d0 d1 d2 d3 d4 a0 a1 a2 a3 a4 low high p0 p1 p2 p3 p4 = cc
five_words ws d0 d1 d2 d3 d4 a0 a1 a2 a3 a4 low high p0 p1 p2 p3 p4 = absurd (omega arith)

pub seven_words : (ws : List (Bor Text)) (d0 d1 d2 d3 d4 d5 d6 : Bor Text) (a0 a1 a2 a3 a4 a5 a6 : Text) → 7 ≤ length ws → length ws < 8
    → (get_or ws 0 d0).now ≡ a0 → (get_or ws 1 d1).now ≡ a1 → (get_or ws 2 d2).now ≡ a2 → (get_or ws 3 d3).now ≡ a3 → (get_or ws 4 d4).now ≡ a4 → (get_or ws 5 d5).now ≡ a5
    → (get_or ws 6 d6).now ≡ a6 → texts ws ≡ a0 ∷ a1 ∷ a2 ∷ a3 ∷ a4 ∷ a5 ∷ a6 ∷ []
seven_words (x0 ∷ x1 ∷ x2 ∷ x3 ∷ x4 ∷ x5 ∷ x6 ∷ []) d0 d1 d2 d3 d4 d5 d6 a0 a1 a2 a3 a4 a5 a6 low high p0 p1 p2 p3 p4 p5 p6 = cc
seven_words ws d0 d1 d2 d3 d4 d5 d6 a0 a1 a2 a3 a4 a5 a6 low high p0 p1 p2 p3 p4 p5 p6 = absurd (omega arith)

-- a number after its word
pub number_told : (r : Option ℕ) (key word : Text) (words : List Text) → words ≡ key ∷ word ∷ [] → IsWhatTells IsNumeral word r → IsWhatTells (IsNumberRow key) words r
number_told None key word words e h = λ n row. h n (record { digits = ap (λ ws. get_or ws 1 []) (sym e ∙ row.words_are); short = row.short })
number_told (Some n) key word words e h = record { words_are = e ∙ ap (λ w. key ∷ w ∷ []) h.digits; short = h.short }

-- limits after their word
pub limits_told : (r : Option Limits) (chambers tiles vertices filter : Text) (words : List Text) → words ≡ codes "request" ∷ chambers ∷ tiles ∷ vertices ∷ filter ∷ []
    → MatchOption r ((limits : Limits) → AreLimitWords chambers tiles vertices filter limits → ⊥) (AreLimitWords chambers tiles vertices filter) → IsWhatTells IsLimitsRow words r
limits_told None chambers tiles vertices filter words e h = λ limits row.
    let same = sym e ∙ row.words_are in
    h limits (record {
      chambers_is = record { digits = ap (λ ws. get_or ws 1 []) same; short = row.chambers };
      tiles_is = record { digits = ap (λ ws. get_or ws 2 []) same; short = row.tiles };
      vertices_is = record { digits = ap (λ ws. get_or ws 3 []) same; short = row.vertices };
      filter_is = ap (λ ws. get_or ws 4 []) same;
    })
limits_told (Some limits) chambers tiles vertices filter words e h = record {
  words_are = e ∙ (λ i. codes "request" ∷ h.chambers_is.digits i ∷ h.tiles_is.digits i ∷ h.vertices_is.digits i ∷ h.filter_is i ∷ []);
  chambers = h.chambers_is.short;
  tiles = h.tiles_is.short;
  vertices = h.vertices_is.short;
}

-- limits of version 1 after their word
pub old_limits_told : (r : Option OldLimits) (chambers tiles vertices face degree filter : Text) (words : List Text)
    → words ≡ codes "request" ∷ chambers ∷ tiles ∷ vertices ∷ face ∷ degree ∷ filter ∷ []
    → MatchOption r ((limits : OldLimits) → AreOldLimitWords chambers tiles vertices face degree filter limits → ⊥) (AreOldLimitWords chambers tiles vertices face degree filter)
    → IsWhatTells IsOldLimitsRow words r
old_limits_told None chambers tiles vertices face degree filter words e h = λ limits row.
    let same = sym e ∙ row.words_are in
    h limits (record {
      limits_are = record {
        chambers_is = record { digits = ap (λ ws. get_or ws 1 []) same; short = row.chambers };
        tiles_is = record { digits = ap (λ ws. get_or ws 2 []) same; short = row.tiles };
        vertices_is = record { digits = ap (λ ws. get_or ws 3 []) same; short = row.vertices };
        filter_is = ap (λ ws. get_or ws 6 []) same;
      };
      face_is = record { digits = ap (λ ws. get_or ws 4 []) same; short = row.least_face };
      degree_is = record { digits = ap (λ ws. get_or ws 5 []) same; short = row.least_degree };
    })
old_limits_told (Some limits) chambers tiles vertices face degree filter words e h =
    let is = h.limits_are in
    record {
      words_are = e ∙ (λ i. codes "request" ∷ is.chambers_is.digits i ∷ is.tiles_is.digits i ∷ is.vertices_is.digits i ∷ h.face_is.digits i ∷ h.degree_is.digits i ∷ is.filter_is i ∷ []);
      chambers = is.chambers_is.short;
      tiles = is.tiles_is.short;
      vertices = is.vertices_is.short;
      least_face = h.face_is.short;
      least_degree = h.degree_is.short;
    }

-- no value, for a reason
pub match_none : {A P : Type 0} (Q : A → Type 0) (r : Option A) → r ≡ None → P → MatchOption r P Q
match_none {P = P} Q r e p = subst (λ x. MatchOption x P Q) (sym e) p

-- a set after its word
pub set_told : (r : Option (Vec Item Global)) (key word : Text) (words : List Text) → words ≡ key ∷ word ∷ [] → IsWhatTellsItems IsSetWord word r → IsWhatTellsItems (IsSetRow key) words r
set_told None key word words e h = λ items row.
    h items (record { text_is = ap (λ ws. get_or ws 1 []) (sym e ∙ row.words_are); some = row.some; short = row.short })
set_told (Some items) key word words e h = record { words_are = e ∙ ap (λ w. key ∷ w ∷ []) h.text_is; some = h.some; short = h.short }

-- whether the first line is the one that is asked for
pub is_first_line : (ls : List (Bor Text)) (d : Bor Text) (line : Text) (b : Bool) → b ≡ pointwise nat_eq (get_or ls 0 d).now line → 1 < length ls
    → IsTrue b ↔ IsLine (texts ls) 1 line
is_first_line ls d line b e more = (
  λ t. record { ended = let n = length_texts ls in omega arith; line_is = word_at ls 0 d (omega arith) ∙ same_text (get_or ls 0 d).now line (sym t ∙ e) },
  λ l. by_case b e (sym (word_at ls 0 d (omega arith)) ∙ l.line_is),
)
  where
    by_case : (t : Bool) → t ≡ pointwise nat_eq (get_or ls 0 d).now line → (get_or ls 0 d).now ≡ line → IsTrue t
    by_case true p same = refl
    by_case false p same = absurd (other_text (get_or ls 0 d).now line p same)
