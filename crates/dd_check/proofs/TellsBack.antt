-- A text that stands for values tells them, line by line.
use Rattle.std.proofs.Common.{◌≡◌, ◌≢◌, inl, inr, suc, ℕ, ◌*◌, ◌<◌, ◌≤◌, ◌==◌, Bool, true, false, List, [], ◌∷◌, ◌++◌, length, map, refl, sym, ap, ◌∙◌, subst, arith}
use Rattle.std.specs.Prelude.{decimal, codes, not, slice_index}
use Rattle.std.specs.List.{AllByRecursion, join_with_byte, list_all}
use Rattle.std.proofs.lemmas.Bool.{and_parts, cases_lt}
use Rattle.dd_model.specs.declared.jobs.Job.{Job}
use Rattle.dd_model.specs.declared.jobs.Position.{Position}
use Rattle.dd_model.specs.declared.jobs.Position.TheVariants.{At, End}
use Rattle.dd_check.specs.declared.checkpoint.Checkpoint.{Checkpoint}
use Rattle.dd_check.specs.declared.raw_values.Item.{Item}
use Rattle.dd_check.specs.declared.raw_values.Item.TheVariants.{One, Span}
use Rattle.dd_check.specs.declared.raw_values.Limits.{Limits}
use Rattle.dd_check.specs.declared.raw_values.OldLimits.{OldLimits}
use Rattle.dd_model.specs.declared.allowed.Allowed.{Allowed}
use Rattle.dd_model.specs.Request.{HasNumber}
use Rattle.dd_check.proofs.SetReads.{no_number}
use Rattle.dd_check.specs.Texts.{Text, lines_of, words_of}
use Rattle.dd_check.specs.Numerals.{IsShort}
use Rattle.dd_check.specs.Sets.{item_text, set_text, IsItem, AreItems, IsSetOf, HasNumberIn}
use Rattle.dd_check.specs.Rows.{IsShortItem, number_row, filter_word, limits_row, old_limits_row, set_row, place_row, IsShortPlace, IsNumberRow, IsLimitsRow, IsOldLimitsRow, IsPlaceRow}
use Rattle.dd_check.specs.Ranges.{IsRun, IsCount, AreLimits, AreOldLimits, IsJobInRange, IsInRange, IsInOldRange}
use Rattle.dd_check.specs.Checks.{limits_of, old_limits_of, StandsFor, OldStandsFor}
use Rattle.dd_check.specs.Faults.{IsLine, IsNew, IsOld}
use Rattle.dd_check.specs.Lines.{IsToldInRange, IsToldSet}
use Rattle.dd_check.specs.Readings.{TellsCheck, TellsOldCheck}
use Rattle.dd_check.proofs.JoinLemmas.{Avoids, split_joined, avoids_joined, lines_page}
use Rattle.dd_check.proofs.NumberLemmas.{avoids_low}
use Rattle.dd_check.proofs.WordReads.{item_avoids}

-- a text without the byte, by a test
pub avoids_by_test : (c : ℕ) (xs : Text) → list_all (λ b. not (b == c)) xs ≡ true → Avoids c xs
avoids_by_test c [] h = tt
avoids_by_test c (x ∷ xs) h = let both = and_parts (not (x == c)) (list_all (λ b. not (b == c)) xs) h in (flip (x == c) both.0, avoids_by_test c xs both.1)
  where
    flip : (b : Bool) → not b ≡ true → b ≡ false
    flip true e = cc
    flip false e = refl

-- neither a space nor a line feed stands in the word
pub record IsWord (word : Text) : Type 0 where
  pub spaces : Avoids 32 word
  pub feeds : Avoids 10 word

pub key_word : (key : Text) → list_all (λ b. not (b == 32)) key ≡ true → list_all (λ b. not (b == 10)) key ≡ true → IsWord key
key_word key a b = record { spaces = avoids_by_test 32 key a; feeds = avoids_by_test 10 key b }

pub number_word : (n : ℕ) → IsShort n → IsWord (decimal n)
number_word n h = record { spaces = avoids_low 32 (omega arith) n h; feeds = avoids_low 10 (omega arith) n h }

pub filter_is_word : (minimal : Bool) → IsWord (filter_word minimal)
filter_is_word true = key_word (codes "minimal") refl refl
filter_is_word false = key_word (codes "all") refl refl

items_avoid : (c : ℕ) → c < 44 → (items : List Item) → AllByRecursion IsShortItem items → AllByRecursion (Avoids c) (map item_text items)
items_avoid c h [] a = tt
items_avoid c h (item ∷ items) a = (item_avoids c (omega arith) item a.0, items_avoid c h items a.1)

pub set_word : (items : List Item) → AllByRecursion IsShortItem items → IsWord (set_text items)
set_word items a = record {
  spaces = avoids_joined 32 44 (map item_text items) refl (items_avoid 32 (omega arith) items a);
  feeds = avoids_joined 10 44 (map item_text items) refl (items_avoid 10 (omega arith) items a);
}

numbers_words : (ns : List ℕ) → AllByRecursion IsShort ns → AllByRecursion IsWord (map decimal ns)
numbers_words [] a = tt
numbers_words (n ∷ ns) a = (number_word n a.0, numbers_words ns a.1)

pub place_words : (at : Position) → IsShortPlace at → AllByRecursion IsWord (place_row at)
place_words End h = (key_word (codes "at") refl refl, (key_word (codes "end") refl refl, tt))
place_words (At job) h = (key_word (codes "at") refl refl, (number_word job.size h.size, numbers_words job.prefix h.numbers))

all_spaces : (ws : List Text) → AllByRecursion IsWord ws → AllByRecursion (Avoids 32) ws
all_spaces [] a = tt
all_spaces (w ∷ ws) a = (a.0.spaces, all_spaces ws a.1)

place_row_words : (at : Position) → IsShortPlace at → words_of (join_with_byte 32 (place_row at)) ≡ place_row at
place_row_words End h = refl
place_row_words (At job) h = split_joined 32 (codes "at") (decimal job.size ∷ map decimal job.prefix) (all_spaces (codes "at" ∷ decimal job.size ∷ map decimal job.prefix) (place_words (At job) h))

all_feeds : (ws : List Text) → AllByRecursion IsWord ws → AllByRecursion (Avoids 10) ws
all_feeds [] a = tt
all_feeds (w ∷ ws) a = (a.0.feeds, all_feeds ws a.1)

pub row_words : (w : Text) (ws : List Text) → AllByRecursion IsWord (w ∷ ws) → words_of (join_with_byte 32 (w ∷ ws)) ≡ w ∷ ws
row_words w ws a = split_joined 32 w ws (all_spaces (w ∷ ws) a)

pub row_feeds : (ws : List Text) → AllByRecursion IsWord ws → Avoids 10 (join_with_byte 32 ws)
row_feeds ws a = avoids_joined 10 32 ws refl (all_feeds ws a)

-- ---- from ranges to short numbers

short_item : (item : Item) → IsItem item → IsShortItem item
short_item (One n) h = let a = h.1 in (omega arith, tt)
short_item (Span low high) h = let a = h.1 in let b = h.2 in (omega arith, (omega arith, tt))

pub short_items : (items : List Item) → AllByRecursion IsItem items → AllByRecursion IsShortItem items
short_items [] a = tt
short_items (item ∷ items) a = (short_item item a.0, short_items items a.1)

short_numbers : (ns : List ℕ) → ((t : ℕ) → t < length ns → slice_index ns t ≤ 216) → AllByRecursion IsShort ns
short_numbers [] h = tt
short_numbers (n ∷ ns) h = let first = h 0 (omega arith) in (omega arith, short_numbers ns (λ t low. h (suc t) (omega arith)))

pub small_numbers : (n : ℕ) (job : Job) → n ≤ 36 → IsJobInRange n job → (t : ℕ) → t < length job.prefix → slice_index job.prefix t ≤ 216
small_numbers n job small h t low = elim (cases_lt t (3 * job.size)) [
  | inl image ↦ let s = h.size.1 in let i = h.numbers.images t low image in let j = i.1 in omega arith
  | inr degree ↦ (h.numbers.degrees t low degree).1
]

short_place : (n : ℕ) (at : Position) → n ≤ 36 → IsInRange n at → IsShortPlace at
short_place n End small h = tt
short_place n (At job) small h = record { size = let s = h.size.1 in omega arith; numbers = short_numbers job.prefix (small_numbers n job small h) }

old_short_place : (n : ℕ) (at : Position) → n ≤ 36 → IsInOldRange n at → IsShortPlace at
old_short_place n End small h = tt
old_short_place n (At job) small h = record { size = let s = h.size.1 in omega arith; numbers = short_numbers job.prefix each }
  where
    each : (t : ℕ) → t < length job.prefix → slice_index job.prefix t ≤ 216
    each t low = let s = h.size.1 in let i = h.numbers.images t low in let j = i.1 in omega arith

-- ---- the lines of a row

row_told : {A : Type 0} (lines : List Text) (k : ℕ) (form : List Text → A → Type 0) (in_range : A → Type 0) (a : A) (line : Text) → IsLine lines k line → form (words_of line) a → in_range a
    → IsToldInRange lines k form in_range a
row_told lines k form in_range a line is f r = record { tells = record { line = line; is_line = is; form_is = f }; in_range = r }

number_told : (lines : List Text) (k : ℕ) (key : Text) (in_range : ℕ → Type 0) (n : ℕ) → IsWord key → IsShort n → IsLine lines k (join_with_byte 32 (number_row key n)) → in_range n
    → IsToldInRange lines k (IsNumberRow key) in_range n
number_told lines k key in_range n word short is r =
    row_told lines k (IsNumberRow key) in_range n (join_with_byte 32 (number_row key n)) is (record { words_are = row_words key (decimal n ∷ []) (word, (number_word n short, tt)); short = short }) r

number_is_row : (key : Text) (n : ℕ) → IsWord key → IsShort n → AllByRecursion IsWord (number_row key n)
number_is_row key n word short = (word, (number_word n short, tt))

limits_is_row : (l : Limits) → IsShort l.chambers → IsShort l.tiles → IsShort l.vertices → AllByRecursion IsWord (limits_row l)
limits_is_row l n t v =
    (key_word (codes "request") refl refl, (number_word l.chambers n, (number_word l.tiles t, (number_word l.vertices v, (filter_is_word l.minimal, tt)))))

old_limits_is_row : (l : OldLimits) → IsShort l.chambers → IsShort l.tiles → IsShort l.vertices → IsShort l.least_face → IsShort l.least_degree → AllByRecursion IsWord (old_limits_row l)
old_limits_is_row l n t v f g =
    (key_word (codes "request") refl refl, (number_word l.chambers n, (number_word l.tiles t, (number_word l.vertices v, (number_word l.least_face f, (number_word l.least_degree g, (filter_is_word l.minimal, tt)))))))

set_is_row : (key : Text) (items : List Item) → IsWord key → AllByRecursion IsShortItem items → AllByRecursion IsWord (set_row key items)
set_is_row key items word short = (word, (set_word items short, tt))

set_told_back : (lines : List Text) (k : ℕ) (key : Text) (set : Allowed) (items : List Item) → IsWord key → AreItems items → items ≢ [] → IsSetOf items set
    → IsLine lines k (join_with_byte 32 (set_row key items)) → IsToldSet lines k key set
set_told_back lines k key set items word are some is line = record {
  items = items;
  tells = record {
    line = join_with_byte 32 (set_row key items);
    is_line = line;
    form_is = record {
      words_are = row_words key (set_text items ∷ []) (set_is_row key items word (short_items items are.each));
      some = some;
      short = short_items items are.each;
    };
  };
  are_items = are;
  set_is = is;
}

some_items : (items : List Item) (set : Allowed) → HasNumber set → IsSetOf items set → items ≢ []
some_items items set has is empty = no_number has.0 (subst (λ xs. HasNumberIn xs has.0) empty ((is has.0).0 has.1))

row_lines : (rows : List (List Text)) → AllByRecursion (AllByRecursion IsWord) rows → AllByRecursion (λ row. Avoids 10 (join_with_byte 32 row)) rows
row_lines [] a = tt
row_lines (row ∷ rows) a = (row_feeds row a.0, row_lines rows a.1)

-- ---- version 2

pub tells_back : (text : Text) (c : Checkpoint) → StandsFor text c → IsNew (lines_of text) × TellsCheck (lines_of text) c
tells_back text c s = subst (λ ls. IsNew ls × TellsCheck ls c) (sym (ap lines_of s.check.text_is ∙ ap (λ z. codes "dressline checkpoint 2" ∷ z) (lines_page rows (row_lines rows words)))) told
  where
    f : List Item
    f = s.check.faces

    d : List Item
    d = s.check.degrees

    run_short : IsShort c.run
    run_short = let r = s.counts.run.1 in omega arith

    lines_short : IsShort c.lines
    lines_short = let r = s.counts.lines.1 in omega arith

    bytes_short : IsShort c.bytes
    bytes_short = let r = s.counts.bytes.1 in omega arith

    limits_words : AllByRecursion IsWord (limits_row (limits_of c.request))
    limits_words =
        let n = s.valid.chambers.1 in let t = s.valid.tiles in let v = s.valid.vertices in
        limits_is_row (limits_of c.request) (omega arith) (omega arith) (omega arith)

    place_short : IsShortPlace c.at
    place_short = short_place c.request.chambers c.at s.valid.chambers.1 s.place

    rows : List (List Text)
    rows =
        number_row (codes "run") c.run ∷ limits_row (limits_of c.request) ∷ set_row (codes "faces") f ∷ set_row (codes "degrees") d ∷
        number_row (codes "lines") c.lines ∷ number_row (codes "bytes") c.bytes ∷ place_row c.at ∷ []

    words : AllByRecursion (AllByRecursion IsWord) rows
    words = (
      number_is_row (codes "run") c.run (key_word (codes "run") refl refl) run_short,
      (
        limits_words,
        (
          set_is_row (codes "faces") f (key_word (codes "faces") refl refl) (short_items f s.check.are_faces.each),
          (
            set_is_row (codes "degrees") d (key_word (codes "degrees") refl refl) (short_items d s.check.are_degrees.each),
            (
              number_is_row (codes "lines") c.lines (key_word (codes "lines") refl refl) lines_short,
              (
                number_is_row (codes "bytes") c.bytes (key_word (codes "bytes") refl refl) bytes_short,
                (place_words c.at place_short, tt),
              ),
            ),
          ),
        ),
      ),
    )

    ls : List Text
    ls = codes "dressline checkpoint 2" ∷ (map (join_with_byte 32) rows ++ [] ∷ [])

    told : IsNew ls × TellsCheck ls c
    told = (
      record { ended = omega arith; line_is = refl },
      record {
        run = number_told ls 2 (codes "run") IsRun c.run (key_word (codes "run") refl refl) run_short (record { ended = omega arith; line_is = refl }) s.counts.run;
        limits = row_told ls 3 IsLimitsRow AreLimits (limits_of c.request) (join_with_byte 32 (limits_row (limits_of c.request))) (record { ended = omega arith; line_is = refl })
            (let n = s.valid.chambers.1 in let t = s.valid.tiles in let v = s.valid.vertices in
            record { words_are = row_words _ _ limits_words; chambers = omega arith; tiles = omega arith; vertices = omega arith })
            (record { chambers = s.valid.chambers; tiles = s.valid.tiles; vertices = s.valid.vertices });
        faces = set_told_back ls 4 (codes "faces") c.request.faces f (key_word (codes "faces") refl refl) s.check.are_faces
            (some_items f c.request.faces s.valid.faces s.check.face_set) s.check.face_set (record { ended = omega arith; line_is = refl });
        degrees = set_told_back ls 5 (codes "degrees") c.request.degrees d (key_word (codes "degrees") refl refl) s.check.are_degrees
            (some_items d c.request.degrees s.valid.degrees s.check.degree_set) s.check.degree_set (record { ended = omega arith; line_is = refl });
        count = number_told ls 6 (codes "lines") IsCount c.lines (key_word (codes "lines") refl refl) lines_short (record { ended = omega arith; line_is = refl }) s.counts.lines;
        bytes = number_told ls 7 (codes "bytes") IsCount c.bytes (key_word (codes "bytes") refl refl) bytes_short (record { ended = omega arith; line_is = refl }) s.counts.bytes;
        at = row_told ls 8 IsPlaceRow (IsInRange c.request.chambers) c.at (join_with_byte 32 (place_row c.at)) (record { ended = omega arith; line_is = refl })
            (record { words_are = place_row_words c.at place_short; told = s.told; short = place_short }) s.place;
        end = record { count = refl; empty = refl };
      },
    )

-- ---- version 1

pub old_tells_back : (text : Text) (c : Checkpoint) → OldStandsFor text c → IsOld (lines_of text) × TellsOldCheck (lines_of text) c
old_tells_back text c s = subst (λ ls. IsOld ls × TellsOldCheck ls c) (sym (ap lines_of s.text_is ∙ ap (λ z. codes "dressline checkpoint 1" ∷ z) (lines_page rows (row_lines rows words)))) told
  where
    run_short : IsShort c.run
    run_short = let r = s.counts.run.1 in omega arith

    lines_short : IsShort c.lines
    lines_short = let r = s.counts.lines.1 in omega arith

    bytes_short : IsShort c.bytes
    bytes_short = let r = s.counts.bytes.1 in omega arith

    limits : OldLimits
    limits = old_limits_of c.request s.face s.degree

    limits_words : AllByRecursion IsWord (old_limits_row limits)
    limits_words =
        let n = s.valid.chambers.1 in
        let t = s.valid.tiles in
        let v = s.valid.vertices in
        let f = s.face_range.1 in
        let g = s.degree_range.1 in
        old_limits_is_row limits (omega arith) (omega arith) (omega arith) (omega arith) (omega arith)

    place_short : IsShortPlace c.at
    place_short = old_short_place c.request.chambers c.at s.valid.chambers.1 s.place

    rows : List (List Text)
    rows =
        number_row (codes "run") c.run ∷ old_limits_row limits ∷ number_row (codes "lines") c.lines ∷ number_row (codes "bytes") c.bytes ∷ place_row c.at ∷ []

    words : AllByRecursion (AllByRecursion IsWord) rows
    words = (
      number_is_row (codes "run") c.run (key_word (codes "run") refl refl) run_short,
      (
        limits_words,
        (
          number_is_row (codes "lines") c.lines (key_word (codes "lines") refl refl) lines_short,
          (
            number_is_row (codes "bytes") c.bytes (key_word (codes "bytes") refl refl) bytes_short,
            (place_words c.at place_short, tt),
          ),
        ),
      ),
    )

    ls : List Text
    ls = codes "dressline checkpoint 1" ∷ (map (join_with_byte 32) rows ++ [] ∷ [])

    told : IsOld ls × TellsOldCheck ls c
    told = (
      record { ended = omega arith; line_is = refl },
      record {
        face = s.face;
        degree = s.degree;
        run = number_told ls 2 (codes "run") IsRun c.run (key_word (codes "run") refl refl) run_short (record { ended = omega arith; line_is = refl }) s.counts.run;
        limits = row_told ls 3 IsOldLimitsRow AreOldLimits limits (join_with_byte 32 (old_limits_row limits)) (record { ended = omega arith; line_is = refl })
            (let n = s.valid.chambers.1 in
            let t = s.valid.tiles in
            let v = s.valid.vertices in
            let f = s.face_range.1 in
            let g = s.degree_range.1 in
            record {
              words_are = row_words _ _ limits_words;
              chambers = omega arith;
              tiles = omega arith;
              vertices = omega arith;
              least_face = omega arith;
              least_degree = omega arith;
            })
            (record { chambers = s.valid.chambers; tiles = s.valid.tiles; vertices = s.valid.vertices; least_face = s.face_range; least_degree = s.degree_range });
        face_set = s.face_set;
        degree_set = s.degree_set;
        count = number_told ls 4 (codes "lines") IsCount c.lines (key_word (codes "lines") refl refl) lines_short (record { ended = omega arith; line_is = refl }) s.counts.lines;
        bytes = number_told ls 5 (codes "bytes") IsCount c.bytes (key_word (codes "bytes") refl refl) bytes_short (record { ended = omega arith; line_is = refl }) s.counts.bytes;
        at = row_told ls 6 IsPlaceRow (IsInOldRange c.request.chambers) c.at (join_with_byte 32 (place_row c.at)) (record { ended = omega arith; line_is = refl })
            (record { words_are = place_row_words c.at place_short; told = s.told; short = place_short }) s.place;
        end = record { count = refl; empty = refl };
      },
    )
