-- A text with numbers in range is short.
use Rattle.std.proofs.Common.{◌≡◌, ◌≢◌, ◌⊎◌, ℕ, suc, ◌+◌, ◌*◌, ◌<◌, ◌≤◌, Bool, true, false, List, [], ◌∷◌, ◌++◌, length, ap, inl, inr, arith}
use Rattle.std.specs.Prelude.{decimal, codes, slice_index}
use Rattle.std.specs.List.{AllByRecursion, flat_map, join_with_byte}
use Rattle.std.proofs.lemmas.Fmt.{length-decimal-le}
use Rattle.std.proofs.lemmas.List.{length-append}
use Rattle.dd_model.specs.Line.{after_space}
use Rattle.dd_model.specs.declared.jobs.Position.{Position}
use Rattle.dd_model.specs.declared.jobs.Position.TheVariants.{At, End}
use Rattle.dd_check.specs.declared.checkpoint.Checkpoint.{Checkpoint}
use Rattle.dd_check.specs.declared.raw_values.Item.{Item}
use Rattle.dd_check.specs.declared.raw_values.Item.TheVariants.{One, Span}
use Rattle.dd_check.specs.declared.raw_values.Limits.{Limits}
use Rattle.dd_check.specs.Texts.{Text, line_text, page}
use Rattle.dd_check.specs.Sets.{item_text, set_text, low_of, high_of, IsItem, AreParted, AreItems}
use Rattle.dd_check.specs.Rows.{number_row, filter_word, limits_row, set_row, place_row, IsTold}
use Rattle.dd_check.specs.Ranges.{IsInRange}
use Rattle.dd_check.specs.Checks.{limits_of, IsCheckText, AreCountsInRange, StandsFor}
use Rattle.dd_model.specs.Request.{IsValid}
use Rattle.dd_model.specs.declared.requests.Request.{Request}
use Rattle.dd_model.specs.declared.jobs.Job.{Job}
use Rattle.dd_front_jobs.specs.Opening.{IsOpeningJob}
use Rattle.dd_check.specs.Places.{IsWholePlace, IsPlace}
use Rattle.dd_check.specs.Accepted.{IsCheckpointText}
use Rattle.dd_check.proofs.JoinLemmas.{numbers_joined}
use Rattle.dd_check.proofs.TellsBack.{small_numbers}
use Rattle.dd_check.proofs.SetReads.{all_low, ends_in_order}

three_digits : (n : ℕ) → n ≤ 216 → length (decimal n) ≤ 3
three_digits n h = length-decimal-le 3 n (omega arith) (omega arith) (omega arith)

nineteen_digits : (n : ℕ) → n ≤ 1000000000000000000 → length (decimal n) ≤ 19
nineteen_digits n h = length-decimal-le 19 n (omega arith) (omega arith) (omega arith)

two_joined : (c : ℕ) (a b : Text) → length (join_with_byte c (a ∷ b ∷ [])) ≡ length a + (length b + 1)
two_joined c a b = let l = length-append a (c ∷ b) in omega arith

seven_bytes : (item : Item) → IsItem item → length (item_text item) ≤ 7
seven_bytes (One n) h = let d = three_digits n h.1 in omega arith
seven_bytes (Span low high) h =
    let o = h.1 in
    let k = h.2 in
    let a = three_digits low (omega arith) in
    let b = three_digits high h.2 in
    let l = length-append (decimal low) (45 ∷ decimal high) in
    omega arith

high_small : (item : Item) → IsItem item → high_of item ≤ 216
high_small (One n) h = h.1
high_small (Span low high) h = h.2

set_bytes : (items : List Item) (least : ℕ) → least ≤ 218 → AllByRecursion IsItem items → AreParted items → AllByRecursion (λ item. least ≤ low_of item) items
    → length (set_text items) + 4 * least ≤ 880
set_bytes [] least h a p low = omega arith
set_bytes (item ∷ []) least h a p low =
    let s = seven_bytes item a.0 in
    let o = ends_in_order item a.0 in
    let k = high_small item a.0 in
    let l = low.0 in
    omega arith
set_bytes (item ∷ other ∷ items) least h a p low =
    let k = high_small item a.0 in
    let rest = set_bytes (other ∷ items) (high_of item + 2) (omega arith) a.1 p.1 p.0 in
    let s = seven_bytes item a.0 in
    let o = ends_in_order item a.0 in
    let l = low.0 in
    let e = length-append (item_text item) (44 ∷ set_text (other ∷ items)) in
    omega arith

set_line : (key : Text) (items : List Item) → AreItems items → length (join_with_byte 32 (set_row key items)) ≤ length key + 881
set_line key items are =
    let s = set_bytes items 0 (omega arith) are.each are.parted (all_low items) in
    let j = two_joined 32 key (set_text items) in
    omega arith

number_line : (key : Text) (n : ℕ) → n ≤ 1000000000000000000 → length (join_with_byte 32 (number_row key n)) ≤ length key + 20
number_line key n h =
    let d = nineteen_digits n h in
    let j = two_joined 32 key (decimal n) in
    omega arith

filter_bytes : (minimal : Bool) → length (filter_word minimal) ≤ 7
filter_bytes true = omega arith
filter_bytes false = omega arith

limits_line : (l : Limits) → l.chambers ≤ 36 → l.tiles ≤ 36 → l.vertices ≤ 36 → length (join_with_byte 32 (limits_row l)) ≤ 27
limits_line l n t v =
    let a = three_digits l.chambers (omega arith) in
    let b = three_digits l.tiles (omega arith) in
    let c = three_digits l.vertices (omega arith) in
    let f = filter_bytes l.minimal in
    let p = length-append (decimal l.vertices) (32 ∷ filter_word l.minimal) in
    let q = length-append (decimal l.tiles) (32 ∷ (decimal l.vertices ++ 32 ∷ filter_word l.minimal)) in
    let r = length-append (decimal l.chambers) (32 ∷ (decimal l.tiles ++ 32 ∷ (decimal l.vertices ++ 32 ∷ filter_word l.minimal))) in
    omega arith

numbers_bytes : (ns : List ℕ) → ((t : ℕ) → t < length ns → slice_index ns t ≤ 216) → length (flat_map after_space ns) ≤ 4 * length ns
numbers_bytes [] h = omega arith
numbers_bytes (n ∷ ns) h =
    let d = three_digits n (h 0 (omega arith)) in
    let rest = numbers_bytes ns (λ t low. h (suc t) (omega arith)) in
    let l = length-append (after_space n) (flat_map after_space ns) in
    omega arith

place_line : (n : ℕ) (at : Position) → n ≤ 36 → IsInRange n at → length (join_with_byte 32 (place_row at)) ≤ 726
place_line n End small h = omega arith
place_line n (At job) small h =
    let e = ap (λ z. length z) (numbers_joined (codes "at") (job.size ∷ job.prefix)) in
    let size = h.size.1 in
    let few = h.few in
    let d = three_digits job.size (omega arith) in
    let ns = numbers_bytes job.prefix (small_numbers n job small h) in
    let l = length-append (after_space job.size) (flat_map after_space job.prefix) in
    omega arith

page_more : (row : List Text) (rows : List (List Text)) → length (page (row ∷ rows)) ≡ length (join_with_byte 32 row) + 1 + length (page rows)
page_more row rows =
    let a = length-append (line_text row) (page rows) in
    let b = length-append (join_with_byte 32 row) (10 ∷ []) in
    omega arith

pub short_text : (text : Text) (c : Checkpoint) → StandsFor text c → length text ≤ 4096
short_text text c s =
    let e = ap (λ z. length z) s.check.text_is in
    let head = length-append (codes "dressline checkpoint 2\n") (page r1) in
    let p1 = page_more (number_row (codes "run") c.run) r2 in
    let p2 = page_more (limits_row (limits_of c.request)) r3 in
    let p3 = page_more (set_row (codes "faces") s.check.faces) r4 in
    let p4 = page_more (set_row (codes "degrees") s.check.degrees) r5 in
    let p5 = page_more (number_row (codes "lines") c.lines) r6 in
    let p6 = page_more (number_row (codes "bytes") c.bytes) r7 in
    let p7 = page_more (place_row c.at) [] in
    let run = s.counts.run.1 in
    let b1 = number_line (codes "run") c.run (omega arith) in
    let b2 = limits_line (limits_of c.request) s.valid.chambers.1 s.valid.tiles s.valid.vertices in
    let b3 = set_line (codes "faces") s.check.faces s.check.are_faces in
    let b4 = set_line (codes "degrees") s.check.degrees s.check.are_degrees in
    let b5 = number_line (codes "lines") c.lines s.counts.lines.1 in
    let b6 = number_line (codes "bytes") c.bytes s.counts.bytes.1 in
    let b7 = place_line c.request.chambers c.at s.valid.chambers.1 s.place in
    omega arith
  where
    r7 : List (List Text)
    r7 = place_row c.at ∷ []

    r6 : List (List Text)
    r6 = number_row (codes "bytes") c.bytes ∷ r7

    r5 : List (List Text)
    r5 = number_row (codes "lines") c.lines ∷ r6

    r4 : List (List Text)
    r4 = set_row (codes "degrees") s.check.degrees ∷ r5

    r3 : List (List Text)
    r3 = set_row (codes "faces") s.check.faces ∷ r4

    r2 : List (List Text)
    r2 = limits_row (limits_of c.request) ∷ r3

    r1 : List (List Text)
    r1 = number_row (codes "run") c.run ∷ r2

-- a job of the opening, or one with as many numbers as a whole code, has a number
some_numbers : (q : Request) (job : Job) → 1 ≤ job.size → IsOpeningJob q job ⊎ IsWholePlace q job → job.prefix ≢ []
some_numbers q job h (inl o) e = let n = o.numbers in let m = ap (λ z. length z) e in omega arith
some_numbers q job h (inr w) e = let n = w.whole in let m = ap (λ z. length z) e in omega arith

told_at : (q : Request) (at : Position) → IsInRange q.chambers at → IsPlace q at → IsTold at
told_at q End r p = tt
told_at q (At job) r p = some_numbers q job r.size.0 p

pub written_reads_back : (c : Checkpoint) (text : Text) → IsCheckText c text → AreCountsInRange c → IsValid c.request → IsInRange c.request.chambers c.at → IsPlace c.request c.at
    → IsCheckpointText text c
written_reads_back c text check counts valid r p =
    let stands : StandsFor text c = record { check = check; counts = counts; valid = valid; told = told_at c.request c.at r p; place = r } in
    inl (record { short = short_text text c stands; stands = stands; place = p })
