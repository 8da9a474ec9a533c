-- A text that was put is read as what was put, or is no checkpoint text.
use Rattle.std.proofs.Common.{◌≡◌, ◌⊎◌, ℕ, suc, ◌-◌, ◌^◌, ◌<◌, ◌≤◌, List, [], ◌∷◌, ◌++◌, length, get_or, map, slice_index_or, refl, sym, ap, ◌∙◌, subst, inl, inr, ⊎_elim, arith}
use Rattle.std.specs.Prelude.{decimal, codes, slice_index}
use Rattle.std.specs.List.{AllByRecursion, join_with_byte}
use Rattle.std.proofs.lemmas.Bool.{cases_lt, ne_eqb}
use Rattle.dd_model.specs.Request.{IsValid}
use Rattle.dd_model.specs.declared.jobs.Position.{Position}
use Rattle.dd_model.specs.declared.jobs.Position.TheVariants.{At, End}
use Rattle.dd_model.proofs.Digits.{IsDigit, decimal_digits, not_digit_below, same_decimal}
use Rattle.dd_check.specs.declared.checkpoint.Checkpoint.{Checkpoint}
use Rattle.dd_check.specs.Texts.{Text, lines_of, words_of}
use Rattle.dd_check.specs.Rows.{number_row, limits_row, set_row, place_row, IsNumberRow}
use Rattle.dd_check.specs.Ranges.{IsFromTo, IsRun, IsCount, IsInRange}
use Rattle.dd_check.specs.Checks.{limits_of, IsCheckText, AreCountsInRange}
use Rattle.dd_check.specs.Places.{IsPlace}
use Rattle.dd_check.specs.Faults.{Tells, IsNew}
use Rattle.dd_check.specs.Accepted.{IsCheckpointText}
use Rattle.dd_check.proofs.JoinLemmas.{Avoids, lines_page}
use Rattle.dd_check.proofs.TellsBack.{IsWord, key_word, filter_is_word, set_word, place_words, row_words, row_feeds, short_items, small_numbers, tells_back, old_tells_back}
use Rattle.dd_check.proofs.Exclusion.{not_both}
use Rattle.dd_check.proofs.ShortTexts.{written_reads_back}
use Rattle.dd_check.specs.ChainPuts.{DoCountsFit}

-- ---- words of long numbers

digits_avoid : (c : ℕ) → c < 48 → (ds : Text) → AllByRecursion IsDigit ds → Avoids c ds
digits_avoid c low [] h = tt
digits_avoid c low (d ∷ ds) h = (ne_eqb d c (λ e. not_digit_below c low (subst IsDigit e h.0)), digits_avoid c low ds h.1)

long_word : (n : ℕ) → n < 10 ^ 64 → IsWord (decimal n)
long_word n h = record {
  spaces = digits_avoid 32 (omega arith) (decimal n) (decimal_digits n h);
  feeds = digits_avoid 10 (omega arith) (decimal n) (decimal_digits n h);
}

number_words : (key : Text) (n : ℕ) → IsWord key → n < 10 ^ 64 → AllByRecursion IsWord (number_row key n)
number_words key n word h = (word, (long_word n h, tt))

small_words : (ns : List ℕ) → ((t : ℕ) → t < length ns → slice_index ns t ≤ 216) → AllByRecursion IsWord (map decimal ns)
small_words [] h = tt
small_words (n ∷ ns) h =
    let first : n ≤ 216 = h 0 (omega arith) in
    (long_word n (omega (arith, first)), small_words ns (λ t low. h (suc t) (omega (arith, low))))

words_of_place : (chambers : ℕ) (at : Position) → chambers ≤ 36 → IsInRange chambers at → AllByRecursion IsWord (place_row at)
words_of_place chambers End few h = place_words End tt
words_of_place chambers (At job) few h =
    let size = h.size.1 in
    (key_word (codes "at") refl refl, (long_word job.size (omega (arith, size, few)), small_words job.prefix (small_numbers chambers job few h)))

-- ---- the lines of a text that was put

-- a text that is written for values of which the counts fit in their types, and all else is in range
pub record IsWritten (c : Checkpoint) (text : Text) : Type 0 where
  pub check : IsCheckText c text
  pub fit : DoCountsFit c
  pub valid : IsValid c.request
  pub range : IsInRange c.request.chambers c.at
  pub place : IsPlace c.request c.at

abbrev rows_of : (c : Checkpoint) (text : Text) → IsCheckText c text → List (List Text)
rows_of c text check =
    number_row (codes "run") c.run ∷ limits_row (limits_of c.request) ∷ set_row (codes "faces") check.faces ∷ set_row (codes "degrees") check.degrees ∷
    number_row (codes "lines") c.lines ∷ number_row (codes "bytes") c.bytes ∷ place_row c.at ∷ []

set_words : (c : Checkpoint) (text : Text) → (check : IsCheckText c text)
    → AllByRecursion IsWord (set_row (codes "faces") check.faces) × AllByRecursion IsWord (set_row (codes "degrees") check.degrees)
set_words c text check = (
  (key_word (codes "faces") refl refl, (set_word check.faces (short_items check.faces check.are_faces.each), tt)),
  (key_word (codes "degrees") refl refl, (set_word check.degrees (short_items check.degrees check.are_degrees.each), tt)),
)

limits_words : (c : Checkpoint) → IsValid c.request → AllByRecursion IsWord (limits_row (limits_of c.request))
limits_words c valid =
    let n = valid.chambers.1 in
    let t = valid.tiles in
    let v = valid.vertices in (
      key_word (codes "request") refl refl,
      (
        long_word c.request.chambers (omega (arith, n)),
        (long_word c.request.tiles (omega (arith, t)), (long_word c.request.vertices (omega (arith, v)), (filter_is_word c.request.minimal, tt))),
      ),
    )

lines_are : (c : Checkpoint) (text : Text) → (w : IsWritten c text)
    → lines_of text ≡ codes "dressline checkpoint 2" ∷ (map (join_with_byte 32) (rows_of c text w.check) ++ [] ∷ [])
lines_are c text w =
    let sets = set_words c text w.check in
    let run = w.fit.run in
    let lines = w.fit.lines in
    let bytes = w.fit.bytes in
    ap lines_of w.check.text_is
    ∙ ap (λ z. codes "dressline checkpoint 2" ∷ z)
    (lines_page (rows_of c text w.check) (
      row_feeds (number_row (codes "run") c.run) (number_words (codes "run") c.run (key_word (codes "run") refl refl) (omega (arith, run))),
      (
        row_feeds (limits_row (limits_of c.request)) (limits_words c w.valid),
        (
          row_feeds (set_row (codes "faces") w.check.faces) sets.0,
          (
            row_feeds (set_row (codes "degrees") w.check.degrees) sets.1,
            (
              row_feeds (number_row (codes "lines") c.lines) (number_words (codes "lines") c.lines (key_word (codes "lines") refl refl) (omega (arith, lines))),
              (
                row_feeds (number_row (codes "bytes") c.bytes) (number_words (codes "bytes") c.bytes (key_word (codes "bytes") refl refl) (omega (arith, bytes))),
                (row_feeds (place_row c.at) (words_of_place c.request.chambers c.at w.valid.chambers.1 w.range), tt),
              ),
            ),
          ),
        ),
      ),
    ))

-- a line with a number tells that number
told_number : (ls : List Text) (k : ℕ) (key : Text) (n m : ℕ) → slice_index_or ls (k - 1) [] ≡ join_with_byte 32 (number_row key n) → IsWord key → n < 10 ^ 64
    → Tells (IsNumberRow key) ls k m → m ≡ n
told_number ls k key n m e word long t =
    let words : number_row key m ≡ number_row key n =
    sym t.form_is.words_are ∙ ap words_of (sym t.is_line.line_is ∙ e) ∙ row_words key (decimal n ∷ []) (number_words key n word long) in
    let short : m < 10 ^ 19 = t.form_is.short in
    same_decimal m n (omega (arith, short)) long (ap (λ l. get_or l 1 []) words)

-- so it is a checkpoint text only where the counts are in range
counts_in_range : (c d : Checkpoint) (text : Text) → IsWritten c text → IsCheckpointText text d → AreCountsInRange c
counts_in_range c d text w (inl new) =
    let told = (tells_back text d new.stands).1 in
    let lines_is = lines_are c text w in
    let fit_run = w.fit.run in
    let fit_lines = w.fit.lines in
    let fit_bytes = w.fit.bytes in
    let run : d.run ≡ c.run = told_number (lines_of text) 2 (codes "run") c.run d.run (ap (λ ls. slice_index_or ls 1 []) lines_is) (key_word (codes "run") refl refl) (omega (arith, fit_run)) told.run.tells in
    let lines : d.lines ≡ c.lines = told_number (lines_of text) 6 (codes "lines") c.lines d.lines (ap (λ ls. slice_index_or ls 5 []) lines_is) (key_word (codes "lines") refl refl) (omega (arith, fit_lines)) told.count.tells in
    let bytes : d.bytes ≡ c.bytes = told_number (lines_of text) 7 (codes "bytes") c.bytes d.bytes (ap (λ ls. slice_index_or ls 6 []) lines_is) (key_word (codes "bytes") refl refl) (omega (arith, fit_bytes)) told.bytes.tells in
    record { run = subst IsRun run new.stands.counts.run; lines = subst IsCount lines new.stands.counts.lines; bytes = subst IsCount bytes new.stands.counts.bytes }
counts_in_range c d text w (inr old) =
    let first = (old_tells_back text d old.stands).0 in
    let new : IsNew (lines_of text) = record { ended = first.ended; line_is = ap (λ ls. slice_index_or ls 0 []) (lines_are c text w) } in
    absurd (not_both (lines_of text) new first)

-- ---- one or the other

from_to_or_not : (low high n : ℕ) → IsFromTo low high n ⊎ (IsFromTo low high n → ⊥)
from_to_or_not low high n = elim (cases_lt n low) [
  | inl below ↦ inr (λ h. let from = h.0 in omega (arith, below, from))
  | inr from ↦ elim (cases_lt high n) [
    | inl past ↦ inr (λ h. let to = h.1 in omega (arith, past, to))
    | inr to ↦ inl (from, to)
  ]
]

counts_or_not : (c : Checkpoint) → AreCountsInRange c ⊎ (AreCountsInRange c → ⊥)
counts_or_not c = elim (from_to_or_not 1 999999999 c.run) [
  | inr outside ↦ inr (λ h. outside h.run)
  | inl run ↦ elim (from_to_or_not 0 (10 ^ 18) c.lines) [
    | inr outside ↦ inr (λ h. outside h.lines)
    | inl lines ↦ elim (from_to_or_not 0 (10 ^ 18) c.bytes) [
      | inr outside ↦ inr (λ h. outside h.bytes)
      | inl bytes ↦ inl (record { run = run; lines = lines; bytes = bytes })
    ]
  ]
]

pub reads_or_not : (c : Checkpoint) (text : Text) → IsWritten c text → IsCheckpointText text c ⊎ ((d : Checkpoint) → IsCheckpointText text d → ⊥)
reads_or_not c text w =
    ⊎_elim
    (λ counts. inl (written_reads_back c text w.check counts w.valid w.range w.place))
    (λ not. inr (λ d is. not (counts_in_range c d text w is)))
    (counts_or_not c)
