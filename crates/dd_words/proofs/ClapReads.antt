-- What is read of the matches is what the layout has.
use Rattle.std.proofs.Common.{◌≡◌, ◌∙◌, ◌||◌, ◌⊎◌, ◌++◌, ◌+◌, ◌≤◌, ℕ, suc, zero, Bool, true, false, cond, codes, List, [], ◌∷◌, Option, Some, None, length, refl, sym, ap, subst, inl, inr, bytes_eq, arith}
use Rattle.std.specs.Prelude.{if◌then◌else◌, fold, slice_get, option_and_then}
use Rattle.std.specs.List.{AllByRecursion}
use Rattle.std.proofs.lemmas.Slice.Eq.{bytes_eq-Decides}
use Rattle.clap.specs.Words.{Rule, Row}
use Rattle.clap.specs.Walk.{has_row, with_default, default_rows, first_of, one_of, row_text, reading_by, more_values}
use Rattle.clap.specs.declared.parser.matches.ValueSource.TheVariants.{DefaultValue}
use Rattle.dd_words.specs.declared.settings.Setting.{Setting}
use Rattle.dd_words.specs.declared.settings.Setting.TheVariants.{Tiles, Vertices, LeastFace, LeastDegree, Faces, Degrees, Minimal, Workers, Round, Pause, Checkpoint, Cell}
use Rattle.dd_words.specs.declared.verbs.Verb.{Verb}
use Rattle.dd_words.specs.Values.{Text}
use Rattle.dd_words.specs.Layout.{Layout, nothing, ended, argument, flag, spaced, tied, arguments_of, settings_of}
use Rattle.dd_words.specs.Given.{Given}
use Rattle.dd_words.specs.SettingNames.{word_of, has_value}
use Rattle.dd_words.specs.Matching.{IsValueRead, given_by, AreRead, listed, arguments_read}
use Rattle.dd_words.proofs.ClapSteps.{flagged}
use Rattle.dd_words.proofs.PlaceNames.{place_of, places_apart}
use Rattle.dd_words.proofs.ClapWalks.{IsQuiet, IsReader, place_after, row_placed, row_valued, row_flagged, Placed, Walks}
use Rattle.dd_words.proofs.ClapRows.{at_missing, list_of, list_placed, placed_row, valued_row, flagged_row, same_word, value_in, flag_text, first_is, one_is, is_no_place, first_of_cons, one_of_cons, first_passes, apart, same_word_sym}

-- ---- the rows with defaults

pub has_pushed : (id : Text) (rows : List Row) (r : Row) → has_row id (rows ++ r ∷ []) ≡ (has_row id rows || bytes_eq r.id id)
has_pushed id [] r = go (bytes_eq r.id id)
  where
    go : (b : Bool) → (b || false) ≡ b
    go true = refl
    go false = refl
has_pushed id (x ∷ rows) r = ap (λ b. bytes_eq x.id id || b) (has_pushed id rows r) ∙ go (bytes_eq x.id id)
  where
    go : (b : Bool) → (b || (has_row id rows || bytes_eq r.id id)) ≡ ((b || has_row id rows) || bytes_eq r.id id)
    go true = refl
    go false = refl

abbrev default_row : Row
default_row = record { id = codes "minimal"; values = codes "false" ∷ []; count = None; source = Some DefaultValue; reading = reading_by (flagged (codes "minimal")) }

-- nothing was added, or the flag as it is when it is not given
abbrev IsFilled : List Row → List Row → Type 0
IsFilled rows now = (now ≡ rows) ⊎ ((has_row (codes "minimal") rows ≡ false) × (now ≡ rows ++ default_row ∷ []))

flag_filled : (rows : List Row) (b : Bool) → has_row (codes "minimal") rows ≡ b
    → IsFilled rows (if b then rows else default_rows (codes "minimal") (reading_by (flagged (codes "minimal"))) (codes "false" ∷ []) rows)
flag_filled rows true e = inl refl
flag_filled rows false e = inr (e, at_missing (codes "minimal") (more_values DefaultValue (codes "false" ∷ [])) (default_row ∷ []) rows e)

fill_one : (rows now : List Row) (a : Rule) → IsQuiet a → IsFilled rows now → IsFilled rows (with_default now a)
fill_one rows now a (inl none) h = subst (IsFilled rows) (sym (go (has_row a.id now) ∙ refl)) h
  where
    go : (b : Bool) → (if b then now else default_rows a.id (reading_by a) a.defaults now) ≡ now
    go true = refl
    go false = ap (λ xs. default_rows a.id (reading_by a) xs now) none
fill_one rows now a (inr is) (inl same) =
    subst (λ z. IsFilled rows (with_default z a)) (sym same) (subst (λ z. IsFilled rows (with_default rows z)) (sym is) (flag_filled rows (has_row (codes "minimal") rows) refl))
fill_one rows now a (inr is) (inr p) =
    let has : has_row (codes "minimal") now ≡ true = ap (has_row (codes "minimal")) p.1 ∙ has_pushed (codes "minimal") rows default_row ∙ ap (λ b. b || true) p.0 in
    let kept : with_default now (flagged (codes "minimal")) ≡ now =
    ap (λ b. if b then now else default_rows (codes "minimal") (reading_by (flagged (codes "minimal"))) (codes "false" ∷ []) now) has in
    inr (p.0, ap (with_default now) is ∙ kept ∙ p.1)

filled : (c : List Rule) (rows now : List Row) → AllByRecursion IsQuiet c → IsFilled rows now → IsFilled rows (fold with_default now c)
filled [] rows now q h = h
filled (a ∷ c) rows now q h = filled c rows (with_default now a) q.1 (fill_one rows now a q.0 h)

-- a row at the end with another id
first_pushed : (id : Text) (rows : List Row) (r : Row) → bytes_eq r.id id ≡ false → first_of id (rows ++ r ∷ []) ≡ first_of id rows
first_pushed id [] r e = ap (λ b. option_and_then (λ (x : Row). slice_get x.values 0) (cond b (Some r) None)) e
first_pushed id (x ∷ rows) r e =
    first_of_cons id x (rows ++ r ∷ []) ∙ ap (λ o. cond (bytes_eq x.id id) (slice_get x.values 0) o) (first_pushed id rows r e) ∙ sym (first_of_cons id x rows)

one_pushed : (id : Text) (rows : List Row) (r : Row) → has_row id rows ≡ false → bytes_eq r.id id ≡ true → one_of id (rows ++ r ∷ []) ≡ row_text r
one_pushed id [] r h e = ap (λ b. option_and_then row_text (cond b (Some r) None)) e
one_pushed id (x ∷ rows) r h e = go (bytes_eq x.id id) h (one_pushed id rows r) (one_of_cons id x (rows ++ r ∷ []))
  where
    go : (b : Bool) → (b || has_row id rows) ≡ false → (has_row id rows ≡ false → bytes_eq r.id id ≡ true → one_of id (rows ++ r ∷ []) ≡ row_text r)
        → one_of id (x ∷ rows ++ r ∷ []) ≡ cond b (row_text x) (one_of id (rows ++ r ∷ [])) → one_of id (x ∷ rows ++ r ∷ []) ≡ row_text r
    go true f more is = absurd (cc)
    go false f more is = is ∙ more f e

one_missing : (id : Text) (rows : List Row) → has_row id rows ≡ false → one_of id rows ≡ None
one_missing id [] h = refl
one_missing id (x ∷ rows) h = go (bytes_eq x.id id) h (one_missing id rows) (one_of_cons id x rows)
  where
    go : (b : Bool) → (b || has_row id rows) ≡ false → (has_row id rows ≡ false → one_of id rows ≡ None)
        → one_of id (x ∷ rows) ≡ cond b (row_text x) (one_of id rows) → one_of id (x ∷ rows) ≡ None
    go true f more is = absurd (cc)
    go false f more is = is ∙ more f

minimal_not : (s : Setting) → has_value s ≡ true → bytes_eq (codes "minimal") (word_of s) ≡ false
minimal_not Tiles e = refl
minimal_not Vertices e = refl
minimal_not LeastFace e = refl
minimal_not LeastDegree e = refl
minimal_not Faces e = refl
minimal_not Degrees e = refl
minimal_not Minimal e = absurd (cc)
minimal_not Workers e = refl
minimal_not Round e = refl
minimal_not Pause e = refl
minimal_not Checkpoint e = refl
minimal_not Cell e = refl

only_flag : (s : Setting) → has_value s ≡ false → s ≡ Minimal
only_flag Tiles e = absurd (cc)
only_flag Vertices e = absurd (cc)
only_flag LeastFace e = absurd (cc)
only_flag LeastDegree e = absurd (cc)
only_flag Faces e = absurd (cc)
only_flag Degrees e = absurd (cc)
only_flag Minimal e = refl
only_flag Workers e = absurd (cc)
only_flag Round e = absurd (cc)
only_flag Pause e = absurd (cc)
only_flag Checkpoint e = absurd (cc)
only_flag Cell e = absurd (cc)

no_flag_text : (o : Option Text) → flag_text o ≡ None → o ≡ None
no_flag_text None e = refl
no_flag_text (Some x) e = absurd (cc)

-- ---- the settings in the order of the program

abbrev pub picked : List Given → List Setting → List Given
picked gs [] = []
picked gs (s ∷ ss) = given_by s (value_in gs s) ++ picked gs ss

-- a flag has no value
empty_flag : (v : Verb) (c : List Rule) (l : Layout) (rows : List Row) (k : ℕ) (t : Setting) → has_value t ≡ false → Walks v c rows k l
    → (x : Text) → value_in (settings_of l) t ≡ Some x → x ≡ []
empty_flag v c nothing rows k t f w x e = absurd (cc)
empty_flag v c (ended ws) rows k t f w x e = absurd (cc)
empty_flag v c (argument word l) rows k t f w x e = empty_flag v c l (row_placed rows k word) (place_after k) t f w.3 x e
empty_flag v c (flag s l) rows k t f w x e = go (same_word s t) e (empty_flag v c l (row_flagged rows s) k t f w.2 x)
  where
    go : (b : Bool) → cond b (Some []) (value_in (settings_of l) t) ≡ Some x → (value_in (settings_of l) t ≡ Some x → x ≡ []) → x ≡ []
    go true h more = cc
    go false h more = more h
empty_flag v c (spaced s y l) rows k t f w x e =
    empty_flag v c l (row_valued rows s y) k t f w.3 x (ap (λ b. cond b (Some y) (value_in (settings_of l) t)) (sym (same_word_sym t s (apart t s f w.0.valued))) ∙ e)
empty_flag v c (tied s y l) rows k t f w x e =
    empty_flag v c l (row_valued rows s y) k t f w.2 x (ap (λ b. cond b (Some y) (value_in (settings_of l) t)) (sym (same_word_sym t s (apart t s f w.0.valued))) ∙ e)

-- ---- the arguments

placed_here : (id : Text) (k : ℕ) (w : Text) (rows : List Row) → place_of k ≡ id → first_of id (placed_row k w ∷ rows) ≡ Some w
placed_here id k w rows e = first_of_cons id (placed_row k w) rows ∙ ap (λ b. cond b (Some w) (first_of id rows)) ((bytes_eq-Decides (place_of k) id).1 e)

-- after an argument the next one has the next place
pub next_place : (k : ℕ) → k ≤ 8 → place_after k ≡ suc k
next_place zero h = refl
next_place (suc zero) h = refl
next_place (suc (suc zero)) h = refl
next_place (suc (suc (suc zero))) h = refl
next_place (suc (suc (suc (suc zero)))) h = refl
next_place (suc (suc (suc (suc (suc zero))))) h = refl
next_place (suc (suc (suc (suc (suc (suc zero)))))) h = refl
next_place (suc (suc (suc (suc (suc (suc (suc zero))))))) h = refl
next_place (suc (suc (suc (suc (suc (suc (suc (suc zero)))))))) h = refl
next_place (suc (suc (suc (suc (suc (suc (suc (suc (suc k))))))))) h = absurd (omega arith)

-- the argument at a place of the words after two dashes, and of a layout
placed_at : (ws : List Text) (k i n : ℕ) → 1 ≤ k → n ≡ k + i → n ≤ 8 → first_of (place_of n) (list_placed k ws) ≡ slice_get ws i
placed_at [] k i n low e few = refl
placed_at (w ∷ ws) k zero n low e few = placed_here (place_of n) k w (list_placed (place_after k) ws) (ap place_of (omega arith))
placed_at (w ∷ ws) k (suc i) n low e few =
    first_passes (place_of n) (placed_row k w) (list_placed (place_after k) ws) _ (places_apart k n low (omega arith) few)
    (ap (λ j. first_of (place_of n) (list_placed j ws)) (next_place k (omega arith)) ∙ placed_at ws (suc k) i n (omega arith) (omega arith) few)

argument_at : (l : Layout) (k i n : ℕ) → 1 ≤ k → n ≡ k + i → n ≤ 8 → first_of (place_of n) (list_of k l) ≡ slice_get (arguments_of l) i
argument_at nothing k i n low e few = refl
argument_at (ended ws) k i n low e few = placed_at ws k i n low e few
argument_at (argument w l) k zero n low e few = placed_here (place_of n) k w (list_of (place_after k) l) (ap place_of (omega arith))
argument_at (argument w l) k (suc i) n low e few =
    first_passes (place_of n) (placed_row k w) (list_of (place_after k) l) _ (places_apart k n low (omega arith) few)
    (ap (λ j. first_of (place_of n) (list_of j l)) (next_place k (omega arith)) ∙ argument_at l (suc k) i n (omega arith) (omega arith) few)
argument_at (flag s l) k i n low e few = first_passes (place_of n) (flagged_row s) (list_of k l) _ (is_no_place n s) (argument_at l k i n low e few)
argument_at (spaced s x l) k i n low e few = first_passes (place_of n) (valued_row s x) (list_of k l) _ (is_no_place n s) (argument_at l k i n low e few)
argument_at (tied s x l) k i n low e few = first_passes (place_of n) (valued_row s x) (list_of k l) _ (is_no_place n s) (argument_at l k i n low e few)

listed_all : (xs : List Text) → length xs + 1 ≤ 9 → listed (slice_get xs 0) ++ (listed (slice_get xs 1) ++ (listed (slice_get xs 2) ++ (listed (slice_get xs 3) ++ (listed (slice_get xs 4) ++ (listed (slice_get xs 5) ++ (listed (slice_get xs 6) ++ (listed (slice_get xs 7) ++ []))))))) ≡ xs
listed_all [] h = refl
listed_all (x0 ∷ []) h = refl
listed_all (x0 ∷ x1 ∷ []) h = refl
listed_all (x0 ∷ x1 ∷ x2 ∷ []) h = refl
listed_all (x0 ∷ x1 ∷ x2 ∷ x3 ∷ []) h = refl
listed_all (x0 ∷ x1 ∷ x2 ∷ x3 ∷ x4 ∷ []) h = refl
listed_all (x0 ∷ x1 ∷ x2 ∷ x3 ∷ x4 ∷ x5 ∷ []) h = refl
listed_all (x0 ∷ x1 ∷ x2 ∷ x3 ∷ x4 ∷ x5 ∷ x6 ∷ []) h = refl
listed_all (x0 ∷ x1 ∷ x2 ∷ x3 ∷ x4 ∷ x5 ∷ x6 ∷ x7 ∷ []) h = refl
listed_all (x0 ∷ x1 ∷ x2 ∷ x3 ∷ x4 ∷ x5 ∷ x6 ∷ x7 ∷ x8 ∷ xs) h = absurd (omega arith)

few_placed : (v : Verb) (c : List Rule) → IsReader v c → (ws : List Text) (rows : List Row) (k : ℕ) → k ≤ 9 → Placed c rows k ws → length ws + k ≤ 9
few_placed v c r [] rows k h p = omega arith
few_placed v c r (w ∷ ws) rows k h p =
    let low = r.few k p.0 in
    let after = next_place k low in
    let more = few_placed v c r ws (row_placed rows k w) (place_after k) (omega arith) p.2 in
    omega arith

few_arguments : (v : Verb) (c : List Rule) → IsReader v c → (l : Layout) (rows : List Row) (k : ℕ) → k ≤ 9 → Walks v c rows k l → length (arguments_of l) + k ≤ 9
few_arguments v c r nothing rows k h p = omega arith
few_arguments v c r (ended ws) rows k h p = few_placed v c r ws rows k h p
few_arguments v c r (argument w l) rows k h p =
    let low = r.few k p.1 in
    let after = next_place k low in
    let more = few_arguments v c r l (row_placed rows k w) (place_after k) (omega arith) p.3 in
    omega arith
few_arguments v c r (flag s l) rows k h p = few_arguments v c r l (row_flagged rows s) k h p.2
few_arguments v c r (spaced s x l) rows k h p = few_arguments v c r l (row_valued rows s x) k h p.3
few_arguments v c r (tied s x l) rows k h p = few_arguments v c r l (row_valued rows s x) k h p.2

-- ---- the value of a setting

module _ (v : Verb) (c : List Rule) (r : IsReader v c) (l : Layout) (w : Walks v c [] 1 l) where
  abbrev last : List Row
  last = fold with_default (list_of 1 l) c

  filled_last : IsFilled (list_of 1 l) last
  filled_last = filled c (list_of 1 l) (list_of 1 l) r.quiet (inl refl)

  valued_read : (s : Setting) → has_value s ≡ true → first_of (word_of s) last ≡ value_in (settings_of l) s
  valued_read s h = go filled_last
    where
      go : IsFilled (list_of 1 l) last → first_of (word_of s) last ≡ value_in (settings_of l) s
      go (inl same) = ap (first_of (word_of s)) same ∙ first_is v c l [] 1 s h w
      go (inr p) = ap (first_of (word_of s)) p.1 ∙ first_pushed (word_of s) (list_of 1 l) default_row (minimal_not s h) ∙ first_is v c l [] 1 s h w

  place_read : (k : ℕ) → bytes_eq (codes "minimal") (place_of k) ≡ false → first_of (place_of k) last ≡ first_of (place_of k) (list_of 1 l)
  place_read k e = go filled_last
    where
      go : IsFilled (list_of 1 l) last → first_of (place_of k) last ≡ first_of (place_of k) (list_of 1 l)
      go (inl same) = ap (first_of (place_of k)) same
      go (inr p) = ap (first_of (place_of k)) p.1 ∙ first_pushed (place_of k) (list_of 1 l) default_row e

  -- the flag
  flag_read : (value : Option Text) → IsValueRead last Minimal value → value ≡ value_in (settings_of l) Minimal
  flag_read value h = go filled_last (value_in (settings_of l) Minimal) refl (one_is v c l [] 1 Minimal refl w)
    where
      go : IsFilled (list_of 1 l) last → (o : Option Text) → value_in (settings_of l) Minimal ≡ o → one_of (codes "minimal") (list_of 1 l) ≡ flag_text o → value ≡ o
      go (inl same) None is e = h.absent refl (ap (one_of (codes "minimal")) same ∙ e)
      go (inl same) (Some x) is e = h.raised refl (ap (one_of (codes "minimal")) same ∙ e) ∙ ap (λ z. Some z) (sym (empty_flag v c l [] 1 Minimal refl w x is))
      go (inr p) o is e =
          let none = no_flag_text o (sym e ∙ one_missing (codes "minimal") (list_of 1 l) p.0) in
          h.lowered refl (ap (one_of (codes "minimal")) p.1 ∙ one_pushed (codes "minimal") (list_of 1 l) default_row p.0 refl) ∙ sym none

  value_read : (s : Setting) (value : Option Text) → IsValueRead last s value → value ≡ value_in (settings_of l) s
  value_read s value h = go (has_value s) refl
    where
      go : (b : Bool) → has_value s ≡ b → value ≡ value_in (settings_of l) s
      go true e = h.valued e ∙ valued_read s e
      go false e =
          let is = only_flag s e in
          flag_read value (subst (λ z. IsValueRead last z value) is h) ∙ ap (value_in (settings_of l)) (sym is)

  pub settings_read : (ss : List Setting) (given : List Given) → AreRead last ss given → given ≡ picked (settings_of l) ss
  settings_read [] given h = h
  settings_read (s ∷ ss) given h =
      h.given_are ∙ ap (λ o. given_by s o ++ h.others) (value_read s h.value h.is_read) ∙ ap (λ gs. given_by s (value_in (settings_of l) s) ++ gs) (settings_read ss h.others h.more)

  place_is : (i n : ℕ) → n ≡ 1 + i → n ≤ 8 → bytes_eq (codes "minimal") (place_of n) ≡ false → first_of (place_of n) last ≡ slice_get (arguments_of l) i
  place_is i n e few apart = place_read n apart ∙ argument_at l 1 i n (omega arith) e few

  pub arguments_are : arguments_read last ≡ arguments_of l
  arguments_are =
      let e0 = place_is 0 1 (omega arith) (omega arith) refl in
      let e1 = place_is 1 2 (omega arith) (omega arith) refl in
      let e2 = place_is 2 3 (omega arith) (omega arith) refl in
      let e3 = place_is 3 4 (omega arith) (omega arith) refl in
      let e4 = place_is 4 5 (omega arith) (omega arith) refl in
      let e5 = place_is 5 6 (omega arith) (omega arith) refl in
      let e6 = place_is 6 7 (omega arith) (omega arith) refl in
      let e7 = place_is 7 8 (omega arith) (omega arith) refl in
      (λ i. listed (e0 i) ++ (listed (e1 i) ++ (listed (e2 i) ++ (listed (e3 i) ++ (listed (e4 i) ++ (listed (e5 i) ++ (listed (e6 i) ++ (listed (e7 i) ++ []))))))))
      ∙ listed_all (arguments_of l) (few_arguments v c r l [] 1 (omega arith) w)
