-- The rows of a layout, and what is read of them.
use Rattle.std.proofs.Common.{◌≡◌, ◌∙◌, ◌||◌, ◌++◌, ℕ, Bool, true, false, cond, codes, List, [], ◌∷◌, Option, Some, None, option_map, refl, sym, ap, bytes_eq, append_assoc}
use Rattle.std.specs.Prelude.{if◌then◌else◌, find, slice_get, option_and_then}
use Rattle.std.proofs.lemmas.List.{append-nil}
use Rattle.std.proofs.lemmas.Slice.Eq.{bytes_eq-Decides}
use Rattle.clap.specs.Words.{Rule, Row}
use Rattle.clap.specs.Walk.{has_row, at_row, without, more_values, first_of, one_of, row_text, reading_by}
use Rattle.clap.specs.declared.parser.matches.ValueSource.TheVariants.{CommandLine}
use Rattle.dd_words.specs.declared.settings.Setting.{Setting}
use Rattle.dd_words.specs.declared.verbs.Verb.{Verb}
use Rattle.dd_words.specs.Values.{Text}
use Rattle.dd_words.specs.Layout.{Layout, nothing, ended, argument, flag, spaced, tied, settings_of}
use Rattle.dd_words.specs.Given.{Given}
use Rattle.dd_words.specs.SettingNames.{word_of, has_value}
use Rattle.dd_words.proofs.Told.{same_setting}
use Rattle.dd_words.proofs.ClapSteps.{valued, flagged, placed}
use Rattle.dd_words.proofs.PlaceNames.{place_of, no_place_is}
use Rattle.dd_words.proofs.ClapWalks.{place_after, row_placed, row_valued, row_flagged, Placed, Walks, rows_placed, rows_from}

-- ---- an id that no row has

pub at_missing : (id : Text) (change : Row → List Row) (missing rows : List Row) → has_row id rows ≡ false → at_row id change missing rows ≡ rows ++ missing
at_missing id change missing [] e = refl
at_missing id change missing (r ∷ rs) e = go (bytes_eq r.id id) e (at_missing id change missing rs)
  where
    go : (b : Bool) → (b || has_row id rs) ≡ false → (has_row id rs ≡ false → at_row id change missing rs ≡ rs ++ missing)
        → (if b then change r ++ rs else r ∷ at_row id change missing rs) ≡ r ∷ rs ++ missing
    go true f more = absurd (cc)
    go false f more = ap (λ z. r ∷ z) (more f)

joined : (id : Text) (values rows : List _) (row : Row) → has_row id rows ≡ false
    → at_row id (more_values CommandLine values) (row ∷ []) (without id rows) ≡ rows ++ row ∷ []
joined id values rows row e = ap (at_row id (more_values CommandLine values) (row ∷ [])) (at_missing id (λ _. []) [] rows e ∙ append-nil rows)
    ∙ at_missing id (more_values CommandLine values) (row ∷ []) rows e

abbrev given_row : Rule → List Text → Row
given_row a values = record { id = a.id; values = values; count = None; source = Some CommandLine; reading = reading_by a }

abbrev pub valued_row : Setting → Text → Row
valued_row s x = given_row (valued (word_of s)) (x ∷ [])

abbrev pub flagged_row : Setting → Row
flagged_row s = given_row (flagged (word_of s)) (codes "true" ∷ [])

abbrev pub placed_row : ℕ → Text → Row
placed_row k w = given_row (placed (place_of k) k) (w ∷ [])

pub valued_joins : (s : Setting) (x : Text) (rows : List Row) → has_row (word_of s) rows ≡ false → row_valued rows s x ≡ rows ++ valued_row s x ∷ []
valued_joins s x rows e = joined (word_of s) (x ∷ []) rows (valued_row s x) e

pub flagged_joins : (s : Setting) (rows : List Row) → has_row (word_of s) rows ≡ false → row_flagged rows s ≡ rows ++ flagged_row s ∷ []
flagged_joins s rows e = joined (word_of s) (codes "true" ∷ []) rows (flagged_row s) e

pub placed_joins : (k : ℕ) (w : Text) (rows : List Row) → has_row (place_of k) rows ≡ false → row_placed rows k w ≡ rows ++ placed_row k w ∷ []
placed_joins k w rows e = joined (place_of k) (w ∷ []) rows (placed_row k w) e

-- ---- the rows of a layout

abbrev pub list_placed : ℕ → List Text → List Row
list_placed k [] = []
list_placed k (w ∷ ws) = placed_row k w ∷ list_placed (place_after k) ws

abbrev pub list_of : ℕ → Layout → List Row
list_of k nothing = []
list_of k (ended ws) = list_placed k ws
list_of k (argument w l) = placed_row k w ∷ list_of (place_after k) l
list_of k (flag s l) = flagged_row s ∷ list_of k l
list_of k (spaced s x l) = valued_row s x ∷ list_of k l
list_of k (tied s x l) = valued_row s x ∷ list_of k l

placed_rows_are : (c : List Rule) (ws : List Text) (rows : List Row) (k : ℕ) → Placed c rows k ws → rows_placed rows k ws ≡ rows ++ list_placed k ws
placed_rows_are c [] rows k p = sym (append-nil rows)
placed_rows_are c (w ∷ ws) rows k p =
    placed_rows_are c ws (row_placed rows k w) (place_after k) p.2 ∙ ap (λ z. z ++ list_placed (place_after k) ws) (placed_joins k w rows p.1)
    ∙ append_assoc rows (placed_row k w ∷ []) (list_placed (place_after k) ws)

pub rows_are : (v : Verb) (c : List Rule) (l : Layout) (rows : List Row) (k : ℕ) → Walks v c rows k l → rows_from rows k l ≡ rows ++ list_of k l
rows_are v c nothing rows k p = sym (append-nil rows)
rows_are v c (ended ws) rows k p = placed_rows_are c ws rows k p
rows_are v c (argument w l) rows k p =
    rows_are v c l (row_placed rows k w) (place_after k) p.3 ∙ ap (λ z. z ++ list_of (place_after k) l) (placed_joins k w rows p.2)
    ∙ append_assoc rows (placed_row k w ∷ []) (list_of (place_after k) l)
rows_are v c (flag s l) rows k p =
    rows_are v c l (row_flagged rows s) k p.2 ∙ ap (λ z. z ++ list_of k l) (flagged_joins s rows p.1) ∙ append_assoc rows (flagged_row s ∷ []) (list_of k l)
rows_are v c (spaced s x l) rows k p =
    rows_are v c l (row_valued rows s x) k p.3 ∙ ap (λ z. z ++ list_of k l) (valued_joins s x rows p.2) ∙ append_assoc rows (valued_row s x ∷ []) (list_of k l)
rows_are v c (tied s x l) rows k p =
    rows_are v c l (row_valued rows s x) k p.2 ∙ ap (λ z. z ++ list_of k l) (valued_joins s x rows p.1) ∙ append_assoc rows (valued_row s x ∷ []) (list_of k l)

-- ---- the ids are apart

abbrev pub same_word : Setting → Setting → Bool
same_word s t = bytes_eq (word_of s) (word_of t)

-- two texts that are not equal
apart_sym : (xs ys : Text) → bytes_eq xs ys ≡ false → bytes_eq ys xs ≡ false
apart_sym xs ys e = go (bytes_eq ys xs) ((bytes_eq-Decides ys xs).0)
  where
    go : (b : Bool) → (b ≡ true → ys ≡ xs) → b ≡ false
    go true same = let bad = (bytes_eq-Decides xs ys).1 (sym (same refl)) in absurd (cc)
    go false same = refl

pub is_no_place : (k : ℕ) (s : Setting) → bytes_eq (word_of s) (place_of k) ≡ false
is_no_place k s = apart_sym (place_of k) (word_of s) (no_place_is k s)

-- ---- the value of a setting

-- the value that is given first
abbrev pub value_in : List Given → Setting → Option Text
value_in [] t = None
value_in (g ∷ gs) t = cond (same_word g.setting t) (Some g.value) (value_in gs t)

pub first_of_cons : (id : Text) (r : Row) (rs : List Row) → first_of id (r ∷ rs) ≡ cond (bytes_eq r.id id) (slice_get r.values 0) (first_of id rs)
first_of_cons id r rs = go (bytes_eq r.id id)
  where
    go : (b : Bool) → option_and_then (λ (r : Row). slice_get r.values 0) (cond b (Some r) (find (λ r. bytes_eq r.id id) rs)) ≡ cond b (slice_get r.values 0) (first_of id rs)
    go true = refl
    go false = refl

pub one_of_cons : (id : Text) (r : Row) (rs : List Row) → one_of id (r ∷ rs) ≡ cond (bytes_eq r.id id) (row_text r) (one_of id rs)
one_of_cons id r rs = go (bytes_eq r.id id)
  where
    go : (b : Bool) → option_and_then row_text (cond b (Some r) (find (λ r. bytes_eq r.id id) rs)) ≡ cond b (row_text r) (one_of id rs)
    go true = refl
    go false = refl

-- a row that is passed over, and one that is found
pub first_passes : (id : Text) (r : Row) (rs : List Row) (o : Option Text) → bytes_eq r.id id ≡ false → first_of id rs ≡ o → first_of id (r ∷ rs) ≡ o
first_passes id r rs o e f = first_of_cons id r rs ∙ ap (λ b. cond b (slice_get r.values 0) (first_of id rs)) e ∙ f

one_passes : (id : Text) (r : Row) (rs : List Row) (o : Option Text) → bytes_eq r.id id ≡ false → one_of id rs ≡ o → one_of id (r ∷ rs) ≡ o
one_passes id r rs o e f = one_of_cons id r rs ∙ ap (λ b. cond b (row_text r) (one_of id rs)) e ∙ f

-- a flag and a setting with a value are apart
pub apart : (s t : Setting) → has_value s ≡ false → has_value t ≡ true → same_word s t ≡ false
apart s t f v = go (same_word s t) ((bytes_eq-Decides (word_of s) (word_of t)).0)
  where
    go : (b : Bool) → (b ≡ true → word_of s ≡ word_of t) → b ≡ false
    go true same = let e : has_value s ≡ has_value t = ap has_value (same_setting s t (same refl)) in absurd (cc)
    go false same = refl

pub same_word_sym : (s t : Setting) → same_word s t ≡ false → same_word t s ≡ false
same_word_sym s t e = apart_sym (word_of s) (word_of t) e

first_after : (s t : Setting) (x : Text) (rs : List Row) (gs : List Given) → first_of (word_of t) rs ≡ value_in gs t
    → first_of (word_of t) (valued_row s x ∷ rs) ≡ value_in (record { setting = s; value = x } ∷ gs) t
first_after s t x rs gs e = first_of_cons (word_of t) (valued_row s x) rs ∙ ap (λ o. cond (same_word s t) (Some x) o) e

placed_first : (ws : List Text) (k : ℕ) (t : Setting) → first_of (word_of t) (list_placed k ws) ≡ None
placed_first [] k t = refl
placed_first (w ∷ ws) k t = first_passes (word_of t) (placed_row k w) (list_placed (place_after k) ws) None (no_place_is k t) (placed_first ws (place_after k) t)

placed_one : (ws : List Text) (k : ℕ) (t : Setting) → one_of (word_of t) (list_placed k ws) ≡ None
placed_one [] k t = refl
placed_one (w ∷ ws) k t = one_passes (word_of t) (placed_row k w) (list_placed (place_after k) ws) None (no_place_is k t) (placed_one ws (place_after k) t)

pub first_is : (v : Verb) (c : List Rule) (l : Layout) (rows : List Row) (k : ℕ) (t : Setting) → has_value t ≡ true → Walks v c rows k l
    → first_of (word_of t) (list_of k l) ≡ value_in (settings_of l) t
first_is v c nothing rows k t h p = refl
first_is v c (ended ws) rows k t h p = placed_first ws k t
first_is v c (argument w l) rows k t h p =
    first_passes (word_of t) (placed_row k w) (list_of (place_after k) l) _ (no_place_is k t) (first_is v c l (row_placed rows k w) (place_after k) t h p.3)
first_is v c (flag s l) rows k t h p =
    let no = apart s t p.0.flag h in
    first_passes (word_of t) (flagged_row s) (list_of k l) _ no (first_is v c l (row_flagged rows s) k t h p.2)
    ∙ ap (λ b. cond b (Some []) (value_in (settings_of l) t)) (sym no)
first_is v c (spaced s x l) rows k t h p = first_after s t x (list_of k l) (settings_of l) (first_is v c l (row_valued rows s x) k t h p.3)
first_is v c (tied s x l) rows k t h p = first_after s t x (list_of k l) (settings_of l) (first_is v c l (row_valued rows s x) k t h p.2)

-- the text of a flag that is given
abbrev pub flag_text : Option Text → Option Text
flag_text = option_map (λ _. codes "true")

flag_passes : (s t : Setting) (x : Text) (gs : List Given) → same_word s t ≡ false → flag_text (value_in (record { setting = s; value = x } ∷ gs) t) ≡ flag_text (value_in gs t)
flag_passes s t x gs e = ap (λ b. flag_text (cond b (Some x) (value_in gs t))) e

one_after : (s t : Setting) (x : Text) (rs : List Row) (gs : List Given) → has_value s ≡ true → has_value t ≡ false → one_of (word_of t) rs ≡ flag_text (value_in gs t)
    → one_of (word_of t) (valued_row s x ∷ rs) ≡ flag_text (value_in (record { setting = s; value = x } ∷ gs) t)
one_after s t x rs gs a b e =
    let other = same_word_sym t s (apart t s b a) in
    one_passes (word_of t) (valued_row s x) rs _ other e ∙ sym (flag_passes s t x gs other)

one_after_flag : (s t : Setting) (rs : List Row) (gs : List Given) → one_of (word_of t) rs ≡ flag_text (value_in gs t)
    → one_of (word_of t) (flagged_row s ∷ rs) ≡ flag_text (value_in (record { setting = s; value = [] } ∷ gs) t)
one_after_flag s t rs gs e = one_of_cons (word_of t) (flagged_row s) rs ∙ ap (λ o. cond (same_word s t) (Some (codes "true")) o) e ∙ go (same_word s t)
  where
    go : (b : Bool) → cond b (Some (codes "true")) (flag_text (value_in gs t)) ≡ flag_text (cond b (Some []) (value_in gs t))
    go true = refl
    go false = refl

pub one_is : (v : Verb) (c : List Rule) (l : Layout) (rows : List Row) (k : ℕ) (t : Setting) → has_value t ≡ false → Walks v c rows k l
    → one_of (word_of t) (list_of k l) ≡ flag_text (value_in (settings_of l) t)
one_is v c nothing rows k t h p = refl
one_is v c (ended ws) rows k t h p = placed_one ws k t
one_is v c (argument w l) rows k t h p =
    one_passes (word_of t) (placed_row k w) (list_of (place_after k) l) _ (no_place_is k t) (one_is v c l (row_placed rows k w) (place_after k) t h p.3)
one_is v c (flag s l) rows k t h p = one_after_flag s t (list_of k l) (settings_of l) (one_is v c l (row_flagged rows s) k t h p.2)
one_is v c (spaced s x l) rows k t h p = one_after s t x (list_of k l) (settings_of l) p.0.valued h (one_is v c l (row_valued rows s x) k t h p.3)
one_is v c (tied s x l) rows k t h p = one_after s t x (list_of k l) (settings_of l) p.0.valued h (one_is v c l (row_valued rows s x) k t h p.2)
