-- Clap takes the words of each command, and its matches ask for the commands that the words ask for.
use Rattle.std.proofs.Common.{◌≡◌, ◌≢◌, ◌∙◌, ◌||◌, ◌++◌, ◌+◌, ◌≤◌, ℕ, zero, suc, length, Bool, true, false, List, [], ◌∷◌, None, refl, sym, ap, ap₂, subst, bytes_eq, arith}
use Rattle.std.specs.List.{AllByRecursion}
use Rattle.std.proofs.lemmas.Slice.Eq.{bytes_eq-Decides}
use Rattle.clap.specs.Lexer.{long_of, short_of}
use Rattle.clap.specs.Words.{Rule, Row, matches_of, fault_of}
use Rattle.clap.specs.Walk.{has_row}
use Rattle.dd_words.specs.declared.settings.Setting.{Setting}
use Rattle.dd_words.specs.declared.verbs.Verb.{Verb}
use Rattle.dd_words.specs.declared.verbs.Verb.TheVariants as verb
use Rattle.dd_words.specs.declared.commands.Command.{Command}
use Rattle.dd_words.specs.declared.commands.Command.TheVariants as command
use Rattle.dd_words.specs.Values.{Text}
use Rattle.dd_words.specs.Layout.{Layout, nothing, ended, argument, flag, spaced, tied, words_of, arguments_of, settings_of, IsPlain, Fits}
use Rattle.dd_words.specs.Given.{Given, AreSingle, Has, Lacks}
use Rattle.dd_words.specs.SettingNames.{word_of, has_setting, has_value}
use Rattle.dd_words.specs.Grammar.{IsSaid, IsCommand}
use Rattle.dd_words.specs.FirstWords.{first_word, verb_of}
use Rattle.dd_words.specs.Reading.{IsReadAs}
use Rattle.dd_words.specs.Apps.{app_for, all_settings}
use Rattle.dd_words.specs.Matching.{AreMatched, AreRead, arguments_read}
use Rattle.dd_words.proofs.ReadCommands.{parts}
use Rattle.dd_words.proofs.ClapSteps.{IsFree, free_word, dash_dash}
use Rattle.dd_words.proofs.PlaceNames.{place_of, places_apart, no_place_is}
use Rattle.dd_words.proofs.ClapWalks.{IsPlace, place_after, row_placed, row_valued, row_flagged, Placed, Walks}
use Rattle.dd_words.proofs.ClapRules.{rules_for, reader_for}
use Rattle.dd_words.proofs.ClapWhole.{found_layout, layout_end, no_fault_at_end, matches_are, rows_with}
use Rattle.dd_words.proofs.ClapRows.{placed_joins, valued_joins, flagged_joins, rows_are, list_of, same_word, is_no_place, placed_row, valued_row, flagged_row}
use Rattle.dd_words.proofs.ClapReads.{next_place, picked, has_pushed, settings_read, arguments_are}
use Rattle.dd_words.proofs.GivenValues.{picked_from, picked_to, said, all_single}
use Rattle.dd_words.proofs.PlainWords.{value_plain, argument_plain}
use Rattle.dd_words.proofs.FormLemmas.{no_dash}

-- ---- a word that begins with no dash

not_dashes : (x : ℕ) (xs : Text) → x ≢ 45 → bytes_eq (x ∷ xs) dash_dash ≡ false
not_dashes x xs ne = rw (no_dash x ne) refl

no_long : (x : ℕ) (xs : Text) → x ≢ 45 → long_of (x ∷ xs) ≡ None
no_long x xs ne = rw (no_dash x ne) refl

no_short : (x : ℕ) (xs : Text) → x ≢ 45 → short_of (x ∷ xs) ≡ None
no_short x xs ne = rw (no_dash x ne) refl

free_plain : (c : List Rule) (w : Text) → IsPlain w → IsFree c w
free_plain c [] h = free_word c [] refl refl refl
free_plain c (x ∷ xs) h = free_word c (x ∷ xs) (not_dashes x xs h) (no_long x xs h) (no_short x xs h)

-- ---- what clap passes is single and fits

no_either : (a b : Bool) → (a || b) ≡ false → (a ≡ false) × (b ≡ false)
no_either true b e = absurd (cc)
no_either false b e = (refl, e)

-- no row has the word of one of the settings
abbrev AreNew : List Row → List Given → Type 0
AreNew rows = AllByRecursion (λ g. has_row (word_of g.setting) rows ≡ false)

new_before : (gs : List Given) (rows now : List Row) (r : Row) → now ≡ rows ++ r ∷ [] → AreNew now gs → AreNew rows gs
new_before [] rows now r e h = tt
new_before (g ∷ gs) rows now r e h =
    ((no_either _ _ (sym (ap (has_row (word_of g.setting)) e ∙ has_pushed (word_of g.setting) rows r) ∙ h.0)).0, new_before gs rows now r e h.1)

other_setting : (s t : Setting) → same_word s t ≡ false → t ≢ s
other_setting s t e h = let is = (bytes_eq-Decides (word_of s) (word_of t)).1 (ap word_of (sym h)) in absurd (cc)

lacks_before : (gs : List Given) (rows now : List Row) (r : Row) (s : Setting) → r.id ≡ word_of s → now ≡ rows ++ r ∷ [] → AreNew now gs → Lacks gs s
lacks_before [] rows now r s i e h = tt
lacks_before (g ∷ gs) rows now r s i e h =
    let apart = (no_either _ _ (sym (ap (has_row (word_of g.setting)) e ∙ has_pushed (word_of g.setting) rows r) ∙ h.0)).1 in
    (other_setting s g.setting (ap (λ z. bytes_eq z (word_of g.setting)) (sym i) ∙ apart), lacks_before gs rows now r s i e h.1)

single_walks : (v : Verb) (c : List Rule) (l : Layout) (rows : List Row) (k : ℕ) → Walks v c rows k l → AreSingle (settings_of l) × AreNew rows (settings_of l)
single_walks v c nothing rows k w = (tt, tt)
single_walks v c (ended ws) rows k w = (tt, tt)
single_walks v c (argument x l) rows k w =
    let more = single_walks v c l (row_placed rows k x) (place_after k) w.3 in
    (more.0, new_before (settings_of l) rows _ (placed_row k x) (placed_joins k x rows w.2) more.1)
single_walks v c (flag s l) rows k w =
    let more = single_walks v c l (row_flagged rows s) k w.2 in (
      (lacks_before (settings_of l) rows _ (flagged_row s) s refl (flagged_joins s rows w.1) more.1, more.0),
      (w.1, new_before (settings_of l) rows _ (flagged_row s) (flagged_joins s rows w.1) more.1),
    )
single_walks v c (spaced s x l) rows k w =
    let more = single_walks v c l (row_valued rows s x) k w.3 in (
      (lacks_before (settings_of l) rows _ (valued_row s x) s refl (valued_joins s x rows w.2) more.1, more.0),
      (w.2, new_before (settings_of l) rows _ (valued_row s x) (valued_joins s x rows w.2) more.1),
    )
single_walks v c (tied s x l) rows k w =
    let more = single_walks v c l (row_valued rows s x) k w.2 in (
      (lacks_before (settings_of l) rows _ (valued_row s x) s refl (valued_joins s x rows w.1) more.1, more.0),
      (w.1, new_before (settings_of l) rows _ (valued_row s x) (valued_joins s x rows w.1) more.1),
    )

fits_walks : (v : Verb) (c : List Rule) (l : Layout) (rows : List Row) (k : ℕ) → Walks v c rows k l → AllByRecursion IsPlain (arguments_of l) → Fits v l
fits_walks v c nothing rows k w p = tt
fits_walks v c (ended ws) rows k w p = tt
fits_walks v c (argument x l) rows k w p = (p.0, fits_walks v c l (row_placed rows k x) (place_after k) w.3 p.1)
fits_walks v c (flag s l) rows k w p = (w.0, fits_walks v c l (row_flagged rows s) k w.2 p)
fits_walks v c (spaced s x l) rows k w p = (w.0, fits_walks v c l (row_valued rows s x) k w.3 p)
fits_walks v c (tied s x l) rows k w p = (w.0, fits_walks v c l (row_valued rows s x) k w.2 p)

-- ---- what a command says is passed by clap

-- the same places are free
abbrev SamePlaces : List Row → List Row → Type 0
SamePlaces rows now = (j : ℕ) → has_row (place_of j) now ≡ has_row (place_of j) rows

placed_moves : (c : List Rule) (ws : List Text) (rows now : List Row) (k : ℕ) → SamePlaces rows now → Placed c rows k ws → Placed c now k ws
placed_moves c [] rows now k same p = tt
placed_moves c (w ∷ ws) rows now k same p =
    let free = same k ∙ p.1 in (
      p.0,
      free,
      placed_moves c ws (row_placed rows k w) (row_placed now k w) (place_after k)
          (λ j. ap (has_row (place_of j)) (placed_joins k w now free) ∙ has_pushed (place_of j) now (placed_row k w)
          ∙ ap (λ b. b || bytes_eq (place_of k) (place_of j)) (same j) ∙ sym (has_pushed (place_of j) rows (placed_row k w)) ∙ sym (ap (has_row (place_of j)) (placed_joins k w rows p.1))) p.2,
    )

or_false : (b : Bool) → (b || false) ≡ b
or_false true = refl
or_false false = refl

-- a setting takes no place
setting_places : (rows now : List Row) (r : Row) (s : Setting) → r.id ≡ word_of s → now ≡ rows ++ r ∷ [] → SamePlaces rows now
setting_places rows now r s i e j = ap (has_row (place_of j)) e ∙ has_pushed (place_of j) rows r
    ∙ ap (λ b. has_row (place_of j) rows || b) (ap (λ z. bytes_eq z (place_of j)) i ∙ is_no_place j s) ∙ or_false (has_row (place_of j) rows)

-- a place takes no setting
new_after_place : (gs : List Given) (rows now : List Row) (r : Row) (k : ℕ) → r.id ≡ place_of k → now ≡ rows ++ r ∷ [] → AreNew rows gs → AreNew now gs
new_after_place [] rows now r k i e h = tt
new_after_place (g ∷ gs) rows now r k i e h = (
  ap (has_row (word_of g.setting)) e ∙ has_pushed (word_of g.setting) rows r
      ∙ ap₂ (λ a b. a || b) h.0 (ap (λ z. bytes_eq z (word_of g.setting)) i ∙ no_place_is k g.setting),
  new_after_place gs rows now r k i e h.1,
)

apart_settings : (s t : Setting) → t ≢ s → same_word s t ≡ false
apart_settings s t ne = go (same_word s t) refl
  where
    go : (b : Bool) → same_word s t ≡ b → b ≡ false
    go true e = absurd (ne (sym (Rattle.dd_words.proofs.Told.same_setting s t ((bytes_eq-Decides (word_of s) (word_of t)).0 e))))
    go false e = refl

new_after_setting : (gs : List Given) (rows now : List Row) (r : Row) (s : Setting) → r.id ≡ word_of s → now ≡ rows ++ r ∷ [] → Lacks gs s → AreNew rows gs → AreNew now gs
new_after_setting [] rows now r s i e l h = tt
new_after_setting (g ∷ gs) rows now r s i e l h = (
  ap (has_row (word_of g.setting)) e ∙ has_pushed (word_of g.setting) rows r
      ∙ ap₂ (λ a b. a || b) h.0 (ap (λ z. bytes_eq z (word_of g.setting)) i ∙ apart_settings s g.setting l.0),
  new_after_setting gs rows now r s i e l.1 h.1,
)

-- each value begins with no dash
abbrev ArePlain : Verb → List Given → Type 0
ArePlain v gs = (s : Setting) (x : Text) → has_setting v s ≡ true → has_value s ≡ true → Has gs s x → IsPlain x

plain_later : (v : Verb) (g : Given) (gs : List Given) → ArePlain v (g ∷ gs) → ArePlain v gs
plain_later v g gs h s x o t has = h s x o t (suc has.0, (let low = has.1 in omega arith), has.2)

walks_from : (v : Verb) (c : List Rule) (l : Layout) (rows : List Row) (k : ℕ) → Fits v l → AreSingle (settings_of l) → AreNew rows (settings_of l)
    → Placed c rows k (arguments_of l) → ArePlain v (settings_of l) → Walks v c rows k l
walks_from v c nothing rows k f s n p a = tt
walks_from v c (ended ws) rows k f s n p a = p
walks_from v c (argument w l) rows k f s n p a = (
  free_plain c w f.0,
  p.0,
  p.1,
  walks_from v c l (row_placed rows k w) (place_after k) f.1 s
      (new_after_place (settings_of l) rows _ (placed_row k w) k refl (placed_joins k w rows p.1) n) p.2 a,
)
walks_from v c (flag t l) rows k f s n p a =
    let joins = flagged_joins t rows n.0 in (
      f.0,
      n.0,
      walks_from v c l (row_flagged rows t) k f.1 s.1 (new_after_setting (settings_of l) rows _ (flagged_row t) t refl joins s.0 n.1)
          (placed_moves c (arguments_of l) rows _ k (setting_places rows _ (flagged_row t) t refl joins) p) (plain_later v _ (settings_of l) a),
    )
walks_from v c (spaced t x l) rows k f s n p a =
    let joins = valued_joins t x rows n.0 in (
      f.0,
      free_plain c x (a t x f.0.owned f.0.valued (0, omega arith, refl)),
      n.0,
      walks_from v c l (row_valued rows t x) k f.1 s.1
          (new_after_setting (settings_of l) rows _ (valued_row t x) t refl joins s.0 n.1)
          (placed_moves c (arguments_of l) rows _ k (setting_places rows _ (valued_row t x) t refl joins) p) (plain_later v _ (settings_of l) a),
    )
walks_from v c (tied t x l) rows k f s n p a =
    let joins = valued_joins t x rows n.0 in (
      f.0,
      n.0,
      walks_from v c l (row_valued rows t x) k f.1 s.1 (new_after_setting (settings_of l) rows _ (valued_row t x) t refl joins s.0 n.1)
          (placed_moves c (arguments_of l) rows _ k (setting_places rows _ (valued_row t x) t refl joins) p) (plain_later v _ (settings_of l) a),
    )

none_new : (gs : List Given) → AreNew [] gs
none_new [] = tt
none_new (g ∷ gs) = (refl, none_new gs)

-- the arguments of a command find their places
first_there : (v : Verb) → IsPlace (rules_for v) 1
first_there verb.Catalogue = record { by_index = refl; by_id = refl }
first_there verb.Resume = record { by_index = refl; by_id = refl }
first_there verb.Shard = record { by_index = refl; by_id = refl }
first_there verb.ResumeShard = record { by_index = refl; by_id = refl }
first_there verb.Draw = record { by_index = refl; by_id = refl }
first_there verb.Exercise = record { by_index = refl; by_id = refl }
first_there verb.Apply = record { by_index = refl; by_id = refl }
first_there verb.Merge = record { by_index = refl; by_id = refl }
first_there (verb.File kind) = record { by_index = refl; by_id = refl }

second_there : IsPlace (rules_for verb.Exercise) 2
second_there = record { by_index = refl; by_id = refl }

shard_second : IsPlace (rules_for verb.Shard) 2
shard_second = record { by_index = refl; by_id = refl }

shard_third : IsPlace (rules_for verb.Shard) 3
shard_third = record { by_index = refl; by_id = refl }

applied_there : IsPlace (rules_for verb.Apply) 2
applied_there = record { by_index = refl; by_id = refl }

-- up to eight files find their places
merge_there : (k : ℕ) → 1 ≤ k → k ≤ 8 → IsPlace (rules_for verb.Merge) k
merge_there zero low high = absurd (omega arith)
merge_there (suc zero) low high = record { by_index = refl; by_id = refl }
merge_there (suc (suc zero)) low high = record { by_index = refl; by_id = refl }
merge_there (suc (suc (suc zero))) low high = record { by_index = refl; by_id = refl }
merge_there (suc (suc (suc (suc zero)))) low high = record { by_index = refl; by_id = refl }
merge_there (suc (suc (suc (suc (suc zero))))) low high = record { by_index = refl; by_id = refl }
merge_there (suc (suc (suc (suc (suc (suc zero)))))) low high = record { by_index = refl; by_id = refl }
merge_there (suc (suc (suc (suc (suc (suc (suc zero))))))) low high = record { by_index = refl; by_id = refl }
merge_there (suc (suc (suc (suc (suc (suc (suc (suc zero)))))))) low high = record { by_index = refl; by_id = refl }
merge_there (suc (suc (suc (suc (suc (suc (suc (suc (suc k))))))))) low high = absurd (omega arith)

-- no place from one on is taken
abbrev AreFree : List Row → ℕ → Type 0
AreFree rows k = (j : ℕ) → k ≤ j → j ≤ 8 → has_row (place_of j) rows ≡ false

free_after : (rows : List Row) (k : ℕ) (w : Text) → 1 ≤ k → k ≤ 8 → AreFree rows k → AreFree (row_placed rows k w) (suc k)
free_after rows k w low high free j from to =
    ap (has_row (place_of j)) (placed_joins k w rows (free k (omega arith) high)) ∙ has_pushed (place_of j) rows (placed_row k w)
    ∙ ap₂ (λ a b. a || b) (free j (omega arith) to) (places_apart k j low (omega arith) to)

merge_places : (ws : List Text) (rows : List Row) (k : ℕ) → 1 ≤ k → length ws + k ≤ 9 → AreFree rows k → Placed (rules_for verb.Merge) rows k ws
merge_places [] rows k low few free = tt
merge_places (w ∷ ws) rows k low few free = (
  merge_there k low (omega arith),
  free k (omega arith) (omega arith),
  subst (λ n. Placed (rules_for verb.Merge) (row_placed rows k w) n ws) (sym (next_place k (omega arith)))
      (merge_places ws (row_placed rows k w) (suc k) (omega arith) (omega arith) (free_after rows k w low (omega arith) free)),
)

said_places : (d : Command) (xs : List Text) (gs : List Given) → IsSaid d xs gs → Placed (rules_for (verb_of d)) [] 1 xs
said_places (command.Catalogue q pace pause checkpoint) (n ∷ []) gs h = (first_there verb.Catalogue, refl, tt)
said_places (command.Catalogue q pace pause checkpoint) [] gs h = tt
said_places (command.Catalogue q pace pause checkpoint) (n ∷ m ∷ ns) gs h = elim h [ ]
said_places (command.Resume name pace pause) (n ∷ []) gs h = (first_there verb.Resume, refl, tt)
said_places (command.Resume name pace pause) [] gs h = tt
said_places (command.Resume name pace pause) (n ∷ m ∷ ns) gs h = elim h [ ]
said_places (command.Shard shard q pace pause checkpoint) (i ∷ m ∷ n ∷ []) gs h = (first_there verb.Shard, refl, (shard_second, refl, (shard_third, refl, tt)))
said_places (command.Shard shard q pace pause checkpoint) [] gs h = tt
said_places (command.Shard shard q pace pause checkpoint) (i ∷ []) gs h = elim h [ ]
said_places (command.Shard shard q pace pause checkpoint) (i ∷ m ∷ []) gs h = elim h [ ]
said_places (command.Shard shard q pace pause checkpoint) (i ∷ m ∷ n ∷ o ∷ ns) gs h = elim h [ ]
said_places (command.ResumeShard name pace pause) (n ∷ []) gs h = (first_there verb.ResumeShard, refl, tt)
said_places (command.ResumeShard name pace pause) [] gs h = tt
said_places (command.ResumeShard name pace pause) (n ∷ m ∷ ns) gs h = elim h [ ]
said_places (command.Draw file frame) (n ∷ []) gs h = (first_there verb.Draw, refl, tt)
said_places (command.Draw file frame) [] gs h = tt
said_places (command.Draw file frame) (n ∷ m ∷ ns) gs h = elim h [ ]
said_places (command.Exercise start count) (n ∷ m ∷ []) gs h = (first_there verb.Exercise, refl, (second_there, refl, tt))
said_places (command.Exercise start count) [] gs h = tt
said_places (command.Exercise start count) (n ∷ []) gs h = elim h [ ]
said_places (command.Exercise start count) (n ∷ m ∷ o ∷ ns) gs h = elim h [ ]
said_places (command.Apply word file) (n ∷ m ∷ []) gs h = (first_there verb.Apply, refl, (applied_there, refl, tt))
said_places (command.Apply word file) [] gs h = tt
said_places (command.Apply word file) (n ∷ []) gs h = elim h [ ]
said_places (command.Apply word file) (n ∷ m ∷ o ∷ ns) gs h = elim h [ ]
said_places (command.Merge files) xs gs h = merge_places xs [] 1 (omega arith) (let few = h.few in omega arith) (λ j from to. refl)
said_places (command.File kind file) (n ∷ []) gs h = (first_there (verb.File kind), refl, tt)
said_places (command.File kind file) [] gs h = tt
said_places (command.File kind file) (n ∷ m ∷ ns) gs h = elim h [ ]

-- ---- a command and its matches

record IsPassed (v : Verb) (ws : List Text) (d : Command) : Type 0 where
  pub layout : Layout
  pub words_are : words_of layout ≡ ws
  pub walks : Walks v (rules_for v) [] 1 layout
  pub single : AreSingle (settings_of layout)
  pub read : IsReadAs v (arguments_of layout) (settings_of layout) d

command_walks : (d : Command) (l : Layout) → Fits (verb_of d) l → AreSingle (settings_of l) → IsSaid d (arguments_of l) (settings_of l)
    → Walks (verb_of d) (rules_for (verb_of d)) [] 1 l
command_walks d l fits single h = walks_from (verb_of d) (rules_for (verb_of d)) l [] 1 fits single (none_new (settings_of l)) (said_places d (arguments_of l) (settings_of l) h)
    (value_plain (settings_of l) single d (arguments_of l) h)

passed_command : (v : Verb) (w : Text) (ws : List Text) (d : Command) → w ≡ first_word v → IsCommand (w ∷ ws) d → IsPassed v ws d
passed_command v w ws d e h =
    let p = parts v w ws d e h in
    let single = subst AreSingle (sym p.laid.settings_are) p.single in
    let says = subst (λ gs. IsSaid d (arguments_of p.laid.layout) gs) (sym p.laid.settings_are) (subst (λ xs. IsSaid d xs p.settings) (sym p.laid.arguments_are) p.read.said) in
    record {
      layout = p.laid.layout;
      words_are = p.laid.words_are;
      walks = subst (λ u. Walks u (rules_for u) [] 1 p.laid.layout) p.read.verb_is
          (command_walks d p.laid.layout (subst (λ u. Fits u p.laid.layout) (sym p.read.verb_is) p.laid.fits) single says);
      single = single;
      read = record { verb_is = p.read.verb_is; said = says };
    }

-- what the matches of a layout hold
record AreTold (l : Layout) (xs : List Text) (gs : List Given) : Type 0 where
  pub arguments_are : xs ≡ arguments_of l
  pub settings_are : gs ≡ picked (settings_of l) all_settings

told : (v : Verb) (l : Layout) (ws xs : List Text) (gs : List Given) → Walks v (rules_for v) [] 1 l → words_of l ≡ ws → AreMatched v ws xs gs → AreTold l xs gs
told v l ws xs gs w e m =
    let c = rules_for v in
    let rows : matches_of (app_for v) ws ≡ rows_with c (list_of 1 l) =
    ap (matches_of (app_for v)) (sym e) ∙ matches_are v (words_of l) _ (layout_end v l w) ∙ ap (rows_with c) (rows_are v c l [] 1 w) in
    record {
      arguments_are = m.arguments_are ∙ ap arguments_read rows ∙ arguments_are v c (reader_for v) l w;
      settings_are = settings_read v c (reader_for v) l w all_settings gs (subst (λ z. AreRead z all_settings gs) rows m.settings_are);
    }

pub not_passed : (v : Verb) (w : Text) (ws : List Text) → w ≡ first_word v → (fault_of (app_for v) ws ≡ [] → ⊥) → (d : Command) → IsCommand (w ∷ ws) d → ⊥
not_passed v w ws e none d h =
    let p = passed_command v w ws d e h in
    none (ap (fault_of (app_for v)) (sym p.words_are) ∙ no_fault_at_end v (words_of p.layout) _ (layout_end v p.layout p.walks))

pub matched_single : (v : Verb) (ws xs : List Text) (gs : List Given) → AreMatched v ws xs gs → AreSingle gs
matched_single v ws xs gs m =
    let f = found_layout v ws m.taken in
    subst AreSingle (sym (told v f.layout ws xs gs f.walks f.words_are m).settings_are) (all_single (settings_of f.layout))

pub matched_command : (v : Verb) (w : Text) (ws xs : List Text) (gs : List Given) (d : Command) → w ≡ first_word v → AreMatched v ws xs gs → IsReadAs v xs gs d → IsCommand (w ∷ ws) d
matched_command v w ws xs gs d e m h =
    let f = found_layout v ws m.taken in
    let t = told v f.layout ws xs gs f.walks f.words_are m in
    let says = subst (λ z. IsSaid d (arguments_of f.layout) z) t.settings_are (subst (λ z. IsSaid d z gs) t.arguments_are h.said) in
    let says_laid = said (picked (settings_of f.layout) all_settings) (settings_of f.layout) (picked_to (settings_of f.layout)) d (arguments_of f.layout) says in
    record {
      rest = ws;
      arguments = arguments_of f.layout;
      settings = settings_of f.layout;
      first = ap (λ z. z ∷ ws) (e ∙ ap first_word (sym h.verb_is));
      laid = record {
        layout = f.layout;
        fits = subst (λ u. Fits u f.layout) (sym h.verb_is) (fits_walks v (rules_for v) f.layout [] 1 f.walks (argument_plain d (arguments_of f.layout) (settings_of f.layout) says_laid));
        words_are = f.words_are;
        arguments_are = refl;
        settings_are = refl;
      };
      single = (single_walks v (rules_for v) f.layout [] 1 f.walks).0;
      said = says_laid;
    }

pub matched_not_read : (v : Verb) (w : Text) (ws xs : List Text) (gs : List Given) → w ≡ first_word v → AreMatched v ws xs gs → ((d : Command) → IsReadAs v xs gs d → ⊥)
    → (d : Command) → IsCommand (w ∷ ws) d → ⊥
matched_not_read v w ws xs gs e m none d h =
    let p = passed_command v w ws d e h in
    let t = told v p.layout ws xs gs p.walks p.words_are m in
    let says = said (settings_of p.layout) (picked (settings_of p.layout) all_settings) (picked_from (settings_of p.layout) p.single) d (arguments_of p.layout) p.read.said in
    none d (record {
      verb_is = p.read.verb_is;
      said = subst (λ z. IsSaid d z gs) (sym t.arguments_are) (subst (λ z. IsSaid d (arguments_of p.layout) z) (sym t.settings_are) says);
    })
