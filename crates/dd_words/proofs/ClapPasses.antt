-- Clap passes the words of a layout, and comes to its rows.
use Rattle.std.proofs.Common.{◌≡◌, ◌∙◌, ℕ, true, false, List, [], ◌∷◌, Option, Some, None, refl, ap}
use Rattle.clap.specs.Words.{Rule, Row}
use Rattle.clap.specs.Walk.{idle, option, next, settled_rows, has_row}
use Rattle.clap.specs.Faults.{use_fault}
use Rattle.clap.specs.Kinds.{or_else}
use Rattle.dd_words.specs.declared.settings.Setting.{Setting}
use Rattle.dd_words.specs.declared.verbs.Verb.{Verb}
use Rattle.dd_words.specs.Values.{Text}
use Rattle.dd_words.specs.Layout.{Layout, nothing, ended, argument, flag, spaced, tied, words_of, IsFlagOf, IsValuedOf}
use Rattle.dd_words.specs.SettingNames.{word_of, dashed, assigned}
use Rattle.dd_words.proofs.SettingWords.{not_dashes_alone, not_dashes_tied, long_alone, long_tied}
use Rattle.dd_words.proofs.ClapSteps.{valued, flagged, holding, standing, IsFree}
use Rattle.dd_words.proofs.PlaceNames.{place_of}
use Rattle.dd_words.proofs.ClapWalks.{IsReader, place_after, row_placed, row_valued, row_flagged, Placed, Walks, rows_placed, rows_from, Ends, Sound, ends_here, ends_after, sound_valued, sound_placed, use_valued, use_flagged, free_moves, free_asks, late_moves, late_asks, dashes_move, dashes_ask, long_moves, long_asks, place_asked, value_moves, value_asks}

module _ (v : Verb) (c : List Rule) (r : IsReader v c) where
  sound_after_valued : (held rows : List Row) (pending : Option (Text × List Text)) (s : Setting) (x : Text) → Sound c held pending rows
      → Sound c (row_valued (settled_rows c pending held) s x) None (row_valued rows s x)
  sound_after_valued held rows pending s x h = record { settles = refl; rows_are = ap (λ z. row_valued z s x) h.rows_are }

  sound_after_flag : (held rows : List Row) (pending : Option (Text × List Text)) (s : Setting) → Sound c held pending rows
      → Sound c (row_flagged (settled_rows c pending held) s) None (row_flagged rows s)
  sound_after_flag held rows pending s h = record { settles = refl; rows_are = ap (λ z. row_flagged z s) h.rows_are }

  tied_ends : (held rows : List Row) (pending : Option (Text × List Text)) (k : ℕ) (s : Setting) (x : Text) (ws : List Text) (end : List Row)
      → Sound c held pending rows → IsValuedOf v s → has_row (word_of s) rows ≡ false
      → Ends c (standing (holding (row_valued (settled_rows c pending held) s x) None) idle k false) ws end
      → Ends c (standing (holding held pending) idle k false) (assigned s x ∷ ws) end
  tied_ends held rows pending k s x ws end h o f ends =
      ends_after c _ _ (assigned s x) ws end
      (long_moves c held pending k (assigned s x) (word_of s) (Some x) (Some (valued (word_of s))) _ (next idle) (not_dashes_tied s x) (long_tied s x) (r.valued_long s o) refl)
      (long_asks c held pending k (assigned s x) (word_of s) (Some x) (Some (valued (word_of s))) _ idle (not_dashes_tied s x) (long_tied s x) (r.valued_long s o) refl
      ∙ ap (λ z. or_else (or_else z (use_fault false (valued (word_of s)) (x ∷ []) (settled_rows c pending held))) []) h.settles
      ∙ ap (λ z. or_else (use_fault false (valued (word_of s)) (x ∷ []) z) []) h.rows_are
      ∙ ap (λ z. or_else z []) (use_valued (word_of s) x rows f))
      ends

  flag_ends : (held rows : List Row) (pending : Option (Text × List Text)) (k : ℕ) (s : Setting) (ws : List Text) (end : List Row)
      → Sound c held pending rows → IsFlagOf v s → has_row (word_of s) rows ≡ false
      → Ends c (standing (holding (row_flagged (settled_rows c pending held) s) None) idle k false) ws end
      → Ends c (standing (holding held pending) idle k false) (dashed s ∷ ws) end
  flag_ends held rows pending k s ws end h o f ends =
      ends_after c _ _ (dashed s) ws end
      (long_moves c held pending k (dashed s) (word_of s) None (Some (flagged (word_of s))) _ (next idle) (not_dashes_alone s) (long_alone s) (r.flagged_long s o) refl)
      (long_asks c held pending k (dashed s) (word_of s) None (Some (flagged (word_of s))) _ idle (not_dashes_alone s) (long_alone s) (r.flagged_long s o) refl
      ∙ ap (λ z. or_else (or_else z (use_fault false (flagged (word_of s)) [] (settled_rows c pending held))) []) h.settles
      ∙ ap (λ z. or_else (use_fault false (flagged (word_of s)) [] z) []) h.rows_are
      ∙ ap (λ z. or_else z []) (use_flagged (word_of s) rows f))
      ends

  spaced_ends : (held rows : List Row) (pending : Option (Text × List Text)) (k : ℕ) (s : Setting) (x : Text) (ws : List Text) (end : List Row)
      → Sound c held pending rows → IsValuedOf v s → IsFree c x
      → Ends c (standing (holding (settled_rows c pending held) (Some (word_of s, x ∷ []))) idle k false) ws end
      → Ends c (standing (holding held pending) idle k false) (dashed s ∷ x ∷ ws) end
  spaced_ends held rows pending k s x ws end h o f ends =
      ends_after c _ (standing (holding (settled_rows c pending held) (Some (word_of s, []))) (option (word_of s)) k false) (dashed s) (x ∷ ws) end
      (long_moves c held pending k (dashed s) (word_of s) None (Some (valued (word_of s))) _ (next (option (word_of s))) (not_dashes_alone s) (long_alone s) (r.valued_long s o) refl)
      (long_asks c held pending k (dashed s) (word_of s) None (Some (valued (word_of s))) _ (option (word_of s)) (not_dashes_alone s) (long_alone s) (r.valued_long s o) refl
      ∙ ap (λ z. or_else z []) h.settles)
      (ends_after c _ _ x ws end (value_moves c (settled_rows c pending held) k (word_of s) x f (r.valued_id s o)) (value_asks c (settled_rows c pending held) k (word_of s) x f) ends)

  placed_end : (ws : List Text) (held rows : List Row) (pending : Option (Text × List Text)) (k : ℕ)
      → Sound c held pending rows → Placed c rows k ws → Ends c (standing (holding held pending) idle k true) ws (rows_placed rows k ws)
  placed_end [] held rows pending k h p = ends_here c held rows pending k idle true h
  placed_end (w ∷ ws) held rows pending k h p =
      ends_after c _ _ w ws (rows_placed rows k (w ∷ ws)) (late_moves c held pending idle k w p.0)
      (late_asks c held pending idle k w ∙ place_asked c (holding held pending) k p.0 ∙ h.settles)
      (let free : has_row (place_of k) (settled_rows c pending held) ≡ false = ap (has_row (place_of k)) h.rows_are ∙ p.1 in
      placed_end ws (settled_rows c pending held) (row_placed rows k w) (Some (place_of k, w ∷ [])) (place_after k)
      (let s = sound_placed c (settled_rows c pending held) k w p.0 free in record { settles = s.settles; rows_are = s.rows_are ∙ ap (λ z. row_placed z k w) h.rows_are }) p.2)

  pub layout_ends : (l : Layout) (held rows : List Row) (pending : Option (Text × List Text)) (k : ℕ)
      → Sound c held pending rows → Walks v c rows k l → Ends c (standing (holding held pending) idle k false) (words_of l) (rows_from rows k l)
  layout_ends nothing held rows pending k h p = ends_here c held rows pending k idle false h
  layout_ends (ended ws) held rows pending k h p =
      ends_after c _ _ _ ws (rows_placed rows k ws) (dashes_move c held pending idle k) (dashes_ask c held pending idle k) (placed_end ws held rows pending k h p)
  layout_ends (argument w l) held rows pending k h p =
      ends_after c _ _ w (words_of l) (rows_from rows k (argument w l)) (free_moves c held pending k w p.0 p.1)
      (free_asks c held pending k w p.0 ∙ place_asked c (holding held pending) k p.1 ∙ h.settles)
      (let free : has_row (place_of k) (settled_rows c pending held) ≡ false = ap (has_row (place_of k)) h.rows_are ∙ p.2 in
      layout_ends l (settled_rows c pending held) (row_placed rows k w) (Some (place_of k, w ∷ [])) (place_after k)
      (let s = sound_placed c (settled_rows c pending held) k w p.1 free in record { settles = s.settles; rows_are = s.rows_are ∙ ap (λ z. row_placed z k w) h.rows_are }) p.3)
  layout_ends (flag s l) held rows pending k h p =
      flag_ends held rows pending k s (words_of l) (rows_from rows k (flag s l)) h p.0 p.1
      (layout_ends l (row_flagged (settled_rows c pending held) s) (row_flagged rows s) None k (sound_after_flag held rows pending s h) p.2)
  layout_ends (spaced s x l) held rows pending k h p =
      spaced_ends held rows pending k s x (words_of l) (rows_from rows k (spaced s x l)) h p.0 p.1
      (let free : has_row (word_of s) (settled_rows c pending held) ≡ false = ap (has_row (word_of s)) h.rows_are ∙ p.2 in
      layout_ends l (settled_rows c pending held) (row_valued rows s x) (Some (word_of s, x ∷ [])) k
      (let y = sound_valued v c r (settled_rows c pending held) s x p.0 free in record { settles = y.settles; rows_are = y.rows_are ∙ ap (λ z. row_valued z s x) h.rows_are }) p.3)
  layout_ends (tied s x l) held rows pending k h p =
      tied_ends held rows pending k s x (words_of l) (rows_from rows k (tied s x l)) h p.0 p.1
      (layout_ends l (row_valued (settled_rows c pending held) s x) (row_valued rows s x) None k (sound_after_valued held rows pending s x h) p.2)
