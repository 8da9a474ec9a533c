-- Words that clap passes are the words of a layout.
use Rattle.std.proofs.Common.{◌≡◌, ◌∙◌, ◌⊎◌, ◌&&◌, ℕ, Bool, true, false, List, [], ◌∷◌, Option, Some, None, refl, sym, ap, subst, inl, inr, bytes_eq}
use Rattle.std.specs.Prelude.{if◌then◌else◌, slice_get, is_some}
use Rattle.std.specs.Str.{chars}
use Rattle.std.specs.Option.{option_map_or}
use Rattle.std.proofs.lemmas.Slice.Eq.{bytes_eq-Decides}
use Rattle.clap.specs.Lexer.{long_of, short_of}
use Rattle.clap.specs.Words.{Rule, Row}
use Rattle.clap.specs.Walk.{Held, Walk, Waiting, idle, option, next, value, walked, settled_rows, used_by_id, has_row, takes_values, arg_by_index, arg_by_long}
use Rattle.clap.specs.Faults.{turn_fault, walk_fault, word_fault, long_fault, option_fault, react_fault, settle_fault, use_fault, step_fault, positional_fault, stray_fault}
use Rattle.clap.specs.Kinds.{Kinds, or_else}
use Rattle.clap.specs.declared.error.kind.ErrorKind.TheVariants as kind
use Rattle.dd_words.specs.declared.settings.Setting.{Setting}
use Rattle.dd_words.specs.declared.verbs.Verb.{Verb}
use Rattle.dd_words.specs.Values.{Text}
use Rattle.dd_words.specs.Layout.{Layout, nothing, ended, argument, flag, spaced, tied, words_of, IsFlagOf, IsValuedOf}
use Rattle.dd_words.specs.SettingNames.{word_of, dashed, assigned, has_setting, has_value}
use Rattle.dd_words.proofs.LongWords.{long_word_is, short_some, spelled}
use Rattle.dd_words.proofs.ClapSteps.{shape_with, valued, flagged, placed, holding, standing, dash_dash, IsFree, free_word, free_bytes, fault_short, fault_long}
use Rattle.dd_words.proofs.PlaceNames.{place_of}
use Rattle.dd_words.proofs.ClapWalks.{IsPlace, IsReader, place_after, row_placed, row_valued, row_flagged, Placed, Walks, end_of, free_moves, free_asks, late_moves, late_asks, dashes_move, long_moves, place_asked, value_moves}
use Rattle.dd_words.proofs.SettingWords.{not_dashes_alone, not_dashes_tied, long_alone, long_tied}

pub both : (a b : Kinds) → or_else a b ≡ [] → (a ≡ []) × (b ≡ [])
both [] b e = (refl, e)
both (k ∷ ks) b e = absurd (cc)

some_kind : (k : _) (ks : Kinds) → k ∷ ks ≡ [] → ⊥
some_kind k ks e = cc

-- what clap makes of the words has no fault
pub record Passes (c : List Rule) (st : Walk) (ws : List Text) : Type 0 where
  pub no_fault : walk_fault (shape_with c) [] st ws ≡ []
  pub settles : settle_fault c false (end_of c st ws).held ≡ []

pass_word : (c : List Rule) (st : Walk) (w : Text) (ws : List Text) → Passes c st (w ∷ ws) → turn_fault (shape_with c) [] st w ≡ []
unfolding walk_fault
pass_word c st w ws h = (both _ _ h.no_fault).0

pass_on : (c : List Rule) (st to : Walk) (w : Text) (ws : List Text) → walked c [] st w ≡ to → Passes c st (w ∷ ws) → Passes c to ws
unfolding walk_fault
pass_on c st to w ws e h = subst (λ z. Passes c z ws) e (record { no_fault = (both _ _ h.no_fault).1; settles = h.settles })

-- the four sorts of words
data Sort (c : List Rule) (w : Text) : Type 0 where
  dashes : w ≡ dash_dash → Sort c w
  long : (name : Text) (x : Option Text) → bytes_eq w dash_dash ≡ false → long_of w ≡ Some (name, x) → Sort c w
  free : IsFree c w → Sort c w
  refused : ((wt : Waiting) (rows : List Row) (p : Option (Text × List Text)) → word_fault (shape_with c) [] false wt w (holding rows p) ≡ kind.UnknownArgument ∷ []) → Sort c w

sort_word : (v : Verb) (c : List Rule) → IsReader v c → (w : Text) → Sort c w
sort_word v c r w = first (bytes_eq w dash_dash) refl
  where
    fourth : (flags : Text) (o : Option ℕ) → bytes_eq w dash_dash ≡ false → long_of w ≡ None → short_of w ≡ Some flags → slice_get (chars flags) 0 ≡ o → Sort c w
    fourth flags None e f g n = free (free_bytes c w flags e f g n)
    fourth flags (Some k) e f g n =
        let some = short_some w flags g in
        refused (λ wt rows p. fault_short c wt w flags some.0 k some.1 rows p e f g some.2 n (r.no_short k))

    third : (o : Option Text) → bytes_eq w dash_dash ≡ false → long_of w ≡ None → short_of w ≡ o → Sort c w
    third None e f g = free (free_word c w e f g)
    third (Some flags) e f g = fourth flags (slice_get (chars flags) 0) e f g refl

    second : (o : Option (Text × Option Text)) → bytes_eq w dash_dash ≡ false → long_of w ≡ o → Sort c w
    second None e f = third (short_of w) e f refl
    second (Some p) e f = long p.0 p.1 e f

    first : (b : Bool) → bytes_eq w dash_dash ≡ b → Sort c w
    first true e = dashes ((bytes_eq-Decides w dash_dash).0 e)
    first false e = second (long_of w) e refl

-- an option without its value does not pass
use_without : (n : Text) (rows : List Row) → use_fault false (valued n) [] rows ≡ [] → ⊥
use_without n rows e = absurd (cc)

no_value : (v : Verb) (c : List Rule) → IsReader v c → (held : List Row) (s : Setting) → IsValuedOf v s
    → settle_fault c false (holding held (Some (word_of s, []))) ≡ [] → ⊥
no_value v c r held s o e = use_without (word_of s) held (sym (ap (λ a. option_map_or (λ a. use_fault false a [] held) a []) (r.valued_id s o)) ∙ e)

-- each rule is used once
unused : (b : Bool) → or_else (if b && true then kind.ArgumentConflict ∷ [] else []) [] ≡ [] → b ≡ false
unused true e = absurd (cc)
unused false e = refl

unused_valued : (n x : Text) (rows : List Row) → use_fault false (valued n) (x ∷ []) rows ≡ [] → has_row n rows ≡ false
unused_valued n x rows e = unused (has_row n rows) e

unused_flagged : (n : Text) (rows : List Row) → use_fault false (flagged n) [] rows ≡ [] → has_row n rows ≡ false
unused_flagged n rows e = unused (has_row n rows) e

unused_placed : (n : Text) (k : ℕ) (x : Text) (rows : List Row) → use_fault false (placed n k) (x ∷ []) rows ≡ [] → has_row n rows ≡ false
unused_placed n k x rows e = unused (has_row n rows) e

-- a word with two dashes and a name lets settle what is pending
long_settles : (c : List Rule) (a : Option Rule) (x : Option Text) (h : Held) → long_fault c false a x h ≡ [] → settle_fault c false h ≡ []
long_settles c None x h e = absurd (cc)
long_settles c (Some a) x h e = go (takes_values a) x e
  where
    go : (b : Bool) (x : Option Text)
        → (if b then option_fault c false a x h else (if is_some x then kind.TooManyValues ∷ [] else react_fault c false a [] h)) ≡ [] → settle_fault c false h ≡ []
    go true None e = e
    go true (Some y) e = (both _ _ e).0
    go false None e = (both _ _ e).0
    go false (Some y) e = absurd (cc)

-- a word in the place of an argument
placed_asks : (v : Verb) (c : List Rule) → IsReader v c → (h : Held) (k : ℕ) → step_fault (shape_with c) k h value ≡ [] → IsPlace c k × (settle_fault c false h ≡ [])
placed_asks v c r h k e = go (r.places k)
  where
    go : (arg_by_index c k ≡ None) ⊎ IsPlace c k → IsPlace c k × (settle_fault c false h ≡ [])
    go (inl none) = absurd (some_kind kind.UnknownArgument []
        (sym (ap (λ o. option_map_or (λ a. positional_fault c false a h) o (stray_fault (shape_with c))) none) ∙ e))
    go (inr p) = (p, sym (place_asked c h k p) ∙ e)

-- the argument that is pending
placed_unused : (c : List Rule) (rows : List Row) (k : ℕ) (w : Text) → IsPlace c k → settle_fault c false (holding rows (Some (place_of k, w ∷ []))) ≡ [] → has_row (place_of k) rows ≡ false
placed_unused c rows k w p e =
    unused_placed (place_of k) k w rows (sym (ap (λ a. option_map_or (λ a. use_fault false a (w ∷ []) rows) a []) p.by_id) ∙ e)

placed_rows : (c : List Rule) (rows : List Row) (k : ℕ) (w : Text) → IsPlace c k → settled_rows c (Some (place_of k, w ∷ [])) rows ≡ row_placed rows k w
placed_rows c rows k w p = ap (λ a. used_by_id a (w ∷ []) rows) p.by_id

module _ (v : Verb) (c : List Rule) (r : IsReader v c) where
  -- the words after two dashes
  late : (ws : List Text) (held : List Row) (pending : Option (Text × List Text)) (wt : Waiting) (k : ℕ) → Passes c (standing (holding held pending) wt k true) ws
      → (settle_fault c false (holding held pending) ≡ []) × Placed c (settled_rows c pending held) k ws
  late [] held pending wt k h = (h.settles, tt)
  late (w ∷ ws) held pending wt k h =
      let asks = placed_asks v c r (holding held pending) k (sym (late_asks c held pending wt k w) ∙ pass_word c _ w ws h) in
      let rows = settled_rows c pending held in
      let more = late ws rows (Some (place_of k, w ∷ [])) idle (place_after k) (pass_on c _ _ w ws (late_moves c held pending wt k w asks.0) h) in
      (asks.1, (asks.0, placed_unused c rows k w asks.0 more.0, subst (λ z. Placed c z (place_after k) ws) (placed_rows c rows k w asks.0) more.1))

  pub record Found (held : List Row) (pending : Option (Text × List Text)) (k : ℕ) (ws : List Text) : Type 0 where
    pub layout : Layout
    pub words_are : words_of layout ≡ ws
    pub settles : settle_fault c false (holding held pending) ≡ []
    pub walks : Walks v c (settled_rows c pending held) k layout

  -- a value that is waited for, and the words after it
  record FoundValue (held : List Row) (s : Setting) (k : ℕ) (ws : List Text) : Type 0 where
    pub x : Text
    pub layout : Layout
    pub words_are : x ∷ words_of layout ≡ ws
    pub is_free : IsFree c x
    pub unused : has_row (word_of s) held ≡ false
    pub walks : Walks v c (row_valued held s x) k layout

  record FoundIn (ws : List Text) : Type 0 where
    pub at_rest : (held : List Row) (pending : Option (Text × List Text)) (k : ℕ) → Passes c (standing (holding held pending) idle k false) ws → Found held pending k ws
    pub waiting : (held : List Row) (s : Setting) (k : ℕ) → IsValuedOf v s
        → Passes c (standing (holding held (Some (word_of s, []))) (option (word_of s)) k false) ws → FoundValue held s k ws

  dashes_found : (ws : List Text) (held : List Row) (pending : Option (Text × List Text)) (k : ℕ) (w : Text) → w ≡ dash_dash
      → Passes c (standing (holding held pending) idle k false) (w ∷ ws) → Found held pending k (w ∷ ws)
  dashes_found ws held pending k w e h =
      let there = subst (λ z. Passes c (standing (holding held pending) idle k false) (z ∷ ws)) e h in
      let more = late ws held pending idle k (pass_on c _ _ _ ws (dashes_move c held pending idle k) there) in
      record { layout = ended ws; words_are = ap (λ z. z ∷ ws) (sym e); settles = more.0; walks = more.1 }

  free_found : (ws : List Text) → FoundIn ws → (held : List Row) (pending : Option (Text × List Text)) (k : ℕ) (w : Text) → IsFree c w
      → Passes c (standing (holding held pending) idle k false) (w ∷ ws) → Found held pending k (w ∷ ws)
  free_found ws more held pending k w f h =
      let asks = placed_asks v c r (holding held pending) k (sym (free_asks c held pending k w f) ∙ pass_word c _ w ws h) in
      let rows = settled_rows c pending held in
      let rest = more.at_rest rows (Some (place_of k, w ∷ [])) (place_after k) (pass_on c _ _ w ws (free_moves c held pending k w f asks.0) h) in
      record {
        layout = argument w rest.layout;
        words_are = ap (λ z. w ∷ z) rest.words_are;
        settles = asks.1;
        walks = (f, asks.0, placed_unused c rows k w asks.0 rest.settles, subst (λ z. Walks v c z (place_after k) rest.layout) (placed_rows c rows k w asks.0) rest.walks);
      }

  tied_found : (ws : List Text) → FoundIn ws → (held : List Row) (pending : Option (Text × List Text)) (k : ℕ) (s : Setting) (x : Text) → IsValuedOf v s
      → settle_fault c false (holding held pending) ≡ [] → use_fault false (valued (word_of s)) (x ∷ []) (settled_rows c pending held) ≡ []
      → Passes c (standing (holding held pending) idle k false) (assigned s x ∷ ws) → Found held pending k (assigned s x ∷ ws)
  tied_found ws more held pending k s x o e f h =
      let rest = more.at_rest (row_valued (settled_rows c pending held) s x) None k (pass_on c _ _ _ ws
      (long_moves c held pending k (assigned s x) (word_of s) (Some x) (Some (valued (word_of s))) _ (next idle) (not_dashes_tied s x) (long_tied s x) (r.valued_long s o) refl) h) in
      record {
        layout = tied s x rest.layout;
        words_are = ap (λ z. assigned s x ∷ z) rest.words_are;
        settles = e;
        walks = (o, unused_valued (word_of s) x (settled_rows c pending held) f, rest.walks);
      }

  flag_found : (ws : List Text) → FoundIn ws → (held : List Row) (pending : Option (Text × List Text)) (k : ℕ) (s : Setting) → IsFlagOf v s
      → settle_fault c false (holding held pending) ≡ [] → use_fault false (flagged (word_of s)) [] (settled_rows c pending held) ≡ []
      → Passes c (standing (holding held pending) idle k false) (dashed s ∷ ws) → Found held pending k (dashed s ∷ ws)
  flag_found ws more held pending k s o e f h =
      let rest = more.at_rest (row_flagged (settled_rows c pending held) s) None k (pass_on c _ _ _ ws
      (long_moves c held pending k (dashed s) (word_of s) None (Some (flagged (word_of s))) _ (next idle) (not_dashes_alone s) (long_alone s) (r.flagged_long s o) refl) h) in
      record {
        layout = flag s rest.layout;
        words_are = ap (λ z. dashed s ∷ z) rest.words_are;
        settles = e;
        walks = (o, unused_flagged (word_of s) (settled_rows c pending held) f, rest.walks);
      }

  spaced_found : (ws : List Text) → FoundIn ws → (held : List Row) (pending : Option (Text × List Text)) (k : ℕ) (s : Setting) → IsValuedOf v s
      → settle_fault c false (holding held pending) ≡ []
      → Passes c (standing (holding held pending) idle k false) (dashed s ∷ ws) → Found held pending k (dashed s ∷ ws)
  spaced_found ws more held pending k s o e h =
      let rest = more.waiting (settled_rows c pending held) s k o (pass_on c _ (standing (holding (settled_rows c pending held) (Some (word_of s, []))) (option (word_of s)) k false) _ ws
      (long_moves c held pending k (dashed s) (word_of s) None (Some (valued (word_of s))) _ (next (option (word_of s))) (not_dashes_alone s) (long_alone s) (r.valued_long s o) refl) h) in
      record {
        layout = spaced s rest.x rest.layout;
        words_are = ap (λ z. dashed s ∷ z) rest.words_are;
        settles = e;
        walks = (o, rest.is_free, rest.unused, rest.walks);
      }

  -- the name of a setting, with a value or without
  setting_found : (ws : List Text) → FoundIn ws → (held : List Row) (pending : Option (Text × List Text)) (k : ℕ) (s : Setting) (x : Option Text) (b : Bool) → has_setting v s ≡ true → has_value s ≡ b
      → long_fault c false (arg_by_long c (word_of s)) x (holding held pending) ≡ []
      → Passes c (standing (holding held pending) idle k false) ((45 ∷ 45 ∷ spelled (word_of s) x) ∷ ws) → Found held pending k ((45 ∷ 45 ∷ spelled (word_of s) x) ∷ ws)
  setting_found ws more held pending k s None true o t e h =
      let is : IsValuedOf v s = record { owned = o; valued = t } in
      spaced_found ws more held pending k s is (sym (ap (λ a. long_fault c false a None (holding held pending)) (r.valued_long s is)) ∙ e) h
  setting_found ws more held pending k s (Some x) true o t e h =
      let is : IsValuedOf v s = record { owned = o; valued = t } in
      let asks = both _ _ (sym (ap (λ a. long_fault c false a (Some x) (holding held pending)) (r.valued_long s is)) ∙ e) in
      tied_found ws more held pending k s x is asks.0 asks.1 h
  setting_found ws more held pending k s None false o t e h =
      let is : IsFlagOf v s = record { owned = o; flag = t } in
      let asks = both _ _ (sym (ap (λ a. long_fault c false a None (holding held pending)) (r.flagged_long s is)) ∙ e) in
      flag_found ws more held pending k s is asks.0 asks.1 h
  setting_found ws more held pending k s (Some x) false o t e h =
      let is : IsFlagOf v s = record { owned = o; flag = t } in
      absurd (some_kind kind.TooManyValues [] (sym (ap (λ a. long_fault c false a (Some x) (holding held pending)) (r.flagged_long s is)) ∙ e))

  long_found : (ws : List Text) → FoundIn ws → (held : List Row) (pending : Option (Text × List Text)) (k : ℕ) (w name : Text) (x : Option Text)
      → (arg_by_long c name ≡ None) ⊎ ((s : Setting) × (has_setting v s ≡ true) × (name ≡ word_of s))
      → w ≡ 45 ∷ 45 ∷ spelled name x → long_fault c false (arg_by_long c name) x (holding held pending) ≡ []
      → Passes c (standing (holding held pending) idle k false) (w ∷ ws) → Found held pending k (w ∷ ws)
  long_found ws more held pending k w name x (inl none) is e h =
      absurd (some_kind kind.UnknownArgument [] (sym (ap (λ a. long_fault c false a x (holding held pending)) none) ∙ e))
  long_found ws more held pending k w name x (inr p) is e h =
      let spells : w ≡ 45 ∷ 45 ∷ spelled (word_of p.0) x = is ∙ ap (λ n. 45 ∷ 45 ∷ spelled n x) p.2 in
      subst (λ z. Found held pending k (z ∷ ws)) (sym spells)
      (setting_found ws more held pending k p.0 x (has_value p.0) p.1 refl (subst (λ n. long_fault c false (arg_by_long c n) x (holding held pending) ≡ []) p.2 e)
      (subst (λ z. Passes c (standing (holding held pending) idle k false) (z ∷ ws)) spells h))

  rest_found : (ws : List Text) → FoundIn ws → (w : Text) → Sort c w → (held : List Row) (pending : Option (Text × List Text)) (k : ℕ)
      → Passes c (standing (holding held pending) idle k false) (w ∷ ws) → Found held pending k (w ∷ ws)
  rest_found ws more w (dashes e) held pending k h = dashes_found ws held pending k w e h
  rest_found ws more w (free f) held pending k h = free_found ws more held pending k w f h
  rest_found ws more w (refused bad) held pending k h =
      absurd (some_kind kind.UnknownArgument [] (sym (bad idle held pending) ∙ (both _ _ (pass_word c _ w ws h)).0))
  rest_found ws more w (long name x e f) held pending k h =
      long_found ws more held pending k w name x (r.known name) (long_word_is w name x f)
      (sym (fault_long c idle w name x (holding held pending) e f) ∙ (both _ _ (pass_word c _ w ws h)).0) h

  value_found : (ws : List Text) → FoundIn ws → (w : Text) → Sort c w → (held : List Row) (s : Setting) (k : ℕ) → IsValuedOf v s
      → Passes c (standing (holding held (Some (word_of s, []))) (option (word_of s)) k false) (w ∷ ws) → FoundValue held s k (w ∷ ws)
  value_found ws more w (dashes e) held s k o h =
      let there = subst (λ z. Passes c (standing (holding held (Some (word_of s, []))) (option (word_of s)) k false) (z ∷ ws)) e h in
      absurd (no_value v c r held s o (late ws held (Some (word_of s, [])) (option (word_of s)) k
      (pass_on c _ _ _ ws (dashes_move c held (Some (word_of s, [])) (option (word_of s)) k) there)).0)
  value_found ws more w (free f) held s k o h =
      let rest = more.at_rest held (Some (word_of s, w ∷ [])) k (pass_on c _ _ w ws (value_moves c held k (word_of s) w f (r.valued_id s o)) h) in
      record {
        x = w;
        layout = rest.layout;
        words_are = ap (λ z. w ∷ z) rest.words_are;
        is_free = f;
        unused = unused_valued (word_of s) w held (sym (ap (λ a. option_map_or (λ a. use_fault false a (w ∷ []) held) a []) (r.valued_id s o)) ∙ rest.settles);
        walks = subst (λ z. Walks v c z k rest.layout) (ap (λ a. used_by_id a (w ∷ []) held) (r.valued_id s o)) rest.walks;
      }
  value_found ws more w (refused bad) held s k o h =
      absurd (some_kind kind.UnknownArgument [] (sym (bad (option (word_of s)) held (Some (word_of s, []))) ∙ (both _ _ (pass_word c _ w ws h)).0))
  value_found ws more w (long name x e f) held s k o h =
      absurd (no_value v c r held s o (long_settles c (arg_by_long c name) x (holding held (Some (word_of s, [])))
      (sym (fault_long c (option (word_of s)) w name x (holding held (Some (word_of s, []))) e f) ∙ (both _ _ (pass_word c _ w ws h)).0)))

  found_in : (ws : List Text) → FoundIn ws
  found_in [] = record {
    at_rest = λ held pending k h. record { layout = nothing; words_are = refl; settles = h.settles; walks = tt };
    waiting = λ held s k o h. absurd (no_value v c r held s o h.settles);
  }
  found_in (w ∷ ws) =
      let more = found_in ws in
      record {
        at_rest = λ held pending k h. rest_found ws more w (sort_word v c r w) held pending k h;
        waiting = λ held s k o h. value_found ws more w (sort_word v c r w) held s k o h;
      }

  pub layout_found : (ws : List Text) → Passes c (standing (holding [] None) idle 1 false) ws → Found [] None 1 ws
  layout_found ws h = (found_in ws).at_rest [] None 1 h
