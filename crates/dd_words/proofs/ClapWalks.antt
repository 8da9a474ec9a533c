-- Layouts, as clap walks over their words.
use Rattle.std.proofs.Common.{◌≡◌, ◌∙◌, ◌⊎◌, ◌+◌, ◌&&◌, ◌||◌, ◌≤◌, ℕ, Bool, true, false, List, [], ◌∷◌, codes, Option, Some, None, refl, sym, ap, subst, bytes_eq, min}
use Rattle.std.specs.Prelude.{if◌then◌else◌, fold, nat_lt}
use Rattle.std.specs.Option.{option_map_or}
use Rattle.std.specs.List.{AllByRecursion}
use Rattle.std.proofs.lemmas.Slice.Eq.{bytes_eq-Decides}
use Rattle.clap.specs.Lexer.{long_of, usize_max}
use Rattle.clap.specs.Words.{Rule, Row}
use Rattle.clap.specs.Walk.{Held, Walk, Step, Waiting, idle, option, next, trailing, value, walked, after_step, to_positional, arg_by_long, arg_by_id, arg_by_index, arg_by_short, settled, settled_rows, used_by_id, used, pushed, option_word, is_pending, has_row, after_flag, long_met, after_flag}
use Rattle.clap.specs.Faults.{turn_fault, walk_fault, long_fault, settle_fault, use_fault, step_fault, positional_fault, stray_fault, check_fault}
use Rattle.clap.specs.Kinds.{or_else}
use Rattle.clap.specs.declared.error.kind.ErrorKind.TheVariants as kind
use Rattle.dd_words.specs.declared.settings.Setting.{Setting}
use Rattle.dd_words.specs.declared.verbs.Verb.{Verb}
use Rattle.dd_words.specs.Values.{Text}
use Rattle.dd_words.specs.Layout.{Layout, nothing, ended, argument, flag, spaced, tied, IsFlagOf, IsValuedOf}
use Rattle.dd_words.specs.SettingNames.{word_of, has_setting}
use Rattle.dd_words.proofs.PlaceNames.{place_of}
use Rattle.dd_words.proofs.ClapSteps.{shape_with, valued, flagged, placed, holding, standing, dash_dash, moved, turned, met_dashes, fault_dashes, met_long, fault_long, long_word_is, IsFree}

-- the rules have an argument at this place
pub record IsPlace (c : List Rule) (k : ℕ) : Type 0 where
  pub by_index : arg_by_index c k ≡ Some (placed (place_of k) k)
  pub by_id : arg_by_id c (place_of k) ≡ Some (placed (place_of k) k)

-- the rule has no value of its own, or is the flag
abbrev pub IsQuiet : Rule → Type 0
IsQuiet a = (a.defaults ≡ []) ⊎ (a ≡ flagged (codes "minimal"))

-- the rules are those of the verb
pub record IsReader (v : Verb) (c : List Rule) : Type 0 where
  pub valued_long : (s : Setting) → IsValuedOf v s → arg_by_long c (word_of s) ≡ Some (valued (word_of s))
  pub valued_id : (s : Setting) → IsValuedOf v s → arg_by_id c (word_of s) ≡ Some (valued (word_of s))
  pub flagged_long : (s : Setting) → IsFlagOf v s → arg_by_long c (word_of s) ≡ Some (flagged (word_of s))
  pub known : (name : Text) → (arg_by_long c name ≡ None) ⊎ ((s : Setting) × (has_setting v s ≡ true) × (name ≡ word_of s))
  pub no_short : (x : ℕ) → arg_by_short c x ≡ None
  pub places : (k : ℕ) → (arg_by_index c k ≡ None) ⊎ IsPlace c k
  pub few : (k : ℕ) → IsPlace c k → k ≤ 8
  pub quiet : AllByRecursion IsQuiet c
  pub checks : (rows : List Row) → check_fault (shape_with c) rows false ≡ []

abbrev pub place_after : ℕ → ℕ
place_after k = min (k + 1) usize_max

abbrev pub row_placed : List Row → ℕ → Text → List Row
row_placed rows k w = used (placed (place_of k) k) (w ∷ []) rows

abbrev pub row_valued : List Row → Setting → Text → List Row
row_valued rows s x = used (valued (word_of s)) (x ∷ []) rows

abbrev pub row_flagged : List Row → Setting → List Row
row_flagged rows s = used (flagged (word_of s)) [] rows

-- the arguments from a place on find places, of which none is used
abbrev pub Placed : List Rule → List Row → ℕ → List Text → Type 0
Placed c rows k [] = Unit {0}
Placed c rows k (w ∷ ws) = IsPlace c k × (has_row (place_of k) rows ≡ false) × Placed c (row_placed rows k w) (place_after k) ws

-- clap passes the words of the layout, over these rows and from this place
abbrev pub Walks : Verb → List Rule → List Row → ℕ → Layout → Type 0
Walks v c rows k nothing = Unit {0}
Walks v c rows k (ended ws) = Placed c rows k ws
Walks v c rows k (argument w l) = IsFree c w × IsPlace c k × (has_row (place_of k) rows ≡ false) × Walks v c (row_placed rows k w) (place_after k) l
Walks v c rows k (flag s l) = IsFlagOf v s × (has_row (word_of s) rows ≡ false) × Walks v c (row_flagged rows s) k l
Walks v c rows k (spaced s x l) = IsValuedOf v s × IsFree c x × (has_row (word_of s) rows ≡ false) × Walks v c (row_valued rows s x) k l
Walks v c rows k (tied s x l) = IsValuedOf v s × (has_row (word_of s) rows ≡ false) × Walks v c (row_valued rows s x) k l

-- the rows after the layout
abbrev pub rows_placed : List Row → ℕ → List Text → List Row
rows_placed rows k [] = rows
rows_placed rows k (w ∷ ws) = rows_placed (row_placed rows k w) (place_after k) ws

abbrev pub rows_from : List Row → ℕ → Layout → List Row
rows_from rows k nothing = rows
rows_from rows k (ended ws) = rows_placed rows k ws
rows_from rows k (argument w l) = rows_from (row_placed rows k w) (place_after k) l
rows_from rows k (flag s l) = rows_from (row_flagged rows s) k l
rows_from rows k (spaced s x l) = rows_from (row_valued rows s x) k l
rows_from rows k (tied s x l) = rows_from (row_valued rows s x) k l

-- what a use of each rule asks
pub use_valued : (n x : Text) (rows : List Row) → has_row n rows ≡ false → use_fault false (valued n) (x ∷ []) rows ≡ []
use_valued n x rows e = ap (λ b. or_else (if b && true then kind.ArgumentConflict ∷ [] else []) []) e

pub use_flagged : (n : Text) (rows : List Row) → has_row n rows ≡ false → use_fault false (flagged n) [] rows ≡ []
use_flagged n rows e = ap (λ b. or_else (if b && true then kind.ArgumentConflict ∷ [] else []) []) e

pub use_placed : (n : Text) (k : ℕ) (x : Text) (rows : List Row) → has_row n rows ≡ false → use_fault false (placed n k) (x ∷ []) rows ≡ []
use_placed n k x rows e = ap (λ b. or_else (if b && true then kind.ArgumentConflict ∷ [] else []) []) e

-- where the walk ends
abbrev pub end_of : List Rule → Walk → List Text → Walk
end_of c st ws = fold (walked c []) st ws

pub record Ends (c : List Rule) (st : Walk) (ws : List Text) (rows : List Row) : Type 0 where
  pub no_fault : walk_fault (shape_with c) [] st ws ≡ []
  pub settles : settle_fault c false (end_of c st ws).held ≡ []
  pub rows_are : settled_rows c (end_of c st ws).held.pending (end_of c st ws).held.rows ≡ rows
  pub not_stopped : (end_of c st ws).stopped ≡ None

-- what is held so far is in order, and comes to these rows
pub record Sound (c : List Rule) (held : List Row) (pending : Option (Text × List Text)) (rows : List Row) : Type 0 where
  pub settles : settle_fault c false (holding held pending) ≡ []
  pub rows_are : settled_rows c pending held ≡ rows

pub ends_here : (c : List Rule) (held rows : List Row) (pending : Option (Text × List Text)) (k : ℕ) (wt : Waiting) (t : Bool) → Sound c held pending rows
    → Ends c (standing (holding held pending) wt k t) [] rows
unfolding walk_fault
ends_here c held rows pending k wt t h = record { no_fault = refl; settles = h.settles; rows_are = h.rows_are; not_stopped = refl }

pub ends_after : (c : List Rule) (st to : Walk) (w : Text) (ws : List Text) (rows : List Row) → walked c [] st w ≡ to → turn_fault (shape_with c) [] st w ≡ []
    → Ends c to ws rows → Ends c st (w ∷ ws) rows
unfolding walk_fault
ends_after c st to w ws rows e f h = let there = subst (λ z. Ends c z ws rows) (sym e) h in record {
  no_fault = ap (λ z. or_else z (walk_fault (shape_with c) [] (walked c [] st w) ws)) f ∙ there.no_fault;
  settles = there.settles;
  rows_are = there.rows_are;
  not_stopped = there.not_stopped;
}

pub sound_none : (c : List Rule) (rows : List Row) → Sound c rows None rows
sound_none c rows = record { settles = refl; rows_are = refl }

pub sound_valued : (v : Verb) (c : List Rule) (r : IsReader v c) (rows : List Row) (s : Setting) (x : Text) → IsValuedOf v s → has_row (word_of s) rows ≡ false
    → Sound c rows (Some (word_of s, x ∷ [])) (row_valued rows s x)
sound_valued v c r rows s x o f = record {
  settles = ap (λ a. option_map_or (λ a. use_fault false a (x ∷ []) rows) a []) (r.valued_id s o) ∙ use_valued (word_of s) x rows f;
  rows_are = ap (λ a. used_by_id a (x ∷ []) rows) (r.valued_id s o);
}

pub sound_placed : (c : List Rule) (rows : List Row) (k : ℕ) (w : Text) → IsPlace c k → has_row (place_of k) rows ≡ false
    → Sound c rows (Some (place_of k, w ∷ [])) (row_placed rows k w)
sound_placed c rows k w p f = record {
  settles = ap (λ a. option_map_or (λ a. use_fault false a (w ∷ []) rows) a []) p.by_id ∙ use_placed (place_of k) k w rows f;
  rows_are = ap (λ a. used_by_id a (w ∷ []) rows) p.by_id;
}

-- a word goes to its place
positional_is : (c : List Rule) (held : List Row) (pending : Option (Text × List Text)) (k : ℕ) (w : Text) (b : Bool)
    → pushed (place_of k) w (if b && false then holding held pending else settled c (holding held pending)) ≡ holding (settled_rows c pending held) (Some (place_of k, w ∷ []))
positional_is c held pending k w true = refl
positional_is c held pending k w false = refl

positional_asks : (c : List Rule) (h : Held) (b : Bool) → (if b && false then [] else settle_fault c false h) ≡ settle_fault c false h
positional_asks c h true = refl
positional_asks c h false = refl

place_taken : (c : List Rule) (held : List Row) (pending : Option (Text × List Text)) (wt : Waiting) (k : ℕ) (t : Bool) (w : Text) → IsPlace c k
    → to_positional c (arg_by_index c k) w (standing (holding held pending) wt k t) (holding held pending)
    ≡ standing (holding (settled_rows c pending held) (Some (place_of k, w ∷ []))) idle (place_after k) (t || false)
place_taken c held pending wt k t w p = ap (λ o. to_positional c o w (standing (holding held pending) wt k t) (holding held pending)) p.by_index
    ∙ ap (λ g. standing g idle (place_after k) (t || false)) (positional_is c held pending k w (is_pending (placed (place_of k) k) pending))

pub place_asked : (c : List Rule) (h : Held) (k : ℕ) → IsPlace c k → step_fault (shape_with c) k h value ≡ settle_fault c false h
place_asked c h k p = ap (λ o. option_map_or (λ a. positional_fault c false a h) o (stray_fault (shape_with c))) p.by_index
    ∙ positional_asks c h (is_pending (placed (place_of k) k) h.pending)

-- an argument
pub free_moves : (c : List Rule) (held : List Row) (pending : Option (Text × List Text)) (k : ℕ) (w : Text) → IsFree c w → IsPlace c k
    → walked c [] (standing (holding held pending) idle k false) w ≡ standing (holding (settled_rows c pending held) (Some (place_of k, w ∷ []))) idle (place_after k) false
free_moves c held pending k w f p = moved c (holding held pending) idle k false w (holding held pending) value (f.met idle k held pending) ∙ place_taken c held pending idle k false w p

pub free_asks : (c : List Rule) (held : List Row) (pending : Option (Text × List Text)) (k : ℕ) (w : Text) → IsFree c w
    → turn_fault (shape_with c) [] (standing (holding held pending) idle k false) w ≡ step_fault (shape_with c) k (holding held pending) value
free_asks c held pending k w f = turned c (holding held pending) idle k false w (holding held pending) value (f.met idle k held pending)
    ∙ ap (λ z. or_else z (step_fault (shape_with c) k (holding held pending) value)) (f.fault idle held pending)

-- an argument after two dashes
pub late_moves : (c : List Rule) (held : List Row) (pending : Option (Text × List Text)) (wt : Waiting) (k : ℕ) (w : Text) → IsPlace c k
    → walked c [] (standing (holding held pending) wt k true) w ≡ standing (holding (settled_rows c pending held) (Some (place_of k, w ∷ []))) idle (place_after k) true
late_moves c held pending wt k w p = moved c (holding held pending) wt k true w (holding held pending) value refl ∙ place_taken c held pending wt k true w p

pub late_asks : (c : List Rule) (held : List Row) (pending : Option (Text × List Text)) (wt : Waiting) (k : ℕ) (w : Text)
    → turn_fault (shape_with c) [] (standing (holding held pending) wt k true) w ≡ step_fault (shape_with c) k (holding held pending) value
late_asks c held pending wt k w = refl

-- two dashes
pub dashes_move : (c : List Rule) (held : List Row) (pending : Option (Text × List Text)) (wt : Waiting) (k : ℕ)
    → walked c [] (standing (holding held pending) wt k false) dash_dash ≡ standing (holding held pending) wt k true
dashes_move c held pending wt k = moved c (holding held pending) wt k false dash_dash (holding held pending) (trailing k) (met_dashes c wt k (holding held pending))

pub dashes_ask : (c : List Rule) (held : List Row) (pending : Option (Text × List Text)) (wt : Waiting) (k : ℕ)
    → turn_fault (shape_with c) [] (standing (holding held pending) wt k false) dash_dash ≡ []
dashes_ask c held pending wt k = turned c (holding held pending) wt k false dash_dash (holding held pending) (trailing k) (met_dashes c wt k (holding held pending))
    ∙ ap (λ z. or_else z []) (fault_dashes c wt (holding held pending))

-- two dashes and the name of a rule
pub long_moves : (c : List Rule) (held : List Row) (pending : Option (Text × List Text)) (k : ℕ) (w name : Text) (x : Option Text) (a : Option Rule) (g : Held) (step : Step)
    → bytes_eq w dash_dash ≡ false → long_of w ≡ Some (name, x) → arg_by_long c name ≡ a
    → (after_flag c idle w (long_met c a x (holding held pending)).0 (long_met c a x (holding held pending)).1) ≡ (g, step)
    → walked c [] (standing (holding held pending) idle k false) w ≡ after_step c w (standing (holding held pending) idle k false) g step
long_moves c held pending k w name x a g step e f n m =
    moved c (holding held pending) idle k false w g step (met_long c idle k w name x (holding held pending) e f ∙ long_word_is c idle w name x (holding held pending) a n ∙ m)

pub long_asks : (c : List Rule) (held : List Row) (pending : Option (Text × List Text)) (k : ℕ) (w name : Text) (x : Option Text) (a : Option Rule) (g : Held) (wt : Waiting)
    → bytes_eq w dash_dash ≡ false → long_of w ≡ Some (name, x) → arg_by_long c name ≡ a
    → (after_flag c idle w (long_met c a x (holding held pending)).0 (long_met c a x (holding held pending)).1) ≡ (g, next wt)
    → turn_fault (shape_with c) [] (standing (holding held pending) idle k false) w ≡ or_else (long_fault c false a x (holding held pending)) []
long_asks c held pending k w name x a g wt e f n m =
    turned c (holding held pending) idle k false w g (next wt) (met_long c idle k w name x (holding held pending) e f ∙ long_word_is c idle w name x (holding held pending) a n ∙ m)
    ∙ ap (λ z. or_else z []) (fault_long c idle w name x (holding held pending) e f ∙ ap (λ o. long_fault c false o x (holding held pending)) n)

-- a value after its option
pub value_moves : (c : List Rule) (held : List Row) (k : ℕ) (n x : Text) → IsFree c x → arg_by_id c n ≡ Some (valued n)
    → walked c [] (standing (holding held (Some (n, []))) (option n) k false) x ≡ standing (holding held (Some (n, x ∷ []))) idle k false
value_moves c held k n x f i =
    moved c (holding held (Some (n, []))) (option n) k false x _ _ (f.met (option n) k held (Some (n, [])) ∙ ap (λ (o : Option Rule). ((option_word o n x (holding held (Some (n, [])))).0, next (option_word o n x (holding held (Some (n, [])))).1)) i)
    ∙ ap (λ b. standing (holding held (Some (n, x ∷ []))) (if nat_lt (if b then 1 else 0) 1 then option n else idle) k false) ((bytes_eq-Decides n n).1 refl)

pub value_asks : (c : List Rule) (held : List Row) (k : ℕ) (n x : Text) → IsFree c x
    → turn_fault (shape_with c) [] (standing (holding held (Some (n, []))) (option n) k false) x ≡ []
value_asks c held k n x f =
    turned c (holding held (Some (n, []))) (option n) k false x _ _ (f.met (option n) k held (Some (n, [])))
    ∙ ap (λ z. or_else z []) (f.fault (option n) held (Some (n, [])))
