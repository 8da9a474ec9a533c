-- What clap makes of all the words of a verb.
use Rattle.std.proofs.Common.{◌≡◌, ◌∙◌, ◌||◌, Bool, true, false, List, [], ◌∷◌, Option, None, refl, sym, ap, inl, inr, codes}
use Rattle.std.specs.Prelude.{if◌then◌else◌, fold, is_some}
use Rattle.std.specs.List.{AllByRecursion}
use Rattle.clap.specs.Words.{Rule, Row, App}
use Rattle.clap.specs.Walk.{Walk, idle, has_row, is_empty, with_default, settled_rows, nothing_held}
use Rattle.clap.specs.Simple.{argument_words, matches_of, entered}
use Rattle.clap.specs.Faults.{fault_of, built_fault, entered_fault, walk_fault, settle_fault, default_fault, defaults_fault, given_default_fault, check_fault}
use Rattle.clap.specs.Kinds.{Kinds, or_else}
use Rattle.dd_words.specs.declared.verbs.Verb.{Verb}
use Rattle.dd_words.specs.declared.verbs.Verb.TheVariants as verb
use Rattle.dd_words.specs.Values.{Text}
use Rattle.dd_words.specs.Layout.{Layout, words_of}
use Rattle.dd_words.specs.Apps.{app_for}
use Rattle.dd_words.proofs.ClapSteps.{shape_with, flagged, holding, standing}
use Rattle.dd_words.proofs.ClapWalks.{IsQuiet, Walks, rows_from, Ends, sound_none, end_of}
use Rattle.dd_words.proofs.ClapPasses.{layout_ends}
use Rattle.dd_words.proofs.ClapLayouts.{Passes, Found, layout_found, both}
use Rattle.dd_words.proofs.ClapRules.{rules_for, built_for, reader_for}

words_for : (v : Verb) (ws : List Text) → argument_words (app_for v) ws ≡ ws
words_for verb.Catalogue ws = refl
words_for verb.Resume ws = refl
words_for verb.Shard ws = refl
words_for verb.ResumeShard ws = refl
words_for verb.Draw ws = refl
words_for verb.Exercise ws = refl
words_for verb.Apply ws = refl
words_for verb.Merge ws = refl
words_for (verb.File kind) ws = refl

abbrev built_app : List Rule → App
built_app c = record { top = shape_with c; subs = [] }

fault_is : (v : Verb) (ws : List Text) → fault_of (app_for v) ws ≡ built_fault (built_app (rules_for v)) nothing_held ws
fault_is v ws = ap (λ b. built_fault b nothing_held (argument_words (app_for v) ws)) (built_for v) ∙ ap (built_fault (built_app (rules_for v)) nothing_held) (words_for v ws)

-- where the walk over the words of a verb begins
abbrev start : Walk
start = standing (holding [] None) idle 1 false

-- no default fails
quiet_default : (rows : List Row) (a : Rule) → IsQuiet a → default_fault rows a ≡ []
quiet_default rows a (inl none) = ap (λ xs. if has_row a.id rows || is_empty xs then [] else given_default_fault a xs) none ∙ go (has_row a.id rows)
  where
    go : (b : Bool) → (if b || true then [] else given_default_fault a []) ≡ []
    go true = refl
    go false = refl
quiet_default rows a (inr is) = ap (default_fault rows) is ∙ go (has_row (codes "minimal") rows)
  where
    go : (b : Bool) → (if b || false then [] else given_default_fault (flagged (codes "minimal")) (flagged (codes "minimal")).defaults) ≡ []
    go true = refl
    go false = refl

quiet_defaults : (c : List Rule) (rows : List Row) → AllByRecursion IsQuiet c → defaults_fault rows c ≡ []
unfolding defaults_fault
quiet_defaults [] rows q = refl
quiet_defaults (a ∷ c) rows q = ap (λ z. or_else z (defaults_fault (with_default rows a) c)) (quiet_default rows a q.0) ∙ quiet_defaults c (with_default rows a) q.1

pub passed : (v : Verb) (ws : List Text) → fault_of (app_for v) ws ≡ [] → Passes (rules_for v) start ws
passed v ws e =
    let one = both _ _ (sym (fault_is v ws) ∙ e) in
    let two = both _ _ one.1 in
    let three = both _ _ two.1 in
    record { no_fault = one.0; settles = three.0 }

pub found_layout : (v : Verb) (ws : List Text) → fault_of (app_for v) ws ≡ [] → Found v (rules_for v) (reader_for v) [] None 1 ws
found_layout v ws e = layout_found v (rules_for v) (reader_for v) ws (passed v ws e)

abbrev pub rows_with : List Rule → List Row → List Row
rows_with c rows = fold with_default rows c

pub layout_end : (v : Verb) (l : Layout) → Walks v (rules_for v) [] 1 l → Ends (rules_for v) start (words_of l) (rows_from [] 1 l)
layout_end v l w = layout_ends v (rules_for v) (reader_for v) l [] [] None 1 (sound_none (rules_for v) []) w

module _ (v : Verb) (ws : List Text) (rows : List Row) (h : Ends (rules_for v) start ws rows) where
  -- what is asked at the end of the walk
  abbrev end_fault : Walk → Option (Text × List Text) → Kinds
  end_fault end stop = or_else (entered_fault (built_app (rules_for v)) stop) (or_else (settle_fault (rules_for v) false end.held)
      (or_else (defaults_fault (settled_rows (rules_for v) end.held.pending end.held.rows) (rules_for v))
      (check_fault (shape_with (rules_for v)) (rows_with (rules_for v) (settled_rows (rules_for v) end.held.pending end.held.rows)) (is_some (entered (built_app (rules_for v)) stop)))))

  pub no_fault_at_end : fault_of (app_for v) ws ≡ []
  no_fault_at_end =
      let c = rules_for v in
      let end = end_of c start ws in
      let last = settled_rows c end.held.pending end.held.rows in
      fault_is v ws
      ∙ ap (λ o. or_else (walk_fault (shape_with c) [] start ws) (end_fault end o)) h.not_stopped
      ∙ ap (λ z. or_else z (end_fault end None)) h.no_fault
      ∙ ap (λ z. or_else z (or_else (defaults_fault last c) (check_fault (shape_with c) (rows_with c last) false))) h.settles
      ∙ ap (λ z. or_else z (check_fault (shape_with c) (rows_with c last) false)) (quiet_defaults c last (reader_for v).quiet)
      ∙ (reader_for v).checks (rows_with c last)

  pub matches_are : matches_of (app_for v) ws ≡ rows_with (rules_for v) rows
  matches_are = ap (λ (b : App). Rattle.clap.specs.Walk.rows_after b.top.rules (Rattle.clap.specs.Simple.names_of b) (argument_words (app_for v) ws)) (built_for v)
      ∙ ap (Rattle.clap.specs.Walk.rows_after (rules_for v) []) (words_for v ws) ∙ ap (rows_with (rules_for v)) h.rows_are
