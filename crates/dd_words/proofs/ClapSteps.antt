-- What clap makes of one word.
use Rattle.std.proofs.Common.{◌≡◌, ◌∙◌, ℕ, suc, zero, drop, Bool, true, false, List, [], ◌∷◌, codes, Option, Some, None, refl, ap, bytes_eq, length}
use Rattle.std.specs.Prelude.{if◌then◌else◌, slice_get, encode_utf8}
use Rattle.std.specs.Str.{chars}
use Rattle.std.specs.Option.{option_map_or}
use Rattle.clap.specs.Lexer.{long_of, short_of}
use Rattle.clap.specs.Words.{Rule, Row, Shape, Text, new_rule}
use Rattle.clap.specs.Walk.{Held, Walk, Step, Waiting, idle, option, trailing, word_met, walked, after_step, subcommand_met, subcommand_or_other, long_or_other, long_word, long_met, after_flag, short_or_plain, bundle_met, bundle_step, plain, plain_word, arg_by_long, arg_by_short}
use Rattle.clap.specs.Simple.{filled, with_index}
use Rattle.clap.specs.Faults.{turn_fault, word_fault, other_fault, flag_word_fault, long_fault, step_fault, bundle_fault, flags_fault, bundle_step_fault, short_fault}
use Rattle.clap.specs.Kinds.{or_else}
use Rattle.clap.specs.declared.builder.action.ArgAction.TheVariants.{Set, SetTrue}
use Rattle.clap.specs.declared.error.kind.ErrorKind.TheVariants as kind
use Rattle.dd_words.specs.Apps.{place_rule}

-- the built command with these rules
abbrev pub shape_with : List Rule → Shape
shape_with c = record {
  name = codes "dressline";
  aliases = [];
  rules = c;
  is_plain = true;
  is_leaf = true;
  no_binary_name = true;
  disable_help_flag = true;
  disable_help_subcommand = true;
  disable_version_flag = true;
  propagate_version = false;
  has_version = false;
  has_long_version = false;
  args_override_self = false;
  arg_required_else_help = false;
  subcommand_required = false;
  subcommand_negates_reqs = false;
  is_built = true;
}

-- an option, a flag and an argument, as clap fills them in
abbrev pub valued : Text → Rule
valued name = filled (record (new_rule name) { long = Some name; action = Some Set })

abbrev pub flagged : Text → Rule
flagged name = filled (record (new_rule name) { long = Some name; action = Some SetTrue })

abbrev pub placed : Text → ℕ → Rule
placed name k = with_index k (filled (place_rule name))

abbrev pub holding : List Row → Option (Text × List Text) → Held
holding rows pending = record { rows = rows; pending = pending; skip = 0 }

abbrev pub standing : Held → Waiting → ℕ → Bool → Walk
standing h wt k t = record { held = h; waiting = wt; position = k; is_trailing = t; stopped = None }

abbrev pub dash_dash : Text
dash_dash = 45 ∷ 45 ∷ []

no_sub : (wt : Waiting) (w : Text) → subcommand_met [] wt w ≡ None
no_sub idle w = refl
no_sub (option id) w = refl
no_sub Rattle.clap.specs.Walk.positional w = refl

module _ (c : List Rule) where
  -- a word that was met moves the walk
  pub moved : (h : Held) (wt : Waiting) (k : ℕ) (t : Bool) (w : Text) (g : Held) (step : Step) → word_met c [] t wt k w h ≡ (g, step)
      → walked c [] (standing h wt k t) w ≡ after_step c w (standing h wt k t) g step
  unfolding walked
  moved h wt k t w g step e = ap (λ m. after_step c w (standing h wt k t) m.0 m.1) e

  pub turned : (h : Held) (wt : Waiting) (k : ℕ) (t : Bool) (w : Text) (g : Held) (step : Step) → word_met c [] t wt k w h ≡ (g, step)
      → turn_fault (shape_with c) [] (standing h wt k t) w ≡ or_else (word_fault (shape_with c) [] t wt w h) (step_fault (shape_with c) k g step)
  turned h wt k t w g step e = ap (λ m. or_else (word_fault (shape_with c) [] t wt w h) (step_fault (shape_with c) k m.0 m.1)) e

  -- the two dashes
  pub met_dashes : (wt : Waiting) (k : ℕ) (h : Held) → word_met c [] false wt k dash_dash h ≡ (h, trailing k)
  met_dashes wt k h = ap (λ o. subcommand_or_other c o wt k dash_dash h) (no_sub wt dash_dash)

  pub fault_dashes : (wt : Waiting) (h : Held) → word_fault (shape_with c) [] false wt dash_dash h ≡ []
  fault_dashes wt h = ap (λ o. other_fault (shape_with c) o dash_dash h) (no_sub wt dash_dash)

  -- a word that is not two dashes
  other_met : (wt : Waiting) (k : ℕ) (w : Text) (h : Held) → bytes_eq w dash_dash ≡ false
      → word_met c [] false wt k w h ≡ long_or_other c wt w (long_of w) h
  other_met wt k w h e = ap (λ o. subcommand_or_other c o wt k w h) (no_sub wt w) ∙ ap (λ b. if b then (h, trailing k) else long_or_other c wt w (long_of w) h) e

  fault_other : (wt : Waiting) (w : Text) (h : Held) → bytes_eq w dash_dash ≡ false
      → word_fault (shape_with c) [] false wt w h ≡ flag_word_fault c false (long_of w) w h
  fault_other wt w h e = ap (λ o. other_fault (shape_with c) o w h) (no_sub wt w) ∙ ap (λ b. if b then [] else flag_word_fault c false (long_of w) w h) e

  -- a word that begins with two dashes and a name
  pub met_long : (wt : Waiting) (k : ℕ) (w name : Text) (v : Option Text) (h : Held) → bytes_eq w dash_dash ≡ false → long_of w ≡ Some (name, v)
      → word_met c [] false wt k w h ≡ long_word c wt w name v h
  met_long wt k w name v h e f = other_met wt k w h e ∙ ap (λ o. long_or_other c wt w o h) f

  pub fault_long : (wt : Waiting) (w name : Text) (v : Option Text) (h : Held) → bytes_eq w dash_dash ≡ false → long_of w ≡ Some (name, v)
      → word_fault (shape_with c) [] false wt w h ≡ long_fault c false (arg_by_long c name) v h
  fault_long wt w name v h e f = fault_other wt w h e ∙ ap (λ o. flag_word_fault c false o w h) f

  pub long_word_is : (wt : Waiting) (w name : Text) (v : Option Text) (h : Held) (a : Option Rule) → arg_by_long c name ≡ a
      → long_word c wt w name v h ≡ after_flag c wt w (long_met c a v h).0 (long_met c a v h).1
  long_word_is wt w name v h a e = ap (λ o. after_flag c wt w (long_met c o v h).0 (long_met c o v h).1) e

  -- a word that is no flag
  pub record IsFree (w : Text) : Type 0 where
    pub met : (wt : Waiting) (k : ℕ) (rows : List Row) (p : Option (Text × List Text)) → word_met c [] false wt k w (holding rows p) ≡ plain_word c wt w (holding rows p)
    pub fault : (wt : Waiting) (rows : List Row) (p : Option (Text × List Text)) → word_fault (shape_with c) [] false wt w (holding rows p) ≡ []

  pub free_word : (w : Text) → bytes_eq w dash_dash ≡ false → long_of w ≡ None → short_of w ≡ None → IsFree w
  free_word w e f g = record {
    met = λ wt k rows p. other_met wt k w (holding rows p) e ∙ ap (λ o. long_or_other c wt w o (holding rows p)) f ∙ ap (λ o. short_or_plain c wt w o (holding rows p)) g;
    fault = λ wt rows p. fault_other wt w (holding rows p) e ∙ ap (λ o. flag_word_fault c false o w (holding rows p)) f
        ∙ ap (λ o. option_map_or (λ flags. bundle_fault c false flags (holding rows p)) o []) g;
  }

  -- a dash and bytes that spell no character
  bundle_none : (k : ℕ) (flags : Text) (h : Held) → slice_get (chars flags) 0 ≡ None → bundle_met c k flags 0 plain h ≡ (h, plain)
  unfolding bundle_met
  bundle_none zero flags h e = refl
  bundle_none (suc k) flags h e = ap (λ o. bundle_step c o flags 0 plain h (bundle_met c k)) e

  flags_none : (k : ℕ) (flags : Text) (h : Held) → slice_get (chars flags) 0 ≡ None → flags_fault c false k flags 0 h ≡ []
  unfolding flags_fault
  flags_none zero flags h e = refl
  flags_none (suc k) flags h e = ap (λ o. bundle_step_fault c false o flags 0 h (flags_fault c false k)) e

  pub free_bytes : (w flags : Text) → bytes_eq w dash_dash ≡ false → long_of w ≡ None → short_of w ≡ Some flags → slice_get (chars flags) 0 ≡ None → IsFree w
  free_bytes w flags e f g n = record {
    met = λ wt k rows p. other_met wt k w (holding rows p) e ∙ ap (λ o. long_or_other c wt w o (holding rows p)) f ∙ ap (λ o. short_or_plain c wt w o (holding rows p)) g
        ∙ ap (λ (m : Held × Rattle.clap.specs.Walk.Outcome). after_flag c wt w m.0 m.1) (bundle_none (length flags) flags (holding rows p) n);
    fault = λ wt rows p. fault_other wt w (holding rows p) e ∙ ap (λ o. flag_word_fault c false o w (holding rows p)) f
        ∙ ap (λ o. option_map_or (λ flags. bundle_fault c false flags (holding rows p)) o []) g ∙ flags_none (length flags) flags (holding rows p) n;
  }

  -- a dash and a character: no option has such a name
  refused_short : (k x : ℕ) (xs : Text) (flags : Text) (h : Held) → flags ≡ x ∷ xs → slice_get (chars flags) 0 ≡ Some k → arg_by_short c k ≡ None
      → flags_fault c false (length flags) flags 0 h ≡ kind.UnknownArgument ∷ []
  unfolding flags_fault
  refused_short k x xs flags h e f g = ap (λ n. flags_fault c false n flags 0 h) (ap length e)
      ∙ ap (λ o. bundle_step_fault c false o flags 0 h (flags_fault c false (length xs))) f
      ∙ ap (λ o. let rest = drop (length (encode_utf8 k)) flags in short_fault c false o rest h (flags_fault c false (length xs) rest 0)) g

  pub fault_short : (wt : Waiting) (w flags : Text) (x k : ℕ) (xs : Text) (rows : List Row) (p : Option (Text × List Text)) → bytes_eq w dash_dash ≡ false → long_of w ≡ None
      → short_of w ≡ Some flags → flags ≡ x ∷ xs → slice_get (chars flags) 0 ≡ Some k → arg_by_short c k ≡ None
      → word_fault (shape_with c) [] false wt w (holding rows p) ≡ kind.UnknownArgument ∷ []
  fault_short wt w flags x k xs rows p e f g s n a = fault_other wt w (holding rows p) e ∙ ap (λ o. flag_word_fault c false o w (holding rows p)) f
      ∙ ap (λ o. option_map_or (λ flags. bundle_fault c false flags (holding rows p)) o []) g ∙ refused_short k x xs flags (holding rows p) s n a
