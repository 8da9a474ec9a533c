-- What the program reads of clap's matches.
use Rattle.std.proofs.Common.{◌≡◌, ◌≢◌, ◌∙◌, inl, inr, ◌++◌, ◌<◌, ◌+◌, ℕ, Bool, true, false, codes, List, [], ◌∷◌, Option, Some, None, length, take, get_or, refl, sym, ap, ap₂, subst, suc, arith, take-suc, append_assoc, Result, Ok, Err, IfOk}
use Rattle.std.proofs.lemmas.List.{append-nil}
use Rattle.clap.specs.Words.{App, Row, HasKind, Kinds, fault_of, kind_of, is_simple_and_free, first_value, first_of, one_text, one_of, rows_of, matches_of, app_of, is_simple, HasMatchesOf, found_of}
use Rattle.clap.specs.declared.parser.matches.Found.{Found}
use Rattle.clap.specs.declared.parser.matches.ArgMatches.{ArgMatches}
use Rattle.clap.proofs.WalkLemmas.{first_value-rows, one_text-rows}
use Rattle.clap.specs.declared.builder.command.Command.{Command}
use Rattle.std.specs.declared.alloc.AllocError.{AllocError}
use Rattle.clap.specs.declared.error.Error.{Error}
use Rattle.clap.specs.declared.error.kind.ErrorKind.TheVariants as kind
use Rattle.dd_words.specs.declared.settings.Setting.{Setting}
use Rattle.dd_words.specs.declared.verbs.Verb.{Verb}
use Rattle.dd_words.specs.Values.{Text}
use Rattle.dd_words.specs.Given.{Given}
use Rattle.dd_words.specs.SettingNames.{word_of, has_value}
use Rattle.dd_words.specs.declared.places.Place.{Place}
use Rattle.dd_words.specs.Places.{name_of, all_places}
use Rattle.dd_words.specs.Apps.{app_for, all_settings, bare_app, with_places, with_settings}
use Rattle.dd_words.specs.Matching.{IsValueRead, given_by, AreRead, AreMatched, listed, arguments_at, arguments_read}
use Rattle.dd_words.proofs.ClapRules.{simple_for, plain_for}

-- ---- one setting

pub text_read : (f : Found) (s : Setting) (value : Option Text) (name : Text) → name ≡ word_of s → has_value s ≡ true → value ≡ first_value f name → IsValueRead (rows_of f) s value
text_read f s value name is has e = record {
  valued = λ _. e ∙ first_value-rows f name ∙ ap (λ z. first_of z (rows_of f)) is;
  absent = λ no _. absurd (cc);
  raised = λ no _. absurd (cc);
  lowered = λ no _. absurd (cc);
}

text_at : (f : Found) (name id : Text) (o : Option Text) → name ≡ id → one_of id (rows_of f) ≡ o → one_text f name ≡ o
text_at f name id o is e = one_text-rows f name ∙ ap (λ z. one_of z (rows_of f)) is ∙ e

pub flag_raised : (f : Found) (s : Setting) (name : Text) (flag : Bool) → name ≡ word_of s → has_value s ≡ false → flag ≡ true
    → (one_text f name ≡ None → flag ≡ false) → (one_text f name ≡ Some (codes "false") → flag ≡ false) → IsValueRead (rows_of f) s (Some [])
flag_raised f s name flag is has up none down = record {
  valued = λ other. absurd (cc);
  absent = λ _ e. let bad = none (text_at f name (word_of s) None is e) in absurd (cc);
  raised = λ _ _. refl;
  lowered = λ _ e. let bad = down (text_at f name (word_of s) _ is e) in absurd (cc);
}

pub flag_lowered : (f : Found) (s : Setting) (name : Text) (flag : Bool) → name ≡ word_of s → has_value s ≡ false → flag ≡ false
    → (one_text f name ≡ Some (codes "true") → flag ≡ true) → IsValueRead (rows_of f) s None
flag_lowered f s name flag is has low up = record {
  valued = λ other. absurd (cc);
  absent = λ _ _. refl;
  raised = λ _ e. let bad = up (text_at f name (word_of s) _ is e) in absurd (cc);
  lowered = λ _ _. refl;
}

-- ---- the settings

pub read_more : (rows : List Row) (ss : List Setting) (s : Setting) (gs : List Given) (x : Option Text) → AreRead rows ss gs → IsValueRead rows s x
    → AreRead rows (ss ++ s ∷ []) (gs ++ given_by s x)
read_more rows [] s gs x h r = record {
  value = x;
  others = [];
  is_read = r;
  given_are = ap (λ z. z ++ given_by s x) h ∙ sym (append-nil (given_by s x));
  more = refl;
}
read_more rows (t ∷ ss) s gs x h r = record {
  value = h.value;
  others = h.others ++ given_by s x;
  is_read = h.is_read;
  given_are = ap (λ z. z ++ given_by s x) h.given_are ∙ append_assoc (given_by t h.value) h.others (given_by s x);
  more = read_more rows ss s h.others x h.more r;
}

-- ---- the arguments

pub arguments_more : (rows : List Row) (ps : List Place) (p : Place) → arguments_at rows (ps ++ p ∷ []) ≡ arguments_at rows ps ++ listed (first_of (name_of p) rows)
arguments_more rows [] p = append-nil (listed (first_of (name_of p) rows))
arguments_more rows (q ∷ ps) p =
    ap (λ z. listed (first_of (name_of q) rows) ++ z) (arguments_more rows ps p)
    ∙ sym (append_assoc (listed (first_of (name_of q) rows)) (arguments_at rows ps) (listed (first_of (name_of p) rows)))

-- ---- all words

pub not_taken_by_clap : (v : Verb) (a : App) (ws : List Text) (e : Error) → a ≡ app_for v → (is_simple_and_free a ≡ true → HasKind (fault_of a ws) e) → (kind_of e ≢ kind.OutOfMemory)
    → fault_of (app_for v) ws ≢ []
not_taken_by_clap v a ws e is kinds other none = go (fault_of a ws) (ap (λ z. fault_of z ws) is ∙ none) (kinds (ap is_simple_and_free is ∙ simple_for v))
  where
    go : (ks : Kinds) → ks ≡ [] → HasKind ks e → ⊥
    go [] f (inl h) = other h
    go [] f (inr h) = h
    go (k ∷ ks) f h = absurd (cc)

pub taken_by_clap : (v : Verb) (a : App) (ws xs : List Text) (gs : List Given) (m : ArgMatches) → a ≡ app_for v → (is_simple_and_free a ≡ true → fault_of a ws ≡ []) → HasMatchesOf a ws m
    → xs ≡ arguments_read (rows_of (found_of m)) → AreRead (rows_of (found_of m)) all_settings gs → AreMatched v ws xs gs
taken_by_clap v a ws xs gs m is kinds matches arguments settings =
    let rows : rows_of (found_of m) ≡ matches_of (app_for v) ws = (matches (ap is_simple is ∙ plain_for v)).0 ∙ ap (λ z. matches_of z ws) is in
    record {
      taken = ap (λ z. fault_of z ws) (sym is) ∙ kinds (ap is_simple_and_free is ∙ simple_for v);
      arguments_are = arguments ∙ ap arguments_read rows;
      settings_are = subst (λ z. AreRead z all_settings gs) rows settings;
    }

-- ---- loops

pub read_step : (rows : List Row) (ss : List Setting) (i : ℕ) (d : Setting) (gs now : List Given) (x : Option Text) → i < length ss → AreRead rows (take i ss) gs
    → IsValueRead rows (get_or ss i d) x → now ≡ gs ++ given_by (get_or ss i d) x → AreRead rows (take (i + 1) ss) now
read_step rows ss i d gs now x low h r e =
    let s = get_or ss i d in
    let next : i + 1 ≡ suc i = omega arith in
    let taken : take (i + 1) ss ≡ take i ss ++ s ∷ [] = ap (λ k. take k ss) next ∙ take-suc ss i d low in
    subst (λ z. AreRead rows z now) (sym taken) (subst (AreRead rows (take i ss ++ s ∷ [])) (sym e) (read_more rows (take i ss) s gs x h r))

-- one argument more
pub argument_step : (f : Found) (ps : List Place) (i : ℕ) (d : Place) (xs now : List Text) (name : Text) (x : Option Text) → i < length ps → xs ≡ arguments_at (rows_of f) (take i ps)
    → now ≡ xs ++ listed x → x ≡ first_value f name → name ≡ name_of (get_or ps i d) → now ≡ arguments_at (rows_of f) (take (i + 1) ps)
argument_step f ps i d xs now name x low h e is named =
    let p = get_or ps i d in
    let next : i + 1 ≡ suc i = omega arith in
    let taken : take (i + 1) ps ≡ take i ps ++ p ∷ [] = ap (λ k. take k ps) next ∙ take-suc ps i d low in
    let value : x ≡ first_of (name_of p) (rows_of f) = is ∙ first_value-rows f name ∙ ap (λ z. first_of z (rows_of f)) named in
    e ∙ ap₂ (λ a b. a ++ listed b) h value ∙ sym (ap (arguments_at (rows_of f)) taken ∙ arguments_more (rows_of f) (take i ps) p)

pub all_told : (v : Verb) (a b : App) (ps : List Place) (ss : List Setting) → a ≡ bare_app → b ≡ with_places v a ps → ps ≡ all_places → ss ≡ all_settings → with_settings v b ss ≡ app_for v
all_told v a b ps ss d e f g = ap₂ (with_settings v) (e ∙ ap₂ (with_places v) d f) g

pub told_as : (r : Result Command AllocError) (s t : App) → s ≡ t → IfOk r (λ m. app_of m ≡ s) → IfOk r (λ m. app_of m ≡ t)
told_as (Ok m) s t e h = h ∙ e
told_as (Err f) s t e h = tt
