-- What the first word says of a layout, and that words are laid out in one way.
use Rattle.std.proofs.Common.{◌≡◌, List, [], ◌∷◌, refl, sym, ap, ◌∙◌, subst}
use Rattle.dd_words.specs.declared.settings.Setting.{Setting}
use Rattle.dd_words.specs.declared.verbs.Verb.{Verb}
use Rattle.dd_words.specs.Values.{Text}
use Rattle.dd_words.specs.Layout.{Layout, nothing, ended, argument, flag, spaced, tied, words_of, arguments_of, settings_of, Fits, IsLaid, IsPlain}
use Rattle.dd_words.specs.Given.{Given}
use Rattle.dd_words.specs.SettingNames.{dashes, dashed, assigned}
use Rattle.dd_words.proofs.Forms as forms
use Rattle.dd_words.proofs.Forms.{Form, IsForm}
use Rattle.dd_words.proofs.FormLemmas.{same_form}

-- the form of a layout's first word
abbrev pub form_at : Layout → Form
form_at nothing = forms.end
form_at (ended arguments) = forms.end
form_at (argument word layout) = forms.argument
form_at (flag setting layout) = forms.flag setting
form_at (spaced setting value layout) = forms.spaced setting
form_at (tied setting value layout) = forms.tied setting value

pub first_form : (v : Verb) (w : Text) (ws : List Text) (m : Layout) → Fits v m → words_of m ≡ w ∷ ws → IsForm v w (form_at m)
first_form v w ws nothing f e = absurd (cc)
first_form v w ws (ended arguments) f e = cc
first_form v w ws (argument word layout) f e = let same : word ≡ w = cc in subst IsPlain same f.0
first_form v w ws (flag setting layout) f e = (f.0, cc)
first_form v w ws (spaced setting value layout) f e = (f.0, cc)
first_form v w ws (tied setting value layout) f e = (f.0, cc)

-- the layout goes on with these words after what was added in front
pub record GoesOn (v : Verb) (m : Layout) (ws : List Text) (add : Layout → Layout) : Type 0 where
  pub layout : Layout
  pub fits : Fits v layout
  pub words_are : words_of layout ≡ ws
  pub is : m ≡ add layout

pub argument_front : (v : Verb) (w : Text) (ws : List Text) (m : Layout) → IsPlain w → Fits v m → words_of m ≡ w ∷ ws → GoesOn v m ws (argument w)
argument_front v w ws (argument word layout) h f e =
    let same : word ≡ w = cc in record { layout = layout; fits = f.1; words_are = cc; is = ap (λ x. argument x layout) same }
argument_front v w ws nothing h f e = absurd (cc)
argument_front v w ws other h f e = let same = same_form v w forms.argument (form_at other) h (first_form v w ws other f e) in absurd (cc)

pub flag_front : (v : Verb) (w : Text) (ws : List Text) (m : Layout) (s : Setting) → IsForm v w (forms.flag s) → Fits v m → words_of m ≡ w ∷ ws
    → GoesOn v m ws (flag s)
flag_front v w ws (flag setting layout) s h f e =
    let same = same_form v w (forms.flag s) (forms.flag setting) h (first_form v w ws (flag setting layout) f e) in
    let setting_is : setting ≡ s = cc in
    record { layout = layout; fits = f.1; words_are = cc; is = ap (λ x. flag x layout) setting_is }
flag_front v w ws nothing s h f e = absurd (cc)
flag_front v w ws other s h f e = let same = same_form v w (forms.flag s) (form_at other) h (first_form v w ws other f e) in absurd (cc)

pub tied_front : (v : Verb) (w : Text) (ws : List Text) (m : Layout) (s : Setting) (x : Text) → IsForm v w (forms.tied s x) → Fits v m → words_of m ≡ w ∷ ws
    → GoesOn v m ws (tied s x)
tied_front v w ws (tied setting value layout) s x h f e =
    let same = same_form v w (forms.tied s x) (forms.tied setting value) h (first_form v w ws (tied setting value layout) f e) in
    let setting_is : setting ≡ s = cc in
    let value_is : value ≡ x = cc in
    record { layout = layout; fits = f.1; words_are = cc; is = ap (λ y. tied y value layout) setting_is ∙ ap (λ y. tied s y layout) value_is }
tied_front v w ws nothing s x h f e = absurd (cc)
tied_front v w ws other s x h f e = let same = same_form v w (forms.tied s x) (form_at other) h (first_form v w ws other f e) in absurd (cc)

-- a setting that wants the next word has one
pub record GoesOnSpaced (v : Verb) (m : Layout) (ws : List Text) (s : Setting) : Type 0 where
  pub value : Text
  pub layout : Layout
  pub fits : Fits v layout
  pub words_are : value ∷ words_of layout ≡ ws
  pub is : m ≡ spaced s value layout

pub spaced_front : (v : Verb) (w : Text) (ws : List Text) (m : Layout) (s : Setting) → IsForm v w (forms.spaced s) → Fits v m → words_of m ≡ w ∷ ws
    → GoesOnSpaced v m ws s
spaced_front v w ws (spaced setting value layout) s h f e =
    let same = same_form v w (forms.spaced s) (forms.spaced setting) h (first_form v w ws (spaced setting value layout) f e) in
    let setting_is : setting ≡ s = cc in
    record { value = value; layout = layout; fits = f.1; words_are = cc; is = ap (λ y. spaced y value layout) setting_is }
spaced_front v w ws nothing s h f e = absurd (cc)
spaced_front v w ws other s h f e = let same = same_form v w (forms.spaced s) (form_at other) h (first_form v w ws other f e) in absurd (cc)

pub ended_front : (v : Verb) (w : Text) (ws : List Text) (m : Layout) → w ≡ dashes → Fits v m → words_of m ≡ w ∷ ws → m ≡ ended ws
ended_front v w ws (ended arguments) h f e = let same : arguments ≡ ws = cc in ap ended same
ended_front v w ws nothing h f e = absurd (cc)
ended_front v w ws other h f e = let same = same_form v w forms.end (form_at other) h (first_form v w ws other f e) in absurd (cc)

pub nothing_left : (m : Layout) → words_of m ≡ [] → m ≡ nothing
nothing_left nothing e = refl
nothing_left other e = absurd (cc)

pub same_layout : (v : Verb) (l m : Layout) → Fits v l → Fits v m → words_of m ≡ words_of l → m ≡ l
same_layout v nothing m f g e = nothing_left m e
same_layout v (ended arguments) m f g e = ended_front v dashes arguments m refl g e
same_layout v (argument word layout) m f g e =
    let next = argument_front v word (words_of layout) m f.0 g e in
    next.is ∙ ap (argument word) (same_layout v layout next.layout f.1 next.fits next.words_are)
same_layout v (flag setting layout) m f g e =
    let next = flag_front v (dashed setting) (words_of layout) m setting (f.0, refl) g e in
    next.is ∙ ap (flag setting) (same_layout v layout next.layout f.1 next.fits next.words_are)
same_layout v (spaced setting value layout) m f g e =
    let next = spaced_front v (dashed setting) (value ∷ words_of layout) m setting (f.0, refl) g e in
    let all = next.words_are in
    let value_is : next.value ≡ value = cc in
    let rest : words_of next.layout ≡ words_of layout = cc in
    next.is ∙ ap (λ x. spaced setting x next.layout) value_is ∙ ap (spaced setting value) (same_layout v layout next.layout f.1 next.fits rest)
same_layout v (tied setting value layout) m f g e =
    let next = tied_front v (assigned setting value) (words_of layout) m setting value (f.0, refl) g e in
    next.is ∙ ap (tied setting value) (same_layout v layout next.layout f.1 next.fits next.words_are)

-- words have one list of arguments and one list of settings
pub same_laid : (v : Verb) (ws xs bs : List Text) (ss ts : List Given) → IsLaid v ws xs ss → IsLaid v ws bs ts → (xs ≡ bs) × (ss ≡ ts)
same_laid v ws xs bs ss ts a b =
    let same : a.layout ≡ b.layout = same_layout v b.layout a.layout b.fits a.fits (a.words_are ∙ sym b.words_are) in
    (sym a.arguments_are ∙ ap arguments_of same ∙ b.arguments_are, sym a.settings_are ∙ ap settings_of same ∙ b.settings_are)
