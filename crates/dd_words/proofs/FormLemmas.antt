-- A word has at most one form.
use Rattle.std.proofs.Common.{◌≡◌, ◌≢◌, ◌==◌, ℕ, false, cond, [], ◌∷◌, Option, Some, None, refl, sym, ap, ◌∙◌, arith}
use Rattle.std.proofs.lemmas.Bool.Decides.{nat_tests}
use Rattle.dd_model.proofs.Options.{some_same}
use Rattle.dd_words.specs.declared.settings.Setting.{Setting}
use Rattle.dd_words.specs.declared.settings.Setting.TheVariants.{Tiles, Vertices, LeastFace, LeastDegree, Faces, Degrees, Minimal, Workers, Round, Pause, Checkpoint, Cell}
use Rattle.dd_words.specs.declared.verbs.Verb.{Verb}
use Rattle.dd_words.specs.Values.{Text}
use Rattle.dd_words.specs.SettingNames.{has_value, dashed, assigned}
use Rattle.dd_words.proofs.Forms.{Form, argument, end, flag, spaced, tied, IsForm}
use Rattle.dd_words.proofs.Told.{setting_of}

-- what stands before the first `=`, and what stands after it
abbrev before : Text → Text
before [] = []
before (b ∷ bs) = cond (b == 61) [] (b ∷ before bs)

abbrev after : Text → Option Text
after [] = None
after (b ∷ bs) = cond (b == 61) (Some bs) (after bs)

-- the form of a word that begins with two dashes
abbrev named : Option Setting → Option Text → Option Form
named None value = None
named (Some s) None = Some (cond (has_value s) (spaced s) (flag s))
named (Some s) (Some value) = Some (tied s value)

abbrev third : Text → Option Form
third [] = Some end
third (b ∷ bs) = named (setting_of (before (b ∷ bs))) (after (b ∷ bs))

abbrev second : Text → Option Form
second [] = None
second (b ∷ bs) = cond (b == 45) (third bs) None

abbrev sort : Text → Option Form
sort [] = Some argument
sort (b ∷ bs) = cond (b == 45) (second bs) (Some argument)

sort_dashed : (s : Setting) → sort (dashed s) ≡ Some (cond (has_value s) (spaced s) (flag s))
sort_dashed Tiles = refl
sort_dashed Vertices = refl
sort_dashed LeastFace = refl
sort_dashed LeastDegree = refl
sort_dashed Faces = refl
sort_dashed Degrees = refl
sort_dashed Minimal = refl
sort_dashed Workers = refl
sort_dashed Round = refl
sort_dashed Pause = refl
sort_dashed Checkpoint = refl
sort_dashed Cell = refl

sort_assigned : (s : Setting) (value : Text) → sort (assigned s value) ≡ Some (tied s value)
sort_assigned Tiles value = refl
sort_assigned Vertices value = refl
sort_assigned LeastFace value = refl
sort_assigned LeastDegree value = refl
sort_assigned Faces value = refl
sort_assigned Degrees value = refl
sort_assigned Minimal value = refl
sort_assigned Workers value = refl
sort_assigned Round value = refl
sort_assigned Pause value = refl
sort_assigned Checkpoint value = refl
sort_assigned Cell value = refl

pub no_dash : (b : ℕ) → b ≢ 45 → (b == 45) ≡ false
no_dash b ne = grind (arith, nat_tests)

sorted : (v : Verb) (w : Text) (f : Form) → IsForm v w f → sort w ≡ Some f
sorted v [] argument h = refl
sorted v (b ∷ bs) argument h = rw (no_dash b h) refl
sorted v w end h = ap sort h
sorted v w (flag s) h = ap sort h.1 ∙ sort_dashed s ∙ ap (λ b. Some (cond b (spaced s) (flag s))) h.0.flag
sorted v w (spaced s) h = ap sort h.1 ∙ sort_dashed s ∙ ap (λ b. Some (cond b (spaced s) (flag s))) h.0.valued
sorted v w (tied s value) h = ap sort h.1 ∙ sort_assigned s value

pub same_form : (v : Verb) (w : Text) (f g : Form) → IsForm v w f → IsForm v w g → f ≡ g
same_form v w f g a b = some_same f g (sym (sorted v w f a) ∙ sorted v w g b)
