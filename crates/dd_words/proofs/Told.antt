-- Settings and verbs are told by their words.
use Rattle.std.proofs.Common.{◌≡◌, ℕ, Bool, true, false, cond, List, codes, Option, Some, None, refl, sym, ap, ◌∙◌, bytes_eq}
use Rattle.std.proofs.lemmas.Slice.Eq.{bytes_eq-Decides}
use Rattle.dd_template.specs.declared.operations.Operation.TheVariants as operation
use Rattle.dd_words.specs.declared.settings.Setting.{Setting}
use Rattle.dd_words.specs.declared.settings.Setting.TheVariants.{Tiles, Vertices, LeastFace, LeastDegree, Faces, Degrees, Minimal, Workers, Round, Pause, Checkpoint, Cell}
use Rattle.dd_words.specs.declared.verbs.Verb.{Verb}
use Rattle.dd_words.specs.declared.verbs.Verb.TheVariants as verb
use Rattle.dd_words.specs.declared.commands.FileKind.TheVariants as kind
use Rattle.dd_words.specs.SettingNames.{word_of}
use Rattle.dd_words.specs.FirstWords.{first_word}
use Rattle.std.proofs.lemmas.Option.{same_Some}

-- the setting of a word
abbrev pub setting_of : List ℕ → Option Setting
setting_of w = cond (bytes_eq w (codes "tiles")) (Some Tiles) (cond (bytes_eq w (codes "vertices")) (Some Vertices) (cond (bytes_eq w (codes "least-face")) (Some LeastFace) (cond (bytes_eq w (codes "least-degree")) (Some LeastDegree) (cond (bytes_eq w (codes "faces")) (Some Faces) (cond (bytes_eq w (codes "degrees")) (Some Degrees) (cond (bytes_eq w (codes "minimal")) (Some Minimal) (cond (bytes_eq w (codes "workers")) (Some Workers) (cond (bytes_eq w (codes "round")) (Some Round) (cond (bytes_eq w (codes "pause")) (Some Pause) (cond (bytes_eq w (codes "checkpoint")) (Some Checkpoint) (cond (bytes_eq w (codes "cell")) (Some Cell) None)))))))))))

pub setting_told : (s : Setting) → setting_of (word_of s) ≡ Some s
setting_told Tiles = refl
setting_told Vertices = refl
setting_told LeastFace = refl
setting_told LeastDegree = refl
setting_told Faces = refl
setting_told Degrees = refl
setting_told Minimal = refl
setting_told Workers = refl
setting_told Round = refl
setting_told Pause = refl
setting_told Checkpoint = refl
setting_told Cell = refl

pub same_setting : (s t : Setting) → word_of s ≡ word_of t → s ≡ t
same_setting s t e = same_Some s t (sym (setting_told s) ∙ ap setting_of e ∙ setting_told t)

-- a word that is that of no setting
pub no_setting_has : (w : List ℕ) → setting_of w ≡ None → (s : Setting) → bytes_eq w (word_of s) ≡ false
no_setting_has w none s = go (bytes_eq w (word_of s)) ((bytes_eq-Decides w (word_of s)).0)
  where
    go : (b : Bool) → (b ≡ true → w ≡ word_of s) → b ≡ false
    go true same = let e : None ≡ Some s = sym none ∙ ap setting_of (same refl) ∙ setting_told s in absurd (cc)
    go false same = refl

-- the verb of a word
abbrev pub verb_told_by : List ℕ → Option Verb
verb_told_by w = cond (bytes_eq w (codes "catalogue")) (Some verb.Catalogue) (cond (bytes_eq w (codes "resume")) (Some verb.Resume) (cond (bytes_eq w (codes "shard")) (Some verb.Shard) (cond (bytes_eq w (codes "resume-shard")) (Some verb.ResumeShard) (cond (bytes_eq w (codes "draw")) (Some verb.Draw) (cond (bytes_eq w (codes "exercise")) (Some verb.Exercise) (cond (bytes_eq w (codes "apply")) (Some verb.Apply) (cond (bytes_eq w (codes "merge")) (Some verb.Merge) (cond (bytes_eq w (codes "canon")) (Some (verb.File kind.Canon)) (cond (bytes_eq w (codes "lines")) (Some (verb.File kind.Lines)) (cond (bytes_eq w (codes "info")) (Some (verb.File kind.Info)) (cond (bytes_eq w (codes "minimal")) (Some (verb.File kind.Minimal)) (cond (bytes_eq w (codes "dual")) (Some (verb.File kind.Dual)) (cond (bytes_eq w (codes "ambo")) (Some (verb.File (kind.Derived operation.Ambo))) (cond (bytes_eq w (codes "truncate")) (Some (verb.File (kind.Derived operation.Truncate))) (cond (bytes_eq w (codes "chamfer")) (Some (verb.File (kind.Derived operation.Chamfer))) (cond (bytes_eq w (codes "oriented")) (Some (verb.File kind.Oriented)) (cond (bytes_eq w (codes "torus")) (Some (verb.File kind.Torus)) (cond (bytes_eq w (codes "sheets")) (Some (verb.File kind.Sheets)) None))))))))))))))))))

pub verb_told : (v : Verb) → verb_told_by (first_word v) ≡ Some v
verb_told verb.Catalogue = refl
verb_told verb.Resume = refl
verb_told verb.Shard = refl
verb_told verb.ResumeShard = refl
verb_told verb.Draw = refl
verb_told verb.Exercise = refl
verb_told verb.Apply = refl
verb_told verb.Merge = refl
verb_told (verb.File kind.Canon) = refl
verb_told (verb.File kind.Lines) = refl
verb_told (verb.File kind.Info) = refl
verb_told (verb.File kind.Minimal) = refl
verb_told (verb.File kind.Dual) = refl
verb_told (verb.File (kind.Derived operation.Ambo)) = refl
verb_told (verb.File (kind.Derived operation.Truncate)) = refl
verb_told (verb.File (kind.Derived operation.Chamfer)) = refl
verb_told (verb.File kind.Oriented) = refl
verb_told (verb.File kind.Torus) = refl
verb_told (verb.File kind.Sheets) = refl

pub same_verb : (v w : Verb) → first_word v ≡ first_word w → v ≡ w
same_verb v w e = same_Some v w (sym (verb_told v) ∙ ap verb_told_by e ∙ verb_told w)
