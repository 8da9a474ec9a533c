-- The words of settings, as clap reads them.
use Rattle.std.proofs.Common.{◌≡◌, ◌∷◌, [], false, Some, None, refl, bytes_eq}
use Rattle.clap.specs.Lexer.{long_of}
use Rattle.dd_words.specs.declared.settings.Setting.{Setting}
use Rattle.dd_words.specs.declared.settings.Setting.TheVariants.{Tiles, Vertices, LeastFace, LeastDegree, Faces, Degrees, Minimal, Workers, Round, Pause, Checkpoint, Cell}
use Rattle.dd_words.specs.Values.{Text}
use Rattle.dd_words.specs.SettingNames.{word_of, dashed, assigned}

pub not_dashes_alone : (s : Setting) → bytes_eq (dashed s) (45 ∷ 45 ∷ []) ≡ false
not_dashes_alone Tiles = refl
not_dashes_alone Vertices = refl
not_dashes_alone LeastFace = refl
not_dashes_alone LeastDegree = refl
not_dashes_alone Faces = refl
not_dashes_alone Degrees = refl
not_dashes_alone Minimal = refl
not_dashes_alone Workers = refl
not_dashes_alone Round = refl
not_dashes_alone Pause = refl
not_dashes_alone Checkpoint = refl
not_dashes_alone Cell = refl

pub not_dashes_tied : (s : Setting) (x : Text) → bytes_eq (assigned s x) (45 ∷ 45 ∷ []) ≡ false
not_dashes_tied Tiles x = refl
not_dashes_tied Vertices x = refl
not_dashes_tied LeastFace x = refl
not_dashes_tied LeastDegree x = refl
not_dashes_tied Faces x = refl
not_dashes_tied Degrees x = refl
not_dashes_tied Minimal x = refl
not_dashes_tied Workers x = refl
not_dashes_tied Round x = refl
not_dashes_tied Pause x = refl
not_dashes_tied Checkpoint x = refl
not_dashes_tied Cell x = refl

pub long_alone : (s : Setting) → long_of (dashed s) ≡ Some (word_of s, None)
long_alone Tiles = refl
long_alone Vertices = refl
long_alone LeastFace = refl
long_alone LeastDegree = refl
long_alone Faces = refl
long_alone Degrees = refl
long_alone Minimal = refl
long_alone Workers = refl
long_alone Round = refl
long_alone Pause = refl
long_alone Checkpoint = refl
long_alone Cell = refl

pub long_tied : (s : Setting) (x : Text) → long_of (assigned s x) ≡ Some (word_of s, Some x)
long_tied Tiles x = refl
long_tied Vertices x = refl
long_tied LeastFace x = refl
long_tied LeastDegree x = refl
long_tied Faces x = refl
long_tied Degrees x = refl
long_tied Minimal x = refl
long_tied Workers x = refl
long_tied Round x = refl
long_tied Pause x = refl
long_tied Checkpoint x = refl
long_tied Cell x = refl
