-- The names of settings, and which commands have them.
use Rattle.std.specs.Prelude.{◌∷◌, ◌++◌, Bool, true, false, codes}
use Rattle.dd_words.specs.declared.settings.Setting.{Setting}
use Rattle.dd_words.specs.declared.settings.Setting.TheVariants.{Tiles, Vertices, LeastFace, LeastDegree, Faces, Degrees, Minimal, Workers, Round, Pause, Checkpoint, Cell}
use Rattle.dd_words.specs.declared.verbs.Verb.{Verb}
use Rattle.dd_words.specs.declared.verbs.Verb.TheVariants as verb
use Rattle.dd_words.specs.Values.{Text}

-- the name of a setting, without its dashes
abbrev pub word_of : Setting → Text
word_of Tiles = codes "tiles"
word_of Vertices = codes "vertices"
word_of LeastFace = codes "least-face"
word_of LeastDegree = codes "least-degree"
word_of Faces = codes "faces"
word_of Degrees = codes "degrees"
word_of Minimal = codes "minimal"
word_of Workers = codes "workers"
word_of Round = codes "round"
word_of Pause = codes "pause"
word_of Checkpoint = codes "checkpoint"
word_of Cell = codes "cell"

-- all settings have a value but the flag
abbrev pub has_value : Setting → Bool
has_value Minimal = false
has_value _ = true

-- the settings of a run
abbrev pub is_of_run : Setting → Bool
is_of_run Workers = true
is_of_run Round = true
is_of_run Pause = true
is_of_run _ = false

-- the settings of a catalogue
abbrev pub is_of_catalogue : Setting → Bool
is_of_catalogue Cell = false
is_of_catalogue _ = true

-- the settings of a drawing
abbrev pub is_of_drawing : Setting → Bool
is_of_drawing Cell = true
is_of_drawing _ = false

-- the command has the setting
abbrev pub has_setting : Verb → Setting → Bool
has_setting verb.Catalogue setting = is_of_catalogue setting
has_setting verb.Resume setting = is_of_run setting
has_setting verb.Shard setting = is_of_catalogue setting
has_setting verb.ResumeShard setting = is_of_run setting
has_setting verb.Draw setting = is_of_drawing setting
has_setting _ setting = false

-- two dashes
abbrev pub dashes : Text
dashes = codes "--"

-- a setting alone, and a setting with its value in one word
abbrev pub dashed : Setting → Text
dashed setting = dashes ++ word_of setting

abbrev pub assigned : Setting → Text → Text
assigned setting value = dashes ++ (word_of setting ++ 61 ∷ value)
