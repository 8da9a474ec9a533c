-- What is told to clap of each verb.
use Rattle.std.specs.Prelude.{List, [], ◌∷◌, Bool, true, false, codes, Some, cond}
use Rattle.clap.specs.Words.{App, Rule, new_app, new_rule, with_rule}
use Rattle.clap.specs.declared.builder.action.ArgAction.{ArgAction}
use Rattle.clap.specs.declared.builder.action.ArgAction.TheVariants.{Set, SetTrue}
use Rattle.dd_words.specs.declared.settings.Setting.{Setting}
use Rattle.dd_words.specs.declared.settings.Setting.TheVariants.{Tiles, Vertices, LeastFace, LeastDegree, Faces, Degrees, Minimal, Workers, Round, Pause, Checkpoint, Cell}
use Rattle.dd_words.specs.declared.verbs.Verb.{Verb}
use Rattle.dd_words.specs.declared.places.Place.{Place}
use Rattle.dd_words.specs.Values.{Text}
use Rattle.dd_words.specs.SettingNames.{word_of, has_value, has_setting}
use Rattle.dd_words.specs.Places.{name_of, all_places, has_place}

-- all settings, in the order in which they are told
abbrev pub all_settings : List Setting
all_settings =
    Tiles ∷ Vertices ∷ LeastFace ∷ LeastDegree ∷ Faces ∷ Degrees ∷ Minimal ∷ Workers ∷ Round ∷ Pause ∷ Checkpoint ∷ Cell ∷ []

-- an argument
abbrev pub place_rule : Text → Rule
place_rule name = record (new_rule name) { action = Some Set }

-- an option has a value, and a flag has none
abbrev pub action_for : Bool → ArgAction
action_for true = Set
action_for false = SetTrue

abbrev pub setting_rule : Setting → Rule
setting_rule setting = record (new_rule (word_of setting)) { long = Some (word_of setting); action = Some (action_for (has_value setting)) }

-- the settings of the verb join the app
abbrev pub with_settings : Verb → App → List Setting → App
with_settings verb app [] = app
with_settings verb app (setting ∷ settings) =
    with_settings verb (cond (has_setting verb setting) (with_rule app (setting_rule setting)) app) settings

-- no settings of clap's own
abbrev pub bare_app : App
bare_app = let new = new_app (codes "dressline") in
    record new { top = record new.top { no_binary_name = true; disable_help_flag = true; disable_version_flag = true } }

-- the arguments of the verb join the app
abbrev pub with_places : Verb → App → List Place → App
with_places verb app [] = app
with_places verb app (place ∷ places) =
    with_places verb (cond (has_place verb place) (with_rule app (place_rule (name_of place))) app) places

abbrev pub app_for : Verb → App
app_for verb = with_settings verb (with_places verb bare_app all_places) all_settings
