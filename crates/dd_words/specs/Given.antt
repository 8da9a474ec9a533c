-- Settings that were given, with their values.
use Rattle.std.specs.Prelude.{◌≢◌, List, [], ◌∷◌}
use Rattle.std.specs.List.{AllByRecursion, Contains}
use Rattle.dd_words.specs.declared.settings.Setting.{Setting}
use Rattle.dd_words.specs.Values.{Text}

-- a setting that was given, and its value; that of a flag is empty
pub record Given : Type 0 where
  pub setting : Setting
  pub value : Text

-- each setting stands at most once
abbrev pub AreSingle : List Given → Type 0
AreSingle [] = Unit {0}
AreSingle (given ∷ settings) = AllByRecursion (λ other. other.setting ≢ given.setting) settings × AreSingle settings

-- the setting is given with this value
abbrev pub Has : List Given → Setting → Text → Type 0
Has settings setting value = Contains settings (record { setting = setting; value = value })

-- the setting is not given
abbrev pub Lacks : List Given → Setting → Type 0
Lacks settings setting = AllByRecursion (λ other. other.setting ≢ setting) settings
