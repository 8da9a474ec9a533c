-- How arguments and settings stand among the words of a command.
use Rattle.std.specs.Prelude.{◌≡◌, ◌≢◌, List, [], ◌∷◌, true, false}
use Rattle.dd_words.specs.declared.settings.Setting.{Setting}
use Rattle.dd_words.specs.declared.verbs.Verb.{Verb}
use Rattle.dd_words.specs.Values.{Text}
use Rattle.dd_words.specs.SettingNames.{has_value, has_setting, dashes, dashed, assigned}
use Rattle.dd_words.specs.Given.{Given}

-- Words as they were laid out: arguments, flags, settings with the next word or with `=`, and the arguments
-- that follow two dashes.
pub data Layout : Type 0 where
  nothing : Layout
  ended : List Text → Layout
  argument : Text → Layout → Layout
  flag : Setting → Layout → Layout
  spaced : Setting → Text → Layout → Layout
  tied : Setting → Text → Layout → Layout

-- the words
abbrev pub words_of : Layout → List Text
words_of nothing = []
words_of (ended arguments) = dashes ∷ arguments
words_of (argument word layout) = word ∷ words_of layout
words_of (flag setting layout) = dashed setting ∷ words_of layout
words_of (spaced setting value layout) = dashed setting ∷ value ∷ words_of layout
words_of (tied setting value layout) = assigned setting value ∷ words_of layout

-- the arguments in order
abbrev pub arguments_of : Layout → List Text
arguments_of nothing = []
arguments_of (ended arguments) = arguments
arguments_of (argument word layout) = word ∷ arguments_of layout
arguments_of (flag setting layout) = arguments_of layout
arguments_of (spaced setting value layout) = arguments_of layout
arguments_of (tied setting value layout) = arguments_of layout

-- the settings in order
abbrev pub settings_of : Layout → List Given
settings_of nothing = []
settings_of (ended arguments) = []
settings_of (argument word layout) = settings_of layout
settings_of (flag setting layout) = record { setting = setting; value = [] } ∷ settings_of layout
settings_of (spaced setting value layout) = record { setting = setting; value = value } ∷ settings_of layout
settings_of (tied setting value layout) = record { setting = setting; value = value } ∷ settings_of layout

-- a word that does not begin with a dash
abbrev pub IsPlain : Text → Type 0
IsPlain [] = Unit {0}
IsPlain (byte ∷ bytes) = byte ≢ 45

-- a flag of the command
pub record IsFlagOf (verb : Verb) (setting : Setting) : Type 0 where
  pub owned : has_setting verb setting ≡ true
  pub flag : has_value setting ≡ false

-- a setting of the command that has a value
pub record IsValuedOf (verb : Verb) (setting : Setting) : Type 0 where
  pub owned : has_setting verb setting ≡ true
  pub valued : has_value setting ≡ true

-- before two dashes each argument begins with no dash, and the settings are those of the command
abbrev pub Fits : Verb → Layout → Type 0
Fits verb nothing = Unit {0}
Fits verb (ended arguments) = Unit {0}
Fits verb (argument word layout) = IsPlain word × Fits verb layout
Fits verb (flag setting layout) = IsFlagOf verb setting × Fits verb layout
Fits verb (spaced setting value layout) = IsValuedOf verb setting × Fits verb layout
Fits verb (tied setting value layout) = IsValuedOf verb setting × Fits verb layout

-- the words have these arguments and these settings, each in its order
pub record IsLaid (verb : Verb) (words arguments : List Text) (settings : List Given) : Type 0 where
  pub layout : Layout
  pub fits : Fits verb layout
  pub words_are : words_of layout ≡ words
  pub arguments_are : arguments_of layout ≡ arguments
  pub settings_are : settings_of layout ≡ settings
