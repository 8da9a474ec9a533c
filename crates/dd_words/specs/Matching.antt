-- What is read of clap's matches.
use Rattle.std.specs.Prelude.{◌≡◌, List, [], ◌∷◌, ◌++◌, Option, Some, None, true, false, codes}
use Rattle.clap.specs.Words.{Row, first_of, one_of, matches_of, fault_of}
use Rattle.dd_words.specs.declared.settings.Setting.{Setting}
use Rattle.dd_words.specs.declared.places.Place.{Place}
use Rattle.dd_words.specs.declared.verbs.Verb.{Verb}
use Rattle.dd_words.specs.Values.{Text}
use Rattle.dd_words.specs.Given.{Given}
use Rattle.dd_words.specs.SettingNames.{word_of, has_value}
use Rattle.dd_words.specs.Apps.{app_for, all_settings}
use Rattle.dd_words.specs.Places.{name_of, all_places}

-- the value of a setting; that of a flag is empty
pub record IsValueRead (rows : List Row) (setting : Setting) (value : Option Text) : Type 0 where
  pub valued : has_value setting ≡ true → value ≡ first_of (word_of setting) rows
  pub absent : has_value setting ≡ false → one_of (word_of setting) rows ≡ None → value ≡ None
  pub raised : has_value setting ≡ false → one_of (word_of setting) rows ≡ Some (codes "true") → value ≡ Some []
  pub lowered : has_value setting ≡ false → one_of (word_of setting) rows ≡ Some (codes "false") → value ≡ None

-- a setting that may be given
abbrev pub given_by : Setting → Option Text → List Given
given_by setting None = []
given_by setting (Some value) = record { setting = setting; value = value } ∷ []

-- what is given begins with the value of the setting
pub record BeginsWith (rows : List Row) (setting : Setting) (P : List Given → Type 0) (given : List Given) : Type 0 where
  pub value : Option Text
  pub others : List Given
  pub is_read : IsValueRead rows setting value
  pub given_are : given ≡ given_by setting value ++ others
  pub more : P others

-- the values of the settings, in their order
abbrev pub AreRead : List Row → List Setting → List Given → Type 0
AreRead rows [] given = given ≡ []
AreRead rows (setting ∷ settings) given = BeginsWith rows setting (AreRead rows settings) given

-- the arguments
abbrev pub listed : Option Text → List Text
listed None = []
listed (Some word) = word ∷ []

-- the arguments at places
abbrev pub arguments_at : List Row → List Place → List Text
arguments_at rows [] = []
arguments_at rows (place ∷ places) = listed (first_of (name_of place) rows) ++ arguments_at rows places

abbrev pub arguments_read : List Row → List Text
arguments_read rows = arguments_at rows all_places

-- clap takes the words, and these are the arguments and the settings of its matches
pub record AreMatched (verb : Verb) (words arguments : List Text) (settings : List Given) : Type 0 where
  pub taken : fault_of (app_for verb) words ≡ []
  pub arguments_are : arguments ≡ arguments_read (matches_of (app_for verb) words)
  pub settings_are : AreRead (matches_of (app_for verb) words) all_settings settings
