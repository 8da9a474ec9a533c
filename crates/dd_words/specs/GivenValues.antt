-- What the settings that were given say.
use Rattle.std.specs.Prelude.{◌≡◌, ◌⊎◌, ℕ, Bool, true, false, List, [], codes, Option, Some, None}
use Rattle.dd_model.specs.Allowed.{IsFrom}
use Rattle.dd_model.specs.declared.allowed.Allowed.{Allowed}
use Rattle.dd_words.specs.declared.settings.Setting.{Setting}
use Rattle.dd_words.specs.declared.settings.Setting.TheVariants.{Cell}
use Rattle.dd_model.specs.declared.frame.Frame.{Frame}
use Rattle.dd_model.specs.declared.frame.Frame.TheVariants.{Square, Hex, Own}
use Rattle.dd_words.specs.Values.{Text, IsNumberIn, IsSetWord, IsName}
use Rattle.dd_words.specs.Given.{Given, Has, Lacks}

-- a number that is given in a range
pub record IsNumberGiven (settings : List Given) (setting : Setting) (low high n : ℕ) : Type 0 where
  pub word : Text
  pub has : Has settings setting word
  pub number : IsNumberIn low high word n

-- a number that is given in a range, or its default
abbrev pub IsNumberOr : List Given → Setting → ℕ → ℕ → ℕ → ℕ → Type 0
IsNumberOr settings setting low high default n = (Lacks settings setting × (n ≡ default)) ⊎ IsNumberGiven settings setting low high n

-- a number that is given in a range, or none
abbrev pub IsNumberIfGiven : List Given → Setting → ℕ → ℕ → Option ℕ → Type 0
IsNumberIfGiven settings setting low high None = Lacks settings setting
IsNumberIfGiven settings setting low high (Some n) = IsNumberGiven settings setting low high n

-- a name that is given, or none
abbrev pub IsNameIfGiven : List Given → Setting → Option Text → Type 0
IsNameIfGiven settings setting None = Lacks settings setting
IsNameIfGiven settings setting (Some word) = Has settings setting word × IsName word

-- whether the flag is given
abbrev pub IsFlagIfGiven : List Given → Setting → Bool → Type 0
IsFlagIfGiven settings setting true = Has settings setting []
IsFlagIfGiven settings setting false = Lacks settings setting

-- a set that is given by its items, and not by a least number
pub record IsSetGiven (settings : List Given) (set least : Setting) (a : Allowed) : Type 0 where
  pub word : Text
  pub alone : Lacks settings least
  pub has : Has settings set word
  pub is_set : IsSetWord word a

-- a set that is not given by its items: the numbers from a least one on, which is 3 where none is given
pub record IsSetFrom (settings : List Given) (set least : Setting) (a : Allowed) : Type 0 where
  pub first : ℕ
  pub alone : Lacks settings set
  pub is_first : IsNumberOr settings least 1 36 3 first
  pub is_set : IsFrom first a

abbrev pub IsSet : List Given → Setting → Setting → Allowed → Type 0
IsSet settings set least a = IsSetGiven settings set least a ⊎ IsSetFrom settings set least a

-- The word of a cell's shape. A shape by its numbers has none; the tiling's own shape, whose numbers no word has, is None.
abbrev pub IsShapeWord : Text → Option Frame → Type 0
IsShapeWord w (Some Square) = w ≡ codes "square"
IsShapeWord w (Some Hex) = w ≡ codes "hex"
IsShapeWord w (Some (Own p q)) = ⊥
IsShapeWord w None = w ≡ codes "own"

-- the shape is given by its word
pub record IsShapeGiven (settings : List Given) (frame : Option Frame) : Type 0 where
  pub word : Text
  pub has : Has settings Cell word
  pub is : IsShapeWord word frame

-- the shape of the cell; a square where none is given
abbrev pub IsFramed : List Given → Option Frame → Type 0
IsFramed settings frame = (Lacks settings Cell × (frame ≡ Some Square)) ⊎ IsShapeGiven settings frame
