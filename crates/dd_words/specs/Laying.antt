-- The arguments and the settings that the program keeps.
use Rattle.std.specs.Prelude.{List, map}
use Rattle.std.specs.Borrow.{Bor}
use Rattle.dd_words.specs.declared.layouts.Laid.{Laid}
use Rattle.dd_words.specs.Values.{Text}
use Rattle.dd_words.specs.Given.{Given}
use Rattle.dd_words.specs.Settings.{given_of}

-- the texts behind references
abbrev pub texts : List (Bor Text) → List Text
texts = map (λ text. text.now)

-- the arguments, and the settings with their values
abbrev pub arguments_in : Laid → List Text
arguments_in laid = texts laid.arguments.items

abbrev pub settings_in : Laid → List Given
settings_in laid = map given_of laid.settings.items
