-- The settings that the program keeps.
use Rattle.dd_words.specs.declared.settings.Given.{Given as Kept}
use Rattle.dd_words.specs.Given.{Given}

-- a setting that was given, with the bytes of its value
abbrev pub given_of : Kept → Given
given_of kept = record { setting = kept.setting; value = kept.value.now }
