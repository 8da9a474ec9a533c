-- What a word before two dashes is to a command.
use Rattle.std.specs.Prelude.{◌≡◌}
use Rattle.dd_words.specs.declared.settings.Setting.{Setting}
use Rattle.dd_words.specs.declared.verbs.Verb.{Verb}
use Rattle.dd_words.specs.Values.{Text}
use Rattle.dd_words.specs.Layout.{IsPlain, IsFlagOf, IsValuedOf}
use Rattle.dd_words.specs.SettingNames.{dashes, dashed, assigned}

-- an argument, the end of the settings, a flag, a setting whose value is the next word, or one with its value
pub data Form : Type 0 where
  argument : Form
  end : Form
  flag : Setting → Form
  spaced : Setting → Form
  tied : Setting → Text → Form

-- the word has the form
abbrev pub IsForm : Verb → Text → Form → Type 0
IsForm verb word argument = IsPlain word
IsForm verb word end = word ≡ dashes
IsForm verb word (flag setting) = IsFlagOf verb setting × (word ≡ dashed setting)
IsForm verb word (spaced setting) = IsValuedOf verb setting × (word ≡ dashed setting)
IsForm verb word (tied setting value) = IsValuedOf verb setting × (word ≡ assigned setting value)
