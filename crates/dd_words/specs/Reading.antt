-- What arguments and settings ask for, once the verb is known.
use Rattle.std.specs.Prelude.{◌≡◌, List}
use Rattle.dd_words.specs.declared.commands.Command.{Command}
use Rattle.dd_words.specs.declared.verbs.Verb.{Verb}
use Rattle.dd_words.specs.Values.{Text}
use Rattle.dd_words.specs.Given.{Given}
use Rattle.dd_words.specs.Grammar.{IsSaid}
use Rattle.dd_words.specs.FirstWords.{verb_of}

-- a command of this verb with these arguments and settings
pub record IsReadAs (verb : Verb) (arguments : List Text) (settings : List Given) (c : Command) : Type 0 where
  pub verb_is : verb_of c ≡ verb
  pub said : IsSaid c arguments settings
