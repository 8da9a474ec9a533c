use Rattle.std.proofs.Common.{◌≡◌, take}
use Rattle.std.specs.List.{AllByRecursion}
use Rattle.dd_words.specs.Laying.{texts}
use Rattle.dd_words.specs.Values.{IsName}
use Rattle.dd_words.proofs.given.read_names.Given as goal

abbrev pub invariant-loop-word : goal.invariant-loop-word
invariant-loop-word l = (texts (take l.word-index l.words) ≡ l.names.items) × AllByRecursion IsName l.names.items
