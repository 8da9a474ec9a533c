use Rattle.std.proofs.Common.{take, map}
use Rattle.dd_words.specs.Given.{Lacks}
use Rattle.dd_words.specs.Settings.{given_of}
use Rattle.dd_words.proofs.given.Settings.value_of.Given as goal

abbrev pub invariant-loop-given : goal.invariant-loop-given
invariant-loop-given l = Lacks (map given_of (take l.given-index l.given-items)) l.setting
