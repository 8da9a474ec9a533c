use Rattle.dd_words.proofs.Numbers.{AreRead}
use Rattle.dd_words.proofs.values.read_number.Given as goal

abbrev pub invariant-loop-digit : goal.invariant-loop-digit
invariant-loop-digit l = AreRead l.digits l.digit-index l.value
