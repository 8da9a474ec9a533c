use Rattle.std.proofs.Common.{◌+◌, take, sym, subst}
use Rattle.std.specs.Prelude.{decimal}
use Rattle.dd_check.specs.Texts.{texts}
use Rattle.dd_check.specs.Numerals.{IsShort}
use Rattle.dd_check.proofs.SetReads.{TellsEach}
use Rattle.dd_check.proofs.WordReads.{numbers_more, numbers_none}
use Rattle.dd_check.proofs.rows.read_numbers.Goals as goal

pub returns-in-None : goal.returns-in-None
returns-in-None c = numbers_none c.args.words.now c.loop-word.word-index _ c.loop-word-test.true c.in-None.ensures

pub loop-word-preserved : goal.loop-word-preserved
loop-word-preserved c =
    subst (λ ns. TellsEach decimal IsShort (take (c.loop-word.word-index + 1) (texts c.args.words.now)) ns) (sym c.in_ok-push-in-Some.ensures.items)
    (numbers_more c.args.words.now c.loop-word.word-index _ c.loop-word.numbers.items c.in-Some.number c.loop-word-test.true c.in-Some.ensures c.loop-word.invariant)
