use Rattle.std.proofs.Common.{refl, arith}
use Rattle.dd_check.specs.Texts.{texts}
use Rattle.dd_check.specs.Rows.{number_row}
use Rattle.dd_check.proofs.WordReads.{nth_word, different, same_word, two_words, number_told}
use Rattle.dd_check.proofs.rows.number_row.Goals as goal

pub returns-then-ne : goal.returns-then-ne
returns-then-ne c n row =
    different _ c.args.key.now c.if-ne.ensures (nth_word c.args.words.now 0 _ (number_row c.args.key.now n) (omega (arith, c.in-len2.len_at_least)) row.words_are)

pub returns : goal.returns
returns c =
    number_told c.read_number.result c.args.key.now _ (texts c.args.words.now)
    (two_words c.args.words.now _ _ c.args.key.now _ c.in-len2.len_at_least c.in-len2.len_below (same_word _ c.args.key.now c.if-ne.ensures) refl)
    c.read_number.ensures
