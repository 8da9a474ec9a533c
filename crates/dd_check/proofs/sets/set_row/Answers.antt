use Rattle.std.proofs.Common.{refl, arith}
use Rattle.std.proofs.lemmas.Result.{IfOk-weaker}
use Rattle.dd_check.specs.Texts.{texts}
use Rattle.dd_check.specs.Rows.{set_row}
use Rattle.dd_check.proofs.WordReads.{nth_word, different, same_word, two_words, set_told}
use Rattle.dd_check.proofs.sets.set_row.Goals as goal

pub returns-then-ne : goal.returns-then-ne
returns-then-ne c items row =
    different _ c.args.key.now c.if-ne.ensures (nth_word c.args.words.now 0 _ (set_row c.args.key.now items) (omega (arith, c.in-len2.len_at_least)) row.words_are)

pub returns : goal.returns
returns c =
    IfOk-weaker c.read_items.result _ _
    (λ told h. set_told told c.args.key.now _ (texts c.args.words.now)
    (two_words c.args.words.now _ _ c.args.key.now _ c.in-len2.len_at_least c.in-len2.len_below (same_word _ c.args.key.now c.if-ne.ensures) refl) h)
    c.read_items.ensures
