use Rattle.std.proofs.Common.{sym, ◌∙◌}
use Rattle.dd_words.proofs.Numbers.{one_more_read}
use Rattle.dd_words.proofs.values.read_number.Goals as goal

pub loop-digit-preserved : goal.loop-digit-preserved
loop-digit-preserved c =
    one_more_read c.as_bytes-digits.result.now c.loop-digit.digit-index c.loop-digit.value c.from.result
    c.loop-digit-test.true (sym c.is_ascii_digit.ensures.value ∙ c.if-not-is_ascii_digit.false) c.from.ensures c.loop-digit.invariant
