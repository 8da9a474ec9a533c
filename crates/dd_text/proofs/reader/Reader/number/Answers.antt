use Rattle.std.proofs.Common.{arith}
use Rattle.dd_text.proofs.NextPart.{below_nine}
use Rattle.dd_text.proofs.reader.Reader.number.Goals as goal

pub overflow_mul-value : goal.overflow_mul-value
overflow_mul-value c =
    let power = below_nine c.loop-self.count c.if-count-lt9.true in
    let small = c.loop-self.invariant.small (omega arith) in
    omega (arith, power, small)

pub overflow_add-value : goal.overflow_add-value
overflow_add-value c =
    let power = below_nine c.loop-self.count c.if-count-lt9.true in
    let small = c.loop-self.invariant.small (omega arith) in
    omega (arith, power, small)
