use Rattle.std.proofs.Common.{◌≡◌, ◌+◌, arith}
use Rattle.dd_model.proofs.AllowedLemmas.{up_to, from_up_to}
use Rattle.dd_words.proofs.sets.add_range.Goals as goal

pub returns : goal.returns
returns c m =
    let end : c.loop-number.number ≡ c.args.high + 1 = omega (arith, c.loop-number-test.false, c.loop-number.auto.number-end, c.requires.1) in
    let both = c.loop-number.invariant m in
    (up_to c.args.low c.args.high c.loop-number.number m end both.0, from_up_to c.args.low c.args.high c.loop-number.number m end both.1)
