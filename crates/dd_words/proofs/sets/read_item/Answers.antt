use Rattle.std.proofs.Common.{arith}
use Rattle.dd_model.proofs.Options.{given_none}
use Rattle.dd_words.proofs.Items.{not_asked}
use Rattle.dd_words.proofs.sets.read_item.Goals as goal

pub returns-in_err-low-clause-none : goal.returns-in_err-low-clause-none
returns-in_err-low-clause-none c =
    given_none c.from_residual.result c.from_residual.ensures (λ h. c.in_err-low.ensures.none h.low h.high h.item.bounds)

pub returns-then-low-lt1-clause-none : goal.returns-then-low-lt1-clause-none
returns-then-low-lt1-clause-none c =
    not_asked c.args.word.now c.in_ok-low.low c.in_ok-low.high c.in_ok-low.ensures.some (λ a b d. omega (arith, c.if-low-lt1.true))

pub returns-then-low-high-clause-none : goal.returns-then-low-high-clause-none
returns-then-low-high-clause-none c =
    not_asked c.args.word.now c.in_ok-low.low c.in_ok-low.high c.in_ok-low.ensures.some (λ a b d. omega (arith, c.if-low-high.true))

pub returns-then-high-gt-GREATEST-clause-none : goal.returns-then-high-gt-GREATEST-clause-none
returns-then-high-gt-GREATEST-clause-none c =
    not_asked c.args.word.now c.in_ok-low.low c.in_ok-low.high c.in_ok-low.ensures.some (λ a b d. omega (arith, c.if-high-gt-GREATEST.true))
