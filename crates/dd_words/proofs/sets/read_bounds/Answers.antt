use Rattle.dd_words.proofs.Items.{no_bounds_parted, no_bounds_alone}
use Rattle.dd_model.proofs.Options.{given_none}
use Rattle.dd_words.proofs.sets.read_bounds.Goals as goal

pub returns-in_err-low-in-Some-clause-none : goal.returns-in_err-low-in-Some-clause-none
returns-in_err-low-in-Some-clause-none c =
    given_none c.from_residual.result c.from_residual.ensures
    (no_bounds_parted c.args.word.now c.in-Some.from.now c.in-Some.to.now c.in-Some.ensures.some (λ low high a b. c.in_err-low-in-Some.ensures.none low a))

pub returns-in_err-high-in-Some-clause-none : goal.returns-in_err-high-in-Some-clause-none
returns-in_err-high-in-Some-clause-none c =
    given_none c.from_residual-in_err-high-in-Some.result c.from_residual-in_err-high-in-Some.ensures
    (no_bounds_parted c.args.word.now c.in-Some.from.now c.in-Some.to.now c.in-Some.ensures.some (λ low high a b. c.in_err-high-in-Some.ensures.none high b))

pub returns-in_err-number-in-None-clause-none : goal.returns-in_err-number-in-None-clause-none
returns-in_err-number-in-None-clause-none c =
    given_none c.from_residual-in_err-number-in-None.result c.from_residual-in_err-number-in-None.ensures
    (no_bounds_alone c.args.word.now c.in-None.ensures.none c.in_err-number-in-None.ensures.none)
