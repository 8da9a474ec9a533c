use Rattle.dd_model.proofs.Options.{given_none}
use Rattle.dd_words.proofs.OneValue.{only_given}
use Rattle.dd_words.proofs.given.Settings.number_if_given.Goals as goal

pub returns-in_err-number-clause-none : goal.returns-in_err-number-clause-none
returns-in_err-number-clause-none c =
    given_none c.from_residual.result c.from_residual.ensures
    (λ n. only_given c.args.self.now c.args.setting c.args.low c.args.high n c.in-Some.word.now c.in-Some.ensures.single c.in-Some.ensures.some c.in_err-number.ensures.none)
