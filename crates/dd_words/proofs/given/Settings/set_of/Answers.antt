use Rattle.dd_model.proofs.Options.{given_none}
use Rattle.dd_words.proofs.NoneGiven.{none_then}
use Rattle.dd_words.proofs.OneValue.{no_least, no_set}
use Rattle.dd_words.proofs.given.Settings.set_of.Goals as goal

pub returns-in_err-first-in-None-clause-none : goal.returns-in_err-first-in-None-clause-none
returns-in_err-first-in-None-clause-none c =
    given_none c.from_residual.result c.from_residual.ensures
    (λ a. no_least c.args.self.now c.args.set c.args.least a c.in-None.ensures.none c.in_err-first-in-None.ensures.none)

pub returns-else-is_some-clause-none : goal.returns-else-is_some-clause-none
returns-else-is_some-clause-none c =
    none_then c.read_set.result
    (λ none a h. no_set c.args.self.now c.args.set c.args.least c.in-Some.word.now a c.in-Some.ensures.single c.in-Some.ensures.some (λ _ is. none a is) h)
    c.read_set.ensures.none
