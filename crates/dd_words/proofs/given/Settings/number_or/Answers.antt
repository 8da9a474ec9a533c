use Rattle.dd_words.proofs.NoneGiven.{none_then}
use Rattle.dd_words.proofs.OneValue.{only_number}
use Rattle.dd_words.proofs.given.Settings.number_or.Goals as goal

pub returns-in-Some-clause-none : goal.returns-in-Some-clause-none
returns-in-Some-clause-none c =
    none_then c.read_number_in.result
    (λ none n h. none n (only_number c.args.self.now c.args.setting c.args.low c.args.high c.args.default n c.in-Some.word.now c.in-Some.ensures.single c.in-Some.ensures.some h))
    c.read_number_in.ensures.none
