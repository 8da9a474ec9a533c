use Rattle.std.proofs.Common.{ap, Err}
use Rattle.dd_words.proofs.Faults.{same_fault}
use Rattle.dd_words.proofs.OneValue.{no_name}
use Rattle.dd_words.proofs.given.Settings.name_if_given.Goals as goal

pub returns-in_err-name-clause-not_taken : goal.returns-in_err-name-clause-not_taken
returns-in_err-name-clause-not_taken c failed name =
    no_name c.args.self.now c.args.setting c.in-Some.word.now name c.in-Some.ensures.single c.in-Some.ensures.some
    (c.in_err-name.ensures.not_taken (ap Err (same_fault c.from_residual.result c.in_err-name.field-0.0 c.from_residual.ensures.1 failed)))
