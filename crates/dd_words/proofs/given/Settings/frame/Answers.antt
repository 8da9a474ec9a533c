use Rattle.dd_words.proofs.OneValue.{no_frame, no_other_frame}
use Rattle.dd_words.proofs.given.Settings.frame.Goals as goal

pub returns-in-Some-clause-none : goal.returns-in-Some-clause-none
returns-in-Some-clause-none c frame =
    no_frame c.args.self.now c.in-Some.field-0.now frame c.in-Some.ensures.single c.in-Some.ensures.some
    (no_other_frame c.in-Some.field-0.now c.in-Some.not-square c.in-Some.not-hex c.in-Some.not-own)
