use Rattle.dd_words.proofs.OneValue.{no_flag, some_text}
use Rattle.dd_words.proofs.given.Settings.flag_if_given.Goals as goal

pub returns-then-not-is_empty-clause-none : goal.returns-then-not-is_empty-clause-none
returns-then-not-is_empty-clause-none c flag =
    no_flag c.args.self.now c.args.setting c.in-Some.word.now flag c.in-Some.ensures.single c.in-Some.ensures.some
    (some_text c.in-Some.word.now c.is_empty.result c.is_empty.ensures c.if-not-is_empty.true)
