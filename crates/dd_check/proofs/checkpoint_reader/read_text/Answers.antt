use Rattle.dd_check.specs.Texts.{texts}
use Rattle.dd_check.proofs.Outcomes.{no_version}
use Rattle.dd_check.proofs.checkpoint_reader.read_text.Goals as goal

pub returns-then-is_first : goal.returns-then-is_first
returns-then-is_first c text are = c.read_new.ensures text (record { are = are; new = c.is_first.ensures.0 c.if-is_first.true })

pub returns-then-is_first-2 : goal.returns-then-is_first-2
returns-then-is_first-2 c text are = c.read_old.ensures text (record { are = are; old = c.is_first-else-is_first.ensures.0 c.if-is_first-2.true })

pub returns-else-is_first-2 : goal.returns-else-is_first-2
returns-else-is_first-2 c text are _ =
    no_version text (texts c.args.lines.now) are
    (λ h. let holds = c.is_first.ensures.1 h in let fails = c.if-is_first.false in cc)
    (λ h. let holds = c.is_first-else-is_first.ensures.1 h in let fails = c.if-is_first-2.false in cc)
