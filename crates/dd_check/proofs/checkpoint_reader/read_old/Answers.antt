use Rattle.dd_check.specs.Texts.{texts}
use Rattle.dd_check.proofs.Outcomes.{refused, old_refused, old_read, old_misplaced}
use Rattle.dd_check.proofs.checkpoint_reader.read_old.Goals as goal

pub returns-in_err-c : goal.returns-in_err-c
returns-in_err-c c text are =
    refused text c.from_residual.result c.in_err-c.field-0.0 c.from_residual.ensures.1 (old_refused text (texts c.args.lines.now) are c.in_err-c.field-0.0 c.in_err-c.ensures.fault)

pub returns-then-is_old_place : goal.returns-then-is_old_place
returns-then-is_old_place c text are = old_read text (texts c.args.lines.now) are c.in_ok-c.c c.in_ok-c.ensures.told (c.is_old_place.ensures.0 c.if-is_old_place.true)

pub returns-else-is_old_place : goal.returns-else-is_old_place
returns-else-is_old_place c text are _ =
    old_misplaced text (texts c.args.lines.now) are c.in_ok-c.c c.in_ok-c.ensures.told
    (λ h. let holds = c.is_old_place.ensures.1 h in let fails = c.if-is_old_place.false in cc)
