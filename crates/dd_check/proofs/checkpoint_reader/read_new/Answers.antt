use Rattle.dd_check.specs.Texts.{texts}
use Rattle.dd_check.proofs.Outcomes.{refused, new_refused, new_read, new_misplaced}
use Rattle.dd_check.proofs.checkpoint_reader.read_new.Goals as goal

pub returns-in_err-c : goal.returns-in_err-c
returns-in_err-c c text are =
    refused text c.from_residual.result c.in_err-c.field-0.0 c.from_residual.ensures.1 (new_refused text (texts c.args.lines.now) are c.in_err-c.field-0.0 c.in_err-c.ensures.fault)

pub returns-then-branch : goal.returns-then-branch
returns-then-branch c text are = new_read text (texts c.args.lines.now) are c.in_ok-c.c c.in_ok-c.ensures.told (c.in_ok-is_place.ensures.0 c.if-branch.true)

pub returns-else-branch : goal.returns-else-branch
returns-else-branch c text are _ =
    new_misplaced text (texts c.args.lines.now) are c.in_ok-c.c c.in_ok-c.ensures.told
    (λ h. let holds = c.in_ok-is_place.ensures.1 h in let fails = c.if-branch.false in cc)
