use Rattle.std.proofs.Common.{◌∙◌, ap}
use Rattle.dd_check.specs.Texts.{texts}
use Rattle.dd_check.proofs.Outcomes.{of_value, of_fault}
use Rattle.dd_check.proofs.checkpoint_reader.read_checkpoint.Goals as goal

pub returns-clause-read : goal.returns-clause-read
returns-clause-read c =
    of_value c.args.bytes.now c.read_text.result
    (c.read_text.ensures c.args.bytes.now (record { short = c.if-bytes-gt-LONGEST.false; lines_are = ap texts c.deref.ensures.value ∙ c.in_ok-lines.ensures }))

pub returns-clause-fault : goal.returns-clause-fault
returns-clause-fault c =
    of_fault c.args.bytes.now c.read_text.result
    (c.read_text.ensures c.args.bytes.now (record { short = c.if-bytes-gt-LONGEST.false; lines_are = ap texts c.deref.ensures.value ∙ c.in_ok-lines.ensures }))
