use Rattle.dd_check.proofs.WordReads.{is_first_line}
use Rattle.dd_check.proofs.lines.is_first.Goals as goal

pub returns-then-lines-gt1 : goal.returns-then-lines-gt1
returns-then-lines-gt1 c = is_first_line c.args.lines.now _ c.args.line.now c.eq.result c.eq.ensures c.if-lines-gt1.true
