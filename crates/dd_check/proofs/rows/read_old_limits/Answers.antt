use Rattle.dd_check.proofs.WordReads.{match_none}
use Rattle.dd_check.proofs.rows.read_old_limits.Goals as goal

pub returns-in_err-limits : goal.returns-in_err-limits
returns-in_err-limits c = match_none _ c.from_residual.result c.from_residual.ensures (λ limits are. c.in_err-limits.ensures _ are.limits_are)
