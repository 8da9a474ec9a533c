use Rattle.std.proofs.Common.{rules}
use Rattle.dd_model.proofs.requests.Request.is_valid.Goals as goal

pub returns-then-is_some : goal.returns-then-is_some
returns-then-is_some c = search rules
