use Rattle.std.proofs.Common.{rules}
use Rattle.dd_model.proofs.allowed.Allowed.add.Goals as goal

pub returns : goal.returns
returns c = search rules
