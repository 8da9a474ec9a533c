use Rattle.std.proofs.Common.{rules}
use Rattle.dd_ports.proofs.shelf.fill.Goals as goal

pub returns : goal.returns
returns c = search rules
