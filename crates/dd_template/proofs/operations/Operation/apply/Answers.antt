use Rattle.std.proofs.Common.{arith}
use Rattle.dd_template.specs.declared.operations.Operation.TheVariants.{Ambo, Truncate, Chamfer}
use Rattle.dd_template.proofs.NamedTables.{operation_lawful}
use Rattle.dd_template.proofs.operations.Operation.apply.Goals as goal

pub apply-requires : goal.apply-requires
apply-requires c = ((omega arith), operation_lawful Ambo)

pub apply-requires-in-Truncate : goal.apply-requires-in-Truncate
apply-requires-in-Truncate c = ((omega arith), operation_lawful Truncate)

pub apply-requires-in-Chamfer : goal.apply-requires-in-Chamfer
apply-requires-in-Chamfer c = ((omega arith), operation_lawful Chamfer)
