use Rattle.dd_template.proofs.NamedTables.{operation_lawful}
use Rattle.dd_template.proofs.operations.operations_are_lawful.Goals as goal

pub returns : goal.returns
returns c = operation_lawful
