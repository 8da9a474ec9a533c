-- The tables that have names are lawful.
use Rattle.dd_template.specs.Lawful.{IsLawful}
use Rattle.dd_template.specs.Named.{dual, ambo, truncate, chamfer, table_of_operation}
use Rattle.dd_template.specs.declared.operations.Operation.{Operation}
use Rattle.dd_template.specs.declared.operations.Operation.TheVariants.{Ambo, Truncate, Chamfer}
use Rattle.dd_template.proofs.LawfulTables.{lawful}

pub dual_lawful : IsLawful dual
dual_lawful = lawful dual tt

pub operation_lawful : (operation : Operation) → IsLawful (table_of_operation operation)
operation_lawful Ambo = lawful ambo tt
operation_lawful Truncate = lawful truncate tt
operation_lawful Chamfer = lawful chamfer tt
