use Rattle.dd_opword.proofs.ComposedLawful.{composed_lawful}
use Rattle.dd_opword.proofs.ComposedMade.{composed_made, are_applied}
use Rattle.dd_opword.proofs.laws.tables_compose.Goals as goal

pub returns-clause-lawful : goal.returns-clause-lawful
returns-clause-lawful c outer inner go = composed_lawful outer inner go

pub returns-clause-made : goal.returns-clause-made
returns-clause-made c outer inner s go is = composed_made outer inner s (are_applied outer inner s go is)
