use Rattle.dd_template.proofs.NamedTables.{dual_lawful}
use Rattle.dd_template.proofs.laws.dual_is_lawful.Goals as goal

pub returns : goal.returns
returns c = dual_lawful
