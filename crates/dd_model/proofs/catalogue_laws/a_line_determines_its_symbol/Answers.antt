use Rattle.dd_model.proofs.LinesDetermined.{line_determines}
use Rattle.dd_model.proofs.catalogue_laws.a_line_determines_its_symbol.Goals as goal

pub returns : goal.returns
returns c = line_determines
