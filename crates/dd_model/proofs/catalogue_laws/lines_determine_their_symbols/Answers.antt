use Rattle.dd_model.proofs.LinesDetermined.{lines_determine}
use Rattle.dd_model.proofs.catalogue_laws.lines_determine_their_symbols.Goals as goal

pub returns : goal.returns
returns c = lines_determine
