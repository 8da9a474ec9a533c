use Rattle.dd_model.proofs.Texts.{text_unique}
use Rattle.dd_model.proofs.catalogue_laws.a_position_has_one_text.Goals as goal

pub returns : goal.returns
returns c = text_unique
