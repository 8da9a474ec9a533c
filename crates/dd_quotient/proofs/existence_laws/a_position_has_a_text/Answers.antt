use Rattle.dd_quotient.proofs.Texts.{text_exists}
use Rattle.dd_quotient.proofs.existence_laws.a_position_has_a_text.Goals as goal

pub returns : goal.returns
returns c = text_exists
