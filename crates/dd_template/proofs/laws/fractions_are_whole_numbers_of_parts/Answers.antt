use Rattle.dd_template.proofs.WholeLemmas.{whole_divided}
use Rattle.dd_template.proofs.laws.fractions_are_whole_numbers_of_parts.Goals as goal

pub returns : goal.returns
returns c = whole_divided
