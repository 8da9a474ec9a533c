use Rattle.dd_template.proofs.PlaceLemmas.{chamber_of_within, place_of, same_place}
use Rattle.dd_template.proofs.made_laws.chambers_are_parts_of_chambers.Goals as goal

pub returns : goal.returns
returns c = record { within = chamber_of_within; each = place_of; once = same_place }
