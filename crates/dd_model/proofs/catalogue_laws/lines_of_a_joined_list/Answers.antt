use Rattle.dd_model.proofs.Texts.{joined_lines, split_lines}
use Rattle.dd_model.proofs.catalogue_laws.lines_of_a_joined_list.Goals as goal

pub returns : goal.returns
returns c = record { joined = joined_lines; parted = split_lines }
