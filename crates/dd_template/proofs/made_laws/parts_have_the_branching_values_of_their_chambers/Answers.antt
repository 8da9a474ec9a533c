use Rattle.dd_template.proofs.MadeBranching.{tiles_keep_branching, vertices_keep_branching}
use Rattle.dd_template.proofs.made_laws.parts_have_the_branching_values_of_their_chambers.Goals as goal

pub returns : goal.returns
returns c = record { tile = tiles_keep_branching; vertex = vertices_keep_branching }
