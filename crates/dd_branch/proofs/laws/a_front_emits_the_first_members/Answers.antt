use Rattle.dd_model.specs.Text.{beginning}
use Rattle.dd_front.proofs.Runs.{run_covers}
use Rattle.dd_branch.proofs.Emissions.{covered_first}
use Rattle.dd_branch.proofs.FirstMembers.{catalogue_begins}
use Rattle.dd_branch.proofs.laws.a_front_emits_the_first_members.Goals as goal

pub returns-clause-first : goal.returns-clause-first
returns-clause-first c q jobs k f g es out opening opened run = covered_first q jobs g out opening (run_covers q jobs beginning k f g es out opened run)

pub returns-clause-prefix : goal.returns-clause-prefix
returns-clause-prefix c q jobs k f g es out all opening opened run catalogue =
    catalogue_begins q out all (covered_first q jobs g out opening (run_covers q jobs beginning k f g es out opened run)) catalogue
