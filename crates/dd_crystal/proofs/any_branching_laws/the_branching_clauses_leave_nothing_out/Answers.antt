use Rattle.dd_crystal.proofs.CrystalLaw.{any_branching_wanted, any_branching_catalogue}
use Rattle.dd_crystal.proofs.any_branching_laws.the_branching_clauses_leave_nothing_out.Goals as goal

pub returns-clause-wanted : goal.returns-clause-wanted
returns-clause-wanted c = any_branching_wanted

pub returns-clause-catalogue : goal.returns-clause-catalogue
returns-clause-catalogue c = any_branching_catalogue
