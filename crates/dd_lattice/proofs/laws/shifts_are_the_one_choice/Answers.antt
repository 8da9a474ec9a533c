use Rattle.dd_lattice.proofs.OneChoice.{one_solution}
use Rattle.dd_lattice.proofs.laws.shifts_are_the_one_choice.Goals as goal

pub returns : goal.returns
returns c t one x y torus sx sy = one_solution t torus one x y sx sy
