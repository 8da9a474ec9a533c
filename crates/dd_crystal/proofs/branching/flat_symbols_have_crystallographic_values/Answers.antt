use Rattle.dd_crystal.proofs.CrystalLaw.{crystal_law}
use Rattle.dd_crystal.proofs.branching.flat_symbols_have_crystallographic_values.Goals as goal

pub returns : goal.returns
returns c = crystal_law
