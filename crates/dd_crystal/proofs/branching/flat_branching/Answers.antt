use Rattle.std.proofs.lemmas.Bool.{OnTrue_from}
use Rattle.dd_crystal.proofs.CrystalLaw.{crystal_law}
use Rattle.dd_crystal.proofs.branching.flat_branching.Goals as goal

pub returns-clause-values : goal.returns-clause-values
returns-clause-values c =
    OnTrue_from c.is_flat.result _
    (λ yes. crystal_law c.args.s.now c.symbol-symbol.ensures.symbol.symbol c.symbol-symbol.ensures.connected (c.is_flat.ensures.0 yes))
