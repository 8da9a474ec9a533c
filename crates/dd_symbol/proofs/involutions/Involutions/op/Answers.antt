use Rattle.dd_symbol.specs.Images.{rows_of}
use Rattle.dd_symbol.proofs.TableLemmas.{image_within}
use Rattle.dd_symbol.proofs.involutions.Involutions.op.Goals as goal

pub returns-clause-chamber : goal.returns-clause-chamber
returns-clause-chamber c =
    image_within (rows_of c.self.inside.rows) c.args.self.now c.self.invariant c.self.view_is c.args.i c.args.chamber c.image.result c.requires c.image.ensures
