use Rattle.std.proofs.Common.{◌*◌, ap}
use Rattle.dd_branch_degrees.proofs.Choices.{value_at}
use Rattle.dd_branch_degrees.proofs.places.DegreeSlot.degree_with.Goals as goal

pub returns : goal.returns
returns c v crystallographic beyond = ap (λ k. k * c.args.self.now.turns) (value_at v c.args.share c.args.self.now.sides crystallographic c.requires.sides.0 c.requires.sides.1 beyond)
