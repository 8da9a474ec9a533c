use Rattle.std.proofs.Common.{◌-◌, ◌*◌, length}
use Rattle.dd_branch_tables.specs.Stem.{IsStem, HasAbsorbed, prefix_of, size_of}
use Rattle.dd_branch_tables.proofs.stem.Stem.absorb.Given as goal

abbrev pub invariant-loop-self : goal.invariant-loop-self
invariant-loop-self l = record {
  stem : IsStem l.self;
  absorbed : HasAbsorbed l.fn.self l.self;
}

abbrev pub decreases-loop-self : goal.decreases-loop-self
decreases-loop-self l = 3 * size_of l.self - length (prefix_of l.self)
