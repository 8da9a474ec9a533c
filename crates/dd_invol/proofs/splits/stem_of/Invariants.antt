use Rattle.std.proofs.Common.{◌≡◌, take}
use Rattle.dd_branch_tables.specs.Stem.{IsStem, prefix_of, size_of}
use Rattle.dd_invol.proofs.splits.stem_of.Given as goal

abbrev pub invariant-loop-number : goal.invariant-loop-number
invariant-loop-number l = record {
  is : IsStem l.stem;
  size : size_of l.stem ≡ l.fn.job.size;
  prefix : prefix_of l.stem ≡ take l.number-index l.prefix;
}
