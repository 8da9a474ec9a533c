use Rattle.std.proofs.Common.{◌≡◌, take}
use Rattle.dd_branch_tables.specs.Stem.{prefix_of, size_of}
use Rattle.dd_branch.proofs.descent.Descent.reach.Given as goal

abbrev pub invariant-loop-place : goal.invariant-loop-place
invariant-loop-place l = record {
  request : l.self.request ≡ l.fn.self.request;
  size : size_of l.self.stem ≡ size_of l.fn.self.stem;
  prefix : prefix_of l.self.stem ≡ take l.place l.prefix;
}
