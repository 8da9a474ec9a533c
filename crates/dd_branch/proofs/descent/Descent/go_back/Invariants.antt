use Rattle.std.proofs.Common.{◌≡◌, length}
use Rattle.dd_branch_tables.specs.Stem.{size_of}
use Rattle.dd_branch.proofs.descent.Descent.go_back.Given as goal

abbrev pub invariant-loop-self : goal.invariant-loop-self
invariant-loop-self l = record {
  request : l.self.request ≡ l.fn.self.request;
  size : size_of l.self.stem ≡ size_of l.fn.self.stem;
}

abbrev pub decreases-loop-self : goal.decreases-loop-self
decreases-loop-self l = length l.self.levels
