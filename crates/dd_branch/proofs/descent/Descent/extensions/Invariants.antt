use Rattle.std.proofs.Common.{◌+◌}
use Rattle.dd_branch_tables.proofs.Extensions.{AreExtensionsBelow}
use Rattle.dd_branch.proofs.Splits.{HasReached}
use Rattle.dd_branch.proofs.descent.Descent.extensions.Given as goal

abbrev pub invariant-loop-k : goal.invariant-loop-k
invariant-loop-k l = record {
  jobs : AreExtensionsBelow l.fn.self.request l.job (l.k + 1) l.jobs.items;
  reached : HasReached l.fn.self.request l.job l.self;
}
