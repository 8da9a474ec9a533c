use Rattle.std.proofs.Common.{◌+◌}
use Rattle.dd_invol.specs.Children.{IsStemOf}
use Rattle.dd_branch_tables.proofs.Extensions.{AreExtensionsBelow}
use Rattle.dd_invol.proofs.splits.extensions.Given as goal

abbrev pub invariant-loop-k : goal.invariant-loop-k
invariant-loop-k l = record {
  jobs : AreExtensionsBelow l.fn.q l.job (l.k + 1) l.jobs.items;
  stem : IsStemOf l.job l.stem;
}
