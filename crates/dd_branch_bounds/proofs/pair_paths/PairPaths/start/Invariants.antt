use Rattle.std.proofs.Common.{◌≡◌, length}
use Rattle.dd_branch_bounds.proofs.StartLemmas.{AreOwn}
use Rattle.dd_branch_bounds.proofs.WriteLemmas.{view}
use Rattle.dd_branch_bounds.proofs.pair_paths.PairPaths.start.Given as goal

abbrev pub invariant-loop-k : goal.invariant-loop-k
invariant-loop-k l = record { whole : length l.ends ≡ 74; own : AreOwn l.shares l.k (view l.shares l.ends) }
