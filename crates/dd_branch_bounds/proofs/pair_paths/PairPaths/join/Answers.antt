use Rattle.std.proofs.Common.{true, sym, subst}
use Rattle.dd_branch_bounds.specs.Passing.{Passes}
use Rattle.dd_branch_bounds.specs.Sides.{IsJoin}
use Rattle.dd_branch_bounds.proofs.pair_paths.PairPaths.join.Goals as goal

pub returns-then-x-y-clause-dead : goal.returns-then-x-y-clause-dead
returns-then-x-y-clause-dead c none P join kept s sought =
    c.cap.ensures.dead none P (subst (IsJoin (Passes P (λ _. true)) c.args.shares.now.pair c.args.x.number) (sym c.if-x-y.true) join) kept s sought
