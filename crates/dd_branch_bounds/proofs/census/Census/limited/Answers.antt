use Rattle.std.proofs.Common.{sym, subst, arith}
use Rattle.dd_branch_bounds.specs.Shares.{BoundsReciprocals}
use Rattle.dd_branch_bounds.proofs.RoomLemmas.{has_room}
use Rattle.dd_branch_bounds.proofs.WholeShares.{bounds_least}
use Rattle.dd_branch_bounds.proofs.census.Census.limited.Goals as goal

pub returns-in_default-clause-none : goal.returns-in_default-clause-none
returns-in_default-clause-none c s size wanted told =
    let some = c.if-limit-eq0.false in
    let limit = c.limit_of-limit.ensures (omega (arith, some)) in
    c.in_default.ensures.none s c.args.pair size
    (has_room c.args.request.now c.args.pair c.args.self.now c.limit_of-limit.result c.requires limit (omega (arith, some)) s wanted told)

pub returns-clause-bound : goal.returns-clause-bound
returns-clause-bound c s size wanted told kept =
    let some = c.if-limit-eq0.false in
    let limit = c.limit_of-limit.ensures (omega (arith, some)) in
    let bound = c.in-Some.ensures.some s c.args.pair size
    (has_room c.args.request.now c.args.pair c.args.self.now c.limit_of-limit.result c.requires limit (omega (arith, some)) s wanted told) in
    subst (BoundsReciprocals s c.args.pair) (sym c.min.ensures) (bounds_least s c.args.pair c.in-Some.bound c.args.total bound kept)
