use Rattle.std.proofs.Common.{◌≤◌, sym, subst}
use Rattle.dd_covers.proofs.SideListLemmas.{number_small}
use Rattle.dd_covers.proofs.free_sides.is_sooner.Goals as goal

pub rank-requires : goal.rank-requires
rank-requires c =
    subst (λ n. n ≤ 16384) (sym c.item.ensures) (number_small c.args.symbol.now c.args.numbers.now c.requires.visits c.op.result c.op.ensures.chamber)
