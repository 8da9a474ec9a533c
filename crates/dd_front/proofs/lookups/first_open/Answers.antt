use Rattle.std.proofs.Common.{refl}
use Rattle.dd_front.proofs.Firsts.{first_open_at}
use Rattle.dd_front.proofs.lookups.first_open.Goals as goal

pub returns-then-is_open : goal.returns-then-is_open
returns-then-is_open c =
    first_open_at c.args.entries.now c.loop-entry.entry-index c.entry-item.result c.loop-entry-test.true c.entry-item.is c.loop-entry.invariant (c.if-is_open.ensures.0 refl)
