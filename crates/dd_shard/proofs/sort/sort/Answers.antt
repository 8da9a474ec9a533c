use Rattle.dd_shard.proofs.Reordering.{both_orders}
use Rattle.dd_shard.proofs.sort.sort.Goals as goal

pub returns-clause-reordered : goal.returns-clause-reordered
returns-clause-reordered g c = both_orders _ _ _ c.sort_parts.ensures c.sort_whole.ensures.reordered
