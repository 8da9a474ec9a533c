use Rattle.std.proofs.Common.{leb, rules}
use Rattle.std.proofs.lemmas.List.Sorted.{IsPartitionPoint-from_clause, IsPartitionedBy-leb}
use Rattle.dd_member_lists.proofs.series.next_after.Goals as goal

pub returns-clause-point : goal.returns-clause-point
returns-clause-point c =
    let parted = IsPartitionedBy-leb (λ one. one.first) _ c.args.symbol c.requires in
    IsPartitionPoint-from_clause (λ one. leb one.first c.args.symbol) _ _ c.partition_point.ensures.partitioned parted (λ a r q k. search rules)
