use Rattle.std.proofs.Common.{rules}
use Rattle.std.proofs.lemmas.List.Sorted.{answers_always}
use Rattle.dd_shard.specs.Members.{by_code}
use Rattle.dd_shard.proofs.SortedMembers.{weak_order}
use Rattle.dd_shard.proofs.sort.sort_whole.Goals as goal

pub returns-clause-reordered : goal.returns-clause-reordered
returns-clause-reordered c = record { permutation = c.sort_by.ensures.permutation; stable = c.sort_by.ensures.stable by_code weak_order (answers_always _ _ _ (λ f a r g h. search rules)) }

pub returns-clause-sorted : goal.returns-clause-sorted
returns-clause-sorted c = c.in_ok-sort_by.ensures.sorted by_code weak_order (answers_always _ _ _ (λ f a r g h. search rules))
