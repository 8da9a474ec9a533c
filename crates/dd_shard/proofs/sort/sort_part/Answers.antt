use Rattle.std.proofs.Common.{rules}
use Rattle.std.proofs.lemmas.List.Sorted.{answers_always}
use Rattle.dd_shard.specs.Members.{by_code}
use Rattle.dd_shard.proofs.SortedMembers.{weak_order}
use Rattle.dd_shard.proofs.sort.sort_part.Goals as goal

pub returns : goal.returns
returns c = record { permutation = c.sort_by.ensures.permutation; stable = c.sort_by.ensures.stable by_code weak_order (answers_always _ _ _ (λ f a r g h. search rules)) }
