use Rattle.std.proofs.Common.{◌≡◌, ◌+◌, ◌++◌, length}
use Rattle.std.specs.List.{AllByRecursion}
use Rattle.std.specs.Vec.Iter.{into_iter_items, into_iter_len}
use Rattle.dd_shard.specs.Members.{tagged, lists_of, IsShort}
use Rattle.dd_shard.proofs.members.members_of.Given as goal

abbrev pub invariant-loop-list : goal.invariant-loop-list
invariant-loop-list l =
    (into_iter_len l.list-iterator ≡ length (into_iter_items l.list-iterator))
    × (l.file + length (into_iter_items l.list-iterator) ≡ length l.fn.lists.items)
    × AllByRecursion IsShort (lists_of (into_iter_items l.list-iterator))
    × (l.members.items ++ tagged (l.file + 1) (lists_of (into_iter_items l.list-iterator)) ≡ tagged 1 (lists_of l.fn.lists.items))
