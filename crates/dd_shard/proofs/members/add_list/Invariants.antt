use Rattle.std.proofs.Common.{◌≡◌, ◌+◌, ◌++◌, length}
use Rattle.std.specs.Vec.Iter.{into_iter_items, into_iter_len}
use Rattle.dd_shard.specs.Members.{numbered}
use Rattle.dd_shard.proofs.members.add_list.Given as goal

abbrev pub invariant-loop-symbol : goal.invariant-loop-symbol
invariant-loop-symbol l =
    (into_iter_len l.symbol-iterator ≡ length (into_iter_items l.symbol-iterator))
    × (l.number + length (into_iter_items l.symbol-iterator) ≡ length l.fn.list.items)
    × (l.members.items ++ numbered l.file (l.number + 1) (into_iter_items l.symbol-iterator) ≡ l.initial.members.items ++ numbered l.file 1 l.fn.list.items)
