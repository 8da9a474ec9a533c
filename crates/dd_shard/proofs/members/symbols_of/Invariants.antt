use Rattle.std.proofs.Common.{◌≡◌, ◌++◌, map, length}
use Rattle.std.specs.Vec.Iter.{into_iter_items, into_iter_len}
use Rattle.dd_shard.proofs.members.symbols_of.Given as goal

abbrev pub invariant-loop-member : goal.invariant-loop-member
invariant-loop-member l =
    (into_iter_len l.member-iterator ≡ length (into_iter_items l.member-iterator))
    × (l.symbols.items ++ map (λ m. m.symbol) (into_iter_items l.member-iterator) ≡ map (λ m. m.symbol) l.fn.members.items)
