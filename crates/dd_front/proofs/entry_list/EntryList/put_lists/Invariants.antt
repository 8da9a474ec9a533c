use Rattle.std.proofs.Common.{◌≡◌, ◌+◌, length}
use Rattle.std.specs.Vec.Iter.{into_iter_items}
use Rattle.dd_front.specs.Joining.{done_with}
use Rattle.dd_front.proofs.entry_list.EntryList.put_lists.Given as goal

abbrev pub invariant-loop-list : goal.invariant-loop-list
invariant-loop-list l =
    (l.place ≡ length l.yielded)
    × (l.self ≡ done_with l.yielded l.initial.self)
    × (length l.yielded + length (into_iter_items l.list-iterator) ≡ length l.fn.lists.items)
