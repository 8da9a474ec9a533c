use Rattle.std.proofs.Common.{◌≡◌, ◌≤◌, length, true}
use Rattle.dd_pages_and_checkpoints.proofs.PageParts.{HasAdded}
use Rattle.dd_pages_and_checkpoints.proofs.pages.Page.add_list.Given as goal

-- the page has the lines of all but the members that are left, the count of faults did not fall, and what was sure is
abbrev pub invariant-loop-left : goal.invariant-loop-left
invariant-loop-left g l =
    HasAdded (g.O.Sink.held l.fn.out) (g.O.Sink.held l.out) l.fn.self l.self l.fn.list l.left
    × (g.O.Sink.faults l.fn.out ≤ g.O.Sink.faults l.out)
    × (g.O.Sink.sure l.fn.out ≡ true → (g.O.Sink.sure l.out ≡ true) × (g.O.Sink.faults l.out ≡ g.O.Sink.faults l.fn.out))

abbrev pub decreases-loop-left : goal.decreases-loop-left
decreases-loop-left g l = length l.left
