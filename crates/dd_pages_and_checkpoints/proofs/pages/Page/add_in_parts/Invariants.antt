use Rattle.std.proofs.Common.{◌≡◌, ◌≤◌, drop, true}
use Rattle.dd_front.specs.Spans.{joined_spans}
use Rattle.dd_pages_and_checkpoints.proofs.PageParts.{HasAdded}
use Rattle.dd_pages_and_checkpoints.proofs.pages.Page.add_in_parts.Given as goal

-- the page has the lines of the lists so far, the count of faults did not fall, and what was sure is
abbrev pub invariant-loop-span : goal.invariant-loop-span
invariant-loop-span g l =
    HasAdded (g.O.Sink.held l.fn.out) (g.O.Sink.held l.out) l.fn.self l.self l.fn.members (joined_spans (drop l.span-index l.span-items))
    × (g.O.Sink.faults l.fn.out ≤ g.O.Sink.faults l.out)
    × (g.O.Sink.sure l.fn.out ≡ true → (g.O.Sink.sure l.out ≡ true) × (g.O.Sink.faults l.out ≡ g.O.Sink.faults l.fn.out))
