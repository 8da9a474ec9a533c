use Rattle.std.proofs.Common.{◌≡◌, ◌*◌, ◌^◌, ◌≤◌, length, take}
use Rattle.dd_front.specs.Spans.{joined_spans}
use Rattle.dd_front.proofs.members.Members.len.Given as goal

abbrev pub invariant-loop-span : goal.invariant-loop-span
invariant-loop-span l =
    (l.count ≡ length (joined_spans (take l.span-index l.span-items))) × (l.count ≤ l.span-index * 2 ^ 64)
