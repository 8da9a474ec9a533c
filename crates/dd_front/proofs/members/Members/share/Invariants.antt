use Rattle.std.proofs.Common.{◌≡◌, ◌≤◌, length, take, vec_capacity}
use Rattle.dd_front.proofs.members.Members.share.Given as goal

abbrev pub invariant-loop-span : goal.invariant-loop-span
invariant-loop-span l = (l.spans.items ≡ take l.span-index l.span-items) × (length l.span-items ≤ vec_capacity l.spans)
