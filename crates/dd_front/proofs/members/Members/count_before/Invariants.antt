use Rattle.std.proofs.Common.{◌≡◌, ◌+◌, length, take}
use Rattle.std.specs.List.{AllByRecursion}
use Rattle.dd_model.specs.Position.{IsBefore}
use Rattle.dd_front.specs.Spans.{joined_spans}
use Rattle.dd_front.proofs.members.Members.count_before.Given as goal

-- those of the spans that were walked are before the position
abbrev pub invariant-loop-span : goal.invariant-loop-span
invariant-loop-span l =
    (l.count ≡ length (joined_spans (take l.span-index l.span-items))) × AllByRecursion (IsBefore l.at) (joined_spans (take l.span-index l.span-items))

-- and so are so many of the next one
abbrev pub invariant-loop-k : goal.invariant-loop-k
invariant-loop-k l =
    (l.count ≡ length (joined_spans (take l.span-index l.span-items)) + l.k)
    × AllByRecursion (IsBefore l.at) (joined_spans (take l.span-index l.span-items))
    × AllByRecursion (IsBefore l.at) (take l.k l.symbols)
