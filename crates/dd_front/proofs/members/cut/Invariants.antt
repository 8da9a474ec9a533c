use Rattle.std.proofs.Common.{◌≡◌, ◌+◌, length, take}
use Rattle.dd_front.specs.Spans.{joined_spans}
use Rattle.dd_front.proofs.members.cut.Given as goal

-- the spans before have the members that are counted already
abbrev pub invariant-loop-k : goal.invariant-loop-k
invariant-loop-k l = l.count ≡ length (joined_spans (take l.k l.spans)) + l.rest
