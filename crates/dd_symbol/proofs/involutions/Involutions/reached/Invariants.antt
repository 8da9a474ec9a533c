use Rattle.std.proofs.Common.{◌-◌, ◌≤◌, length}
use Rattle.dd_symbol.specs.Walk.{IsWalk, IsMarked, IsClosed}
use Rattle.dd_symbol.proofs.involutions.Involutions.reached.Given as goal

abbrev pub invariant-loop-at : goal.invariant-loop-at
invariant-loop-at l = record {
  walk : IsWalk l.self l.seen.items l.queue.items;
  closed : IsClosed l.self l.seen.items l.queue.items l.at;
  first : IsMarked l.seen.items 1;
  within : l.at ≤ length l.queue.items;
}

abbrev pub decreases-loop-at : goal.decreases-loop-at
decreases-loop-at l = l.self.size - l.at
