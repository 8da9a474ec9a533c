use Rattle.std.proofs.Common.{◌-◌, ◌≤◌, length}
use Rattle.dd_symbol.specs.Walk.{IsMarked, IsClosed}
use Rattle.dd_cells.specs.Coloring.{IsColoring}
use Rattle.dd_cells.proofs.colorings.forced_colors.Given as goal

abbrev pub invariant-loop-at : goal.invariant-loop-at
invariant-loop-at l = record {
  coloring : IsColoring l.symbol l.coloring;
  closed : IsClosed l.symbol l.coloring.seen.items l.coloring.queue.items l.at;
  first : IsMarked l.coloring.seen.items 1;
  within : l.at ≤ length l.coloring.queue.items;
}

abbrev pub decreases-loop-at : goal.decreases-loop-at
decreases-loop-at l = l.symbol.size - l.at
