use Rattle.std.proofs.Common.{◌≡◌, map, take}
use Rattle.std.specs.List.{AllByRecursion}
use Rattle.dd_cells.specs.Cells.{IsCellOf}
use Rattle.dd_cells.proofs.cell_list.cells.Given as goal

abbrev pub invariant-loop-k : goal.invariant-loop-k
invariant-loop-k l = record {
  least : map (λ c. c.least) l.cells.items ≡ take l.k l.chambers.items;
  each : AllByRecursion (IsCellOf l.s l.pair) l.cells.items;
}
