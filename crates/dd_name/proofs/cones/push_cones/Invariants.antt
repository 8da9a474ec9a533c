use Rattle.std.proofs.Common.{◌≡◌, ◌++◌, take}
use Rattle.dd_name.specs.Cones.{cone_values}
use Rattle.dd_name.proofs.cones.push_cones.Given as goal

abbrev pub invariant-loop-cell : goal.invariant-loop-cell
invariant-loop-cell l = l.cones.items ≡ l.initial.cones.items ++ cone_values (take l.cell-index l.cells)
