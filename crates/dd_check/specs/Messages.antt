-- The text of a fault of a checkpoint text.
use Rattle.std.specs.Prelude.{ℕ, List, ◌++◌, codes, decimal}
use Rattle.dd_check.specs.declared.faults.CheckFault.{CheckFault}
use Rattle.dd_check.specs.declared.faults.CheckFault.TheVariants.{Version, Shape, Range, Position, Long, Memory}

-- why a text is no checkpoint text
abbrev pub check_fault_text : CheckFault → List ℕ
check_fault_text Version = codes "version"
check_fault_text (Shape line) = codes "shape line " ++ decimal line
check_fault_text (Range line) = codes "range line " ++ decimal line
check_fault_text Position = codes "position"
check_fault_text Long = codes "too long"
check_fault_text Memory = codes "out of memory"
