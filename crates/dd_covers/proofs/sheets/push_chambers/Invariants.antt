use Rattle.std.specs.Prelude.{◌≡◌, ◌++◌}
use Rattle.dd_model.specs.Code.{count_from}
use Rattle.dd_covers.proofs.sheets.push_chambers.Given as goal

abbrev pub invariant-loop-j : goal.invariant-loop-j
invariant-loop-j l = l.below.items ≡ l.fn.below.items ++ count_from 1 l.j
