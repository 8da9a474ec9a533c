use Rattle.std.proofs.Common.{◌≡◌, ◌++◌, take}
use Rattle.std.specs.List.{flat_map}
use Rattle.dd_suite_commands.specs.Totals.{total_text, counted_in}
use Rattle.dd_suite_commands.proofs.totals.Totals.put.Given as goal

abbrev pub invariant-loop-place : goal.invariant-loop-place
invariant-loop-place l = l.out.items ≡ l.fn.out.items ++ flat_map (total_text l.word) (take l.place (counted_in l.self))
