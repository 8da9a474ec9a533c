use Rattle.std.proofs.Common.{◌≡◌, take}
use Rattle.std.specs.Prelude.{map}
use Rattle.dd_model.specs.Symbol.{item}
use Rattle.dd_text.proofs.cells.spread.Given as goal

abbrev pub invariant-loop-chamber : goal.invariant-loop-chamber
invariant-loop-chamber l = l.spread.items ≡ map (item l.told) (take l.chamber-index l.least)
