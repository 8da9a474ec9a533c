use Rattle.dd_covers.specs.Wanting.{IsGreatestTo}
use Rattle.dd_covers.proofs.wanted_values.greatest_value.Given as goal

abbrev pub invariant-loop-j : goal.invariant-loop-j
invariant-loop-j l = IsGreatestTo l.fn.s l.j l.greatest
