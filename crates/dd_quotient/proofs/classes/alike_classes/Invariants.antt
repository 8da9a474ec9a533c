use Rattle.std.proofs.Common.{◌-◌, ◌*◌}
use Rattle.dd_quotient.proofs.SumLemmas.{total}
use Rattle.dd_quotient.proofs.ClassLemmas.{IsClasses}
use Rattle.dd_quotient.proofs.classes.alike_classes.Given as goal

abbrev pub invariant-loop-classes : goal.invariant-loop-classes
invariant-loop-classes l = IsClasses l.s l.classes.items

abbrev pub decreases-loop-classes : goal.decreases-loop-classes
decreases-loop-classes l = l.s.size * l.s.size - total l.classes.items
