use Rattle.dd_front.proofs.Packing.{IsReading}
use Rattle.dd_front.proofs.opening.Opening.jobs.Given as goal

abbrev pub invariant-loop-packed : goal.invariant-loop-packed
invariant-loop-packed l = IsReading l.packed-items l.self l.packed-index l.jobs.items l.left
