use Rattle.dd_plain.specs.Adds.{Adds}
use Rattle.dd_plain.specs.Trials.{tried}
use Rattle.dd_plain.proofs.LevelLemmas.{HasTilesBelow}
use Rattle.dd_plain.proofs.filter.add_images.Given as goal

abbrev pub invariant-loop-m01 : goal.invariant-loop-m01
invariant-loop-m01 l = Adds l.q (HasTilesBelow (tried l.trial) l.m01) l.fn.list l.list
