use Rattle.dd_plain.specs.Adds.{Adds}
use Rattle.dd_plain.specs.Trials.{tried}
use Rattle.dd_plain.proofs.LevelLemmas.{HasVerticesBelow}
use Rattle.dd_plain.proofs.filter.add_tiles.Given as goal

abbrev pub invariant-loop-m12 : goal.invariant-loop-m12
invariant-loop-m12 l = Adds l.q (HasVerticesBelow (tried l.trial) l.m12) l.fn.list l.list
