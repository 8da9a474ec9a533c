use Rattle.std.proofs.Common.{◌≡◌, map, take}
use Rattle.dd_model.specs.Symbol.{item}
use Rattle.dd_covers.proofs.torus_covers.composed.Given as goal

abbrev pub invariant-loop-chamber : goal.invariant-loop-chamber
invariant-loop-chamber l = l.images.items ≡ map (item l.then) (take l.chamber-index l.first)
