use Rattle.std.specs.Prelude.{◌≡◌, take}
use Rattle.dd_model.specs.Symbol.{operation}
use Rattle.dd_quotient.proofs.duals.images.Given as goal

abbrev pub invariant-loop-k : goal.invariant-loop-k
invariant-loop-k l = l.images.items ≡ take l.k (operation l.s l.fn.i)
