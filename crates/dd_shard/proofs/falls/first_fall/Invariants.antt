use Rattle.std.proofs.Common.{ℕ, suc, ◌<◌, get_or}
use Rattle.dd_model.specs.Symbol.{Symbol}
use Rattle.dd_model.specs.Code.{IsBelow}
use Rattle.dd_shard.proofs.falls.first_fall.Given as goal

-- up to k neighbors ascend
abbrev pub invariant-loop-k : goal.invariant-loop-k
invariant-loop-k l = (j : ℕ) (d : Symbol) → suc j < l.k → IsBelow (get_or l.list j d) (get_or l.list (suc j) d)
