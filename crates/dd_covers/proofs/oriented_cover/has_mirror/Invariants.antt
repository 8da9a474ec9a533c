use Rattle.std.specs.Prelude.{◌≢◌, ℕ, ◌≤◌}
use Rattle.dd_model.specs.declared.index.Index.{Index}
use Rattle.dd_model.specs.Symbol.{IsChamber, op}
use Rattle.dd_covers.proofs.oriented_cover.has_mirror.Given as goal

abbrev pub invariant-loop-k : goal.invariant-loop-k
invariant-loop-k l = (i : Index) (d : ℕ) → IsChamber l.symbol d → d ≤ l.k → op l.symbol i d ≢ d
