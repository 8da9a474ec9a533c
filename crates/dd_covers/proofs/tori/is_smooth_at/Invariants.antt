use Rattle.std.specs.Prelude.{◌≡◌, ℕ, ◌≤◌}
use Rattle.dd_model.specs.Cell.{IsBranching}
use Rattle.dd_covers.proofs.tori.is_smooth_at.Given as goal

abbrev pub invariant-loop-k : goal.invariant-loop-k
invariant-loop-k l = (d v : ℕ) → 1 ≤ d → d ≤ l.k → IsBranching l.symbol l.pair d v → v ≡ 1
