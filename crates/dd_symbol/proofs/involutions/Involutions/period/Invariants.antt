use Rattle.std.proofs.Common.{◌≡◌, ℕ, ◌-◌, ◌<◌, ◌≤◌}
use Rattle.dd_model.specs.Symbol.{IsChamber}
use Rattle.dd_model.specs.Cell.{turned}
use Rattle.dd_symbol.proofs.involutions.Involutions.period.Given as goal

abbrev pub invariant-loop-place : goal.invariant-loop-place
invariant-loop-place l = record {
  positive : 1 ≤ l.turns;
  few : l.turns ≤ l.self.size;
  place : l.place ≡ turned l.self l.fn.pair l.turns l.chamber;
  chamber : IsChamber l.self l.place;
  unfixed : (k : ℕ) → 1 ≤ k → k < l.turns → turned l.self l.fn.pair k l.chamber ≡ l.chamber → ⊥;
}

abbrev pub decreases-loop-place : goal.decreases-loop-place
decreases-loop-place l = l.self.size - l.turns
