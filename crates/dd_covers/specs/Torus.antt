-- Tori: what the torus covers of flat symbols are.
use Rattle.std.specs.Prelude.{◌≡◌, ℕ}
use Rattle.dd_model.specs.Symbol.{Symbol, IsSymbol, IsChamber}
use Rattle.dd_model.specs.Cell.{IsBranching}
use Rattle.dd_model.specs.Connected.{Connected}
use Rattle.dd_model.specs.Flat.{Flat}
use Rattle.dd_model.specs.declared.pair.Pair.{Pair}
use Rattle.dd_cells.specs.Orientation.{IsOriented}

-- every cell of a pair has the branching value 1
pub record IsSmoothAt (s : Symbol) (p : Pair) : Type 0 where
  pub each : (d v : ℕ) → IsChamber s d → IsBranching s p d v → v ≡ 1

-- a connected symbol that is oriented and flat, with the branching value 1 in every cell of all three pairs
pub record IsTorus (s : Symbol) : Type 0 where
  pub symbol : IsSymbol s
  pub connected : Connected s
  pub oriented : IsOriented s
  pub flat : Flat s
  pub smooth : (p : Pair) → IsSmoothAt s p
