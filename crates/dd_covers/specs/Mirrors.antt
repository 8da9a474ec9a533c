-- Chambers that an involution fixes.
use Rattle.std.specs.Prelude.{◌≡◌, ℕ}
use Rattle.dd_model.specs.Symbol.{Symbol, IsChamber, op}
use Rattle.dd_model.specs.declared.index.Index.{Index}

-- some involution fixes some chamber
pub record HasFixedChamber (s : Symbol) : Type 0 where
  pub index : Index
  pub chamber : ℕ
  pub is_chamber : IsChamber s chamber
  pub fixed : op s index chamber ≡ chamber
