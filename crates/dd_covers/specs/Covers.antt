-- Covers as they are kept.
use Rattle.std.specs.Prelude.{◌≡◌, ℕ, ◌*◌, ◌≤◌}
use Rattle.dd_model.specs.Symbol.{Symbol}
use Rattle.dd_model.specs.Connected.{Connected}
use Rattle.dd_model.specs.Isomorphic.{IsMorphism, IsIsomorphism}
use Rattle.dd_model.specs.declared.index.Index.{Index}
use Rattle.dd_symbol.specs.Building.{IsConnectedSymbol}
use Rattle.dd_cells.specs.Orientation.{IsOriented}
use Rattle.dd_covers.specs.declared.cover.Cover.{Cover}
use Rattle.dd_covers.specs.declared.shifts.Shifts.{Shifts}
use Rattle.dd_covers.specs.Sheets.{sheets_of, below_sheets, turned}
use Rattle.dd_covers.specs.Shifts.{AreBelow, shift}
use Rattle.dd_covers.specs.OrientedCover.{IsOrientedCover}
use Rattle.dd_model.specs.Small.{most_chambers}

-- the shifts are below k, and the k sheets are a connected symbol of at most 16,384 chambers
pub record AreSheets (s : Symbol) (k : ℕ) (x : Shifts) : Type 0 where
  pub shifts : AreBelow s k x
  pub small : k * s.size ≤ most_chambers
  pub symbol : IsConnectedSymbol (sheets_of s k (shift x))

-- k sheets, the chambers below theirs, and the chambers in the sheets after theirs
pub record IsCoverBy (s : Symbol) (k : ℕ) (x : Index → ℕ → ℕ) (kept : Cover) : Type 0 where
  pub symbol : kept.symbol ≡ sheets_of s k x
  pub below : kept.below ≡ below_sheets s k
  pub turn : kept.turn ≡ turned s k 1

-- the oriented cover, with its morphism and its automorphism
pub record IsOrientedBy (s : Symbol) (kept : Cover) : Type 0 where
  pub cover : IsOrientedCover s kept.symbol kept.below
  pub morphism : IsMorphism kept.symbol s kept.below
  pub turn : IsIsomorphism kept.symbol kept.symbol kept.turn
  pub oriented : IsOriented kept.symbol
  pub connected : Connected kept.symbol
