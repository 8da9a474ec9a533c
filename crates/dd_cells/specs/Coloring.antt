-- How two colors are carried from chamber 1 to all others.
use Rattle.std.specs.Prelude.{◌≡◌, ◌≢◌, ℕ, ◌<◌, Bool, not, cond, List, length, slice_index}
use Rattle.dd_model.specs.Symbol.{Symbol, IsChamber, op}
use Rattle.dd_model.specs.declared.index.Index.{Index}
use Rattle.dd_symbol.specs.Walk.{IsWalk, IsMarked}
use Rattle.dd_cells.specs.Orientation.{color, AreWeakColors}
use Rattle.dd_cells.specs.declared.colorings.Coloring.{Coloring}

-- every coloring gives the chamber the color of chamber 1, or the other one where this is set
abbrev pub IsForced : Symbol → ℕ → Bool → Type 0
IsForced s d other = (colors : List Bool) → AreWeakColors s colors → color colors d ≡ cond other (not (color colors 1)) (color colors 1)

-- the chambers that are met are those of a walk, and their colors are forced
pub record IsColoring (s : Symbol) (c : Coloring) : Type 0 where
  pub walk : IsWalk s c.seen.items c.queue.items
  pub met : (k : ℕ) → k < length c.queue.items → IsMarked c.seen.items (slice_index c.queue.items k)
  pub colors : length c.colors.items ≡ s.size
  pub forced : (d : ℕ) → IsChamber s d → IsMarked c.seen.items d → IsForced s d (color c.colors.items d)

-- the color of each chamber is forced
pub record AreForced (s : Symbol) (colors : List Bool) : Type 0 where
  pub lengths : length colors ≡ s.size
  pub forced : (d : ℕ) → IsChamber s d → IsForced s d (color colors d)

-- an involution exchanges the colors of the chambers that it moves
abbrev pub ExchangesBy : Symbol → Index → List Bool → Type 0
ExchangesBy s i colors = (d : ℕ) → IsChamber s d → op s i d ≢ d → color colors (op s i d) ≡ not (color colors d)

-- an involution fixes no chamber
abbrev pub IsFreeOf : Symbol → Index → Type 0
IsFreeOf s i = (d : ℕ) → IsChamber s d → op s i d ≢ d
