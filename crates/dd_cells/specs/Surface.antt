-- What ties the curvature of a symbol to the surface on which its tiling lies.
use Rattle.std.specs.Prelude.{ℕ, ◌-◌, ◌*◌, ◌/◌, Bool, true, false, List, nat_eq}
use Rattle.std.specs.List.{AllByRecursion, count_by, sum_by}
use Rattle.dd_model.specs.Symbol.{Symbol, op}
use Rattle.dd_model.specs.Code.{chambers}
use Rattle.dd_model.specs.declared.index.Index.{Index}
use Rattle.dd_model.specs.declared.pair.Pair.{Pair}
use Rattle.dd_cells.specs.Cells.{AreCellsOf}
use Rattle.dd_cells.specs.Fraction.{Divides}
use Rattle.dd_symbol.specs.declared.kind.Kind.{Kind}
use Rattle.dd_symbol.specs.declared.kind.Kind.TheVariants.{Cycle, Chain}
use Rattle.dd_cells.specs.declared.cell.Cell.{Cell}

-- how many chambers a cell has for each turn
abbrev pub sides : Kind → ℕ
sides Cycle = 2
sides Chain = 1

-- the sum of 2 - 2/v over the cycles and of 1 - 1/v over the chains, in parts of common
abbrev pub defects : ℕ → List Cell → ℕ
defects common cells = sum_by (λ c. sides c.kind * (common - common / c.v)) cells

-- the cells of all three pairs, and a number that all their branching values divide
pub record AreAllCells (s : Symbol) (common : ℕ) (cells : Pair → List Cell) : Type 0 where
  pub are : (p : Pair) → AreCellsOf s p (cells p)
  pub multiple : (p : Pair) → AllByRecursion (λ c. Divides c.v common) (cells p)

abbrev pub is_chain : Kind → Bool
is_chain Cycle = false
is_chain Chain = true

-- how many of the cells are chains
abbrev pub chains : List Cell → ℕ
chains cells = count_by (λ c. is_chain c.kind) cells

-- how many chambers the involution fixes
abbrev pub fixed_chambers : Symbol → Index → ℕ
fixed_chambers s i = count_by (λ d. nat_eq (op s i d) d) (chambers s)
