-- The cells of an oriented symbol can be told.
use Rattle.std.proofs.Common.{◌≡◌, ℕ, List, [], ◌∷◌, map, refl, sym, subst, ⊎_elim}
use Rattle.std.specs.List.{AllByRecursion, Contains}
use Rattle.dd_model.specs.declared.pair.Pair.{Pair}
use Rattle.dd_model.specs.Symbol.{Symbol, IsSymbol, IsChamber, first, second}
use Rattle.dd_model.specs.Cell.{IsChain, IsLeastOfCell, AreCells}
use Rattle.dd_model.proofs.Branching.{branching_exists}
use Rattle.dd_model.proofs.CellLists.{cells_exist}
use Rattle.dd_model.proofs.Lists.{Contains-head, Contains-later}
use Rattle.dd_model.proofs.Transport.{in_cell_within}
use Rattle.dd_symbol.specs.declared.kind.Kind.TheVariants.{Cycle}
use Rattle.dd_cells.specs.Cells.{IsCellOf, AreCellsOf}
use Rattle.dd_cells.specs.Orientation.{IsOriented}
use Rattle.dd_cells.specs.declared.cell.Cell.{Cell}
use Rattle.dd_cells.proofs.CellSums.{has_roots, members_at, members_at_are}

-- no cell of an oriented symbol is a chain
pub no_chain : (s : Symbol) → IsSymbol s → IsOriented s → (p : Pair) (d : ℕ) → IsChamber s d → IsChain s p d → ⊥
no_chain s is oriented p d h chain =
    let there = in_cell_within s is.table.involutions p d chain.chamber h chain.in_cell in
    ⊎_elim (λ one. oriented.free (first p) chain.chamber there one) (λ two. oriented.free (second p) chain.chamber there two) chain.fixed

record HasToldCell (s : Symbol) (p : Pair) (l : ℕ) : Type 0 where
  pub cell : Cell
  pub least : cell.least ≡ l
  pub told : IsCellOf s p cell

told_at_least : (s : Symbol) → IsSymbol s → IsOriented s → (p : Pair) (l : ℕ) → IsLeastOfCell s p l → HasToldCell s p l
told_at_least s is oriented p l least =
    let inv = is.table.involutions in
    let b = branching_exists s is p l least.0 in
    let roots = has_roots s inv p in
    record {
      cell = record { least = l; kind = Cycle; r = b.1.r; v = b.0; members = members_at s roots.root l };
      least = refl;
      told = record {
        least = least;
        kind = no_chain s is oriented p l least.0;
        turns = b.1.least_turns;
        branching = b.1;
        members = members_at_are s inv p roots.root roots.are l least;
      };
    }

record HasToldCells (s : Symbol) (p : Pair) (ls : List ℕ) : Type 0 where
  pub cells : List Cell
  pub least : map (λ (c : Cell). c.least) cells ≡ ls
  pub told : AllByRecursion (IsCellOf s p) cells

told_cells : (s : Symbol) → IsSymbol s → IsOriented s → (p : Pair) (ls : List ℕ) → ((l : ℕ) → Contains ls l → IsLeastOfCell s p l) → HasToldCells s p ls
told_cells s is oriented p [] all = record { cells = []; least = refl; told = tt }
told_cells s is oriented p (l ∷ ls) all =
    let here = told_at_least s is oriented p l (all l (Contains-head l ls)) in
    let rest = told_cells s is oriented p ls (λ m later. all m (Contains-later l m ls later)) in
    record { cells = here.cell ∷ rest.cells; least = (λ i. here.least i ∷ rest.least i); told = (here.told, rest.told) }

pub record HasAllTold (s : Symbol) (p : Pair) : Type 0 where
  pub cells : List Cell
  pub are : AreCellsOf s p cells

pub all_told : (s : Symbol) → IsSymbol s → IsOriented s → (p : Pair) → HasAllTold s p
all_told s is oriented p =
    let ds = cells_exist s is.table.involutions p in
    let t = told_cells s is oriented p ds.0 (λ l here. (ds.1.members l).0 here) in
    record { cells = t.cells; are = record { least_chambers = subst (AreCells s p) (sym t.least) ds.1; each = t.told } }
