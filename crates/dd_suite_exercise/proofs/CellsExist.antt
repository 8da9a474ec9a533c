-- The cells of each symbol can be told, whatever their kinds.
use Rattle.std.proofs.Common.{◌≡◌, ℕ, ◌+◌, ◌⊎◌, List, [], ◌∷◌, map, refl, sym, subst, inl, inr, ⊎_elim, arith}
use Rattle.std.specs.List.{AllByRecursion, Contains}
use Rattle.std.proofs.lemmas.Bool.{cases_eq}
use Rattle.dd_model.specs.declared.pair.Pair.{Pair}
use Rattle.dd_model.specs.Symbol.{Symbol, IsSymbol, AreInvolutions, IsChamber, first, second, op}
use Rattle.dd_model.specs.Cell.{InCell, IsChain, IsLeastOfCell, AreCells}
use Rattle.dd_model.proofs.Branching.{branching_exists}
use Rattle.dd_model.proofs.CellLists.{cells_exist}
use Rattle.dd_model.proofs.CellSearch.{Decided, find_below, decide_in_cell}
use Rattle.dd_model.proofs.Lists.{Contains-head, Contains-later}
use Rattle.dd_model.proofs.Transport.{in_cell_within}
use Rattle.dd_symbol.specs.declared.kind.Kind.{Kind}
use Rattle.dd_symbol.specs.declared.kind.Kind.TheVariants.{Cycle, Chain}
use Rattle.dd_symbol.specs.Cells.{IsKindOf}
use Rattle.dd_cells.specs.Cells.{IsCellOf, AreCellsOf}
use Rattle.dd_cells.specs.declared.cell.Cell.{Cell}
use Rattle.dd_cells.proofs.CellSums.{has_roots, members_at, members_at_are}
use Rattle.dd_quotient.proofs.Deciding.{decide_after, decide_same}

-- ## The kind of a cell

-- a chamber of the cell that one of the two involutions fixes
record IsFixedIn (s : Symbol) (p : Pair) (d e : ℕ) : Type 0 where
  pub in_cell : InCell s p d e
  pub fixed : (op s (first p) e ≡ e) ⊎ (op s (second p) e ≡ e)

decide_either : {P Q : Type 0} → Decided P → Decided Q → Decided (P ⊎ Q)
decide_either (inl here) q = inl (inl here)
decide_either (inr not) (inl there) = inl (inr there)
decide_either (inr not) (inr none) = inr (λ either. ⊎_elim not none either)

decide_fixed : (s : Symbol) → AreInvolutions s → (p : Pair) (d e : ℕ) → IsChamber s d → Decided (IsFixedIn s p d e)
decide_fixed s inv p d e h =
    decide_after (decide_in_cell s inv p d e h) (λ inside.
    decide_same (decide_either (cases_eq (op s (first p) e) e) (cases_eq (op s (second p) e) e))
    (λ fixed. record { in_cell = inside; fixed = fixed })
    (λ is. is.fixed))
    (λ is. is.in_cell)

-- It is decided whether the cell of a chamber is a chain.
decide_chain : (s : Symbol) → AreInvolutions s → (p : Pair) (d : ℕ) → IsChamber s d → Decided (IsChain s p d)
decide_chain s inv p d h =
    ⊎_elim
    (λ found. inl (record { chamber = found.0; in_cell = found.2.in_cell; fixed = found.2.fixed }))
    (λ none. inr (λ chain.
    let there = in_cell_within s inv p d chain.chamber h chain.in_cell in
    let high = there.1 in
    none chain.chamber (omega (arith, high)) (record { in_cell = chain.in_cell; fixed = chain.fixed })))
    (find_below (IsFixedIn s p d) (λ e. decide_fixed s inv p d e h) (s.size + 1))

record HasKind (s : Symbol) (p : Pair) (d : ℕ) : Type 0 where
  pub kind : Kind
  pub is : IsKindOf s p d kind

has_kind : (s : Symbol) (p : Pair) (d : ℕ) → Decided (IsChain s p d) → HasKind s p d
has_kind s p d (inl chain) = record { kind = Chain; is = chain }
has_kind s p d (inr none) = record { kind = Cycle; is = none }

-- ## The cells

record HasToldCell (s : Symbol) (p : Pair) (l : ℕ) : Type 0 where
  pub cell : Cell
  pub least : cell.least ≡ l
  pub told : IsCellOf s p cell

told_at_least : (s : Symbol) → IsSymbol s → (p : Pair) (l : ℕ) → IsLeastOfCell s p l → HasToldCell s p l
told_at_least s is p l least =
    let inv = is.table.involutions in
    let b = branching_exists s is p l least.0 in
    let roots = has_roots s inv p in
    let kind = has_kind s p l (decide_chain s inv p l least.0) in
    record {
      cell = record { least = l; kind = kind.kind; r = b.1.r; v = b.0; members = members_at s roots.root l };
      least = refl;
      told = record {
        least = least;
        kind = kind.is;
        turns = b.1.least_turns;
        branching = b.1;
        members = members_at_are s inv p roots.root roots.are l least;
      };
    }

record HasToldCells (s : Symbol) (p : Pair) (ls : List ℕ) : Type 0 where
  pub cells : List Cell
  pub least : map (λ (c : Cell). c.least) cells ≡ ls
  pub told : AllByRecursion (IsCellOf s p) cells

told_cells : (s : Symbol) → IsSymbol s → (p : Pair) (ls : List ℕ) → ((l : ℕ) → Contains ls l → IsLeastOfCell s p l) → HasToldCells s p ls
told_cells s is p [] all = record { cells = []; least = refl; told = tt }
told_cells s is p (l ∷ ls) all =
    let here = told_at_least s is p l (all l (Contains-head l ls)) in
    let rest = told_cells s is p ls (λ m later. all m (Contains-later l m ls later)) in
    record { cells = here.cell ∷ rest.cells; least = (λ i. here.least i ∷ rest.least i); told = (here.told, rest.told) }

pub record HasAllCells (s : Symbol) (p : Pair) : Type 0 where
  pub cells : List Cell
  pub are : AreCellsOf s p cells

pub all_cells : (s : Symbol) → IsSymbol s → (p : Pair) → HasAllCells s p
all_cells s is p =
    let ds = cells_exist s is.table.involutions p in
    let t = told_cells s is p ds.0 (λ l here. (ds.1.members l).0 here) in
    record { cells = t.cells; are = record { least_chambers = subst (AreCells s p) (sym t.least) ds.1; each = t.told } }
