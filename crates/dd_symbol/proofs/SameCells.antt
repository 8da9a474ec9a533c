-- What is told of cells is the same for symbols with the same involutions.
use Rattle.std.proofs.Common.{ℕ, List, inl, inr, ⊎_elim, ◌∙◌}
use Rattle.dd_model.specs.declared.pair.Pair.{Pair}
use Rattle.dd_model.specs.Symbol.{Symbol, first, second}
use Rattle.dd_model.specs.Cell.{IsChain, IsLeastOfCell, AreCells}
use Rattle.dd_model.specs.Involutions.{HaveSameInvolutions}
use Rattle.dd_model.proofs.SameInvolutions.{op-same, same-sym, chamber-same, in_cell-same, least_turns-same}
use Rattle.dd_symbol.specs.Cells.{IsLeastFor, IsKindOf, IsShapeOf}
use Rattle.dd_symbol.specs.declared.kind.Kind.{Kind}
use Rattle.dd_symbol.specs.declared.kind.Kind.TheVariants.{Cycle, Chain}
use Rattle.dd_symbol.specs.declared.shapes.CellShape.{CellShape}

least_of_cell-same : (s t : Symbol) → HaveSameInvolutions s t → (p : Pair) (d : ℕ) → IsLeastOfCell s p d → IsLeastOfCell t p d
least_of_cell-same s t h p d (c, least) = (
  chamber-same t s (same-sym s t h) d c,
  λ e there. least e (in_cell-same t s (same-sym s t h) p d e there),
)

least_for-same : (s t : Symbol) → HaveSameInvolutions s t → (p : Pair) (d l : ℕ) → IsLeastFor s p d l → IsLeastFor t p d l
least_for-same s t h p d l is = record { in_cell = in_cell-same s t h p d l is.in_cell; is_least = least_of_cell-same s t h p l is.is_least }

pub are_cells-same : (s t : Symbol) → HaveSameInvolutions s t → (p : Pair) (ds : List ℕ) → AreCells s p ds → AreCells t p ds
are_cells-same s t h p ds are = record {
  ascending = are.ascending;
  members = λ d. (
    (λ there. least_of_cell-same s t h p d ((are.members d).0 there)),
    (λ is. (are.members d).1 (least_of_cell-same t s (same-sym s t h) p d is)),
  );
}

chain-same : (s t : Symbol) → HaveSameInvolutions s t → (p : Pair) (d : ℕ) → IsChain s p d → IsChain t p d
chain-same s t h p d is = record {
  chamber = is.chamber;
  in_cell = in_cell-same s t h p d is.chamber is.in_cell;
  fixed = ⊎_elim (λ e. inl (op-same s t h (first p) is.chamber ∙ e)) (λ e. inr (op-same s t h (second p) is.chamber ∙ e)) is.fixed;
}

kind-same : (s t : Symbol) → HaveSameInvolutions s t → (p : Pair) (d : ℕ) (kind : Kind) → IsKindOf s p d kind → IsKindOf t p d kind
kind-same s t h p d Chain is = chain-same s t h p d is
kind-same s t h p d Cycle is = λ chain. is (chain-same t s (same-sym s t h) p d chain)

pub shape-same : (s t : Symbol) → HaveSameInvolutions s t → (p : Pair) (d : ℕ) (c : CellShape) → IsShapeOf s p d c → IsShapeOf t p d c
shape-same s t h p d c is = record {
  least = least_for-same s t h p d c.least is.least;
  kind = kind-same s t h p d c.kind is.kind;
  turns = least_turns-same s t h p d c.r is.turns;
}
