-- The chambers of a cell have one shape.
use Rattle.std.proofs.Common.{ℕ}
use Rattle.dd_model.specs.declared.pair.Pair.{Pair}
use Rattle.dd_model.specs.Symbol.{Symbol, AreInvolutions, IsChamber}
use Rattle.dd_model.specs.Cell.{InCell, IsChain, IsLeastTurns}
use Rattle.dd_model.proofs.CellWalks.{in_cell-trans, in_cell-sym}
use Rattle.dd_symbol.specs.Cells.{IsKindOf, IsShapeOf}
use Rattle.dd_symbol.specs.declared.kind.Kind.{Kind}
use Rattle.dd_symbol.specs.declared.kind.Kind.TheVariants.{Cycle, Chain}
use Rattle.dd_symbol.specs.declared.shapes.CellShape.{CellShape}

chain_beside : (s : Symbol) (p : Pair) (d e : ℕ) → InCell s p d e → IsChain s p e → IsChain s p d
chain_beside s p d e there chain = record {
  chamber = chain.chamber;
  in_cell = in_cell-trans s p d e chain.chamber there chain.in_cell;
  fixed = chain.fixed;
}

kind_beside : (s : Symbol) (p : Pair) (d e : ℕ) (kind : Kind) → InCell s p d e → InCell s p e d → IsKindOf s p e kind → IsKindOf s p d kind
kind_beside s p d e Chain there back is = chain_beside s p d e there is
kind_beside s p d e Cycle there back is = λ chain. is (chain_beside s p e d back chain)

turns_beside : (s : Symbol) (p : Pair) (d e r : ℕ) → InCell s p d e → InCell s p e d → IsLeastTurns s p e r → IsLeastTurns s p d r
turns_beside s p d e r there back is = record {
  positive = is.positive;
  chamber = is.chamber;
  in_cell = in_cell-trans s p d e is.chamber there is.in_cell;
  fixed = is.fixed;
  least = λ k f some near fixed. is.least k f some (in_cell-trans s p e d f back near) fixed;
}

-- what is told of a chamber is told of each other one of its cell
pub shape_beside : (s : Symbol) → AreInvolutions s → (p : Pair) (d e : ℕ) (c : CellShape) → IsChamber s d → InCell s p d e → IsShapeOf s p e c → IsShapeOf s p d c
shape_beside s inv p d e c h there is =
    let back = in_cell-sym s inv p d e h there in
    record {
      least = record { in_cell = in_cell-trans s p d e c.least there is.least.in_cell; is_least = is.least.is_least };
      kind = kind_beside s p d e c.kind there back is.kind;
      turns = turns_beside s p d e c.r there back is.turns;
    }
