-- The shifts of the edges of a torus, one coordinate at a time.
use Rattle.std.specs.Prelude.{◌≡◌, ◌⊎◌, ℕ, zero, suc, ◌<◌, ℤ, pos, ◌+ℤ◌, ◌-ℤ◌}
use Rattle.dd_model.specs.Symbol.{Symbol, IsChamber, op}
use Rattle.dd_model.specs.Cell.{IsLeastOfCell, IsLeastTurns, turned}
use Rattle.dd_model.specs.declared.index.Index.TheVariants.{Zero, Two}
use Rattle.dd_model.specs.declared.pair.Pair.TheVariants.{Tile, Edge}
use Rattle.dd_lattice.specs.Edges.{IsTreeEdge, IsKindOf}
use Rattle.dd_lattice.specs.declared.kinds.EdgeKind.TheVariants.{Left}

-- an edge that is left, told by its least chamber
pub record IsLeftEdge (t : Symbol) (d : ℕ) : Type 0 where
  pub least : IsLeastOfCell t Edge d
  pub kind : IsKindOf t d Left

-- the two edges that are left, in order
pub record AreLeft (t : Symbol) (one two : ℕ) : Type 0 where
  pub apart : one < two
  pub first : IsLeftEdge t one
  pub second : IsLeftEdge t two
  pub only : (d : ℕ) → IsLeftEdge t d → (d ≡ one) ⊎ (d ≡ two)

-- The sum over the first n turns of the walk round the tile of d, which passes the edge of each chamber to which it comes.
abbrev pub sum_round : Symbol → (ℕ → ℤ) → ℕ → ℕ → ℤ
sum_round t x d zero = pos 0
sum_round t x d (suc n) = sum_round t x d n +ℤ x (turned t Tile n d)

-- One coordinate of the shifts, as each chamber passes its edge away from its own vertex. It is 1 on one of the edges that are
-- left, and 0 on the other and on tree edges; round each tile it adds to 0.
pub record AreShifts (t : Symbol) (one : ℕ) (x : ℕ → ℤ) : Type 0 where
  pub back : (d : ℕ) → IsChamber t d → x (op t Zero d) ≡ pos 0 -ℤ x d
  pub across : (d : ℕ) → IsChamber t d → x (op t Two d) ≡ x d
  pub trees : (d : ℕ) → IsLeastOfCell t Edge d → IsTreeEdge t d → x d ≡ pos 0
  pub unit : x one ≡ pos 1
  pub left : (d : ℕ) → IsLeftEdge t d → ¬ (d ≡ one) → x d ≡ pos 0
  pub rounds : (d r : ℕ) → IsChamber t d → IsLeastTurns t Tile d r → sum_round t x d r ≡ pos 0
