-- The ends of sides. A side is an orbit of one involution; its two ends are the cells of the two pairs that hold the involution.
use Rattle.std.specs.Prelude.{◌≡◌, ◌⊎◌, ℕ}
use Rattle.dd_model.specs.Symbol.{Symbol, IsChamber, op, first, second}
use Rattle.dd_model.specs.declared.index.Index.{Index}
use Rattle.dd_model.specs.declared.index.Index.TheVariants.{Zero, One, Two}
use Rattle.dd_model.specs.declared.pair.Pair.{Pair}
use Rattle.dd_model.specs.declared.pair.Pair.TheVariants.{Tile, Vertex, Edge}

-- the pair has the involution
abbrev pub Holds : Pair → Index → Type 0
Holds p i = (i ≡ first p) ⊎ (i ≡ second p)

-- the two pairs that hold an involution
abbrev pub one_end : Index → Pair
one_end Zero = Tile
one_end One = Vertex
one_end Two = Edge

abbrev pub other_end : Index → Pair
other_end Zero = Edge
other_end One = Tile
other_end Two = Vertex

-- a value for each pair and chamber, which is that of the chamber's cell
abbrev pub IsOfCells : Symbol → (Pair → ℕ → ℕ) → Type 0
IsOfCells s g = (p : Pair) (i : Index) (d : ℕ) → IsChamber s d → Holds p i → g p (op s i d) ≡ g p d

-- the two ends of the side of a chamber have one value
abbrev pub IsLevel : (Pair → ℕ → ℕ) → Index → ℕ → Type 0
IsLevel g i d = g (one_end i) d ≡ g (other_end i) d
