-- Sides that wait to join a cell, the first of them first.
use Rattle.std.specs.Prelude.{◌≡◌, ◌⊎◌, ℕ, ◌+◌, ◌<◌, Bool, List, [], length, slice_index_or, map}
use Rattle.std.specs.List.{Contains}
use Rattle.std.specs.Ordering.{nat_cmp}
use Rattle.std.specs.BinaryHeap.{IsHeap}
use Rattle.dd_covers.specs.Joins.{IsEven}
use Rattle.std.specs.declared.vec.Vec.{Vec}
use Rattle.dd_covers.specs.declared.side.Side.{Side}

-- the side that has so many sides after it
abbrev pub IsSideBefore : List Side → ℕ → Side → Type 0
IsSideBefore sides k x = (q : ℕ) × (q + 1 + k ≡ length sides) × (slice_index_or sides q x ≡ x)

-- what is of no side
abbrev pub IsNoSide : Side → Type 0
IsNoSide x = ⊥

-- one of the side's ends is the cell
abbrev pub IsEndOf : ℕ → Side → Type 0
IsEndOf n x = (x.from ≡ n) ⊎ (x.to ≡ n)

-- sides at a cell, each told by how many sides come after it: those among the first ones, and no others but listed ones
pub record AreAtCells (sides : List Side) (done : ℕ) (at : ℕ → List ℕ) : Type 0 where
  pub inside : (n k : ℕ) → Contains (at n) k → k < length sides
  pub all : (n k q : ℕ) (x : Side) → q < done → q + 1 + k ≡ length sides → slice_index_or sides q x ≡ x → IsEndOf n x → Contains (at n) k

-- Sides wait, each told by how many come after it, so that the first one is the greatest. Each one of which one end is reached
-- and the other is not waits, or is excepted.
pub record AreWaiting (sides : List Side) (reached : List Bool) (waiting : List ℕ) (excepted : Side → Type 0) : Type 0 where
  pub order : IsHeap nat_cmp waiting
  pub inside : (k : ℕ) → Contains waiting k → k < length sides
  pub uneven : (k : ℕ) (x : Side) → IsSideBefore sides k x → IsEven reached x ⊎ Contains waiting k ⊎ excepted x

-- the list at a place of a list of lists
abbrev pub places : {A : Type 0} → List (Vec ℕ A) → ℕ → List ℕ
places at n = slice_index_or (map (λ (v : Vec ℕ _). v.items) at) n []
