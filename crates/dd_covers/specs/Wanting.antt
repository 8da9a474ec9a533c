-- What is wanting at the cells, and the greatest branching value, as they are found.
use Rattle.std.specs.Prelude.{◌≡◌, ℕ, ◌+◌, ◌*◌, ◌/◌, ◌%◌, ◌<◌, ◌≤◌, List, length, slice_index}
use Rattle.dd_model.specs.Symbol.{Symbol, IsChamber}
use Rattle.dd_model.specs.Cell.{IsBranching}
use Rattle.dd_model.specs.declared.pair.Pair.{Pair}
use Rattle.dd_covers.specs.CellNumbers.{IsCellNumber}

-- k is a branching value, and none at the chambers 1 to n is greater
pub record IsGreatestTo (s : Symbol) (n k : ℕ) : Type 0 where
  pub pair : Pair
  pub chamber : ℕ
  pub is_chamber : IsChamber s chamber
  pub branching : IsBranching s pair chamber k
  pub greatest : (p : Pair) (d v : ℕ) → IsChamber s d → d ≤ n → IsBranching s p d v → v ≤ k

-- k / v is wanting at the cell of a chamber, modulo k
pub record IsWantedAt (s : Symbol) (k : ℕ) (wants : List ℕ) (p : Pair) (d : ℕ) : Type 0 where
  pub value : (n v : ℕ) → IsCellNumber s p d n → IsBranching s p d v → slice_index wants n ≡ k / v % k

-- k / v is wanting at each cell
pub record AreWanted (s : Symbol) (k : ℕ) (wants : List ℕ) : Type 0 where
  pub size : length wants ≡ 3 * (s.size + 1)
  pub few : (n : ℕ) → slice_index wants n < k
  pub each : (p : Pair) (d : ℕ) → IsChamber s d → IsWantedAt s k wants p d
