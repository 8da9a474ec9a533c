-- Sides by which the cells are joined to the tile of chamber 1, one cell after the other.
use Rattle.std.specs.Prelude.{◌≡◌, ◌⊎◌, ◌↔◌, ℕ, ◌+◌, ◌*◌, ◌<◌, Bool, true, false, List, [], ◌∷◌, ◌++◌, length, map, slice_index_or}
use Rattle.std.specs.List.{Contains}
use Rattle.dd_model.specs.Symbol.{Symbol, IsChamber}
use Rattle.dd_model.specs.declared.pair.Pair.{Pair}
use Rattle.dd_covers.specs.CellNumbers.{IsCellNumber}
use Rattle.dd_covers.specs.SideLists.{IsFreeSide}
use Rattle.dd_covers.specs.Visits.{rank, AreEndsJoined}
use Rattle.dd_covers.specs.declared.join.Join.{Join}
use Rattle.dd_covers.specs.declared.side.Side.{Side}

-- one of two
abbrev pub either : Bool → ℕ → ℕ → ℕ
either true a b = a
either false a b = b

-- the numbers of the cell that a side joins, and of the one to which it does
abbrev pub new_end : Join → ℕ
new_end j = either j.out j.side.from j.side.to

abbrev pub old_end : Join → ℕ
old_end j = either j.out j.side.to j.side.from

-- the tile of chamber 1, and what these sides join to it
abbrev pub IsJoinedBy : List Join → ℕ → Type 0
IsJoinedBy js n = (n ≡ 1) ⊎ Contains (map new_end js) n

-- a free side, whose ends no earlier free sides join, from a cell that some sides have joined to one that they have not
pub record IsJoin (s : Symbol) (f : List ℕ) (before : List Join) (j : Join) : Type 0 where
  pub side : IsFreeSide s f j.side
  pub parted : ¬ AreEndsJoined s f j.side.index j.side.chamber
  pub old : IsJoinedBy before (old_end j)
  pub new : ¬ IsJoinedBy before (new_end j)

-- each of the sides joins a cell to those of the sides before it
abbrev pub AreJoins : Symbol → List ℕ → List Join → List Join → Type 0
AreJoins s f before [] = Unit {0}
AreJoins s f before (j ∷ js) = IsJoin s f before j × AreJoins s f (before ++ j ∷ []) js

-- sides that join all cells
pub record AreWholeJoins (s : Symbol) (f : List ℕ) (js : List Join) : Type 0 where
  pub joins : AreJoins s f [] js
  pub all : (p : Pair) (d n : ℕ) → IsChamber s d → IsCellNumber s p d n → IsJoinedBy js n

-- ## As they are found

abbrev pub flag : List Bool → ℕ → Bool
flag reached n = slice_index_or reached n false

-- both ends are reached, or neither
abbrev pub IsEven : List Bool → Side → Type 0
IsEven reached x = flag reached x.from ≡ flag reached x.to

-- the first listed side of which one end is reached and the other is not
pub record IsNext (sides : List Side) (reached : List Bool) (j : Join) : Type 0 where
  pub listed : Contains sides j.side
  pub new : flag reached (new_end j) ≡ false
  pub old : flag reached (old_end j) ≡ true
  pub earlier : (x : Side) → Contains sides x → rank x.index x.chamber < rank j.side.index j.side.chamber → IsEven reached x

-- the cells that are reached are those that the sides join
pub record AreGrown (s : Symbol) (f : List ℕ) (reached : List Bool) (js : List Join) : Type 0 where
  pub flags : length reached ≡ 3 * (s.size + 1)
  pub joins : AreJoins s f [] js
  pub told : (n : ℕ) → n < 3 * (s.size + 1) → (flag reached n ≡ true) ↔ IsJoinedBy js n
