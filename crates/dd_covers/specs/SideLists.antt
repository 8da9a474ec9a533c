-- Free sides as they are listed.
use Rattle.std.specs.Prelude.{◌≡◌, ℕ, ◌+◌, ◌*◌, ◌<◌, List, length, slice_index_or}
use Rattle.std.specs.List.{Contains}
use Rattle.dd_model.specs.Symbol.{Symbol}
use Rattle.dd_model.specs.declared.index.Index.{Index}
use Rattle.dd_covers.specs.CellNumbers.{IsCellNumber}
use Rattle.dd_covers.specs.Ends.{one_end, other_end}
use Rattle.dd_covers.specs.Visits.{rank, IsFree}
use Rattle.dd_covers.specs.declared.side.Side.{Side}

-- a free side with the numbers of its ends
pub record IsFreeSide (s : Symbol) (f : List ℕ) (x : Side) : Type 0 where
  pub free : IsFree s f x.index x.chamber
  pub from : IsCellNumber s (one_end x.index) x.chamber x.from
  pub to : IsCellNumber s (other_end x.index) x.chamber x.to

-- a listed side that is that of a chamber by an involution
pub record IsListedSide (sides : List Side) (i : Index) (d : ℕ) : Type 0 where
  pub side : Side
  pub listed : Contains sides side
  pub index : side.index ≡ i
  pub chamber : side.chamber ≡ d

-- a side that stands before another has a smaller rank
abbrev pub AreAscending : List Side → Type 0
AreAscending sides = (q r : ℕ) (x y : Side) → q < r → r < length sides → slice_index_or sides q x ≡ x → slice_index_or sides r y ≡ y
    → rank x.index x.chamber < rank y.index y.chamber

-- the free sides of a rank below n, ascending by rank
pub record AreFreeSidesTo (s : Symbol) (f : List ℕ) (n : ℕ) (sides : List Side) : Type 0 where
  pub each : (x : Side) → Contains sides x → IsFreeSide s f x × (rank x.index x.chamber < n)
  pub all : (i : Index) (d : ℕ) → IsFree s f i d → rank i d < n → IsListedSide sides i d
  pub ascending : AreAscending sides

-- all free sides, by least chamber and then by involution
abbrev pub AreFreeSides : Symbol → List ℕ → List Side → Type 0
AreFreeSides s f sides = AreFreeSidesTo s f (3 * (s.size + 1)) sides
