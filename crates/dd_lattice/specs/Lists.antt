-- What is listed on the way to a net.
use Rattle.std.specs.Prelude.{◌≡◌, ℕ, ◌<◌, true, List, length, slice_index, slice_index_or, take}
use Rattle.std.specs.List.{Contains, count_by}
use Rattle.dd_model.specs.Symbol.{Symbol, IsChamber, item}
use Rattle.dd_lattice.specs.Edges.{is_left}
use Rattle.dd_lattice.specs.NetOf.{IsVertexNumber}
use Rattle.dd_lattice.specs.declared.kinds.EdgeKind.{EdgeKind}

-- an edge among the first n that is left
pub record IsLeftAt (edges : List ℕ) (kinds : List EdgeKind) (n d : ℕ) : Type 0 where
  pub place : ℕ
  pub early : place < n
  pub is : slice_index edges place ≡ d
  pub left : (e : EdgeKind) → is_left (slice_index_or kinds place e) ≡ true

-- those of the first n edges that are left, in the same order
pub record AreLeftOf (edges : List ℕ) (kinds : List EdgeKind) (n : ℕ) (left : List ℕ) : Type 0 where
  pub many : length left ≡ count_by is_left (take n kinds)
  pub ascending : (q r : ℕ) → q < r → r < length left → slice_index left q < slice_index left r
  pub each : (q : ℕ) → q < length left → IsLeftAt edges kinds n (slice_index left q)
  pub all : (d : ℕ) → IsLeftAt edges kinds n d → Contains left d

-- the number of the vertex of each chamber
pub record AreVertexNumbers (t : Symbol) (vertices numbers : List ℕ) : Type 0 where
  pub whole : length numbers ≡ t.size
  pub each : (d : ℕ) → IsChamber t d → IsVertexNumber t vertices d (item numbers d)
