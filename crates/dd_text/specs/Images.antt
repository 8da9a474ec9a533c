-- What the functions that read lists promise.
use Rattle.std.specs.Prelude.{◌≡◌, ◌≢◌, ℕ, ◌+◌, ◌<◌, ◌≤◌, List, length, map, filter, nat_le}
use Rattle.dd_model.specs.Symbol.{Symbol, IsChamber, item}
use Rattle.dd_model.specs.Cell.{InCell, AreCells}
use Rattle.dd_model.specs.Code.{count_from}
use Rattle.dd_model.specs.declared.pair.Pair.{Pair}

-- from d on the first chamber without an image, or one more than the last
pub record IsNextUnknown (f : List ℕ) (d e : ℕ) : Type 0 where
  pub from : d ≤ e
  pub known : (x : ℕ) → d ≤ x → x < e → item f x ≢ 0
  pub within : e ≤ length f → item f e ≡ 0
  pub last : d ≤ length f + 1 → e ≤ length f + 1

-- an involution of n chambers that tells these images
pub record IsToldBy (n : ℕ) (told f : List ℕ) : Type 0 where
  pub length_is : length f ≡ n
  pub within : (d : ℕ) → 1 ≤ d → d ≤ n → (1 ≤ item f d) × (item f d ≤ n)
  pub back : (d : ℕ) → 1 ≤ d → d ≤ n → item f (item f d) ≡ d
  pub images : map (item f) (filter (λ d. nat_le d (item f d)) (count_from 1 n)) ≡ told

-- degrees that are equal on cells, and at the least chambers of cells are these
pub record AreDegrees (s : Symbol) (p : Pair) (told m : List ℕ) : Type 0 where
  pub length_is : length m ≡ s.size
  pub cells : List ℕ
  pub are_cells : AreCells s p cells
  pub at_cells : map (item m) cells ≡ told
  pub same : (d e : ℕ) → IsChamber s d → InCell s p d e → item m d ≡ item m e

-- d is one of 1 to n
abbrev pub IsWithin : ℕ → ℕ → Type 0
IsWithin n d = (1 ≤ d) × (d ≤ n)
