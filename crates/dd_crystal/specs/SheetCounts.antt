-- How many chambers of a symbol lie above each chamber of another.
use Rattle.std.specs.Prelude.{◌≡◌, ◌⊎◌, ℕ, ◌*◌, ◌≤◌, List, length, nat_eq}
use Rattle.std.specs.List.{filter}
use Rattle.dd_model.specs.Symbol.{Symbol, IsChamber, item}
use Rattle.dd_model.specs.Code.{chambers}
use Rattle.dd_cells.specs.Orientation.{IsOriented}
use Rattle.dd_covers.specs.PlaneValues.{IsGreatestValue}

-- the chambers of t that lie above chamber d
abbrev pub chambers_above : Symbol → List ℕ → ℕ → List ℕ
chambers_above t below d = filter (λ e. nat_eq (item below e) d) (chambers t)

-- t has n sheets above s: n chambers of t lie above each chamber of s
pub record HasSheets (s t : Symbol) (below : List ℕ) (n : ℕ) : Type 0 where
  pub each : (d : ℕ) → IsChamber s d → length (chambers_above t below d) ≡ n

-- the number of sheets of t above s, at least one, and n times as many chambers
pub record HasSheetNumber (s t : Symbol) (below : List ℕ) : Type 0 where
  pub number : ℕ
  pub some : 1 ≤ number
  pub sheets : HasSheets s t below number
  pub size : t.size ≡ number * s.size

-- n is the greatest branching value of the cells of all three pairs, times 2 unless the symbol is oriented
pub record IsTorusSheets (s : Symbol) (n : ℕ) : Type 0 where
  pub value : ℕ
  pub greatest : IsGreatestValue s value
  pub number : (IsOriented s × (n ≡ value)) ⊎ ((¬ IsOriented s) × (n ≡ 2 * value))
