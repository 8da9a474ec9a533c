-- The first visits from chamber 1, as far as they have come.
use Rattle.std.specs.Prelude.{◌≡◌, ℕ, ◌<◌, ◌≤◌, Bool, List, length}
use Rattle.dd_model.specs.Symbol.{Symbol, IsChamber, item, op}
use Rattle.dd_model.specs.Connected.{Connected}
use Rattle.dd_model.specs.Small.{IsSmallSymbol}
use Rattle.dd_model.specs.FirstVisit.{IsNumberedFrom}
use Rattle.dd_model.specs.declared.index.Index.{Index}
use Rattle.dd_cells.specs.Orientation.{color}
use Rattle.dd_covers.specs.TorusCover.{AreColors}
use Rattle.dd_covers.specs.Visits.{rank, IsVisitOrder}

-- The chambers that are visited, in their order, with their numbers and colors. The steps of a rank below n are taken, from the
-- chamber of each number by each involution.
pub record IsVisiting (s : Symbol) (order number : List ℕ) (white : List Bool) (n : ℕ) : Type 0 where
  pub small : IsSmallSymbol s
  pub connected : Connected s
  pub numbered : Symbol
  pub numbering : IsNumberedFrom s 1 numbered
  pub colors : List Bool
  pub are_colors : AreColors s colors
  pub numbers : length number ≡ s.size
  pub whites : length white ≡ s.size
  pub begun : 1 ≤ length order
  pub placed : (j : ℕ) → 1 ≤ j → j ≤ length order → IsChamber s (item order j) × (item numbering.map (item order j) ≡ j)
  pub visited : (d : ℕ) → IsChamber s d → item numbering.map d ≤ length order → (item number d ≡ item numbering.map d) × (color white d ≡ color colors d)
  pub new : (d : ℕ) → IsChamber s d → length order < item numbering.map d → item number d ≡ 0
  pub taken : (i : Index) (c : ℕ) → 1 ≤ c → c ≤ s.size → rank i c < n → op numbered i c ≤ length order

-- the numbers of the chambers of a small symbol in the order of first visits
pub record AreVisitNumbers (s : Symbol) (f : List ℕ) : Type 0 where
  pub small : IsSmallSymbol s
  pub order : IsVisitOrder s f
