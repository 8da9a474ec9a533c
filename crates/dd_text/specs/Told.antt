-- What a chamber adds to the texts and the lists of an outline.
use Rattle.std.specs.Prelude.{◌≡◌, ◌⊎◌, ℕ, ◌<◌, ◌≤◌, List, [], ◌∷◌, ◌++◌}
use Rattle.dd_model.specs.Symbol.{Symbol}
use Rattle.dd_model.specs.Cell.{IsLeastOfCell}
use Rattle.dd_model.specs.declared.pair.Pair.{Pair}
use Rattle.dd_model.specs.Line.{after_space}

-- the image of a chamber is told after a space where it is no smaller
abbrev pub TellsImage : ℕ → ℕ → List ℕ → List ℕ → Type 0
TellsImage d image old new = ((d ≤ image) × (new ≡ old ++ after_space image)) ⊎ ((image < d) × (new ≡ old))

-- a chamber is listed where it is the least one of its cell
abbrev pub AddsLeast : Symbol → Pair → ℕ → List ℕ → List ℕ → Type 0
AddsLeast s p d old new = (IsLeastOfCell s p d × (new ≡ old ++ d ∷ [])) ⊎ ((IsLeastOfCell s p d → ⊥) × (new ≡ old))
