-- How many symbols of a list are different, and the names of their groups.
use Rattle.std.specs.Prelude.{◌≡◌, ◌⊎◌, ℕ, ◌+◌, List, [], ◌∷◌}
use Rattle.std.specs.List.{Contains}
use Rattle.dd_model.specs.Symbol.{Symbol}
use Rattle.dd_suite_commands.specs.Info.{IsGroup}

-- n symbols of the list stand neither before their place in it nor among those that came before the list
abbrev pub AreNew : List Symbol → List Symbol → ℕ → Type 0
AreNew before [] n = n ≡ 0
AreNew before (s ∷ ss) n = (Contains before s × AreNew (s ∷ before) ss n) ⊎ ((¬ Contains before s) × (m : ℕ) × (n ≡ m + 1) × AreNew (s ∷ before) ss m)

-- so many different symbols stand in a list
abbrev pub AreDifferent : List Symbol → ℕ → Type 0
AreDifferent ss n = AreNew [] ss n

-- the names of the groups of symbols, in order
abbrev pub AreGroups : List Symbol → List (List ℕ) → Type 0
AreGroups [] [] = Unit {0}
AreGroups [] (g ∷ gs) = ⊥
AreGroups (s ∷ ss) [] = ⊥
AreGroups (s ∷ ss) (g ∷ gs) = IsGroup s g × AreGroups ss gs
