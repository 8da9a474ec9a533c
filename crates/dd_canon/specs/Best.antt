-- The best of the numberings by first visits from the first starts, and the orbits of the automorphisms that were found.
use Rattle.std.specs.Prelude.{◌≡◌, ℕ, ◌+◌, List, length}
use Rattle.dd_model.specs.Symbol.{Symbol, IsTable, IsChamber, item}
use Rattle.dd_model.specs.Isomorphic.{IsIsomorphism}
use Rattle.dd_union_find.specs.Parts.{IsLevel}
use Rattle.dd_canon.specs.Standing.{IsReady, IsWhole, IsBestTo}
use Rattle.dd_canon.specs.declared.best_numbering.BestNumbering.{BestNumbering}

-- a function of chambers that every automorphism keeps
abbrev pub IsKept : Symbol → (ℕ → ℕ) → Type 0
IsKept s h = (f : List ℕ) (d : ℕ) → IsIsomorphism s s f → IsChamber s d → h (item f d) ≡ h d

-- Chambers are joined only if automorphisms take one to the other: a function that these keep does not differ at them.
pub record AreOrbits (s : Symbol) (above : List ℕ) : Type 0 where
  pub nodes : length above ≡ s.size + 1
  pub level : (h : ℕ → ℕ) → IsKept s h → IsLevel above h

-- the best of the numberings from the chambers 1 to n, the symbol in its numbers, lists for another start, and orbits
pub record IsBestNumbering (s : Symbol) (n : ℕ) (x : BestNumbering) : Type 0 where
  pub start : ℕ
  pub home : IsReady s x.home
  pub whole : IsWhole s start x.home.order.items x.home.number.items
  pub table : IsTable x.form
  pub form : IsIsomorphism s x.form x.home.number.items
  pub best : IsBestTo s n x.form
  pub there : IsReady s x.there
  pub orbits : AreOrbits s x.orbits
