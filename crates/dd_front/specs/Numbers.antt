-- The numbers of entries.
use Rattle.std.specs.Prelude.{◌≢◌, ℕ, ◌<◌, ◌≤◌, List, [], ◌∷◌}
use Rattle.std.specs.List.{AllByRecursion}
use Rattle.dd_front.specs.declared.entry.Entry.{Entry}

-- the numbers are positive, and no two are equal
abbrev pub HaveOwnNumbers : List Entry → Type 0
HaveOwnNumbers [] = Unit {0}
HaveOwnNumbers (e ∷ es) = (1 ≤ e.number) × AllByRecursion (λ d. d.number ≢ e.number) es × HaveOwnNumbers es

-- all numbers are below this one
abbrev pub AreBelow : ℕ → List Entry → Type 0
AreBelow next es = AllByRecursion (λ e. e.number < next) es

-- numbers from 1 on, below the next free one, no two of them equal
pub record AreNumbered (next : ℕ) (es : List Entry) : Type 0 where
  pub own : HaveOwnNumbers es
  pub below : AreBelow next es
