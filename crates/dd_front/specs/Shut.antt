-- Entries before which none is open, so that the first open one is found at once.
use Rattle.std.specs.Prelude.{◌≢◌, ℕ, ◌≤◌, List, length, take, drop}
use Rattle.std.specs.List.{AllByRecursion}
use Rattle.dd_front.specs.declared.entry.Entry.{Entry}
use Rattle.dd_front.specs.declared.entry.State.TheVariants.{Open}
use Rattle.dd_front.specs.Numbers.{HaveOwnNumbers}

-- none of them is open
abbrev pub AreShut : List Entry → Type 0
AreShut es = AllByRecursion (λ e. e.state ≢ Open) es

-- none of the first ones is open
pub record IsShutTo (shut : ℕ) (es : List Entry) : Type 0 where
  pub within : shut ≤ length es
  pub none : AreShut (take shut es)

-- what a list of entries keeps: so many of the vector have left, and so many that follow are shut
pub record IsEntryList (all : List Entry) (gone closed : ℕ) : Type 0 where
  pub inside : gone ≤ length all
  pub numbers : HaveOwnNumbers (drop gone all)
  pub shut : IsShutTo closed (drop gone all)
