-- Start chambers from which the numbering is larger, whatever is told later.
use Rattle.std.specs.Prelude.{ℕ, List}
use Rattle.dd_model.specs.Symbol.{Symbol}
use Rattle.dd_model.specs.Lists.{Begins}
use Rattle.dd_model.specs.Code.{code}
use Rattle.dd_model.specs.Partial.{Completes}
use Rattle.dd_canon.specs.Ties.{IsLargerFrom}

-- Of each table that completes the partial one, and whose code begins with the prefix, the numbering from the start has a larger code.
pub record IsPassed (partial : Symbol) (prefix : List ℕ) (start : ℕ) : Type 0 where
  pub larger : (t : Symbol) → Completes partial t → Begins prefix (code t) → IsLargerFrom t start
