-- Start chambers of which a traversal does not tell that the numbering is smaller or larger.
use Rattle.std.specs.Prelude.{◌≡◌, ◌⊎◌, ℕ, ◌*◌, ◌<◌, ◌≤◌, List, length, slice_index}
use Rattle.dd_model.specs.declared.index.Index.{Index}
use Rattle.dd_model.specs.Symbol.{Symbol, op}
use Rattle.dd_model.specs.Lists.{Begins}
use Rattle.dd_model.specs.Code.{code}
use Rattle.dd_model.specs.FirstVisit.{IsNumberedFrom}
use Rattle.dd_model.specs.Partial.{Completes}

-- Of each table that completes the partial one, and whose code begins with the prefix, the numbering from the start has a code that
-- begins with it, too.
pub record IsAgreeing (partial : Symbol) (prefix : List ℕ) (start : ℕ) : Type 0 where
  pub same : (t : Symbol) → Completes partial t → Begins prefix (code t) → (u : Symbol) → IsNumberedFrom t start u → Begins prefix (code u)

-- The images of the first chambers are among these, and the prefix goes on.
pub record IsShut (prefix : List ℕ) : Type 0 where
  pub chambers : ℕ
  pub some : 1 ≤ chambers
  pub within : 3 * chambers < length prefix
  pub few : (u : ℕ) → u < 3 * chambers → slice_index prefix u ≤ chambers

-- some image is not known
pub record HasUnknown (partial : Symbol) : Type 0 where
  pub index : Index
  pub chamber : ℕ
  pub inside : (1 ≤ chamber) × (chamber ≤ partial.size)
  pub none : op partial index chamber ≡ 0

-- what there is where a traversal decides nothing
abbrev pub IsOpen : Symbol → List ℕ → ℕ → Type 0
IsOpen partial prefix start = IsAgreeing partial prefix start ⊎ (IsShut prefix ⊎ HasUnknown partial)
