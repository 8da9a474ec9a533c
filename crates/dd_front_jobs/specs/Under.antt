-- What stands under a prefix of a code. W says what is looked for: wanted symbols, or tables alone.
use Rattle.std.specs.Prelude.{◌≡◌, ◌↔◌, ◌⊎◌, ℕ, ◌<◌, ◌≤◌, List, ◌++◌, length, slice_index}
use Rattle.std.specs.List.{Contains}
use Rattle.dd_model.specs.Symbol.{Symbol}
use Rattle.dd_model.specs.Lists.{Begins}
use Rattle.dd_model.specs.Code.{code}
use Rattle.dd_model.specs.Partial.{Completes}
use Rattle.dd_model.specs.Wanted.{IsAscending}
use Rattle.dd_front_jobs.specs.Orderly.{IsOrderly}

-- what is looked for of one size, with a code that begins with the prefix
pub record IsUnder (W : Symbol → Type 0) (n : ℕ) (prefix : List ℕ) (s : Symbol) : Type 0 where
  pub wanted : W s
  pub orderly : IsOrderly s
  pub size : s.size ≡ n
  pub begins : Begins prefix (code s)

-- nothing is under the prefix
abbrev pub HasNothingUnder : (Symbol → Type 0) → ℕ → List ℕ → Type 0
HasNothingUnder W n prefix = (s : Symbol) → IsUnder W n prefix s → ⊥

-- all that is under the prefix, ascending
pub record AreUnder (W : Symbol → Type 0) (n : ℕ) (prefix : List ℕ) (ss : List Symbol) : Type 0 where
  pub ascending : IsAscending ss
  pub members : (s : Symbol) → Contains ss s ↔ IsUnder W n prefix s

-- the number of a code that comes after a prefix
abbrev pub next_number : List ℕ → Symbol → ℕ
next_number prefix s = slice_index (code s) (length prefix)

-- all that is under the prefix with a next number below k, ascending
pub record AreUnderBefore (W : Symbol → Type 0) (n : ℕ) (prefix : List ℕ) (k : ℕ) (ss : List Symbol) : Type 0 where
  pub ascending : IsAscending ss
  pub members : (s : Symbol) → Contains ss s ↔ (IsUnder W n prefix s × (next_number prefix s < k))

-- Nothing under the prefix has a next number from k on.
abbrev pub HasNoNumberFrom : (Symbol → Type 0) → ℕ → List ℕ → ℕ → Type 0
HasNoNumberFrom W n prefix k = (s : Symbol) → IsUnder W n prefix s → next_number prefix s < k

-- Nothing under the prefix has a next number from k on that is below m.
pub record SkipsTo (W : Symbol → Type 0) (n : ℕ) (prefix : List ℕ) (k m : ℕ) : Type 0 where
  pub later : k ≤ m
  pub small : m ≤ 216
  pub none_between : (s : Symbol) → IsUnder W n prefix s → (next_number prefix s < k) ⊎ (m ≤ next_number prefix s)

-- a list has grown at its end by a list of which P holds
pub record Appends {A : Type 0} (P : List A → Type 0) (old new : List A) : Type 0 where
  pub list : List A
  pub grown : new ≡ old ++ list
  pub holds : P list

-- Each symbol under the prefix completes the partial table.
abbrev pub Follows : (Symbol → Type 0) → ℕ → List ℕ → Symbol → Type 0
Follows W n prefix partial = (s : Symbol) → IsUnder W n prefix s → Completes partial s
