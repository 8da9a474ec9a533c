-- Lists of symbols that are merged to one.
use Rattle.std.specs.Prelude.{◌≡◌, ◌⊎◌, ◌↔◌, ℕ, ◌+◌, ◌<◌, ◌≤◌, List, length, slice_index_or}
use Rattle.std.specs.List.{AllByRecursion, Contains}
use Rattle.dd_model.specs.Symbol.{Symbol}
use Rattle.dd_model.specs.Code.{IsBelow}
use Rattle.dd_model.specs.Wanted.{IsAscending}
use Rattle.dd_shard.specs.declared.merge_fault.MergeFault.{MergeFault}
use Rattle.dd_shard.specs.declared.merge_fault.MergeFault.TheVariants.{NotAscending, Doubled, Memory}

-- the item of a list with a number, counted from 1
pub record IsNth {A : Type 0} (xs : List A) (n : ℕ) (x : A) : Type 0 where
  pub place : ℕ
  pub number : n ≡ place + 1
  pub within : place < length xs
  pub is : slice_index_or xs place x ≡ x

-- the symbol with a number in the list with a number
pub record IsSymbolAt (lists : List (List Symbol)) (file n : ℕ) (s : Symbol) : Type 0 where
  pub list : List Symbol
  pub is_list : IsNth lists file list
  pub is_symbol : IsNth list n s

-- the symbol with this number is not after the one before it in its list
pub record IsOutOfOrder (lists : List (List Symbol)) (file n : ℕ) : Type 0 where
  pub list : List Symbol
  pub is_list : IsNth lists file list
  pub before : ℕ
  pub next : n ≡ before + 1
  pub one : Symbol
  pub is_one : IsNth list before one
  pub other : Symbol
  pub is_other : IsNth list n other
  pub not_after : IsBelow one other → ⊥

-- the symbol with this number equals one of an earlier list
pub record IsDoubled (lists : List (List Symbol)) (file n : ℕ) : Type 0 where
  pub symbol : Symbol
  pub here : IsSymbolAt lists file n symbol
  pub earlier : ℕ
  pub before : earlier < file
  pub number : ℕ
  pub there : IsSymbolAt lists earlier number symbol

-- one place is not after another: lists count first
abbrev pub IsNoLater : ℕ → ℕ → ℕ → ℕ → Type 0
IsNoLater file n other m = (file < other) ⊎ ((file ≡ other) × (n ≤ m))

-- the first place of which P holds
pub record IsFirst (P : ℕ → ℕ → Type 0) (file n : ℕ) : Type 0 where
  pub holds : P file n
  pub first : (other m : ℕ) → P other m → IsNoLater file n other m

-- each list ascends, and no symbol is in two lists
pub record AreMergeable (lists : List (List Symbol)) : Type 0 where
  pub ascending : AllByRecursion IsAscending lists
  pub apart : (file n : ℕ) → IsDoubled lists file n → ⊥

-- some list has the symbol
pub record IsInSome (lists : List (List Symbol)) (s : Symbol) : Type 0 where
  pub list : List Symbol
  pub among : Contains lists list
  pub there : Contains list s

-- the ascending list of all symbols of lists
pub record IsMerged (lists : List (List Symbol)) (ss : List Symbol) : Type 0 where
  pub ascending : IsAscending ss
  pub members : (s : Symbol) → Contains ss s ↔ IsInSome lists s

-- all lists ascend, and this is the first symbol that equals one of an earlier list
pub record IsFirstDouble (lists : List (List Symbol)) (file n : ℕ) : Type 0 where
  pub ascending : AllByRecursion IsAscending lists
  pub first : IsFirst (IsDoubled lists) file n

-- why lists are not merged
abbrev pub IsMergeFault : List (List Symbol) → MergeFault → Type 0
IsMergeFault lists (NotAscending file n) = IsFirst (IsOutOfOrder lists) file n
IsMergeFault lists (Doubled file n) = IsFirstDouble lists file n
IsMergeFault lists Memory = Unit {0}
