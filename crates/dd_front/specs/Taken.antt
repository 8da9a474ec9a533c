-- The first entry, taken off where it is done, and what is left of its members.
use Rattle.std.specs.Prelude.{◌≡◌, ℕ, ◌<◌, List, ◌∷◌, slice_index_or}
use Rattle.std.specs.List.{AllByRecursion}
use Rattle.dd_model.specs.Symbol.{Symbol}
use Rattle.dd_model.specs.Code.{code}
use Rattle.dd_model.specs.Lists.{IsWithout}
use Rattle.dd_model.specs.Position.{IsBefore}
use Rattle.dd_model.specs.declared.jobs.Job.{Job}
use Rattle.dd_model.specs.declared.jobs.Position.{Position}
use Rattle.dd_front.specs.declared.entry.Entry.{Entry}
use Rattle.dd_front.specs.declared.entry.State.TheVariants.{Done}
use Rattle.dd_front.specs.Machine.{Machine, entry_of}
use Rattle.dd_front.specs.Allowed.{HasFirst}
use Rattle.dd_front.specs.Step.{at_symbol}

-- the first of the entries is done with this list, and these follow it
pub record BeginsDone (es : List Entry) (list : List Symbol) (rest : List Entry) : Type 0 where
  pub number : ℕ
  pub job : Job
  pub entries : es ≡ entry_of number job (Done list) ∷ rest

-- the first of the entries is not done, or there is none
abbrev pub BeginsNotDone : List Entry → Type 0
BeginsNotDone es = (list : List Symbol) (rest : List Entry) → ¬ BeginsDone es list rest

-- the numbers of each code are bytes
abbrev pub HaveSmallCodes : List Symbol → Type 0
HaveSmallCodes ss = AllByRecursion (λ s. AllByRecursion (λ n. n < 256) (code s)) ss

-- the members of the first entry that are not before `from`, with codes of small numbers
pub record IsLeft (f : Machine) (left : List Symbol) : Type 0 where
  pub list : List Symbol
  pub first : HasFirst f list
  pub not_before : IsWithout (IsBefore f.from) list left
  pub small : HaveSmallCodes left

-- the position is the one at which the member at a place, counted from 0, is the next
pub record IsPositionIn (members : List Symbol) (place : ℕ) (position : Position) : Type 0 where
  pub member : Symbol
  pub read : member ≡ slice_index_or members place member
  pub is : position ≡ at_symbol member
