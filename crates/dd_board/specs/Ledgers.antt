-- What the ledgers of a board count.
use Rattle.std.specs.Prelude.{◌≡◌, ℕ, ◌+◌, Bool, true, false, List, Result, Ok, Err, count_by}
use Rattle.dd_model.specs.declared.memory.Memory.{Memory}
use Rattle.dd_front.specs.declared.event.Event.{Event}
use Rattle.dd_front.specs.declared.event.Event.TheVariants.{Take, Look, Split, Finish, Back}
use Rattle.dd_board.specs.declared.books.Books.{Books}
use Rattle.dd_board.specs.declared.seat.Seat.{Seat}
use Rattle.dd_front.specs.declared.naming.Naming.{Ghosts}
use Rattle.dd_front.specs.declared.ticket.Taken.{Taken}
use Rattle.dd_front.specs.declared.ticket.Taken.TheVariants.{Job as Given, Idle}

-- the sums are these
abbrev pub HaveTotals : {K L S D B : Type 0} → Books K L S D B → ℕ → ℕ → ℕ → ℕ → ℕ → Type 0
HaveTotals b takes looks splits finishes backs =
    (b.take.total ≡ takes) × (b.look.total ≡ looks) × (b.split.total ≡ splits) × (b.finish.total ≡ finishes) × (b.back.total ≡ backs)

abbrev pub is_take : Event → Bool
is_take (Take worker k) = true
is_take e = false

abbrev pub is_look : Event → Bool
is_look (Look worker) = true
is_look e = false

abbrev pub is_split : Event → Bool
is_split (Split worker k jobs) = true
is_split e = false

abbrev pub is_finish : Event → Bool
is_finish (Finish worker k list) = true
is_finish e = false

abbrev pub is_back : Event → Bool
is_back (Back worker k) = true
is_back e = false

-- how many events of a kind there are
abbrev pub takes_in : List Event → ℕ
takes_in log = count_by is_take log

abbrev pub looks_in : List Event → ℕ
looks_in log = count_by is_look log

abbrev pub splits_in : List Event → ℕ
splits_in log = count_by is_split log

abbrev pub finishes_in : List Event → ℕ
finishes_in log = count_by is_finish log

abbrev pub backs_in : List Event → ℕ
backs_in log = count_by is_back log

-- the worker stays, and so many calls of each kind are counted more
pub record Counts {K L S D B : Type 0} (old new : Seat K L S D B) (takes looks splits finishes backs : ℕ) : Type 0 where
  pub worker : new.worker ≡ old.worker
  pub more_takes : new.shares.take.amount ≡ old.shares.take.amount + takes
  pub more_looks : new.shares.look.amount ≡ old.shares.look.amount + looks
  pub more_splits : new.shares.split.amount ≡ old.shares.split.amount + splits
  pub more_finishes : new.shares.finish.amount ≡ old.shares.finish.amount + finishes
  pub more_backs : new.shares.back.amount ≡ old.shares.back.amount + backs

-- a job counts as taken, and none as a look
abbrev pub CountsTaken : {K L S D B N : Type 0} {names : Ghosts N} → Seat K L S D B → Seat K L S D B → Result (Taken N names) Memory → Type 0
CountsTaken old new (Ok (Given ticket)) = Counts old new 1 0 0 0 0
CountsTaken old new (Ok Idle) = Counts old new 0 1 0 0 0
CountsTaken old new (Err why) = Counts old new 0 0 0 0 0

abbrev pub CountsSplit : {K L S D B E : Type 0} → Seat K L S D B → Seat K L S D B → Result Unit E → Type 0
CountsSplit old new (Ok u) = Counts old new 0 0 1 0 0
CountsSplit old new (Err why) = Counts old new 0 0 0 0 0

abbrev pub CountsFinish : {K L S D B E : Type 0} → Seat K L S D B → Seat K L S D B → Result Unit E → Type 0
CountsFinish old new (Ok u) = Counts old new 0 0 0 1 0
CountsFinish old new (Err why) = Counts old new 0 0 0 0 0

abbrev pub CountsBack : {K L S D B E : Type 0} → Seat K L S D B → Seat K L S D B → Result Unit E → Type 0
CountsBack old new (Ok u) = Counts old new 0 0 0 0 1
CountsBack old new (Err why) = Counts old new 0 0 0 0 0
