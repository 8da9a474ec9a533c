-- What the calls of workers do to a desk.
use Rattle.std.specs.Prelude.{◌≡◌, ◌≢◌, ◌⊎◌, ℕ, ◌+◌, ◌<◌, ◌≤◌, ◌^◌, List, [], ◌∷◌, ◌++◌, length}
use Rattle.std.specs.List.{AllByRecursion, Contains}
use Rattle.dd_model.specs.Symbol.{Symbol}
use Rattle.dd_model.specs.declared.jobs.Job.{Job}
use Rattle.dd_front.specs.declared.entry.Entry.{Entry}
use Rattle.dd_front.specs.declared.entry.State.TheVariants.{Open, Out}
use Rattle.dd_front.specs.declared.event.Event.{Event}
use Rattle.dd_front.specs.declared.event.Event.TheVariants.{Take, Look, Split, Finish, Back}
use Rattle.dd_front.specs.Machine.{entry_of}
use Rattle.dd_front.specs.Allowed.{HasState}
use Rattle.dd_front.specs.Rounds.{IsFirstOpen}
use Rattle.dd_front.specs.Step.{IsNext}
use Rattle.dd_front.specs.declared.naming.Naming.{Ghosts}
use Rattle.dd_front.specs.declared.ticket.Taken.{Taken}
use Rattle.dd_front.specs.declared.ticket.Taken.TheVariants.{Job as Given, Idle}
use Rattle.dd_board.specs.Desk.{DeskView}

-- the event was allowed, the machine has taken it, and it stands at the end of the log
pub record Books (event : Event) (old new : DeskView) : Type 0 where
  pub log : new.log ≡ old.log ++ event ∷ []
  pub next : IsNext old.machine event new.machine []

-- the first entry that was open had this number and this job, and is given out
pub record TakesFirst (worker k : ℕ) (job : Job) (old new : DeskView) : Type 0 where
  pub positive : 1 ≤ k
  pub first : IsFirstOpen old.machine.entries (entry_of k job Open)
  pub books : Books (Take worker k) old new

-- none was open
pub record TakesNone (worker : ℕ) (old new : DeskView) : Type 0 where
  pub none : AllByRecursion (λ e. e.state ≢ Open) old.machine.entries
  pub books : Books (Look worker) old new

abbrev pub Takes : {N : Type 0} {names : Ghosts N} → ℕ → DeskView → DeskView → Taken N names → Type 0
Takes worker old new (Given ticket) = TakesFirst worker ticket.entry ticket.job old new
Takes worker old new Idle = TakesNone worker old new

-- the number under which something is booked: this one where the condition holds, and else 0
abbrev pub IsNumberWhere : Type 0 → ℕ → ℕ → Type 0
IsNumberWhere P k number = (P × (number ≡ k)) ⊎ ((¬ P) × (number ≡ 0))

-- the entry of this number is out with this job
abbrev pub IsOutWith : List Entry → ℕ → Job → Type 0
IsOutWith es k job = Contains es (entry_of k job Out)

-- the same, and there are numbers for so many more entries
pub record MaySplitNow (old : DeskView) (k : ℕ) (job : Job) (jobs : List Job) : Type 0 where
  pub out : IsOutWith old.machine.entries k job
  pub room : old.machine.next + length jobs < 2 ^ 64

-- the entry becomes open ones for these jobs, where the ticket fits and there are numbers for them
pub record BooksSplit (worker k : ℕ) (job : Job) (jobs : List Job) (old new : DeskView) : Type 0 where
  pub number : ℕ
  pub is : IsNumberWhere (MaySplitNow old k job jobs) k number
  pub books : Books (Split worker number jobs) old new

-- the entry is done with the list, where the ticket fits
pub record BooksFinish (worker k : ℕ) (job : Job) (list : List Symbol) (old new : DeskView) : Type 0 where
  pub number : ℕ
  pub is : IsNumberWhere (IsOutWith old.machine.entries k job) k number
  pub books : Books (Finish worker number list) old new

-- the entry is open again, where it was out
pub record BooksBack (worker k : ℕ) (old new : DeskView) : Type 0 where
  pub number : ℕ
  pub is : IsNumberWhere (HasState old.machine k Out) k number
  pub books : Books (Back worker number) old new
