-- Steps of a run that keeps checkpoints.
use Rattle.std.specs.Prelude.{◌≡◌, ◌≤◌, zero, suc, ℕ, List, [], Bool, true, Option, Some, None, Result, Ok, Err}
use Rattle.dd_front.specs.Machine.{Machine}
use Rattle.dd_front.specs.Rounds.{open_jobs}
use Rattle.dd_front.specs.Step.{Emits, EmitsPart}
use Rattle.dd_check.specs.Clauses.{HasWork}
use Rattle.dd_check.specs.ChainStarts.{Start}
use Rattle.dd_pages_and_checkpoints.specs.Rounds.{AreOpen}
use Rattle.dd_pages_and_checkpoints.specs.Names.{HasRun}
use Rattle.dd_pages_and_checkpoints.specs.declared.fault.RunFault.{RunFault}
use Rattle.dd_pages_and_checkpoints.specs.declared.pages.Page.{Page}
use Rattle.dd_catalogue_rounds.specs.Ways.{Way}
use Rattle.dd_catalogue_rounds.specs.declared.after_round.AfterRound.{AfterRound}
use Rattle.dd_catalogue_rounds.specs.declared.after_round.AfterRound.TheVariants.{Next, Ended}
use Rattle.dd_catalogue_rounds.specs.Kept.{IsMid, IsHead}

-- some entries left that have no member to emit
abbrev pub AreEmptied : ℕ → Machine → Machine → Type 0
AreEmptied zero f g = g ≡ f
AreEmptied (suc n) f g = (h : Machine) × AreEmptied n f h × Emits h g []

-- all that are done have left
pub record IsPastEmpty (f g : Machine) : Type 0 where
  pub count : ℕ
  pub emptied : AreEmptied count f g
  pub opens : AreOpen g.entries

-- the machine stands at the next member
pub record IsAtNext (f g : Machine) : Type 0 where
  pub count : ℕ
  pub ready : Machine
  pub emptied : AreEmptied count f ready
  pub part : EmitsPart ready 0 g []

-- what a step of a run leaves: it goes on, or it has come to an end
abbrev pub Leaves : Start → ℕ → Option ℕ → Bool → Option (List ℕ) → Option (List ℕ) → Option (List ℕ) → Option (List ℕ) → Page → Machine → Result AfterRound RunFault → Type 0
Leaves s most pause tells old before held now page f (Ok (Next here)) = IsHead s most tells here old before held now page f
Leaves s most pause tells old before held now page f (Ok (Ended finish)) = HasRun s most pause old now tells before held (Ok finish)
Leaves s most pause tells old before held now page f (Err fault) = HasRun s most pause old now tells before held (Err fault)

-- what follows a step that puts the checkpoint of a member: the lines of its round, or what a step leaves
pub record GoesOnHere (w : Way) (tells : Bool) (old before held now : Option (List ℕ)) (page : Page) (f : Machine) : Type 0 where
  pub way : Way
  pub start_is : way.start ≡ w.start
  pub most_is : way.most ≡ w.most
  pub mid : IsMid way tells true old before held now page f

abbrev pub LeavesMember : Way → Option ℕ → Bool → Option (List ℕ) → Option (List ℕ) → Option (List ℕ) → Option (List ℕ) → Page → Machine → Result (Option AfterRound) RunFault → Type 0
LeavesMember w pause tells old before held now page f (Ok None) = GoesOnHere w tells old before held now page f
LeavesMember w pause tells old before held now page f (Ok (Some step)) = Leaves w.start w.most pause tells old before held now page f (Ok step)
LeavesMember w pause tells old before held now page f (Err fault) = Leaves w.start w.most pause tells old before held now page f (Err fault)

-- some run is in the midst of a round
pub record IsSomeMid (s : Start) (here : Bool) (now : Option (List ℕ)) (page : Page) (f : Machine) : Type 0 where
  pub way : Way
  pub start_is : way.start ≡ s
  pub work : HasWork s
  pub tells : Bool
  pub old : Option (List ℕ)
  pub before : Option (List ℕ)
  pub held : Option (List ℕ)
  pub mid : IsMid way tells here old before held now page f

-- where a run goes on, as many jobs wait as before
abbrev pub StillWait : AfterRound → Machine → Machine → Type 0
StillWait (Next here) f g = open_jobs g.entries ≡ open_jobs f.entries
StillWait (Ended finish) f g = Unit {0}

abbrev pub IsNextStep : AfterRound → Type 0
IsNextStep (Next here) = Unit {0}
IsNextStep (Ended finish) = ⊥

-- where a run goes on, no line came after the last one
abbrev pub IsWithin : Page → ℕ → AfterRound → Type 0
IsWithin page last (Next here) = page.count ≤ last
IsWithin page last (Ended finish) = Unit {0}
