-- What went out of a run under way, whatever stopped it.
use Rattle.std.specs.Prelude.{ℕ, List, Option}
use Rattle.dd_model.specs.Symbol.{Symbol}
use Rattle.dd_front.specs.Held.{IsHeld}
use Rattle.dd_front.specs.Machine.{Machine}
use Rattle.dd_pages_and_checkpoints.specs.Pages.{IsFrontOut}
use Rattle.dd_pages_and_checkpoints.specs.declared.pages.Page.{Page}
use Rattle.dd_catalogue_rounds.specs.Works.{AreWithin, CoverRest}
use Rattle.dd_catalogue_rounds.specs.Ways.{Way, AreRecent, IsUnderWay}

-- what went out since the start is a front of the lines of what a machine has emitted
pub record IsPartOut (w : Way) (now : Option (List ℕ)) : Type 0 where
  pub machine : Machine
  pub members : List Symbol
  pub work : AreWithin w.start.portion w.jobs
  pub covers : CoverRest w.start.portion w.start.at w.jobs
  pub held : IsHeld w.start.portion.request w.jobs w.start.at machine members
  pub recent : AreRecent w members
  pub out : IsFrontOut w.start.lines w.base w.known now members

-- Whatever was under way has such a front written.
abbrev pub WritesPart : Option (List ℕ) → Option (List ℕ) → Page → Machine → Type 0
WritesPart before now old f = (w : Way) → IsUnderWay w before old f → IsPartOut w now

-- some run is under way
pub record IsAny (now : Option (List ℕ)) (page : Page) (f : Machine) : Type 0 where
  pub any : Way
  pub way : IsUnderWay any now page f
