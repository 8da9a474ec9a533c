-- Which fault a text has.
use Rattle.std.specs.Prelude.{◌⊎◌, ◌<◌, length}
use Rattle.dd_check.specs.declared.checkpoint.Checkpoint.{Checkpoint}
use Rattle.dd_check.specs.declared.faults.CheckFault.{CheckFault}
use Rattle.dd_check.specs.declared.faults.CheckFault.TheVariants.{Version, Shape, Range, Position, Long, Memory}
use Rattle.dd_check.specs.Texts.{Text, lines_of}
use Rattle.dd_check.specs.Faults.{IsNew, IsOld, IsOfNoVersion, IsLineFault, IsOldLineFault}
use Rattle.dd_check.specs.Accepted.{IsShortText}
use Rattle.dd_check.specs.Places.{IsPlace, IsOldPlace}
use Rattle.dd_check.specs.Checks.{StandsFor, OldStandsFor}

-- the values of the text are in range, and its position is refused
pub record IsMisplaced (text : Text) (c : Checkpoint) : Type 0 where
  pub stands : StandsFor text c
  pub refused : IsPlace c.request c.at → ⊥

pub record IsOldMisplaced (text : Text) (c : Checkpoint) : Type 0 where
  pub stands : OldStandsFor text c
  pub refused : IsOldPlace c.request c.at → ⊥

-- the text is of a version, and of its lines the first that is not of its form or out of range has the fault
abbrev pub HasLineFault : Text → CheckFault → Type 0
HasLineFault text fault = (IsNew (lines_of text) × IsLineFault (lines_of text) fault) ⊎ (IsOld (lines_of text) × IsOldLineFault (lines_of text) fault)

-- The text has the fault. Want of memory is no fault of a text.
abbrev pub HasFault : Text → CheckFault → Type 0
HasFault text Long = 4096 < length text
HasFault text Version = IsShortText text × IsOfNoVersion (lines_of text)
HasFault text (Shape k) = IsShortText text × HasLineFault text (Shape k)
HasFault text (Range k) = IsShortText text × HasLineFault text (Range k)
HasFault text Position = IsShortText text × ((c : Checkpoint) × (IsMisplaced text c ⊎ IsOldMisplaced text c))
HasFault text Memory = ⊥
