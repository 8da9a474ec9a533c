-- Which texts are checkpoint texts.
use Rattle.std.specs.Prelude.{◌⊎◌, ◌≤◌, length}
use Rattle.dd_check.specs.declared.checkpoint.Checkpoint.{Checkpoint}
use Rattle.dd_check.specs.Texts.{Text}
use Rattle.dd_check.specs.Checks.{StandsFor, OldStandsFor}
use Rattle.dd_check.specs.Places.{IsPlace, IsOldPlace}

-- at most 4,096 bytes
abbrev pub IsShortText : Text → Type 0
IsShortText text = length text ≤ 4096

-- a text of version 2 with numbers in range and a position that is not refused
pub record IsNewCheckpoint (text : Text) (c : Checkpoint) : Type 0 where
  pub short : IsShortText text
  pub stands : StandsFor text c
  pub place : IsPlace c.request c.at

-- the same of version 1
pub record IsOldCheckpoint (text : Text) (c : Checkpoint) : Type 0 where
  pub short : IsShortText text
  pub stands : OldStandsFor text c
  pub place : IsOldPlace c.request c.at

-- a checkpoint text: it is of one of the two versions, with numbers in range and a position that is not refused
abbrev pub IsCheckpointText : Text → Checkpoint → Type 0
IsCheckpointText text c = IsNewCheckpoint text c ⊎ IsOldCheckpoint text c
