-- What a run leaves under its name.
use Rattle.std.specs.Prelude.{◌≡◌, ◌≢◌, ◌⊎◌, ◌<◌, ℕ, List, [], Option, Result, IsOk, IfOk, Bool, true, length}
use Rattle.dd_model.specs.declared.jobs.Position.TheVariants.{End}
use Rattle.dd_check.specs.declared.checkpoint.Checkpoint.{Checkpoint}
use Rattle.dd_check.specs.Clauses.{HasWork}
use Rattle.dd_check.specs.ChainPuts.{IsPut, IsNextMember}
use Rattle.dd_check.specs.ChainStarts.{Start}
use Rattle.dd_pages_and_checkpoints.specs.declared.fault.RunFault.{RunFault}
use Rattle.dd_pages_and_checkpoints.specs.declared.finish.Finish.{Finish}
use Rattle.dd_pages_and_checkpoints.specs.declared.finish.Finish.TheVariants.{Whole, Paused, CutShort}
use Rattle.dd_pages_and_checkpoints.specs.Outputs.{IsOutput}
use Rattle.dd_pages_and_checkpoints.specs.MostLines.{most_lines}
use Rattle.dd_pages_and_checkpoints.specs.Runs.{IsPause}
use Rattle.dd_pages_and_checkpoints.specs.Saves.{IsOfRound}

-- the name holds what it held
pub record KeepsName (s : Start) (round : ℕ) (before after : Option (List ℕ)) (output : List ℕ) : Type 0 where
  pub same : after ≡ before
  pub of_round : IsOfRound s round s.at output

-- the name holds a checkpoint of the run
pub record PutsCheck (s : Start) (round : ℕ) (after : Option (List ℕ)) (output : List ℕ) : Type 0 where
  pub check : Checkpoint
  pub put : IsPut after output s check
  pub of_round : IsOfRound s round check.at output

-- it tells all of the output, and nothing is left after it
pub record PutsAtEnd (s : Start) (after : Option (List ℕ)) (output : List ℕ) : Type 0 where
  pub check : Checkpoint
  pub put : IsPut after output s check
  pub all : check.bytes ≡ length output
  pub at_end : check.at ≡ End

-- it tells all of the output, and goes on at a member
pub record PutsAtPause (s : Start) (pause : Option ℕ) (after : Option (List ℕ)) (output : List ℕ) : Type 0 where
  pub check : Checkpoint
  pub put : IsPut after output s check
  pub pause_is : IsPause s.lines pause check.lines
  pub all : check.bytes ≡ length output
  pub next : IsNextMember s.portion check.at

-- it has fewer lines than there may be
pub record PutsBeforeLast (s : Start) (after : Option (List ℕ)) (output : List ℕ) : Type 0 where
  pub check : Checkpoint
  pub put : IsPut after output s check
  pub before_last : check.lines < most_lines

-- What an end of the run's own leaves. A run that is cut short leaves what the name held, or a checkpoint that was put before its last line.
abbrev pub FinishesName : Start → Option ℕ → Option (List ℕ) → Option (List ℕ) → List ℕ → Finish → Type 0
FinishesName s pause before after output Whole = HasWork s → PutsAtEnd s after output
FinishesName s pause before after output Paused = PutsAtPause s pause after output
FinishesName s pause before after output CutShort = (after ≡ before) ⊎ PutsBeforeLast s after output

-- What a run leaves under its name. The first run of a chain has put a checkpoint before its first byte. A later one that has no
-- work leaves the name as it was, whatever stopped it.
pub record LeavesName (s : Start) (round : ℕ) (pause : Option ℕ) (before after : Option (List ℕ)) (result : Result Finish RunFault) (output : List ℕ) : Type 0 where
  pub held : KeepsName s round before after output ⊎ PutsCheck s round after output
  pub first : s.number ≡ 1 → (output ≢ []) ⊎ IsOk result → PutsCheck s round after output
  pub idle : s.number ≢ 1 → (¬ HasWork s) → after ≡ before
  pub finish : IfOk result (FinishesName s pause before after output)

-- What a run wrote, and what it left under its name as far as the store tells.
pub record HasRun (s : Start) (round : ℕ) (pause : Option ℕ) (old new : Option (List ℕ)) (tells : Bool) (before after : Option (List ℕ)) (result : Result Finish RunFault) : Type 0 where
  pub output : List ℕ
  pub is_output : IsOutput s pause old new result output
  pub left : tells ≡ true → LeavesName s round pause before after result output
