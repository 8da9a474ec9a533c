-- Where the run begins that words ask for. Bytes are what was fetched: where the store tells, what it holds.
use Rattle.std.specs.Prelude.{◌≡◌, ℕ, List, Option, Bool}
use Rattle.dd_front_jobs.specs.declared.shards.Shard.{Shard}
use Rattle.dd_check.specs.declared.checkpoint.Checkpoint.{Checkpoint}
use Rattle.dd_check.specs.declared.faults.ShardFault.{ShardFault}
use Rattle.dd_check.specs.ShardChecks.{IsAcceptedText}
use Rattle.dd_check.specs.ShardFaults.{HasKindFault}
use Rattle.dd_check.specs.declared.checkpoint.ResumeKind.{ResumeKind}
use Rattle.dd_check.specs.Calls.{kind_of, Task, Begin, Resume}
use Rattle.dd_check.specs.ChainStarts.{Start, first_start, next_start}
use Rattle.dd_suite_tasks.specs.Held.{AreFetched}
use Rattle.dd_suite_tasks.specs.Words.{AskToResume}

-- a name holds a checkpoint text of these values, whoever wrote it: of a catalogue, or of the shard if there is one
pub record HoldsCheck (shard : Option Shard) (tells : Bool) (held : Option (List ℕ)) (c : Checkpoint) : Type 0 where
  pub bytes : List ℕ
  pub fetched : AreFetched tells held bytes
  pub accepted : IsAcceptedText shard bytes c

-- a name holds a checkpoint text of this kind
pub record HoldsSomeCheck (kind : ResumeKind) (tells : Bool) (held : Option (List ℕ)) : Type 0 where
  pub shard : Option Shard
  pub kind_is : kind_of shard ≡ kind
  pub check : Checkpoint
  pub holds : HoldsCheck shard tells held check

-- a name holds a text with this fault, which is no checkpoint text of the kind
pub record HoldsNoCheck (kind : ResumeKind) (tells : Bool) (held : Option (List ℕ)) (fault : ShardFault) : Type 0 where
  pub bytes : List ℕ
  pub fetched : AreFetched tells held bytes
  pub faulty : HasKindFault kind bytes fault

-- the run after the one of a checkpoint text that a name holds
pub record BeginsNext (kind : ResumeKind) (tells : Bool) (held : Option (List ℕ)) (start : Start) : Type 0 where
  pub held_is : HoldsSomeCheck kind tells held
  pub start_is : start ≡ next_start held_is.shard held_is.check

-- A catalogue or a shard begins at its beginning, and a run that goes on where the checkpoint says that the name holds.
abbrev pub BeginsAt : Task → Bool → (List ℕ → Option (List ℕ)) → Start → Type 0
BeginsAt (Begin p name) tells held start = start ≡ first_start p
BeginsAt (Resume kind name) tells held start = BeginsNext kind tells (held name) start

-- the task goes on from a name that holds a text with this fault
abbrev pub IsCheckRefused : Task → Bool → (List ℕ → Option (List ℕ)) → ShardFault → Type 0
IsCheckRefused (Begin p name) tells held fault = ⊥
IsCheckRefused (Resume kind name) tells held fault = HoldsNoCheck kind tells (held name) fault

-- the words go on from such a name
pub record NameNoCheck (words : List (List ℕ)) (tells : Bool) (held : List ℕ → Option (List ℕ)) (fault : ShardFault) : Type 0 where
  pub kind : ResumeKind
  pub name : List ℕ
  pub asked : AskToResume words kind name
  pub holds : HoldsNoCheck kind tells (held name) fault
