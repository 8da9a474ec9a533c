-- Chains of calls, each of which goes on from what the one before left, and the bytes that they make together.
use Rattle.std.specs.Prelude.{◌≡◌, ◌⊎◌, List, [], ◌∷◌, ◌++◌, Option, None, Some, take}
use Rattle.dd_model.specs.Request.{IsValid}
use Rattle.dd_front_jobs.specs.declared.portions.Portion.{Portion}
use Rattle.dd_check.specs.declared.checkpoint.Checkpoint.{Checkpoint}
use Rattle.dd_check.specs.Texts.{Text}
use Rattle.dd_check.specs.declared.checkpoint.ResumeKind.{ResumeKind}
use Rattle.dd_check.specs.Calls.{kind_of, Task, Begin, Resume, Ending, Call}
use Rattle.dd_check.specs.ChainStarts.{Holds, HoldsKind, Start, StartsAt}
use Rattle.dd_check.specs.Clauses.{HasWorked}

-- the call goes on under the name from what it holds
pub record IsResumed (kind : ResumeKind) (name : Text) (held : Option Text) (call : Call) : Type 0 where
  pub task : call.task ≡ Resume kind name
  pub before : call.before ≡ held

-- each call goes on from what the one before left
abbrev pub AreResumed : ResumeKind → Text → Option Text → List Call → Type 0
AreResumed kind name held [] = Unit {0}
AreResumed kind name held (call ∷ calls) = IsResumed kind name held call × AreResumed kind name call.after calls

-- the calls after the first; a first call without a name is a chain by itself
abbrev pub AreLater : ResumeKind → Option Text → Option Text → List Call → Type 0
AreLater kind None held calls = calls ≡ []
AreLater kind (Some name) held calls = AreResumed kind name held calls

-- a call for a portion of a valid request, and calls that go on from it
pub record IsChainFrom (p : Portion) (name : Option Text) (call : Call) (calls : List Call) : Type 0 where
  pub valid : IsValid p.request
  pub task : call.task ≡ Begin p name
  pub later : AreLater (kind_of p.shard) name call.after calls

abbrev pub IsChain : Portion → Option Text → List Call → Type 0
IsChain p name [] = ⊥
IsChain p name (call ∷ calls) = IsChainFrom p name call calls

-- the texts that a call leaves and the next one goes on from
abbrev pub kind_of_task : Task → ResumeKind
kind_of_task (Begin p name) = kind_of p.shard
kind_of_task (Resume kind name) = kind

-- The name held no checkpoint text of the calls' kind before the first call, or this call wrote a byte or came to its
-- end or to a pause.
abbrev pub HasBegun : List Call → Type 0
HasBegun [] = ⊥
HasBegun (call ∷ calls) = (HoldsKind (kind_of_task call.task) call.before → ⊥) ⊎ HasWorked call

-- how the last call ended
abbrev pub EndsAs : List Call → Ending → Type 0
EndsAs [] ending = ⊥
EndsAs (call ∷ []) ending = call.ending ≡ ending
EndsAs (call ∷ next ∷ calls) ending = EndsAs (next ∷ calls) ending

-- what the name holds after the last call
abbrev pub held_after : List Call → Option Text
held_after [] = None
held_after (call ∷ []) = call.after
held_after (call ∷ next ∷ calls) = held_after (next ∷ calls)

-- after the call the name holds a checkpoint text of its portion with the number of its run
pub record Leaves (call : Call) (c : Checkpoint) : Type 0 where
  pub start : Start
  pub starts : StartsAt call start
  pub holds : Holds start.portion.shard call.after c
  pub number : c.run ≡ start.number

-- what a call that is not the last gives: as many bytes as its checkpoint says, or nothing where it left none
abbrev pub IsPart : Call → Text → Type 0
IsPart call part = ((c : Checkpoint) × Leaves call c × (part ≡ take c.bytes call.output)) ⊎ (((c : Checkpoint) → Leaves call c → ⊥) × (part ≡ []))

-- the parts in order, and last all that the last call wrote
abbrev pub IsJoined : List Call → Text → Type 0
IsJoined [] bytes = bytes ≡ []
IsJoined (call ∷ []) bytes = bytes ≡ call.output
IsJoined (call ∷ next ∷ calls) bytes = (part : Text) × (rest : Text) × IsPart call part × IsJoined (next ∷ calls) rest × (bytes ≡ part ++ rest)
