-- The first bytes of what a name holds do for the whole text of a shard.
use Rattle.std.proofs.Common.{◌≡◌, ℕ, List, ◌++◌, Option, None, Some, Bool}
use Rattle.dd_front_jobs.specs.declared.shards.Shard.{Shard}
use Rattle.dd_check.specs.declared.checkpoint.Checkpoint.{Checkpoint}
use Rattle.dd_check.specs.declared.checkpoint.ResumeKind.TheVariants.{Shards}
use Rattle.dd_check.specs.Calls.{kind_of}
use Rattle.dd_check.specs.ShardChecks.{IsAcceptedText}
use Rattle.dd_check.proofs.KindFaults.{whole_read, whole_faulty}
use Rattle.dd_suite_tasks.specs.declared.ending.Ending.{Ending}
use Rattle.dd_suite_tasks.specs.declared.ending.Ending.TheVariants.{Done, Usage, Refused, RefusedSymbol, RefusedCheck, RefusedMerge, Paused, StoreFault, SinkFault, Memory, TooManyLines}
use Rattle.dd_suite_tasks.specs.Beginnings.{HoldsCheck}
use Rattle.dd_suite_tasks.specs.Merges.{IsFetchedFront}
use Rattle.dd_suite_tasks.specs.Outcomes.{IsReadStop, IsHeldStop}
use Rattle.dd_check.proofs.ChainParts.{other_kind}

pub front_check : (tells : Bool) (held : Option (List ℕ)) (front : List ℕ) (shard : Option Shard) (c : Checkpoint) → IsFetchedFront tells held 8192 front → kind_of shard ≡ Shards
    → IsAcceptedText shard front c → HoldsCheck shard tells held c
front_check tells held front None c f kind is = absurd (other_kind kind)
front_check tells held front (Some shard) c f kind is = record { bytes = front ++ f.rest; fetched = f.fetched; accepted = whole_read shard front f.rest c f.whole is }

pub front_stop : (ending : Ending) (tells : Bool) (held : Option (List ℕ)) (front : List ℕ) (before now : ℕ) → IsFetchedFront tells held 8192 front → IsReadStop Shards front ending
    → IsHeldStop Shards ending tells held before now
front_stop (RefusedCheck fault) tells held front before now f is = record { bytes = front ++ f.rest; fetched = f.fetched; faulty = whole_faulty front f.rest fault f.whole is }
front_stop Memory tells held front before now f is = tt
front_stop Done tells held front before now f is = absurd is
front_stop Usage tells held front before now f is = absurd is
front_stop (Refused fault) tells held front before now f is = absurd is
front_stop (RefusedSymbol refusal) tells held front before now f is = absurd is
front_stop (RefusedMerge refusal) tells held front before now f is = absurd is
front_stop (Paused lines) tells held front before now f is = absurd is
front_stop StoreFault tells held front before now f is = absurd is
front_stop SinkFault tells held front before now f is = absurd is
front_stop TooManyLines tells held front before now f is = absurd is
