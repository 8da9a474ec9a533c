-- The values of checkpoint texts are such that a run may go on from them.
use Rattle.std.proofs.Common.{◌≤◌, ◌*◌, ℕ, List, length, Option, None, Some, inl, inr, arith}
use Rattle.dd_model.specs.Request.{IsValid}
use Rattle.dd_model.specs.Position.{IsPosition}
use Rattle.dd_model.specs.declared.requests.Request.{Request}
use Rattle.dd_model.specs.declared.jobs.Job.{Job}
use Rattle.dd_model.specs.declared.jobs.Position.{Position}
use Rattle.dd_model.specs.declared.jobs.Position.TheVariants.{At, End}
use Rattle.dd_front_jobs.specs.Opening.{IsOpeningJob}
use Rattle.dd_check.specs.declared.checkpoint.Checkpoint.{Checkpoint}
use Rattle.dd_check.specs.Accepted.{IsCheckpointText}
use Rattle.dd_front_jobs.specs.declared.shards.Shard.{Shard}
use Rattle.dd_check.specs.ShardChecks.{IsAcceptedText}
use Rattle.dd_check.specs.Checks.{AreCountsInRange}
use Rattle.dd_check.specs.Places.{IsPlace, IsOldPlace}

pub check_valid : (text : List ℕ) (c : Checkpoint) → IsCheckpointText text c → IsValid c.request
check_valid text c (inl is) = is.stands.valid
check_valid text c (inr is) = is.stands.valid

pub check_counts : (text : List ℕ) (c : Checkpoint) → IsCheckpointText text c → AreCountsInRange c
check_counts text c (inl is) = is.stands.counts
check_counts text c (inr is) = is.stands.counts

opening_position : (q : Request) (job : Job) → IsOpeningJob q job → length job.prefix ≤ 5 * job.size
opening_position q job is = let e = is.numbers in omega (arith, e)

place_position : (q : Request) (at : Position) → IsPlace q at → IsPosition at
place_position q End is = tt
place_position q (At job) (inl opening) = opening_position q job opening
place_position q (At job) (inr whole) = let e = whole.whole in omega (arith, e)

old_position : (q : Request) (at : Position) → IsOldPlace q at → IsPosition at
old_position q End is = tt
old_position q (At job) is = opening_position q job is

pub check_position : (text : List ℕ) (c : Checkpoint) → IsCheckpointText text c → IsPosition c.at
check_position text c (inl is) = place_position c.request c.at is.place
check_position text c (inr is) = old_position c.request c.at is.place

-- the text of a catalogue's checkpoint, and what comes after the line of a shard
pub saved_check : (shard : Option Shard) (text : List ℕ) (c : Checkpoint) → IsAcceptedText shard text c → (check : List ℕ) × IsCheckpointText check c
saved_check None text c is = (text, is)
saved_check (Some shard) text c is = (is.check, is.accepted)
