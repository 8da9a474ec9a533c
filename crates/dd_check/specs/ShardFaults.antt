-- Why a text is no text of a shard.
use Rattle.std.specs.Prelude.{◌≡◌, ◌++◌, ℕ, ◌+◌, List, codes}
use Rattle.dd_front_jobs.specs.declared.shards.Shard.{Shard}
use Rattle.dd_check.specs.declared.checkpoint.Checkpoint.{Checkpoint}
use Rattle.dd_check.specs.declared.faults.CheckFault.{CheckFault}
use Rattle.dd_check.specs.declared.checkpoint.ResumeKind.{ResumeKind}
use Rattle.dd_check.specs.declared.checkpoint.ResumeKind.TheVariants.{Catalogues, Shards}
use Rattle.dd_check.specs.declared.faults.ShardFault.{ShardFault}
use Rattle.dd_check.specs.declared.faults.ShardFault.TheVariants.{First, Check, Other, Memory}
use Rattle.dd_check.specs.Texts.{Text}
use Rattle.dd_check.specs.Accepted.{IsCheckpointText}
use Rattle.dd_check.specs.Messages.{check_fault_text}
use Rattle.dd_check.specs.Refusals.{HasFault}
use Rattle.dd_check.specs.ShardChecks.{shard_line, IsShardPlace}

-- what comes before the numbers of a shard
abbrev pub shard_words : Text
shard_words = codes "dressline shard "

-- the bytes are the digits of the shard's numbers
pub record AreDigits (shard : Shard) (index count : ℕ) : Type 0 where
  pub index_is : index ≡ 48 + shard.index
  pub count_is : count ≡ 48 + shard.count

-- the text after the line of the shard
abbrev pub IsRest : Shard → Text → Text → Type 0
IsRest shard text rest = text ≡ shard_line shard ++ rest

-- what comes after the line of some shard has the fault
pub record HasRestFault (text : Text) (fault : CheckFault) : Type 0 where
  pub shard : Shard
  pub rest : Text
  pub rest_is : IsRest shard text rest
  pub faulty : HasFault rest fault

-- what comes after it is a checkpoint text, of which the position is not one of the shard
pub record IsOfOtherShard (text : Text) : Type 0 where
  pub shard : Shard
  pub rest : Text
  pub rest_is : IsRest shard text rest
  pub check : Checkpoint
  pub accepted : IsCheckpointText rest check
  pub refused : IsShardPlace check.request shard check.at → ⊥

-- The text has the fault. Out of memory is no fault of a text.
abbrev pub HasShardFault : Text → ShardFault → Type 0
HasShardFault text First = (shard : Shard) (rest : Text) → IsRest shard text rest → ⊥
HasShardFault text (Check fault) = HasRestFault text fault
HasShardFault text Other = IsOfOtherShard text
HasShardFault text Memory = ⊥

-- the text has the fault, as one that runs of the kind go on from
abbrev pub HasKindFault : ResumeKind → Text → ShardFault → Type 0
HasKindFault Catalogues text (Check fault) = HasFault text fault
HasKindFault Catalogues text fault = ⊥
HasKindFault Shards text fault = HasShardFault text fault

-- the fault that is returned, unless an allocation failed
abbrev pub IsReturnedFault : Text → ShardFault → Type 0
IsReturnedFault text fault = (fault ≡ Memory → ⊥) → HasShardFault text fault

-- why a text is no text of a shard
abbrev pub shard_fault_text : ShardFault → List ℕ
shard_fault_text First = codes "shard"
shard_fault_text (Check fault) = check_fault_text fault
shard_fault_text Other = codes "other shard"
shard_fault_text Memory = codes "out of memory"
