-- An accepted text has no fault, and the first bytes of a text of a shard do for the whole.
use Rattle.std.proofs.Common.{◌≡◌, ◌+◌, ◌<◌, ◌≤◌, [], ◌∷◌, ◌++◌, length, length-append, append_assoc, Option, None, Some, refl, sym, ap, ◌∙◌, subst, inl, inr, ⊎_elim, arith}
use Rattle.std.proofs.lemmas.Bool.{cases_lt}
use Rattle.std.proofs.lemmas.List.{append-nil}
use Rattle.dd_model.proofs.Lists.{cons_head, cons_tail}
use Rattle.dd_front_jobs.specs.declared.shards.Shard.{Shard}
use Rattle.dd_check.specs.declared.checkpoint.Checkpoint.{Checkpoint}
use Rattle.dd_check.specs.declared.faults.CheckFault.TheVariants.{Long}
use Rattle.dd_check.specs.declared.faults.ShardFault.{ShardFault}
use Rattle.dd_check.specs.declared.faults.ShardFault.TheVariants.{First, Check, Other, Memory}
use Rattle.dd_check.specs.Texts.{Text}
use Rattle.dd_check.specs.Accepted.{IsCheckpointText}
use Rattle.dd_check.specs.Calls.{kind_of}
use Rattle.dd_check.specs.Refusals.{HasFault}
use Rattle.dd_check.specs.ShardChecks.{shard_line, IsShardPlace, IsShardCheckpoint, IsAcceptedText}
use Rattle.dd_check.specs.ShardFaults.{IsRest, HasShardFault, HasKindFault}
use Rattle.dd_check.proofs.Exclusion.{one_checkpoint, no_fault}
use Rattle.dd_check.proofs.FaultOnce.{one_fault}
use Rattle.dd_check.proofs.ShardTexts.{one_line}
use Rattle.dd_check.proofs.ShardReads.{line_length}

no_shard_fault : (shard : Shard) (text : Text) (c : Checkpoint) (fault : ShardFault) → IsShardCheckpoint shard text c → HasShardFault text fault → ⊥
no_shard_fault shard text c First is h = h shard is.check is.text_is
no_shard_fault shard text c (Check f) is h =
    let same = one_line shard h.shard is.check h.rest (sym is.text_is ∙ h.rest_is) in
    no_fault is.check c f is.accepted (subst (λ t. HasFault t f) (sym same.1) h.faulty)
no_shard_fault shard text c Other is h =
    let same = one_line shard h.shard is.check h.rest (sym is.text_is ∙ h.rest_is) in
    let one : c ≡ h.check = one_checkpoint is.check c h.check is.accepted (subst (λ t. IsCheckpointText t h.check) (sym same.1) h.accepted) in
    h.refused (subst (λ k. IsShardPlace k.request h.shard k.at) one (subst (λ s. IsShardPlace c.request s c.at) same.0 is.place))
no_shard_fault shard text c Memory is h = absurd h

-- a text that is accepted has no fault
pub no_kind_fault : (shard : Option Shard) (text : Text) (c : Checkpoint) (fault : ShardFault) → IsAcceptedText shard text c → HasKindFault (kind_of shard) text fault → ⊥
no_kind_fault None text c (Check f) is h = no_fault text c f is h
no_kind_fault None text c First is h = absurd h
no_kind_fault None text c Other is h = absurd h
no_kind_fault None text c Memory is h = absurd h
no_kind_fault (Some shard) text c fault is h = no_shard_fault shard text c fault is h

-- ## The first bytes

short_check : (text : Text) (c : Checkpoint) → IsCheckpointText text c → length text ≤ 4096
short_check text c (inl new) = new.short
short_check text c (inr old) = old.short

rest_length : (shard : Shard) (text rest : Text) → IsRest shard text rest → length text ≡ 20 + length rest
rest_length shard text rest is = ap length is ∙ line_length shard rest

-- a list that begins with another one as long as it or shorter
begins_with : (front rest line tail : Text) → front ++ rest ≡ line ++ tail → length line ≤ length front → (more : Text) × (front ≡ line ++ more)
begins_with front rest [] tail e low = (front, refl)
begins_with [] rest (b ∷ line) tail e low = absurd (omega arith)
begins_with (a ∷ front) rest (b ∷ line) tail e low =
    let more = begins_with front rest line tail (cons_tail a b (front ++ rest) (line ++ tail) e) (omega (arith, low)) in
    (more.0, λ i. cons_head a b (front ++ rest) (line ++ tail) e i ∷ more.1 i)

-- the first bytes are accepted only if they are all
pub whole_read : (shard : Shard) (front rest : Text) (c : Checkpoint) → (length front < 8192 → rest ≡ []) → IsShardCheckpoint shard front c → IsShardCheckpoint shard (front ++ rest) c
whole_read shard front rest c whole is =
    let n = rest_length shard front is.check is.text_is in
    let low = short_check is.check c is.accepted in
    let all : front ++ rest ≡ front = ap (λ ys. front ++ ys) (whole (omega (arith, n, low))) ∙ append-nil front in
    subst (λ t. IsShardCheckpoint shard t c) (sym all) is

-- so many bytes have the fault of the whole
long_faulty : (front rest : Text) (fault : ShardFault) → 8192 ≤ length front → HasShardFault front fault → HasShardFault (front ++ rest) fault
long_faulty front rest First long none = λ shard tail is.
    let line = line_length shard [] in
    let same = ap length (append-nil (shard_line shard)) in
    let more = begins_with front rest (shard_line shard) tail is (omega (arith, line, same, long)) in
    none shard more.0 more.1
long_faulty front rest (Check f) long h =
    let n = rest_length h.shard front h.rest h.rest_is in
    let f_is : Long ≡ f = one_fault h.rest Long f (omega (arith, n, long)) h.faulty in
    let both = length-append h.rest rest in
    record {
      shard = h.shard;
      rest = h.rest ++ rest;
      rest_is = ap (λ t. t ++ rest) h.rest_is ∙ append_assoc (shard_line h.shard) h.rest rest;
      faulty = subst (HasFault (h.rest ++ rest)) f_is (omega (arith, n, long, both));
    }
long_faulty front rest Other long h =
    let n = rest_length h.shard front h.rest h.rest_is in
    let low = short_check h.rest h.check h.accepted in
    absurd (omega (arith, n, low, long))
long_faulty front rest Memory long h = absurd h

pub whole_faulty : (front rest : Text) (fault : ShardFault) → (length front < 8192 → rest ≡ []) → HasShardFault front fault → HasShardFault (front ++ rest) fault
whole_faulty front rest fault whole h = ⊎_elim
    (λ (low : length front < 8192). subst (λ t. HasShardFault t fault) (sym (ap (λ ys. front ++ ys) (whole low) ∙ append-nil front)) h)
    (λ (long : 8192 ≤ length front). long_faulty front rest fault long h)
    (cases_lt (length front) 8192)
