-- A name holds one checkpoint of a kind, a call has one start, and a chain one text.
use Rattle.std.proofs.Common.{◌≡◌, ◌⊎◌, List, [], ◌∷◌, ◌++◌, take, Option, Some, None, refl, sym, ap, ◌∙◌, subst, inl, inr, ⊎_elim}
use Rattle.dd_model.specs.Request.{IsValid}
use Rattle.dd_model.specs.declared.requests.Request.{Request}
use Rattle.dd_front_jobs.specs.declared.shards.Shard.{Shard}
use Rattle.dd_front_jobs.specs.declared.portions.Portion.{Portion}
use Rattle.dd_check.specs.declared.checkpoint.Checkpoint.{Checkpoint}
use Rattle.dd_check.specs.Texts.{Text}
use Rattle.dd_check.specs.Checks.{IsCheckText}
use Rattle.dd_check.specs.Accepted.{IsCheckpointText}
use Rattle.dd_check.specs.Places.{IsPlace}
use Rattle.dd_check.specs.Ranges.{IsInRange}
use Rattle.dd_check.specs.ShardChecks.{IsShardPlace, IsShardCheckpoint, IsSavedText, IsAcceptedText}
use Rattle.dd_check.proofs.Exclusion.{one_checkpoint}
use Rattle.dd_check.proofs.ShardTexts.{one_shard_text, shard_reads_or_not}
use Rattle.dd_check.specs.declared.checkpoint.ResumeKind.{ResumeKind}
use Rattle.dd_check.specs.declared.checkpoint.ResumeKind.TheVariants.{Catalogues, Shards}
use Rattle.dd_check.specs.Calls.{kind_of, Task, Begin, Resume, Call}
use Rattle.dd_check.specs.ChainStarts.{Holds, HoldsKind, Start, first_start, next_start, StartsNext, Starts, StartsAt}
use Rattle.dd_check.specs.ChainPuts.{DoCountsFit, IsStop, HasPut}
use Rattle.dd_check.specs.Chains.{kind_of_task, Leaves, IsPart, IsJoined}
use Rattle.dd_check.proofs.ReadingBack.{IsWritten, reads_or_not}
use Rattle.dd_check.proofs.ChainStops.{stop_place, stop_range, stop_in_shard}

same_text : (x y : Text) → Some x ≡ Some y → x ≡ y
same_text x y e = cc

pub other_kind : Catalogues ≡ Shards → ⊥
other_kind e = cc

-- a text is one of one shard, or of a catalogue, and of one checkpoint
pub one_accepted : (text : Text) (shard other : Option Shard) (c d : Checkpoint) → kind_of shard ≡ kind_of other → IsAcceptedText shard text c → IsAcceptedText other text d → (shard ≡ other) × (c ≡ d)
one_accepted text None None c d kind a b = (refl, one_checkpoint text c d a b)
one_accepted text None (Some other) c d kind a b = absurd (other_kind kind)
one_accepted text (Some shard) None c d kind a b = absurd (other_kind (sym kind))
one_accepted text (Some shard) (Some other) c d kind a b = let one = one_shard_text text shard other c d a b in (ap (λ s. Some s) one.0, one.1)

pub one_held : (held : Option Text) (shard other : Option Shard) (c d : Checkpoint) → kind_of shard ≡ kind_of other → Holds shard held c → Holds other held d → (shard ≡ other) × (c ≡ d)
one_held held shard other c d kind a b =
    one_accepted a.text shard other c d kind a.accepted (subst (λ t. IsAcceptedText other t d) (same_text b.text a.text (sym b.held_is ∙ a.held_is)) b.accepted)

pub starts_once : (task : Task) (held : Option Text) (s t : Start) → Starts task held s → Starts task held t → s ≡ t
starts_once (Begin p name) held s t a b = a ∙ sym b
starts_once (Resume kind name) held s t a b =
    let one = one_held held a.held.shard b.held.shard a.held.check b.held.check (a.held.kind_is ∙ sym b.held.kind_is) a.held.holds b.held.holds in
    a.start_is ∙ (λ i. next_start (one.0 i) (one.1 i)) ∙ sym b.start_is

pub one_start : (call : Call) (s t : Start) → StartsAt call s → StartsAt call t → s ≡ t
one_start call = starts_once call.task call.before

-- a call begins with a portion of its kind
pub start_kind : (task : Task) (held : Option Text) (s : Start) → Starts task held s → kind_of s.portion.shard ≡ kind_of_task task
start_kind (Begin p name) held s a = ap (λ (z : Start). kind_of z.portion.shard) a
start_kind (Resume kind name) held s a = ap (λ (z : Start). kind_of z.portion.shard) a.start_is ∙ a.held.kind_is

pub starts_first : (call : Call) (p : Portion) (name : Option Text) → call.task ≡ Begin p name → StartsAt call (first_start p)
starts_first call p name e = subst (λ t. Starts t call.before (first_start p)) (sym e) refl

pub starts_next : (call : Call) (name : Text) (shard : Option Shard) (c : Checkpoint) → call.task ≡ Resume (kind_of shard) name → Holds shard call.before c → StartsAt call (next_start shard c)
starts_next call name shard c e holds =
    subst (λ t. Starts t call.before (next_start shard c)) (sym e) (record { held = record { shard = shard; kind_is = refl; check = c; holds = holds }; start_is = refl })

-- a call that is to go on from nothing begins nowhere
pub starts_nowhere : (call : Call) (kind : ResumeKind) (name : Text) → call.task ≡ Resume kind name → (HoldsKind kind call.before → ⊥) → (s : Start) → StartsAt call s → ⊥
starts_nowhere call kind name e none s h = let r : Starts (Resume kind name) call.before s = subst (λ t. Starts t call.before s) e h in none r.held

-- what a call goes on from that goes on from a catalogue's text
pub catalogue_next : (held : Option Text) (s : Start) → StartsNext Catalogues held s → (c : Checkpoint) × Holds None held c × (s ≡ next_start None c)
catalogue_next held s is = go is.held.shard is.held.kind_is is.held.holds is.start_is
  where
    go : (shard : Option Shard) → kind_of shard ≡ Catalogues → Holds shard held is.held.check → s ≡ next_start shard is.held.check → (c : Checkpoint) × Holds None held c × (s ≡ next_start None c)
    go None kind holds e = (is.held.check, holds, e)
    go (Some shard) kind holds e = absurd (other_kind (sym kind))

-- no shard is named by what is of a catalogue
pub no_shard : (shard : Option Shard) → kind_of shard ≡ Catalogues → shard ≡ None
no_shard None kind = refl
no_shard (Some shard) kind = absurd (other_kind (sym kind))

-- where the name holds nothing of the kind, the call left nothing
pub leaves_none : (call : Call) → (HoldsKind (kind_of_task call.task) call.after → ⊥) → (c : Checkpoint) → Leaves call c → ⊥
leaves_none call never c l = never (record { shard = l.start.portion.shard; kind_is = start_kind call.task call.before l.start l.starts; check = c; holds = l.holds })

pub one_part : (call : Call) (x y : Text) → IsPart call x → IsPart call y → x ≡ y
one_part call x y (inl (c, l, e)) (inl (d, m, f)) =
    let kind = ap (λ (z : Start). kind_of z.portion.shard) (one_start call l.start m.start l.starts m.starts) in
    e ∙ ap (λ k. take k.bytes call.output) (one_held call.after l.start.portion.shard m.start.portion.shard c d kind l.holds m.holds).1 ∙ sym f
one_part call x y (inl (c, l, e)) (inr (none, f)) = absurd (none c l)
one_part call x y (inr (none, e)) (inl (d, m, f)) = absurd (none d m)
one_part call x y (inr (none, e)) (inr (_, f)) = e ∙ sym f

pub one_text : (calls : List Call) (x y : Text) → IsJoined calls x → IsJoined calls y → x ≡ y
one_text [] x y a b = a ∙ sym b
one_text (call ∷ []) x y a b = a ∙ sym b
one_text (call ∷ next ∷ calls) x y a b =
    a.4 ∙ ap (λ z. z ++ a.1) (one_part call a.0 b.0 a.2 b.2) ∙ ap (λ z. b.0 ++ z) (one_text (next ∷ calls) a.1 b.1 a.3 b.3) ∙ sym b.4

written_of : (shard : Option Shard) (q : Request) (c : Checkpoint) (text : Text) → IsValid q → c.request ≡ q → DoCountsFit c → IsStop (record { request = q; shard = shard }) c.at → IsCheckText c text → IsWritten c text
written_of shard q c text valid same fit stop check = record {
  check = check;
  fit = fit;
  valid = subst IsValid (sym same) valid;
  range = subst (λ r. IsInRange r.chambers c.at) (sym same) (stop_range (record { request = q; shard = shard }) valid c.at stop);
  place = subst (λ r. IsPlace r c.at) (sym same) (stop_place (record { request = q; shard = shard }) c.at stop);
}

-- a text that was put is accepted, or is no text of its kind
saved_or_not : (shard : Option Shard) (q : Request) (c : Checkpoint) (text : Text) → IsValid q → c.request ≡ q → DoCountsFit c → IsStop (record { request = q; shard = shard }) c.at → IsSavedText shard c text
    → IsAcceptedText shard text c ⊎ ((other : Option Shard) (d : Checkpoint) → kind_of other ≡ kind_of shard → IsAcceptedText other text d → ⊥)
saved_or_not None q c text valid same fit stop saved =
    ⊎_elim (λ is. inl is) (λ never. inr (none never)) (reads_or_not c text (written_of None q c text valid same fit stop saved))
  where
    none : ((d : Checkpoint) → IsCheckpointText text d → ⊥) → (other : Option Shard) (d : Checkpoint) → kind_of other ≡ Catalogues → IsAcceptedText other text d → ⊥
    none never None d kind is = never d is
    none never (Some other) d kind is = other_kind (sym kind)
saved_or_not (Some shard) q c text valid same fit stop saved =
    ⊎_elim (λ is. inl is) (λ never. inr (none never))
    (shard_reads_or_not shard c text saved (written_of (Some shard) q c saved.check valid same fit stop saved.is_check) (subst (λ r. IsShardPlace r shard c.at) (sym same) (stop_in_shard q shard c.at stop)))
  where
    none : ((other : Shard) (d : Checkpoint) → IsShardCheckpoint other text d → ⊥) → (other : Option Shard) (d : Checkpoint) → kind_of other ≡ Shards → IsAcceptedText other text d → ⊥
    none never None d kind is = other_kind kind
    none never (Some other) d kind is = never other d is

-- what was put is held, or nothing of its kind is
pub put_held : (call : Call) (s : Start) (c : Checkpoint) → IsValid s.portion.request → HasPut call s c → Holds s.portion.shard call.after c ⊎ (HoldsKind (kind_of s.portion.shard) call.after → ⊥)
put_held call s c valid p =
    ⊎_elim
    (λ is. inl (record { text = p.text; held_is = p.held; accepted = is }))
    (λ never. inr (λ h. never h.shard h.check h.kind_is (subst (λ t. IsAcceptedText h.shard t h.check) (same_text h.holds.text p.text (sym h.holds.held_is ∙ p.held)) h.holds.accepted)))
    (saved_or_not s.portion.shard s.portion.request c p.text valid p.request p.fit p.stop p.is_text)
