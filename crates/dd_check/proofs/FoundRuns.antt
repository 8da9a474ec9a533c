-- A chain that has begun makes some text.
use Rattle.std.proofs.Common.{◌≡◌, ◌⊎◌, List, [], ◌∷◌, ◌++◌, take, Option, Some, None, refl, sym, ap, ◌∙◌, subst, inl, inr, ⊎_elim}
use Rattle.std.proofs.lemmas.Bool.{cases_eq}
use Rattle.std.specs.List.{AllByRecursion}
use Rattle.dd_model.specs.Request.{IsValid}
use Rattle.dd_model.proofs.Options.{some_same}
use Rattle.dd_front_jobs.specs.declared.shards.Shard.{Shard}
use Rattle.dd_front_jobs.specs.declared.portions.Portion.{Portion}
use Rattle.dd_check.specs.declared.checkpoint.Checkpoint.{Checkpoint}
use Rattle.dd_check.specs.ShardChecks.{IsAcceptedText}
use Rattle.dd_front_jobs.proofs.ShardLaws.{same_shard}
use Rattle.dd_check.specs.Texts.{Text}
use Rattle.dd_check.specs.declared.checkpoint.ResumeKind.{ResumeKind}
use Rattle.dd_check.specs.Calls.{kind_of, Begin, Resume, Call}
use Rattle.dd_check.specs.ChainStarts.{Holds, HoldsKind, Start, first_start, next_start, StartsAt}
use Rattle.dd_check.specs.ChainPuts.{Puts}
use Rattle.dd_check.specs.Clauses.{MeetsClauses}
use Rattle.dd_check.specs.Chains.{kind_of_task, AreResumed, AreLater, IsChain, HasBegun, Leaves, IsPart, IsJoined}
use Rattle.dd_check.proofs.ShardReads.{valid_check}
use Rattle.dd_check.proofs.ChainParts.{one_held, one_start, start_kind, leaves_none, starts_first, starts_next, starts_nowhere, put_held}

-- the name holds a checkpoint text of the kind, or none
abbrev IsKnown : ResumeKind → Option Text → Type 0
IsKnown kind held = HoldsKind kind held ⊎ (HoldsKind kind held → ⊥)

valid_accepted : (shard : Option Shard) (text : Text) (c : Checkpoint) → IsAcceptedText shard text c → IsValid c.request
valid_accepted None text c is = valid_check text c is
valid_accepted (Some shard) text c is = valid_check is.check c is.accepted

same_or_not : (a b : Option Shard) → (a ≡ b) ⊎ (a ≡ b → ⊥)
same_or_not None None = inl refl
same_or_not None (Some b) = inr (λ e. cc)
same_or_not (Some a) None = inr (λ e. cc)
same_or_not (Some a) (Some b) =
    ⊎_elim
    (λ index. ⊎_elim (λ count. inl (ap (λ s. Some s) (same_shard a b index count))) (λ other. inr (λ e. other (ap (λ (s : Shard). s.count) (some_same a b e)))) (cases_eq a.count b.count))
    (λ other. inr (λ e. other (ap (λ (s : Shard). s.index) (some_same a b e))))
    (cases_eq a.index b.index)

-- a call that leaves nothing gives nothing
no_part : (call : Call) → ((c : Checkpoint) → Leaves call c → ⊥) → (part : Text) × IsPart call part
no_part call none = ([], inr (none, refl))

-- a call from a start gives a part, where it is known what the name holds after it
found_part : (call : Call) (s : Start) → StartsAt call s → IsKnown (kind_of s.portion.shard) call.after → (part : Text) × IsPart call part
found_part call s starts (inr never) = no_part call (leaves_none call (subst (λ k. HoldsKind k call.after → ⊥) (start_kind call.task call.before s starts) never))
found_part call s starts (inl h) =
    ⊎_elim
    (λ own. ⊎_elim
    (λ same. let holds = subst (λ z. Holds z call.after h.check) same h.holds in
    (take h.check.bytes call.output, inl (h.check, record { start = s; starts = starts; holds = holds; number = own }, refl)))
    (λ other. no_part call (λ d l. other (one_held call.after h.shard s.portion.shard h.check d h.kind_is h.holds (of_start d l)).0))
    (same_or_not h.shard s.portion.shard))
    (λ other. no_part call (λ d l. other (ap (λ k. k.run) (one_held call.after h.shard s.portion.shard h.check d h.kind_is h.holds (of_start d l)).1 ∙ l.number ∙ ap (λ z. z.number) (one_start call l.start s l.starts starts))))
    (cases_eq h.check.run s.number)
  where
    of_start : (d : Checkpoint) → (l : Leaves call d) → Holds s.portion.shard call.after d
    of_start d l = subst (λ z. Holds z.portion.shard call.after d) (one_start call l.start s l.starts starts) l.holds

known_put : (call : Call) (s : Start) → IsValid s.portion.request → StartsAt call s → Puts call → IsKnown (kind_of s.portion.shard) call.after
known_put call s valid starts puts =
    let same : puts.start ≡ s = one_start call puts.start s puts.starts starts in
    ⊎_elim
    (λ holds. inl (record { shard = puts.start.portion.shard; kind_is = ap (λ z. kind_of z.portion.shard) same; check = puts.check; holds = holds }))
    (λ never. inr (subst (λ z. HoldsKind (kind_of z.portion.shard) call.after → ⊥) same never))
    (put_held call puts.start puts.check (subst (λ z. IsValid z.portion.request) (sym same) valid) puts.put)

-- after a call that goes on it is known what the name holds, and there is a part
known_after : (kind : ResumeKind) (name : Text) (call : Call) → call.task ≡ Resume kind name → MeetsClauses call → IsKnown kind call.before → IsKnown kind call.after × ((part : Text) × IsPart call part)
known_after kind name call task meets (inl h) =
    let starts = starts_next call name h.shard h.check (task ∙ ap (λ k. Resume k name) (sym h.kind_is)) h.holds in
    let known : IsKnown (kind_of h.shard) call.after =
    ⊎_elim
    (λ kept. inl (record { shard = h.shard; kind_is = refl; check = h.check; holds = subst (λ z. Holds h.shard z h.check) (sym kept) h.holds }))
    (known_put call (next_start h.shard h.check) (valid_accepted h.shard h.holds.text h.check h.holds.accepted) starts)
    meets.held in
    (subst (λ k. IsKnown k call.after) h.kind_is known, found_part call (next_start h.shard h.check) starts known)
known_after kind name call task meets (inr never) =
    let nowhere = starts_nowhere call kind name task never in
    let known : IsKnown kind call.after =
    ⊎_elim
    (λ kept. inr (λ h. never (subst (HoldsKind kind) kept h)))
    (λ puts. absurd (nowhere puts.start puts.starts))
    meets.held in
    (known, no_part call (λ d l. nowhere l.start l.starts))

found_later : (kind : ResumeKind) (name : Text) (held : Option Text) (call : Call) (calls : List Call) → IsKnown kind held → AreResumed kind name held (call ∷ calls) → AllByRecursion MeetsClauses (call ∷ calls)
    → (bytes : Text) × IsJoined (call ∷ calls) bytes
found_later kind name held call [] known resumed meets = (call.output, refl)
found_later kind name held call (next ∷ calls) known resumed meets =
    let after = known_after kind name call resumed.0.task meets.0 (subst (IsKnown kind) (sym resumed.0.before) known) in
    let rest = found_later kind name call.after next calls after.0 resumed.1 meets.1 in
    (after.1.0 ++ rest.0, (after.1.0, rest.0, after.1.1, rest.1, refl))

known_first : (q : Portion) (name : Text) (call : Call) (calls : List Call) → IsValid q.request → call.task ≡ Begin q (Some name) → MeetsClauses call → HasBegun (call ∷ calls)
    → IsKnown (kind_of q.shard) call.after
known_first q name call calls valid task meets begun =
    ⊎_elim
    (λ none. ⊎_elim (λ kept. inr (λ h. none (subst (λ k. HoldsKind k call.before) (sym (ap kind_of_task task)) (subst (HoldsKind (kind_of q.shard)) kept h)))) put meets.held)
    (λ worked. put (meets.first q name task worked))
    begun
  where
    put : Puts call → IsKnown (kind_of q.shard) call.after
    put = known_put call (first_start q) valid (starts_first call q (Some name) task)

found_many : (q : Portion) (name : Option Text) (call next : Call) (calls : List Call) → IsValid q.request → call.task ≡ Begin q name → AreLater (kind_of q.shard) name call.after (next ∷ calls)
    → AllByRecursion MeetsClauses (call ∷ next ∷ calls) → HasBegun (call ∷ next ∷ calls) → (bytes : Text) × IsJoined (call ∷ next ∷ calls) bytes
found_many q None call next calls valid task later meets begun = let none : next ∷ calls ≡ [] = later in absurd cc
found_many q (Some name) call next calls valid task later meets begun =
    let known = known_first q name call (next ∷ calls) valid task meets.0 begun in
    let part = found_part call (first_start q) (starts_first call q (Some name) task) known in
    let rest = found_later (kind_of q.shard) name call.after next calls known later meets.1 in
    (part.0 ++ rest.0, (part.0, rest.0, part.1, rest.1, refl))

pub found_text : (q : Portion) (name : Option Text) (calls : List Call) → IsChain q name calls → AllByRecursion MeetsClauses calls → HasBegun calls → (bytes : Text) × IsJoined calls bytes
found_text q name [] chain meets begun = absurd chain
found_text q name (call ∷ []) chain meets begun = (call.output, refl)
found_text q name (call ∷ next ∷ calls) chain meets begun = found_many q name call next calls chain.valid chain.task chain.later meets begun
