-- One call of a chain.
use Rattle.std.proofs.Common.{◌≡◌, ◌⊎◌, ◌+◌, [], ◌++◌, length, take, take_all, Option, refl, sym, ap, ◌∙◌, subst, inl, inr, ⊎_elim, arith}
use Rattle.std.proofs.lemmas.List.{append-nil}
use Rattle.dd_model.specs.Lists.{Begins}
use Rattle.dd_model.specs.Request.{IsValid}
use Rattle.dd_model.specs.Text.{beginning}
use Rattle.dd_model.specs.declared.jobs.Position.TheVariants.{End}
use Rattle.dd_front_jobs.specs.declared.portions.Portion.{Portion}
use Rattle.dd_front_jobs.specs.Portions.{IsPortionText}
use Rattle.dd_model.proofs.Ascending.{begins_append}
use Rattle.dd_check.specs.declared.checkpoint.Checkpoint.{Checkpoint}
use Rattle.dd_check.specs.Texts.{Text}
use Rattle.dd_check.specs.ShardChecks.{IsSavedText}
use Rattle.dd_check.specs.Calls.{kind_of, Resume, Ending, Done, Paused, Stopped, Call}
use Rattle.dd_check.specs.ChainStarts.{Holds, HoldsKind, Start, next_start, StartsAt}
use Rattle.dd_check.specs.Between.{AreLinesBetween}
use Rattle.dd_check.specs.ChainPuts.{HasPut}
use Rattle.dd_check.specs.Clauses.{MeetsClauses}
use Rattle.dd_check.specs.Chains.{kind_of_task, Leaves, IsPart}
use Rattle.dd_check.specs.ChainOutcomes.{IsCutAt, IsFront}
use Rattle.dd_check.proofs.Fronts.{parted_text, begins_behind}
use Rattle.dd_check.proofs.LinesUpTo.{joined_between, whole_text, first_lines}
use Rattle.dd_check.proofs.ChainParts.{one_held, one_start, one_part, start_kind, leaves_none, starts_next, starts_nowhere, put_held}

-- what was written is the lines from the beginning to where a run begins
pub record IsWrittenUpTo (q : Portion) (s : Start) (written : Text) : Type 0 where
  pub portion : s.portion ≡ q
  pub lines : AreLinesBetween q beginning s.at 0 s.lines written

-- the name holds a checkpoint up to which the lines were written
pub record IsUnderWay (q : Portion) (held : Option Text) (written : Text) : Type 0 where
  pub check : Checkpoint
  pub holds : Holds q.shard held check
  pub upto : IsWrittenUpTo q (next_start q.shard check) written

-- the name holds no checkpoint text, and what was written is a front of each text
pub record IsAtEnd (q : Portion) (held : Option Text) (written : Text) : Type 0 where
  pub never : HoldsKind (kind_of q.shard) held → ⊥
  pub front : IsFront q written

-- a chain goes on from what the name holds, or ends there
abbrev pub GoesOn : Portion → Option Text → Text → Type 0
GoesOn q held written = IsUnderWay q held written ⊎ IsAtEnd q held written

-- what was written up to a start is a front
front_upto : (q : Portion) (s : Start) (written : Text) → IsWrittenUpTo q s written → IsFront q written
front_upto q s written upto text is =
    let p = parted_text q s.at s.lines written text upto.lines is in
    subst (Begins written) (sym p.text_is) (begins_append written p.rest)

-- a call that leaves nothing adds nothing
nothing_added : (call : Call) (written part : Text) → ((c : Checkpoint) → Leaves call c → ⊥) → IsPart call part → written ≡ written ++ part
nothing_added call written part none is = sym (append-nil written) ∙ ap (λ z. written ++ z) (sym (one_part call part [] is (inr (none, refl))))

pub ends_here : (q : Portion) (call : Call) (written part : Text) → kind_of_task call.task ≡ kind_of q.shard → (HoldsKind (kind_of q.shard) call.after → ⊥) → IsFront q written → IsPart call part
    → GoesOn q call.after (written ++ part)
ends_here q call written part kind never front is =
    inr (record { never = never; front = subst (IsFront q) (nothing_added call written part (leaves_none call (subst (λ k. HoldsKind k call.after → ⊥) (sym kind) never)) is) front })

-- ---- a call that is not the last

-- the lines that a checkpoint tells, after those before the call
told_lines : (q : Portion) (call : Call) (s : Start) (c : Checkpoint) (written : Text) → IsWrittenUpTo q s written → HasPut call s c
    → AreLinesBetween q beginning c.at 0 c.lines (written ++ take c.bytes call.output)
told_lines q call s c written upto p =
    joined_between q beginning s.at c.at 0 s.lines c.lines written (take c.bytes call.output) upto.lines
    (subst (λ r. AreLinesBetween r s.at c.at s.lines c.lines (take c.bytes call.output)) upto.portion p.written)

pub after_put : (q : Portion) (call : Call) (s : Start) (c : Checkpoint) (written part : Text) → IsValid q.request → IsWrittenUpTo q s written → StartsAt call s → HasPut call s c
    → IsPart call part → GoesOn q call.after (written ++ part)
after_put q call s c written part valid upto starts p is =
    ⊎_elim
    (λ holds. inl (record {
      check = c;
      holds = subst (λ r. Holds r.shard call.after c) upto.portion holds;
      upto = record {
        portion = λ i. record { request = (p.request ∙ ap (λ (r : Portion). r.request) upto.portion) i; shard = q.shard };
        lines = subst (λ z. AreLinesBetween q beginning c.at 0 c.lines (written ++ z)) (sym (part_is holds)) (told_lines q call s c written upto p);
      };
    }))
    (λ never. ends_here q call written part (sym (start_kind call.task call.before s starts) ∙ kind) (subst (λ k. HoldsKind k call.after → ⊥) kind never) (front_upto q s written upto) is)
    (put_held call s c (subst (λ r. IsValid r.request) (sym upto.portion) valid) p)
  where
    kind : kind_of s.portion.shard ≡ kind_of q.shard
    kind = ap (λ (r : Portion). kind_of r.shard) upto.portion

    part_is : Holds s.portion.shard call.after c → part ≡ take c.bytes call.output
    part_is holds = one_part call part (take c.bytes call.output) is (inl (c, record { start = s; starts = starts; holds = holds; number = p.run }, refl))

-- a call that left the name as it was leaves no checkpoint of its own
kept_leaves : (call : Call) (s : Start) (c : Checkpoint) → StartsAt call s → s.number ≡ c.run + 1 → Holds s.portion.shard call.after c → (d : Checkpoint) → Leaves call d → ⊥
kept_leaves call s c starts number holds d l =
    let begun : l.start ≡ s = one_start call l.start s l.starts starts in
    let same : d.run ≡ c.run = ap (λ k. k.run) (one_held call.after l.start.portion.shard s.portion.shard d c (ap (λ (z : Start). kind_of z.portion.shard) begun) l.holds holds).1 in
    let start : l.start.number ≡ s.number = ap (λ (z : Start). z.number) begun in
    let own = l.number in
    omega (arith, same, start, own, number)

after_kept : (q : Portion) (name : Text) (call : Call) (written part : Text) → call.task ≡ Resume (kind_of q.shard) name → call.after ≡ call.before → IsUnderWay q call.before written
    → IsPart call part → IsUnderWay q call.after (written ++ part)
after_kept q name call written part task kept way is =
    let holds : Holds q.shard call.after way.check = subst (λ h. Holds q.shard h way.check) (sym kept) way.holds in
    let none = kept_leaves call (next_start q.shard way.check) way.check (starts_next call name q.shard way.check task way.holds) refl holds in
    record { check = way.check; holds = holds; upto = subst (IsWrittenUpTo q (next_start q.shard way.check)) (nothing_added call written part none is) way.upto }

-- where a chain goes on after a call
pub step : (q : Portion) (name : Text) (call : Call) (written part : Text) → IsValid q.request → call.task ≡ Resume (kind_of q.shard) name → MeetsClauses call → GoesOn q call.before written
    → IsPart call part → GoesOn q call.after (written ++ part)
step q name call written part valid task meets (inl way) is =
    ⊎_elim
    (λ kept. inl (after_kept q name call written part task kept way is))
    (λ puts.
    let same : next_start q.shard way.check ≡ puts.start = one_start call (next_start q.shard way.check) puts.start (starts_next call name q.shard way.check task way.holds) puts.starts in
    after_put q call puts.start puts.check written part valid (subst (λ s. IsWrittenUpTo q s written) same way.upto) puts.starts puts.put is)
    meets.held
step q name call written part valid task meets (inr end) is =
    ⊎_elim
    (λ kept. ends_here q call written part (ap kind_of_task task) (λ h. end.never (subst (HoldsKind (kind_of q.shard)) kept h)) end.front is)
    (λ puts. absurd (starts_nowhere call (kind_of q.shard) name task end.never puts.start puts.starts))
    meets.held

-- ---- the last call

-- what the bytes are where the last call ended so
abbrev pub IsEnded : Portion → Option Text → Ending → Text → Type 0
IsEnded q held Done bytes = IsPortionText q beginning 0 bytes
IsEnded q held Paused bytes = IsCutAt q held bytes
IsEnded q held Stopped bytes = Unit {0}

-- what the bytes are in the end
pub record Outcome (q : Portion) (held : Option Text) (ending : Ending) (bytes : Text) : Type 0 where
  pub front : IsFront q bytes
  pub end : IsEnded q held ending bytes

whole_after : (q : Portion) (call : Call) (s : Start) (written : Text) → IsWrittenUpTo q s written → StartsAt call s → MeetsClauses call → call.ending ≡ Done
    → IsPortionText q beginning 0 (written ++ call.output)
whole_after q call s written upto starts meets e =
    let w = meets.done e in
    let same : w.start ≡ s = one_start call w.start s w.starts starts in
    let rest : AreLinesBetween s.portion s.at End s.lines w.count call.output = subst (λ z. AreLinesBetween z.portion z.at End z.lines w.count call.output) same w.written in
    whole_text q w.count (written ++ call.output)
    (joined_between q beginning s.at End 0 s.lines w.count written call.output upto.lines
    (subst (λ r. AreLinesBetween r s.at End s.lines w.count call.output) upto.portion rest))

cut_by : (q : Portion) (call : Call) (s : Start) (c : Checkpoint) (written : Text) → IsWrittenUpTo q s written → HasPut call s c → c.bytes ≡ length call.output
    → IsCutAt q call.after (written ++ call.output)
cut_by q call s c written upto p bytes =
    let all : take c.bytes call.output ≡ call.output = take_all c.bytes call.output (omega (arith, bytes)) in
    record {
      check = c;
      text = p.text;
      held_is = p.held;
      is_text = subst (λ (r : Portion). IsSavedText r.shard c p.text) upto.portion p.is_text;
      first = first_lines q c.at c.lines (written ++ call.output)
          (subst (λ z. AreLinesBetween q beginning c.at 0 c.lines (written ++ z)) all (told_lines q call s c written upto p));
    }

cut_after : (q : Portion) (call : Call) (s : Start) (written : Text) → IsWrittenUpTo q s written → StartsAt call s → MeetsClauses call → call.ending ≡ Paused
    → IsCutAt q call.after (written ++ call.output)
cut_after q call s written upto starts meets e =
    let w = meets.paused e in
    let same : s ≡ w.puts.start = one_start call s w.puts.start starts w.puts.starts in
    cut_by q call w.puts.start w.puts.check written (subst (λ z. IsWrittenUpTo q z written) same upto) w.puts.put w.all

front_after : (q : Portion) (call : Call) (s : Start) (written : Text) → IsWrittenUpTo q s written → StartsAt call s → MeetsClauses call → IsFront q (written ++ call.output)
front_after q call s written upto starts meets text is =
    let p = parted_text q s.at s.lines written text upto.lines is in
    let rest : IsPortionText s.portion s.at s.lines p.rest = subst (λ r. IsPortionText r s.at s.lines p.rest) (sym upto.portion) p.from in
    subst (Begins (written ++ call.output)) (sym p.text_is) (begins_behind written call.output p.rest (meets.prefix s p.rest starts rest))

end_after : (q : Portion) (call : Call) (s : Start) (written : Text) (ending : Ending) → IsWrittenUpTo q s written → StartsAt call s → MeetsClauses call → call.ending ≡ ending
    → IsEnded q call.after ending (written ++ call.output)
end_after q call s written Done upto starts meets e = whole_after q call s written upto starts meets e
end_after q call s written Paused upto starts meets e = cut_after q call s written upto starts meets e
end_after q call s written Stopped upto starts meets e = tt

pub ended : (q : Portion) (call : Call) (s : Start) (written : Text) (ending : Ending) → IsWrittenUpTo q s written → StartsAt call s → MeetsClauses call → call.ending ≡ ending
    → Outcome q call.after ending (written ++ call.output)
ended q call s written ending upto starts meets e =
    record { front = front_after q call s written upto starts meets; end = end_after q call s written ending upto starts meets e }

end_nowhere : (q : Portion) (call : Call) (bytes : Text) (ending : Ending) → ((s : Start) → StartsAt call s → ⊥) → MeetsClauses call → call.ending ≡ ending
    → IsEnded q call.after ending bytes
end_nowhere q call bytes Done none meets e = let w = meets.done e in absurd (none w.start w.starts)
end_nowhere q call bytes Paused none meets e = let w = meets.paused e in absurd (none w.puts.start w.puts.starts)
end_nowhere q call bytes Stopped none meets e = tt

pub ended_nowhere : (q : Portion) (call : Call) (written : Text) (ending : Ending) → IsFront q written → ((s : Start) → StartsAt call s → ⊥) → MeetsClauses call
    → call.ending ≡ ending → Outcome q call.after ending (written ++ call.output)
ended_nowhere q call written ending front none meets e =
    let same : written ≡ written ++ call.output = sym (append-nil written) ∙ ap (λ z. written ++ z) (sym (meets.refused none).0) in
    record { front = subst (IsFront q) same front; end = end_nowhere q call (written ++ call.output) ending none meets e }
