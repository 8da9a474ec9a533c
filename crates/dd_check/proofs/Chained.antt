-- All calls of a chain.
use Rattle.std.proofs.Common.{◌≡◌, List, [], ◌∷◌, ◌++◌, Option, Some, None, append_assoc, refl, sym, ap, ◌∙◌, subst, inl, inr, ⊎_elim}
use Rattle.std.specs.List.{AllByRecursion}
use Rattle.dd_model.specs.Request.{IsValid}
use Rattle.dd_model.specs.Text.{beginning}
use Rattle.dd_front_jobs.specs.declared.portions.Portion.{Portion}
use Rattle.dd_check.specs.Texts.{Text}
use Rattle.dd_check.specs.Calls.{kind_of, Begin, Resume, Ending, Call}
use Rattle.dd_check.specs.ChainStarts.{HoldsKind, first_start, next_start}
use Rattle.dd_check.specs.ChainPuts.{Puts}
use Rattle.dd_check.specs.Clauses.{MeetsClauses}
use Rattle.dd_check.specs.ChainOutcomes.{IsFront}
use Rattle.dd_check.specs.Chains.{kind_of_task, AreResumed, AreLater, IsChain, HasBegun, EndsAs, held_after, IsPart, IsJoined}
use Rattle.dd_check.proofs.LinesUpTo.{no_lines}
use Rattle.dd_check.proofs.ChainParts.{one_start, starts_first, starts_next, starts_nowhere}
use Rattle.dd_check.proofs.ChainSteps.{IsWrittenUpTo, GoesOn, Outcome, ends_here, after_put, step, ended, ended_nowhere}

-- the call after which nothing comes
last_call : (q : Portion) (name : Text) (call : Call) (written : Text) (ending : Ending) → call.task ≡ Resume (kind_of q.shard) name → MeetsClauses call → GoesOn q call.before written
    → call.ending ≡ ending → Outcome q call.after ending (written ++ call.output)
last_call q name call written ending task meets (inl way) e =
    ended q call (next_start q.shard way.check) written ending way.upto (starts_next call name q.shard way.check task way.holds) meets e
last_call q name call written ending task meets (inr end) e =
    ended_nowhere q call written ending end.front (starts_nowhere call (kind_of q.shard) name task end.never) meets e

later_calls : (q : Portion) (name : Text) (held : Option Text) (written bytes : Text) (ending : Ending) (call : Call) (calls : List Call) → IsValid q.request → GoesOn q held written
    → AreResumed (kind_of q.shard) name held (call ∷ calls) → AllByRecursion MeetsClauses (call ∷ calls) → EndsAs (call ∷ calls) ending → IsJoined (call ∷ calls) bytes
    → Outcome q (held_after (call ∷ calls)) ending (written ++ bytes)
later_calls q name held written bytes ending call [] valid on resumed meets ends joined =
    subst (λ z. Outcome q call.after ending (written ++ z)) (sym joined)
    (last_call q name call written ending resumed.0.task meets.0 (subst (λ h. GoesOn q h written) (sym resumed.0.before) on) ends)
later_calls q name held written bytes ending call (next ∷ calls) valid on resumed meets ends joined =
    let part = joined.0 in
    let rest = joined.1 in
    let same : written ++ part ++ rest ≡ written ++ bytes = append_assoc written part rest ∙ ap (λ z. written ++ z) (sym joined.4) in
    let further = step q name call written part valid resumed.0.task meets.0 (subst (λ h. GoesOn q h written) (sym resumed.0.before) on) joined.2 in
    subst (Outcome q (held_after (next ∷ calls)) ending) same
    (later_calls q name call.after (written ++ part) rest ending next calls valid further resumed.1 meets.1 ends joined.3)

-- nothing is written before a chain begins
at_first : (q : Portion) → IsWrittenUpTo q (first_start q) []
at_first q = record { portion = refl; lines = no_lines q beginning 0 }

-- where a chain goes on after its first call
first_step : (q : Portion) (name : Text) (call : Call) (calls : List Call) (part : Text) → IsValid q.request → call.task ≡ Begin q (Some name) → MeetsClauses call
    → HasBegun (call ∷ calls) → IsPart call part → GoesOn q call.after part
first_step q name call calls part valid task meets begun is =
    ⊎_elim
    (λ none. ⊎_elim (λ kept. ends_here q call [] part kind (λ h. none (subst (λ k. HoldsKind k call.before) (sym kind) (subst (HoldsKind (kind_of q.shard)) kept h))) (λ text is_text. tt) is) put meets.held)
    (λ worked. put (meets.first q name task worked))
    begun
  where
    kind : kind_of_task call.task ≡ kind_of q.shard
    kind = ap kind_of_task task

    put : Puts call → GoesOn q call.after part
    put puts =
        let same : first_start q ≡ puts.start = one_start call (first_start q) puts.start (starts_first call q (Some name) task) puts.starts in
        after_put q call puts.start puts.check [] part valid (subst (λ s. IsWrittenUpTo q s []) same (at_first q)) puts.starts puts.put is

first_of_many : (q : Portion) (name : Option Text) (call next : Call) (calls : List Call) (bytes : Text) (ending : Ending) → IsValid q.request → call.task ≡ Begin q name
    → AreLater (kind_of q.shard) name call.after (next ∷ calls) → AllByRecursion MeetsClauses (call ∷ next ∷ calls) → HasBegun (call ∷ next ∷ calls) → EndsAs (next ∷ calls) ending
    → IsJoined (call ∷ next ∷ calls) bytes → Outcome q (held_after (next ∷ calls)) ending bytes
first_of_many q None call next calls bytes ending valid task later meets begun ends joined = let none : next ∷ calls ≡ [] = later in absurd cc
first_of_many q (Some name) call next calls bytes ending valid task later meets begun ends joined =
    let further = first_step q name call (next ∷ calls) joined.0 valid task meets.0 begun joined.2 in
    subst (Outcome q (held_after (next ∷ calls)) ending) (sym joined.4)
    (later_calls q name call.after joined.0 joined.1 ending next calls valid further later meets.1 ends joined.3)

pub chain_ends : (q : Portion) (name : Option Text) (calls : List Call) (bytes : Text) (ending : Ending) → IsChain q name calls → AllByRecursion MeetsClauses calls
    → HasBegun calls → EndsAs calls ending → IsJoined calls bytes → Outcome q (held_after calls) ending bytes
chain_ends q name [] bytes ending chain meets begun ends joined = absurd chain
chain_ends q name (call ∷ []) bytes ending chain meets begun ends joined =
    subst (Outcome q call.after ending) (sym joined) (ended q call (first_start q) [] ending (at_first q) (starts_first call q name chain.task) meets.0 ends)
chain_ends q name (call ∷ next ∷ calls) bytes ending chain meets begun ends joined =
    first_of_many q name call next calls bytes ending chain.valid chain.task chain.later meets begun ends joined

-- the last call ended somehow
ending_of : (call : Call) (calls : List Call) → (ending : Ending) × EndsAs (call ∷ calls) ending
ending_of call [] = (call.ending, refl)
ending_of call (next ∷ calls) = ending_of next calls

pub chain_writes : (q : Portion) (name : Option Text) (calls : List Call) (bytes : Text) → IsChain q name calls → AllByRecursion MeetsClauses calls → HasBegun calls
    → IsJoined calls bytes → IsFront q bytes
chain_writes q name [] bytes chain meets begun joined = absurd chain
chain_writes q name (call ∷ calls) bytes chain meets begun joined =
    let last = ending_of call calls in
    (chain_ends q name (call ∷ calls) bytes last.0 chain meets begun last.1 joined).front
