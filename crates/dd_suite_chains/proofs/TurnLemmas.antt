-- One run of a chain: what it gives, and where the chain is after it.
use Rattle.std.proofs.Common.{◌≡◌, ◌⊎◌, ℕ, ◌+◌, ◌-◌, ◌<◌, List, get_or, take, drop, length, Option, Result, Ok, Err, OnErr, false, ltb, None, inl, inr, ap, ◌∙◌, subst, arith}
use Rattle.std.proofs.lemmas.Bool.{ltb-false}
use Rattle.std.proofs.lemmas.List.{get_or-set_same, take_rest}
use Rattle.dd_ports.specs.Sinks.{memory_sink_held}
use Rattle.dd_ports.specs.declared.memory_sink.MemorySink.{MemorySink}
use Rattle.dd_suite_tasks.specs.declared.status.Status.{Status}
use Rattle.dd_suite_tasks.specs.declared.status.Status.TheVariants.{Done}
use Rattle.dd_suite_chains.specs.declared.driven.Drive.{Drive}
use Rattle.dd_suite_chains.specs.Words.{AskToKeep, resume_words}
use Rattle.dd_suite_chains.specs.Drives.{Drives}
use Rattle.dd_suite_chains.specs.Making.{RunsInto}
use Rattle.dd_suite_chains.specs.Runs.{Kept}
use Rattle.dd_suite_chains.specs.Turns.{IsLastTurn, IsNextTurn}
use Rattle.dd_suite_chains.proofs.Going.{Going, drives, goes_on}
use Rattle.dd_suite_chains.proofs.RunMaking.{output_is}

pub on_err : {T E P : Type 0} (r : Result T E) → P → OnErr r P
on_err (Ok x) p = tt
on_err (Err e) p = p

-- what the sink holds from the place on where it ended before
pub own_output : (said : List (List ℕ)) (from to : Kept) (olds news : List MemorySink) (k : ℕ) (status : Status) (ran : RunsInto said from to olds news k status) (a b : MemorySink) (before after : List ℕ)
    → k < length olds → before ≡ memory_sink_held (get_or olds k a) → after ≡ memory_sink_held (get_or news k b) → take (length after - length before) (drop (length before) after) ≡ ran.call.output
own_output said from to olds news k status ran a b before after inside first last =
    let old_is : before ≡ memory_sink_held ran.old = first ∙ ap memory_sink_held (ran.old_is a) in
    let new_is : after ≡ memory_sink_held ran.new =
    last ∙ ap (λ ns. memory_sink_held (get_or ns k b)) ran.news_are ∙ ap memory_sink_held (get_or-set_same olds k ran.new b inside) in
    take_rest after (length before) ∙ ap (λ z. drop (length z) after) old_is ∙ ap (λ z. drop (length (memory_sink_held ran.old)) z) new_is ∙ output_is said from to ran.old ran.new ran.call ran.is_run

-- why there is nothing after it
pub no_next : (status : Status) (k : ℕ) (olds : List MemorySink) (held : Option (List ℕ)) → k < length olds
    → (status ≡ Done) ⊎ ((ltb (k + 1) (length olds) ≡ false) ⊎ (held ≡ None)) → (status ≡ Done) ⊎ ((k + 1 ≡ length olds) ⊎ (held ≡ None))
no_next status k olds held inside (inl done) = inl done
no_next status k olds held inside (inr (inl none)) = let least = ltb-false (k + 1) (length olds) none in inr (inl (omega (arith, inside, least)))
no_next status k olds held inside (inr (inr empty)) = inr (inr empty)

module _ (words : List (List ℕ)) (name : List ℕ) (from now to : Kept) (olds news after : List MemorySink) (k : ℕ) (said : List (List ℕ)) (number : Option ℕ) (joined : List ℕ)
    (asked : AskToKeep words name) (going : Going words name from now olds news k said number joined) where
  pub turned_to_next : (whole : List ℕ) (next : Option ℕ) → IsNextTurn said name now to news after k number joined whole next
      → Going words name from to olds after (k + 1) (resume_words name) next whole
  turned_to_next whole next turn =
      goes_on words name from now to olds news after k said number joined turn.status asked going turn.ran turn.text next turn.part whole
      (subst (λ n. k + 1 < n) going.long turn.more) turn.not_done turn.held turn.is_part turn.is_next turn.bytes

  pub turned_to_last : (d : Drive) (whole : List ℕ) (status : Status) → IsLastTurn said name now to news after k joined whole status → d.status ≡ status → d.runs ≡ k + 1 → d.joined.items ≡ whole
      → Drives words name from to olds after d
  turned_to_last d whole status turn state runs bytes =
      drives words name from now to olds news after k said number joined status asked going turn.ran d state runs
      (subst (λ n. (status ≡ Done) ⊎ ((k + 1 ≡ n) ⊎ (to.held name ≡ None))) going.long turn.stop) (bytes ∙ turn.bytes)
