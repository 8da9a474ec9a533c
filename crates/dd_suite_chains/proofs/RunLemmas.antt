-- Runs that follow each other, and the chain that they are.
use Rattle.std.proofs.Common.{◌≡◌, ℕ, ◌<◌, List, [], ◌∷◌, ◌++◌, set, get_or, map, length, Option, Some, None, inl, refl, sym, ap, ◌∙◌, subst, arith}
use Rattle.std.specs.List.{AllByRecursion}
use Rattle.dd_model.specs.Request.{IsValid}
use Rattle.dd_ports.specs.declared.memory_sink.MemorySink.{MemorySink}
use Rattle.dd_words.proofs.Validity.{valid}
use Rattle.dd_check.specs.declared.checkpoint.Checkpoint.{Checkpoint}
use Rattle.dd_check.specs.declared.checkpoint.ResumeKind.TheVariants.{Catalogues}
use Rattle.dd_check.specs.Calls.{Task, Call}
use Rattle.dd_check.specs.Chains.{AreResumed, IsChain, HasBegun}
use Rattle.dd_front_jobs.specs.declared.shards.Shard.{Shard}
use Rattle.dd_front_jobs.specs.Portions.{whole}
use Rattle.dd_check.specs.ChainStarts.{Holds}
use Rattle.dd_suite.specs.Chains.{ProgramCall, IsProgramCall, held_under, call_of}
use Rattle.dd_suite_tasks.specs.Runs.{name_of}
use Rattle.dd_suite_tasks.specs.Words.{Order, AskForRun}
use Rattle.dd_suite_tasks.proofs.Requests.{one_order}
use Rattle.dd_suite_chains.specs.Words.{AskToKeep, resume_words}
use Rattle.dd_suite_chains.specs.Runs.{Kept, IsRun, AreRuns}
use Rattle.dd_suite_chains.proofs.ResumeWords.{resume_order, first_order, resume_asked}

-- the words of the call that comes after these
abbrev pub next_words : List (List ℕ) → List ℕ → List ProgramCall → List (List ℕ)
next_words words name [] = words
next_words words name (p ∷ calls) = resume_words name

-- one more run, into the next sink
pub one_more : (words : List (List ℕ)) (name : List ℕ) (from now to : Kept) (olds news : List MemorySink) (calls : List ProgramCall) (p : ProgramCall) (new : MemorySink)
    → AreRuns words name from now olds news calls → length calls < length olds
    → ((d : MemorySink) → IsRun (next_words words name calls) now to (get_or news (length calls) d) new p)
    → AreRuns words name from to olds (set news (length calls) new) (calls ++ (p ∷ []))
one_more words name from now to [] news [] p new runs low is = absurd (omega (arith, low))
one_more words name from now to (old ∷ olds) news [] p new runs low is =
    let first : IsRun words from to old new p =
    subst (λ k. IsRun words k to old new p) runs.0 (subst (λ ns. IsRun words now to (get_or ns 0 old) new p) runs.1 (is old)) in
    subst (λ ns. AreRuns words name from to (old ∷ olds) (set ns 0 new) (p ∷ [])) (sym runs.1) (to, first, (refl, refl))
one_more words name from now to [] news (q ∷ calls) p new runs low is = absurd runs
one_more words name from now to (old ∷ olds) [] (q ∷ calls) p new runs low is = absurd runs
one_more words name from now to (old ∷ olds) (n ∷ news) (q ∷ calls) p new runs low is =
    (runs.0, runs.1, one_more (resume_words name) name runs.0 now to olds news calls p new runs.2 (omega (arith, low)) (λ d. again calls (is d)))
  where
    again : (cs : List ProgramCall) {old : MemorySink} → IsRun (resume_words name) now to old new p → IsRun (next_words (resume_words name) name cs) now to old new p
    again [] is = is
    again (c ∷ cs) is = is

pub all_calls : (words : List (List ℕ)) (name : List ℕ) (from to : Kept) (olds news : List MemorySink) (calls : List ProgramCall) → AreRuns words name from to olds news calls
    → AllByRecursion IsProgramCall calls
all_calls words name from to olds news [] runs = tt
all_calls words name from to [] news (p ∷ calls) runs = absurd runs
all_calls words name from to (old ∷ olds) [] (p ∷ calls) runs = absurd runs
all_calls words name from to (old ∷ olds) (new ∷ news) (p ∷ calls) runs = (runs.1.is_call, all_calls (resume_words name) name runs.0 to olds news calls runs.2)

-- a call of a chain under the name
pub record IsCallAt (name : List ℕ) (task : Task) (from to : Kept) (call : Call) : Type 0 where
  pub task_is : call.task ≡ task
  pub before_is : call.before ≡ from.held name
  pub after_is : call.after ≡ to.held name

-- the order of a run is that of its words
pub order_of_run : (words : List (List ℕ)) (order : Order) (from to : Kept) (old new : MemorySink) (p : ProgramCall) → AskForRun words order → IsRun words from to old new p → p.order ≡ order
order_of_run words order from to old new p asked is = one_order words p.order order (subst (λ ws. AskForRun ws p.order) is.words_are is.is_call.asked) asked

pub call_at : (words : List (List ℕ)) (name : List ℕ) (order : Order) (from to : Kept) (old new : MemorySink) (p : ProgramCall) → AskForRun words order → name_of order.task ≡ Some name
    → IsRun words from to old new p → IsCallAt name order.task from to (call_of p)
call_at words name order from to old new p asked named is =
    let same : p.order ≡ order = order_of_run words order from to old new p asked is in
    record {
      task_is = ap (λ (o : Order). o.task) same;
      before_is = ap (λ (o : Order). held_under (name_of o.task) p.before.held) same ∙ ap (λ n. held_under n p.before.held) named ∙ ap (λ b. b.held name) is.before;
      after_is = ap (λ (o : Order). held_under (name_of o.task) p.after.held) same ∙ ap (λ n. held_under n p.after.held) named ∙ ap (λ a. a.held name) is.after;
    }

resumed : (name : List ℕ) (from to : Kept) (olds news : List MemorySink) (calls : List ProgramCall) → AskForRun (resume_words name) (resume_order name)
    → AreRuns (resume_words name) name from to olds news calls → AreResumed Catalogues name (from.held name) (map call_of calls)
resumed name from to olds news [] asked runs = tt
resumed name from to [] news (p ∷ calls) asked runs = absurd runs
resumed name from to (old ∷ olds) [] (p ∷ calls) asked runs = absurd runs
resumed name from to (old ∷ olds) (new ∷ news) (p ∷ calls) asked runs =
    let at = call_at (resume_words name) name (resume_order name) from runs.0 old new p asked refl runs.1 in
    (record { task = at.task_is; before = at.before_is }, subst (λ h. AreResumed Catalogues name h (map call_of calls)) (sym at.after_is) (resumed name runs.0 to olds news calls asked runs.2))

pub request_valid : (words : List (List ℕ)) (name : List ℕ) (asked : AskToKeep words name) → IsValid asked.request
request_valid words name asked = valid words asked.request asked.run.pace asked.pause (Some name) asked.run.command

none_held : (shard : Option Shard) (c : Checkpoint) → Holds shard None c → ⊥
none_held shard c is = let e = is.held_is in absurd (cc)

-- the runs are a chain that has begun
pub are_chain : (words : List (List ℕ)) (name : List ℕ) (from to : Kept) (olds news : List MemorySink) (p : ProgramCall) (calls : List ProgramCall) (asked : AskToKeep words name)
    → from.held name ≡ None → AreRuns words name from to olds news (p ∷ calls)
    → IsChain (whole asked.request) (Some name) (map call_of (p ∷ calls)) × HasBegun (map call_of (p ∷ calls))
are_chain words name from to [] news p calls asked empty runs = absurd runs
are_chain words name from to (old ∷ olds) [] p calls asked empty runs = absurd runs
are_chain words name from to (old ∷ olds) (new ∷ news) p calls asked empty runs =
    let at = call_at words name (first_order asked) from runs.0 old new p asked.run refl runs.1 in (
      record {
        valid = request_valid words name asked;
        task = at.task_is;
        later = subst (λ h. AreResumed Catalogues name h (map call_of calls)) (sym at.after_is) (resumed name runs.0 to olds news calls (resume_asked words name asked) runs.2);
      },
      inl (λ h. none_held h.shard h.check (subst (λ z. Holds h.shard z h.check) (at.before_is ∙ empty) h.holds)),
    )
