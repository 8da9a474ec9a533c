-- The last call of a chain: where it began, and the store and the sink that it met.
use Rattle.std.proofs.Common.{◌≡◌, ◌⊎◌, ℕ, suc, ◌≤◌, List, [], ◌∷◌, length, None, inl, inr, refl, sym, ap, subst, arith}
use Rattle.std.specs.List.{HoldsAt}
use Rattle.dd_model.specs.Request.{IsValid}
use Rattle.dd_model.specs.declared.requests.Request.{Request}
use Rattle.dd_ports.specs.declared.memory_sink.MemorySink.{MemorySink}
use Rattle.dd_check.specs.declared.checkpoint.ResumeKind.TheVariants.{Catalogues}
use Rattle.dd_check.specs.Calls.{Task, Resume}
use Rattle.dd_check.specs.ChainStarts.{Start, Starts, StartsAt}
use Rattle.dd_suite.specs.Chains.{ProgramCall, call_of}
use Rattle.dd_suite_tasks.specs.declared.status.Status.{Status}
use Rattle.dd_suite_tasks.specs.Words.{AskForRun}
use Rattle.dd_suite.proofs.ProgramCalls.{program_meets}
use Rattle.dd_suite_chains.specs.Words.{AskToKeep, resume_words}
use Rattle.dd_suite_chains.specs.Drives.{EndAs}
use Rattle.dd_suite_chains.specs.Runs.{Kept, IsRun, AreRuns}
use Rattle.dd_suite_chains.proofs.HeldChecks.{IsUpTo, IsHeld, starts_first, starts_later, held_after_call}
use Rattle.dd_suite_chains.proofs.ResumeWords.{resume_order, first_order, resume_asked}
use Rattle.dd_suite_chains.proofs.RunLemmas.{IsCallAt, call_at, request_valid}

-- the call with these words that is the last of some, its place among them, and the store and the sink before it
pub record IsLast (q : Request) (name : List ℕ) (from to : Kept) (olds news : List MemorySink) (calls : List ProgramCall) (said : List (List ℕ)) : Type 0 where
  pub call : ProgramCall
  pub mid : Kept
  pub old : MemorySink
  pub new : MemorySink
  pub is_run : IsRun said mid to old new call
  pub ended : (status : Status) → EndAs calls status → call.status ≡ status
  pub upto : (s : Start) → StartsAt (call_of call) s → IsUpTo q s
  pub held : IsHeld q (mid.held name)
  pub later : from.faults ≤ mid.faults
  pub place : ℕ
  pub place_is : length calls ≡ suc place
  pub old_is : HoldsAt (λ s. s ≡ old) olds place
  pub new_is : HoldsAt (λ s. s ≡ new) news place

-- it is the first call, or it goes on from the name
pub record IsOnly (words : List (List ℕ)) (name : List ℕ) (from to : Kept) (olds news : List MemorySink) (calls : List ProgramCall) (q : Request) : Type 0 where
  pub last : IsLast q name from to olds news calls words
  pub one : length calls ≡ 1
  pub same : last.mid ≡ from

-- where a call begins that is known
begins_up_to : (q : Request) (name : List ℕ) (task : Task) (from to : Kept) (p : ProgramCall) → IsCallAt name task from to (call_of p)
    → ((s : Start) → Starts task (from.held name) s → IsUpTo q s) → (s : Start) → StartsAt (call_of p) s → IsUpTo q s
begins_up_to q name task from to p at upto s starts =
    upto s (subst (λ t. Starts t (from.held name) s) at.task_is (subst (λ h. Starts (call_of p).task h s) at.before_is starts))

after_run_held : (q : Request) (name : List ℕ) (task : Task) (words : List (List ℕ)) (from to : Kept) (old new : MemorySink) (p : ProgramCall) → IsCallAt name task from to (call_of p)
    → IsRun words from to old new p → ((s : Start) → StartsAt (call_of p) s → IsUpTo q s) → IsHeld q (from.held name) → IsHeld q (to.held name)
after_run_held q name task words from to old new p at is upto held =
    subst (IsHeld q) at.after_is (held_after_call q (call_of p) (program_meets p is.is_call) upto (subst (IsHeld q) (sym at.before_is) held))

faults_later : (words : List (List ℕ)) (from to : Kept) (old new : MemorySink) (p : ProgramCall) → IsRun words from to old new p → from.faults ≤ to.faults
faults_later words from to old new p is =
    let before = ap (λ b. b.store_faults) is.before in
    let after = ap (λ a. a.store_faults) is.after in
    let later = is.cause.later in
    omega (arith, before, after, later)

module _ (q : Request) (name : List ℕ) (valid : IsValid q) (asked : AskForRun (resume_words name) (resume_order name)) where
  resume_upto : (from to : Kept) (old new : MemorySink) (p : ProgramCall) → IsRun (resume_words name) from to old new p → IsHeld q (from.held name)
      → (s : Start) → StartsAt (call_of p) s → IsUpTo q s
  resume_upto from to old new p is held =
      begins_up_to q name (Resume Catalogues name) from to p (call_at (resume_words name) name (resume_order name) from to old new p asked refl is)
      (λ s starts. starts_later q name (from.held name) s valid held starts)

  later_last : (from to : Kept) (olds news : List MemorySink) (p : ProgramCall) (calls : List ProgramCall) → IsHeld q (from.held name)
      → AreRuns (resume_words name) name from to olds news (p ∷ calls) → IsLast q name from to olds news (p ∷ calls) (resume_words name)
  later_last from to [] news p calls held runs = absurd runs
  later_last from to (old ∷ olds) [] p calls held runs = absurd runs
  later_last from to (old ∷ olds) (new ∷ news) p [] held runs =
      let is : IsRun (resume_words name) from to old new p = subst (λ k. IsRun (resume_words name) from k old new p) (sym runs.2.0) runs.1 in
      record {
        call = p;
        mid = from;
        old = old;
        new = new;
        is_run = is;
        ended = λ status ends. ends;
        upto = resume_upto from to old new p is held;
        held = held;
        later = omega arith;
        place = 0;
        place_is = refl;
        old_is = λ d. refl;
        new_is = λ d. refl;
      }
  later_last from to (old ∷ olds) (new ∷ news) p (next ∷ calls) held runs =
      let mid = runs.0 in
      let at = call_at (resume_words name) name (resume_order name) from mid old new p asked refl runs.1 in
      let upto = resume_upto from mid old new p runs.1 held in
      let after = after_run_held q name (Resume Catalogues name) (resume_words name) from mid old new p at runs.1 upto held in
      let l = later_last mid to olds news next calls after runs.2 in
      let first = faults_later (resume_words name) from mid old new p runs.1 in
      let rest = l.later in
      record {
        call = l.call;
        mid = l.mid;
        old = l.old;
        new = l.new;
        is_run = l.is_run;
        ended = l.ended;
        upto = l.upto;
        held = l.held;
        later = omega (arith, first, rest);
        place = suc l.place;
        place_is = ap suc l.place_is;
        old_is = l.old_is;
        new_is = l.new_is;
      }

pub last_of : (words : List (List ℕ)) (name : List ℕ) (from to : Kept) (olds news : List MemorySink) (p : ProgramCall) (calls : List ProgramCall) (asked : AskToKeep words name)
    → from.held name ≡ None → AreRuns words name from to olds news (p ∷ calls)
    → IsOnly words name from to olds news (p ∷ calls) asked.request ⊎ IsLast asked.request name from to olds news (p ∷ calls) (resume_words name)
last_of words name from to [] news p calls asked empty runs = absurd runs
last_of words name from to (old ∷ olds) [] p calls asked empty runs = absurd runs
last_of words name from to (old ∷ olds) (new ∷ news) p [] asked empty runs =
    let is : IsRun words from to old new p = subst (λ k. IsRun words from k old new p) (sym runs.2.0) runs.1 in
    let at = call_at words name (first_order asked) from to old new p asked.run refl is in
    inl (record {
      last = record {
        call = p;
        mid = from;
        old = old;
        new = new;
        is_run = is;
        ended = λ status ends. ends;
        upto = begins_up_to asked.request name (first_order asked).task from to p at (λ s starts. starts_first asked.request name (from.held name) s starts);
        held = inl empty;
        later = omega arith;
        place = 0;
        place_is = refl;
        old_is = λ d. refl;
        new_is = λ d. refl;
      };
      one = refl;
      same = refl;
    })
last_of words name from to (old ∷ olds) (new ∷ news) p (next ∷ calls) asked empty runs =
    let q = asked.request in
    let mid = runs.0 in
    let at = call_at words name (first_order asked) from mid old new p asked.run refl runs.1 in
    let upto = begins_up_to q name (first_order asked).task from mid p at (λ s starts. starts_first q name (from.held name) s starts) in
    let after = after_run_held q name (first_order asked).task words from mid old new p at runs.1 upto (inl empty) in
    let l = later_last q name (request_valid words name asked) (resume_asked words name asked) mid to olds news next calls after runs.2 in
    let first = faults_later words from mid old new p runs.1 in
    let rest = l.later in
    inr (record {
      call = l.call;
      mid = l.mid;
      old = l.old;
      new = l.new;
      is_run = l.is_run;
      ended = l.ended;
      upto = l.upto;
      held = l.held;
      later = omega (arith, first, rest);
      place = suc l.place;
      place_is = ap suc l.place_is;
      old_is = l.old_is;
      new_is = l.new_is;
    })
