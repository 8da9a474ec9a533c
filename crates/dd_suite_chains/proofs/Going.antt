-- The runs that have been made when the next one begins.
use Rattle.std.proofs.Common.{◌≡◌, ◌≢◌, ◌⊎◌, ℕ, ◌+◌, ◌<◌, ◌≤◌, List, [], ◌∷◌, ◌++◌, set, get_or, map, length, Option, Some, None, IsSome, MatchOption, inl, inr, refl, sym, ap, ◌∙◌, subst, arith}
use Rattle.std.proofs.lemmas.List.{length-append, length-set}
use Rattle.std.specs.List.{AllByRecursion}
use Rattle.dd_model.specs.Text.{beginning}
use Rattle.dd_model.specs.declared.requests.Request.{Request}
use Rattle.dd_ports.specs.declared.memory_sink.MemorySink.{MemorySink}
use Rattle.dd_front_jobs.specs.Portions.{whole}
use Rattle.dd_check.specs.declared.checkpoint.ResumeKind.TheVariants.{Catalogues}
use Rattle.dd_check.specs.Calls.{Task, Begin, Resume}
use Rattle.dd_check.specs.Chains.{kind_of_task, IsPart, IsJoined}
use Rattle.dd_check.specs.ChainStarts.{Holds, Start, next_start, Starts, StartsAt}
use Rattle.dd_check.proofs.ChainParts.{starts_once, start_kind, catalogue_next, no_shard}
use Rattle.dd_suite.specs.Chains.{ProgramCall, call_of}
use Rattle.dd_suite_tasks.specs.Words.{Order, AskForRun}
use Rattle.dd_suite_tasks.specs.declared.status.Status.{Status}
use Rattle.dd_suite_tasks.specs.declared.status.Status.TheVariants.{Done}
use Rattle.dd_suite_chains.specs.declared.driven.Drive.{Drive}
use Rattle.dd_suite_chains.specs.Words.{AskToKeep, resume_words}
use Rattle.dd_suite_chains.specs.Drives.{Drives, EndAs, GoesOn}
use Rattle.dd_suite_chains.specs.Making.{RunsInto, IsPartOf, IsNextNumber}
use Rattle.dd_suite_chains.specs.Runs.{Kept, IsRun, AreRuns, HaveRun}
use Rattle.dd_suite_chains.proofs.CallLists.{AreParts, ends_last, all_went_on, one_went_on, one_part_more, joined_with_last}
use Rattle.dd_suite_chains.proofs.ResumeWords.{resume_order, first_order, resume_asked}
use Rattle.dd_suite_chains.proofs.RunLemmas.{next_words, one_more, IsCallAt, call_at}

-- the task of the call that comes after these
abbrev pub next_task : Request → List ℕ → List ProgramCall → Task
next_task q name [] = Begin (whole q) (Some name)
next_task q name (p ∷ calls) = Resume Catalogues name

-- the number of a run with this task, and none where it cannot begin
abbrev pub IsNumbered : Task → Option (List ℕ) → Option ℕ → Type 0
IsNumbered task held number = MatchOption number ((s : Start) → Starts task held s → ⊥) (λ n. (s : Start) × Starts task held s × (n ≡ s.number))

pub record Going (words : List (List ℕ)) (name : List ℕ) (from now : Kept) (olds news : List MemorySink) (k : ℕ) (said : List (List ℕ)) (number : Option ℕ) (joined : List ℕ) : Type 0 where
  pub calls : List ProgramCall
  pub runs : AreRuns words name from now olds news calls
  pub count : length calls ≡ k
  pub went : AllByRecursion (GoesOn name) calls
  pub parts : AreParts (map call_of calls) joined
  pub said_is : said ≡ next_words words name calls
  pub numbered : (q : Request) → IsNumbered (next_task q name calls) (now.held name) number
  pub long : length news ≡ length olds
  pub less : k < length olds

pub at_first : (words : List (List ℕ)) (name : List ℕ) (from : Kept) (olds : List MemorySink) → 1 ≤ length olds → Going words name from from olds olds 0 words (Some 1) []
at_first words name from olds some = record {
  calls = [];
  runs = (refl, refl);
  count = refl;
  went = tt;
  parts = refl;
  said_is = refl;
  numbered = λ q. (record { number = 1; portion = whole q; at = beginning; lines = 0 }, refl, refl);
  long = refl;
  less = omega (arith, some);
}

-- ## The words and the task after a call

next_words_last : (words : List (List ℕ)) (name : List ℕ) (calls : List ProgramCall) (p : ProgramCall) → next_words words name (calls ++ (p ∷ [])) ≡ resume_words name
next_words_last words name [] p = refl
next_words_last words name (q ∷ calls) p = refl

next_task_last : (q : Request) (name : List ℕ) (calls : List ProgramCall) (p : ProgramCall) → next_task q name (calls ++ (p ∷ [])) ≡ Resume Catalogues name
next_task_last q name [] p = refl
next_task_last q name (c ∷ calls) p = refl

abbrev next_order : {words : List (List ℕ)} {name : List ℕ} → AskToKeep words name → List ProgramCall → Order
next_order {words} {name} asked [] = first_order asked
next_order {words} {name} asked (p ∷ calls) = resume_order name

asked_next : (words : List (List ℕ)) (name : List ℕ) (asked : AskToKeep words name) (calls : List ProgramCall) → AskForRun (next_words words name calls) (next_order asked calls)
asked_next words name asked [] = asked.run
asked_next words name asked (p ∷ calls) = resume_asked words name asked

-- some order is asked for by the words of the next call
pub some_order : (words : List (List ℕ)) (name : List ℕ) (asked : AskToKeep words name) (calls : List ProgramCall) (said : List (List ℕ)) → said ≡ next_words words name calls
    → (order : Order) × AskForRun said order
some_order words name asked calls said e = (next_order asked calls, subst (λ ws. AskForRun ws (next_order asked calls)) (sym e) (asked_next words name asked calls))

call_is : (words : List (List ℕ)) (name : List ℕ) (asked : AskToKeep words name) (calls : List ProgramCall) (now to : Kept) (old new : MemorySink) (p : ProgramCall)
    → IsRun (next_words words name calls) now to old new p → IsCallAt name (next_task asked.request name calls) now to (call_of p)
call_is words name asked [] now to old new p is = call_at words name (first_order asked) now to old new p asked.run refl is
call_is words name asked (c ∷ calls) now to old new p is = call_at (resume_words name) name (resume_order name) now to old new p (resume_asked words name asked) refl is

numbered_next : (name : List ℕ) (held : Option (List ℕ)) (next : Option ℕ) → IsNextNumber held next → IsNumbered (Resume Catalogues name) held next
numbered_next name held None none = λ s starts. let next = catalogue_next held s starts in none next.0 next.1
numbered_next name held (Some n) is = (next_start None is.0, record { held = record { shard = None; kind_is = refl; check = is.0; holds = is.1 }; start_is = refl }, is.2)

-- ## What a call gives that is not the last

some_number : (a b : ℕ) → Some a ≡ Some b → a ≡ b
some_number a b e = cc

no_number : (a : ℕ) → None ≡ Some a → ⊥
no_number a e = cc

-- a checkpoint is the call's own exactly where it has its number
own_number : (task : Task) (held : Option (List ℕ)) (number : Option ℕ) (s : Start) (run : ℕ) → IsNumbered task held number → Starts task held s → run ≡ s.number → number ≡ Some run
own_number task held None s run none starts e = absurd (none s starts)
own_number task held (Some n) s run is starts e = ap Some (is.2 ∙ ap (λ (t : Start). t.number) (starts_once task held is.0 s is.1 starts) ∙ sym e)

own_start : (task : Task) (held : Option (List ℕ)) (number : Option ℕ) (run : ℕ) → IsNumbered task held number → number ≡ Some run → (s : Start) × Starts task held s × (run ≡ s.number)
own_start task held None run none e = absurd (no_number run e)
own_start task held (Some n) run is e = (is.0, is.1, sym (some_number n run e) ∙ is.2)

module _ (name : List ℕ) (task : Task) (now to : Kept) (p : ProgramCall) (at : IsCallAt name task now to (call_of p)) (kind : kind_of_task task ≡ Catalogues) where
  starts_own : (s : Start) → Starts task (now.held name) s → StartsAt (call_of p) s
  starts_own s starts = subst (λ t. Starts t (call_of p).before s) (sym at.task_is) (subst (λ h. Starts task h s) (sym at.before_is) starts)

  starts_task : (s : Start) → StartsAt (call_of p) s → Starts task (now.held name) s
  starts_task s starts = subst (λ t. Starts t (now.held name) s) at.task_is (subst (λ h. Starts (call_of p).task h s) at.before_is starts)

  -- the call begins with a catalogue
  whole_start : (s : Start) → Starts task (now.held name) s → s.portion.shard ≡ None
  whole_start s starts = no_shard s.portion.shard (start_kind task (now.held name) s starts ∙ kind)

  pub part_is : (number : Option ℕ) (part : List ℕ) → IsNumbered task (now.held name) number → IsPartOf number (to.held name) p.output part → IsPart (call_of p) part
  part_is number part numbered (inl (c, holds, e, same)) =
      let own = own_start task (now.held name) number c.run numbered e in
      inl (c, record { start = own.0; starts = starts_own own.0 own.1; holds = subst (λ h. Holds own.0.portion.shard h c) (sym at.after_is) (subst (λ z. Holds z (to.held name) c) (sym (whole_start own.0 own.1)) holds); number = own.2 }, same)
  part_is number part numbered (inr (none, same)) =
      inr (
        λ c leaves.
            none c (subst (λ z. Holds z (to.held name) c) (whole_start leaves.start (starts_task leaves.start leaves.starts)) (subst (λ h. Holds leaves.start.portion.shard h c) at.after_is leaves.holds)) (own_number task (now.held name) number leaves.start c.run numbered (starts_task leaves.start leaves.starts) leaves.number),
        same,
      )

-- the task of each call is one of catalogues
task_kind : (q : Request) (name : List ℕ) (calls : List ProgramCall) → kind_of_task (next_task q name calls) ≡ Catalogues
task_kind q name [] = refl
task_kind q name (p ∷ calls) = refl

-- ## One more run

module _ (words : List (List ℕ)) (name : List ℕ) (from now to : Kept) (olds news after : List MemorySink) (k : ℕ) (said : List (List ℕ)) (number : Option ℕ) (joined : List ℕ) (status : Status)
    (asked : AskToKeep words name) (going : Going words name from now olds news k said number joined) (ran : RunsInto said now to news after k status) where
  is_next : (d : MemorySink) → IsRun (next_words words name going.calls) now to (get_or news (length going.calls) d) ran.new ran.call
  is_next d =
      subst (λ n. IsRun (next_words words name going.calls) now to (get_or news n d) ran.new ran.call) (sym going.count)
      (subst (λ s. IsRun (next_words words name going.calls) now to s ran.new ran.call) (sym (ran.old_is d))
      (subst (λ ws. IsRun ws now to ran.old ran.new ran.call) going.said_is ran.is_run))

  all_runs : AreRuns words name from to olds after (going.calls ++ (ran.call ∷ []))
  all_runs =
      let less = going.less in
      let count = going.count in
      subst (λ ns. AreRuns words name from to olds ns (going.calls ++ (ran.call ∷ []))) (ap (λ n. set news n ran.new) going.count ∙ sym ran.news_are)
      (one_more words name from now to olds news going.calls ran.call ran.new going.runs (omega (arith, less, count)) is_next)

  pub have_run : HaveRun words name from to olds after
  have_run = record { calls = going.calls ++ (ran.call ∷ []); runs = all_runs }

  counted : length (going.calls ++ (ran.call ∷ [])) ≡ k + 1
  counted = let e = length-append going.calls (ran.call ∷ []) in let count = going.count in omega (arith, e, count)

  -- a last run
  pub drives : (d : Drive) → d.status ≡ status → d.runs ≡ k + 1 → (status ≡ Done) ⊎ ((k + 1 ≡ length olds) ⊎ (to.held name ≡ None)) → d.joined.items ≡ joined ++ ran.call.output
      → Drives words name from to olds after d
  drives d state runs stop bytes = record {
    calls = going.calls ++ (ran.call ∷ []);
    runs = all_runs;
    count = runs ∙ sym counted;
    last = subst (EndAs (going.calls ++ (ran.call ∷ []))) (ran.status_is ∙ sym state) (ends_last going.calls ran.call);
    went_on = all_went_on name going.calls ran.call going.went;
    stop = subst (λ s. (s ≡ Done) ⊎ ((d.runs ≡ length olds) ⊎ (to.held name ≡ None))) (sym state)
        (subst (λ n. (status ≡ Done) ⊎ ((n ≡ length olds) ⊎ (to.held name ≡ None))) (sym runs) stop);
    joined = subst (IsJoined (map call_of (going.calls ++ (ran.call ∷ [])))) (sym bytes) (joined_with_last going.calls ran.call joined going.parts);
  }

  -- a run after which the next one follows
  pub goes_on : (text : List ℕ) (next : Option ℕ) (part whole : List ℕ) → k + 1 < length olds → status ≢ Done → to.held name ≡ Some text
      → IsPartOf number (Some text) ran.call.output part → IsNextNumber (Some text) next → whole ≡ joined ++ part
      → Going words name from to olds after (k + 1) (resume_words name) next whole
  goes_on text next part whole more not_done held is_part is_next_number bytes =
      let at = call_is words name asked going.calls now to ran.old ran.new ran.call (subst (λ ws. IsRun ws now to ran.old ran.new ran.call) going.said_is ran.is_run) in
      let part_here : IsPart (call_of ran.call) part =
      part_is name (next_task asked.request name going.calls) now to ran.call at (task_kind asked.request name going.calls) number part (going.numbered asked.request)
      (subst (λ h. IsPartOf number h ran.call.output part) (sym held) is_part) in
      let left : ran.call.after.held name ≡ Some text = ap (λ a. a.held name) ran.is_run.after ∙ held in
      record {
        calls = going.calls ++ (ran.call ∷ []);
        runs = all_runs;
        count = counted;
        went = one_went_on name going.calls ran.call going.went (record { not_done = λ e. not_done (sym ran.status_is ∙ e); left = subst IsSome (sym left) refl });
        parts = subst (AreParts (map call_of (going.calls ++ (ran.call ∷ [])))) (sym bytes) (one_part_more going.calls ran.call joined part going.parts part_here);
        said_is = sym (next_words_last words name going.calls ran.call);
        numbered = λ q.
            subst (λ t. IsNumbered t (to.held name) next) (sym (next_task_last q name going.calls ran.call))
            (subst (λ h. IsNumbered (Resume Catalogues name) h next) (sym held) (numbered_next name (Some text) next is_next_number));
        long = ap (λ ns. length ns) ran.news_are ∙ length-set news k ran.new ∙ going.long;
        less = more;
      }
