-- What the answer of a drive says of what was written, and of why it ended.
use Rattle.std.proofs.Common.{◌≡◌, ◌⊎◌, ℕ, List, [], ◌∷◌, map, Option, Some, None, ⊎_elim, sym, ap, ◌∙◌, subst}
use Rattle.dd_model.specs.Text.{IsText, beginning}
use Rattle.dd_model.specs.Wanted.{IsCatalogue}
use Rattle.dd_model.specs.declared.requests.Request.{Request}
use Rattle.dd_ports.specs.Causes.{Rose}
use Rattle.dd_ports.specs.declared.memory_sink.MemorySink.{MemorySink}
use Rattle.dd_front_jobs.specs.declared.portions.Portion.{Portion}
use Rattle.dd_front_jobs.specs.Portions.{whole}
use Rattle.dd_check.specs.Calls.{Begin, Done}
use Rattle.dd_check.specs.Chains.{IsJoined}
use Rattle.dd_check.specs.ChainOutcomes.{IsFront}
use Rattle.dd_check.proofs.Chained.{chain_ends, chain_writes}
use Rattle.dd_suite.specs.Chains.{ProgramCall, call_of}
use Rattle.dd_suite_tasks.specs.Words.{Order, AskFor}
use Rattle.dd_suite_tasks.specs.declared.status.Status.TheVariants as status
use Rattle.dd_suite.proofs.ProgramCalls.{all_meet}
use Rattle.dd_suite_tasks.proofs.Requests.{one_order}
use Rattle.dd_suite_chains.specs.declared.driven.Drive.{Drive}
use Rattle.dd_suite_chains.specs.Words.{AskToKeep, resume_words}
use Rattle.dd_suite_chains.specs.Drives.{Drives, EndAs}
use Rattle.dd_suite_chains.specs.Runs.{Kept, AreRuns}
use Rattle.dd_suite_chains.specs.Sentences.{IsItsText, IsItsFront, HasRisen, HasPaused, HasTooMany, HoldsOutOfRange}
use Rattle.dd_suite_chains.proofs.CallLists.{chain_ends_as}
use Rattle.dd_suite_chains.proofs.Causes.{last_store, last_sink, last_usage, last_too_many, only_paused, first_refused, resume_refused, resume_not_paused}
use Rattle.dd_suite_chains.proofs.LastCalls.{IsLast, IsOnly, last_of}
use Rattle.dd_suite_chains.proofs.ResumeWords.{first_order, resume_asked}
use Rattle.dd_suite_chains.proofs.RunLemmas.{all_calls, are_chain, request_valid}

one_request : (q r : Request) (m n : Option (List ℕ)) → Begin (whole q) m ≡ Begin (whole r) n → q ≡ r
one_request q r m n e = let same : whole q ≡ whole r = cc in ap (λ (p : Portion). p.request) same

-- the words ask for one request
pub request_is : (words : List (List ℕ)) (name : List ℕ) (asked : AskToKeep words name) (q : Request) → AskFor words (whole q) → asked.request ≡ q
request_is words name asked q is =
    one_request asked.request q (Some name) is.name (ap (λ (o : Order). o.task)
    (one_order words (first_order asked) (record { task = Begin (whole q) is.name; round = is.round; pause = is.pause }) asked.run is.run))

module _ (words : List (List ℕ)) (name : List ℕ) (from to : Kept) (olds news : List MemorySink) (d : Drive) (asked : AskToKeep words name) (empty : from.held name ≡ None)
    (drives : Drives words name from to olds news d) where
  -- ## What was written

  writes : (calls : List ProgramCall) (bytes : List ℕ) → EndAs calls d.status → AreRuns words name from to olds news calls → IsJoined (map call_of calls) bytes
      → IsFront (whole asked.request) bytes × (d.status ≡ status.Done → IsText asked.request beginning 0 bytes)
  writes [] bytes ends runs joined = absurd ends
  writes (p ∷ calls) bytes ends runs joined =
      let chain = are_chain words name from to olds news p calls asked empty runs in
      let meet = all_meet (p ∷ calls) (all_calls words name from to olds news (p ∷ calls) runs) in (
        chain_writes (whole asked.request) (Some name) (map call_of (p ∷ calls)) bytes chain.0 meet chain.1 joined,
        λ done.
            (chain_ends (whole asked.request) (Some name) (map call_of (p ∷ calls)) bytes Done chain.0 meet chain.1
            (chain_ends_as (p ∷ calls) status.Done (subst (EndAs (p ∷ calls)) done ends)) joined).end,
      )

  pub front_of : IsItsFront words d.joined.items
  front_of r is = subst (λ (x : Request). IsFront (whole x) d.joined.items) (request_is words name asked r is) (writes drives.calls d.joined.items drives.last drives.runs drives.joined).0

  pub whole_of : d.status ≡ status.Done → IsItsText words d.joined.items
  whole_of done r is =
      subst (λ (x : Request). IsText x beginning 0 d.joined.items) (request_is words name asked r is) ((writes drives.calls d.joined.items drives.last drives.runs drives.joined).1 done)

  -- ## Why it ended

  last_call : (calls : List ProgramCall) → EndAs calls d.status → AreRuns words name from to olds news calls
      → IsOnly words name from to olds news calls asked.request ⊎ IsLast asked.request name from to olds news calls (resume_words name)
  last_call [] ends runs = absurd ends
  last_call (p ∷ calls) ends runs = last_of words name from to olds news p calls asked empty runs

  abbrev last : IsOnly words name from to olds news drives.calls asked.request ⊎ IsLast asked.request name from to olds news drives.calls (resume_words name)
  last = last_call drives.calls drives.last drives.runs

  pub store_of : d.status ≡ status.StoreFault → Rose from.faults to.faults
  store_of e =
      let ends = subst (EndAs drives.calls) e drives.last in
      ⊎_elim
      (λ only. last_store asked.request name from to olds news drives.calls words only.last ends)
      (λ later. last_store asked.request name from to olds news drives.calls (resume_words name) later ends)
      last

  pub sink_of : d.status ≡ status.SinkFault → HasRisen olds news d.runs
  sink_of e =
      let ends = subst (EndAs drives.calls) e drives.last in
      ⊎_elim
      (λ only. last_sink asked.request name from to olds news drives.calls words only.last d.runs drives.count ends)
      (λ later. last_sink asked.request name from to olds news drives.calls (resume_words name) later d.runs drives.count ends)
      last

  pub usage_of : d.status ≡ status.Usage → ⊥
  usage_of e =
      let ends = subst (EndAs drives.calls) e drives.last in
      ⊎_elim
      (λ only. last_usage asked.request name from to olds news drives.calls words only.last ends)
      (λ later. last_usage asked.request name from to olds news drives.calls (resume_words name) later ends)
      last

  pub many_of : d.status ≡ status.TooManyLines → HasTooMany words
  many_of e r members is all =
      let ends = subst (EndAs drives.calls) e drives.last in
      let own = subst (λ (x : Request). IsCatalogue x members) (sym (request_is words name asked r is)) all in
      ⊎_elim
      (λ only. last_too_many asked.request name from to olds news drives.calls words only.last members ends own)
      (λ later. last_too_many asked.request name from to olds news drives.calls (resume_words name) later members ends own)
      last

  pub paused_of : d.status ≡ status.Paused → (d.runs ≡ 1) × HasPaused words from olds news
  paused_of e =
      let ends = subst (EndAs drives.calls) e drives.last in
      ⊎_elim
      (λ only. (drives.count ∙ only.one, only_paused words name from to olds news drives.calls asked.request only ends))
      (λ l. absurd (resume_not_paused name (resume_asked words name asked) l.mid to l.old l.new l.call l.is_run (l.ended status.Paused ends)))
      last

  pub refused_of : d.status ≡ status.Refused → HoldsOutOfRange (to.held name)
  refused_of e =
      let ends = subst (EndAs drives.calls) e drives.last in
      ⊎_elim
      (λ only. let l = only.last in absurd (first_refused words name asked l.mid to l.old l.new l.call l.is_run (l.ended status.Refused ends)))
      (λ l.
      resume_refused name (resume_asked words name asked) l.mid to l.old l.new l.call l.is_run asked.request (request_valid words name asked) l.held (l.ended status.Refused ends))
      last
