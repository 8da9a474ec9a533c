-- Entries that come from jobs which ascend and are apart stand in blocks, one for each job.
use Rattle.std.proofs.Common.{◌≡◌, ◌≢◌, ◌⊎◌, List, [], ◌∷◌, ◌++◌, refl, sym, ap, ◌∙◌, subst, inl, inr, ⊎_elim}
use Rattle.std.proofs.lemmas.Bool.{cases_eq}
use Rattle.std.proofs.lemmas.List.Elements.{Contains-append_right, Contains-append_cases}
use Rattle.std.specs.List.{AllByRecursion, Contains}
use Rattle.dd_model.specs.Jobs.{IsJobBelow, AreAscendingJobs}
use Rattle.dd_model.specs.Joined.{IsPartBelow}
use Rattle.dd_model.specs.declared.jobs.Job.{Job}
use Rattle.dd_model.proofs.Lists.{cons_head, Contains-none, Contains-head, Contains-later, Contains-cases, each_of, all_from_members}
use Rattle.dd_model.proofs.Orders.{jobs_not_both}
use Rattle.dd_model.proofs.Pairs.{ArePairs}
use Rattle.dd_model.proofs.Differing.{begins_or_not, one_begins}
use Rattle.dd_model.proofs.Positions.{part_fronts}
use Rattle.dd_front.specs.declared.entry.Entry.{Entry}
use Rattle.dd_front.specs.Machine.{jobs_of}
use Rattle.dd_front.specs.Absorbed.{Extends}
use Rattle.dd_front.specs.Joining.{AreBlocks}

extends_or_not : (child job : Job) → Extends child job ⊎ ¬ Extends child job
extends_or_not child job = ⊎_elim
    (λ size. ⊎_elim (λ begins. inl (record { size = size; begins = begins })) (λ differs. inr (λ e. differs e.begins)) (begins_or_not job.prefix child.prefix))
    (λ differs. inr (λ e. differs e.size))
    (cases_eq child.size job.size)

-- one job does not extend two that are apart
not_of_both : (j k child : Job) → IsPartBelow j k → Extends child j → Extends child k → ⊥
not_of_both j k child part ej ek =
    let apart = part.apart (sym ej.size ∙ ek.size) in
    ⊎_elim apart.0 apart.1 (one_begins j.prefix k.prefix child.prefix ej.begins ek.begins)

-- what extends the one is below what extends the other
extensions_below : (j k c d : Job) → IsPartBelow j k → Extends c j → Extends d k → IsJobBelow c d
extensions_below j k c d part ec ed = (part_fronts j k c d part ec.size ed.size ec.begins ed.begins).below

-- the entries in front that come from a job
record Span (job : Job) (es : List Entry) : Type 0 where
  own : List Entry
  rest : List Entry
  parts : es ≡ own ++ rest
  come : AllByRecursion (λ e. Extends e.job job) own
  stops : (e : Entry) (tail : List Entry) → rest ≡ e ∷ tail → ¬ Extends e.job job

span : (job : Job) (es : List Entry) → Span job es
span job [] = record { own = []; rest = []; parts = refl; come = tt; stops = λ e tail is. absurd cc }
span job (e ∷ es) = ⊎_elim
    (λ yes. let s = span job es in record { own = e ∷ s.own; rest = s.rest; parts = ap (λ ds. e ∷ ds) s.parts; come = (yes, s.come); stops = s.stops })
    (λ differs. record { own = []; rest = e ∷ es; parts = refl; come = tt; stops = λ d tail is. subst (λ x. ¬ Extends x.job job) (cons_head e d es tail is) differs })
    (extends_or_not e.job job)

ascending_tail : (own rest : List Entry) → AreAscendingJobs (jobs_of (own ++ rest)) → AreAscendingJobs (jobs_of rest)
ascending_tail [] rest h = h
ascending_tail (e ∷ own) rest h = ascending_tail own rest h.1

below_first : (e d : Entry) (es : List Entry) → AllByRecursion (IsJobBelow e.job) (jobs_of es) → Contains es d → IsJobBelow e.job d.job
below_first e d [] all there = absurd (Contains-none d there)
below_first e d (x ∷ es) all there = ⊎_elim (λ is. subst (λ y. IsJobBelow e.job y.job) is all.0) (λ later. below_first e d es all.1 later) (Contains-cases x d es there)

-- none that follow come from the job
others_not : (job : Job) (jobs : List Job) (rest : List Entry) → ArePairs IsPartBelow (job ∷ jobs) → AreAscendingJobs (jobs_of rest)
    → ((e : Entry) → Contains rest e → (j : Job) × Contains (job ∷ jobs) j × Extends e.job j)
    → ((e : Entry) (tail : List Entry) → rest ≡ e ∷ tail → ¬ Extends e.job job) → AllByRecursion (λ e. ¬ Extends e.job job) rest
others_not job jobs [] pairs ascending extend stops = tt
others_not job jobs (e ∷ rest) pairs ascending extend stops =
    let not : ¬ Extends e.job job = stops e rest refl in
    let j = extend e (Contains-head e rest) in
    let later : Contains jobs j.0 = ⊎_elim (λ is. absurd (not (subst (Extends e.job) (sym is) j.2))) (λ there. there) (Contains-cases job j.0 jobs j.1) in (
      not,
      all_from_members (λ d. ¬ Extends d.job job) rest (λ d there extends.
          jobs_not_both e.job d.job (below_first e d rest ascending.0 there) (extensions_below job j.0 d.job e.job (each_of (IsPartBelow job) jobs j.0 pairs.0 later) extends j.2)),
    )

pub blocks_from : (jobs : List Job) (es : List Entry) → ArePairs IsPartBelow jobs → AreAscendingJobs (jobs_of es)
    → ((e : Entry) → Contains es e → (j : Job) × Contains jobs j × Extends e.job j) → ((j : Job) → Contains jobs j → (e : Entry) × Contains es e × Extends e.job j) → AreBlocks jobs es
blocks_from [] [] pairs ascending extend each = refl
blocks_from [] (e ∷ es) pairs ascending extend each = let j = extend e (Contains-head e es) in absurd (Contains-none j.0 j.1)
blocks_from (job ∷ jobs) es pairs ascending extend each =
    let s = span job es in
    let there : (e : Entry) → Contains s.rest e → Contains es e = λ e in_rest. subst (λ ds. Contains ds e) (sym s.parts) (Contains-append_right s.own s.rest e in_rest) in
    let tail : AreAscendingJobs (jobs_of s.rest) = ascending_tail s.own s.rest (subst (λ ds. AreAscendingJobs (jobs_of ds)) s.parts ascending) in
    let others = others_not job jobs s.rest pairs tail (λ e in_rest. extend e (there e in_rest)) s.stops in
    let some : s.own ≢ [] = λ none.
    let e = each job (Contains-head job jobs) in
    let in_rest : Contains s.rest e.0 = subst (λ ds. Contains ds e.0) (s.parts ∙ ap (λ ds. ds ++ s.rest) none) e.1 in
    each_of (λ d. ¬ Extends d.job job) s.rest e.0 others in_rest e.2 in (
      s.own,
      s.rest,
      record { parts = s.parts; some = some; come = s.come; others = others },
      blocks_from jobs s.rest pairs.1 tail
          (λ e in_rest.
          let j = extend e (there e in_rest) in
          ⊎_elim
          (λ is. absurd (each_of (λ d. ¬ Extends d.job job) s.rest e others in_rest (subst (Extends e.job) (sym is) j.2)))
          (λ later. (j.0, later, j.2))
          (Contains-cases job j.0 jobs j.1))
          (λ j in_jobs.
          let e = each j (Contains-later job j jobs in_jobs) in
          ⊎_elim
          (λ in_own. absurd (not_of_both job j e.0.job (each_of (IsPartBelow job) jobs j pairs.0 in_jobs) (each_of (λ d. Extends d.job job) s.own e.0 s.come in_own) e.2))
          (λ in_rest. (e.0, in_rest, e.2))
          (Contains-append_cases s.own s.rest e.0 (subst (λ ds. Contains ds e.0) s.parts e.1))),
    )
