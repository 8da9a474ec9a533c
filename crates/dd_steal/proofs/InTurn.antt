-- Entries that are done, in the order of their jobs.
use Rattle.std.proofs.Common.{◌≡◌, ◌+◌, ◌<◌, ℕ, zero, suc, ⊎_elim, List, [], ◌∷◌, ◌++◌, length, take, get_or, map, refl, sym, ap, ◌∙◌, subst, arith}
use Rattle.std.proofs.lemmas.List.{take_more, length-take}
use Rattle.std.specs.List.{AllByRecursion, Contains}
use Rattle.dd_model.specs.Symbol.{Symbol}
use Rattle.dd_model.specs.Jobs.{AreAscendingJobs, AreApart, AreMembersUnder}
use Rattle.dd_model.specs.Joined.{AreUnderInTurn, AreUnderJobs, joined}
use Rattle.dd_model.specs.declared.requests.Request.{Request}
use Rattle.dd_model.specs.declared.jobs.Job.{Job}
use Rattle.dd_model.proofs.Ascending.{all-append}
use Rattle.dd_model.proofs.JoinedLists.{in_turn_joined}
use Rattle.dd_model.proofs.Lists.{Contains-none, Contains-head, Contains-later, Contains-cases, Contains-map}
use Rattle.dd_front.specs.declared.entry.Entry.{Entry}
use Rattle.dd_front.specs.declared.entry.State.TheVariants.{Done}
use Rattle.dd_front.specs.Absorbed.{Extends, IsFound, ComeFrom, found_by, list_of}
use Rattle.dd_front.specs.Joining.{done_with}
use Rattle.dd_front.specs.Machine.{entry_of, jobs_of}
use Rattle.dd_steal.proofs.Parts.{HasPart, extends_itself}

abbrev found_list : Entry → List Symbol
found_list e = list_of e.state

found_in_turn : (q : Request) (es : List Entry) → AllByRecursion (IsFound q) es → AreUnderInTurn q (jobs_of es) (map found_list es)
found_in_turn q [] all = tt
found_in_turn q (e ∷ es) all = (subst (λ state. AreMembersUnder q e.job (list_of state)) (sym all.0.done) all.0.under, found_in_turn q es all.1)

found_joined : (es : List Entry) → joined (map found_list es) ≡ found_by es
found_joined [] = refl
found_joined (e ∷ es) = ap (λ ss. list_of e.state ++ ss) (found_joined es)

-- what they have found is what is under their jobs
pub found_under : (q : Request) (es : List Entry) → AreAscendingJobs (jobs_of es) → AreApart (jobs_of es) → AllByRecursion (IsFound q) es
    → AreUnderJobs q (jobs_of es) (found_by es)
found_under q es ascending apart found =
    subst (AreUnderJobs q (jobs_of es)) (found_joined es) (in_turn_joined q (jobs_of es) (map found_list es) ascending apart (found_in_turn q es found))

-- the entry of a job
own_part : (es : List Entry) (job : Job) → Contains (jobs_of es) job → HasPart job es
own_part [] job there = absurd (Contains-none job there)
own_part (e ∷ es) job there =
    ⊎_elim
    (λ first. record { entry = e; listed = Contains-head e es; extends = subst (λ j. Extends e.job j) first (extends_itself e.job) })
    (λ later. let part = own_part es job later in record { entry = part.entry; listed = Contains-later e part.entry es part.listed; extends = part.extends })
    (Contains-cases e.job job (jobs_of es) there)

-- One entry for each job of a round, each done, come from it.
pub come_from_own : (q : Request) (jobs : List Job) (es : List Entry) → AreAscendingJobs jobs → AreApart jobs → jobs_of es ≡ jobs → AllByRecursion (IsFound q) es
    → ComeFrom q jobs es
come_from_own q jobs es ascending apart same found =
    let in_order = subst AreAscendingJobs (sym same) ascending in
    let parted = subst AreApart (sym same) apart in
    record {
      found = found;
      ascending = in_order;
      apart = parted;
      extend = λ e there. (e.job, subst (λ js. Contains js e.job) same (Contains-map (λ (x : Entry). x.job) es e there), extends_itself e.job);
      each = λ job there. let part = own_part es job (subst (λ js. Contains js job) (sym same) there) in (part.entry, part.listed, part.extends);
      all = subst (λ js. AreUnderJobs q js (found_by es)) same (found_under q es in_order parted found);
    }

-- ## Entries that are done where they stand

done_more : (lists : List (List Symbol)) (list : List Symbol) (es : List Entry) (e : Entry) → length lists ≡ length es
    → done_with (lists ++ list ∷ []) (es ++ e ∷ []) ≡ done_with lists es ++ entry_of e.number e.job (Done list) ∷ []
done_more [] list [] e long = refl
done_more [] list (d ∷ es) e long = absurd (omega arith)
done_more (l ∷ lists) list [] e long = absurd (omega arith)
done_more (l ∷ lists) list (d ∷ es) e long = ap (λ ds. entry_of d.number d.job (Done l) ∷ ds) (done_more lists list es e (omega arith))

-- one more of the entries is done with what is under its job
pub found_push : (q : Request) (lists : List (List Symbol)) (list : List Symbol) (es : List Entry) (at : ℕ) (e : Entry) → at < length es → e ≡ get_or es at e → length lists ≡ at
    → AllByRecursion (IsFound q) (done_with lists (take at es)) → AreMembersUnder q e.job list → AllByRecursion (IsFound q) (done_with (lists ++ list ∷ []) (take (at + 1) es))
found_push q lists list es at e low is long found under =
    let taken = length-take at es in
    let more : take (at + 1) es ≡ take at es ++ e ∷ [] = take_more es at e low ∙ ap (λ d. take at es ++ d ∷ []) (sym is) in
    let one : IsFound q (entry_of e.number e.job (Done list)) = record { list = list; done = refl; under = under } in
    subst (λ ds. AllByRecursion (IsFound q) (done_with (lists ++ list ∷ []) ds)) (sym more)
    (subst (AllByRecursion (IsFound q)) (sym (done_more lists list (take at es) e (omega (arith, long, taken, low))))
    (all-append (IsFound q) (done_with lists (take at es)) (entry_of e.number e.job (Done list) ∷ []) found (one, tt)))

-- what holds of all jobs holds of that of each entry
pub job_at : (P : Job → Type 0) (es : List Entry) (at : ℕ) (e : Entry) → at < length es → e ≡ get_or es at e → AllByRecursion P (jobs_of es) → P e.job
job_at P [] at e low is all = absurd (omega arith)
job_at P (d ∷ es) zero e low is all = subst (λ (x : Entry). P x.job) (sym is) all.0
job_at P (d ∷ es) (suc at) e low is all = job_at P es at e (omega arith) is all.1
