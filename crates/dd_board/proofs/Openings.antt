-- At first all jobs of a round are open.
use Rattle.std.proofs.Common.{◌≡◌, inl, inr, List, [], ◌∷◌, refl, ◌∙◌, ap, subst}
use Rattle.std.specs.List.{AllByRecursion}
use Rattle.dd_model.specs.Symbol.{Symbol}
use Rattle.dd_model.specs.Lists.{IsWithout}
use Rattle.dd_model.specs.Position.{IsWhollyBefore}
use Rattle.dd_model.specs.Jobs.{IsJobBelow, AreAscendingJobs}
use Rattle.dd_model.specs.declared.requests.Request.{Request}
use Rattle.dd_model.specs.declared.jobs.Job.{Job}
use Rattle.dd_model.specs.declared.jobs.Position.{Position}
use Rattle.dd_model.specs.declared.jobs.Position.TheVariants.{At}
use Rattle.dd_model.proofs.Differing.{smaller_less}
use Rattle.dd_model.proofs.Orders.{nat_cmp-less, nat_cmp-same, job_cmp_total, job_not_below_itself}
use Rattle.dd_model.proofs.Without.{without_none, without_unique}
use Rattle.dd_model.proofs.Positions.{not_before_itself}
use Rattle.dd_front.specs.Machine.{Machine, IsOpened, StandsAt, open_entries}
use Rattle.dd_front.specs.declared.event.Event.TheVariants.{Resume}
use Rattle.dd_front.specs.Step.{IsStep, Resumes}
use Rattle.dd_front.proofs.Replaced.{all-map}
use Rattle.dd_board.specs.Desk.{first_place}

wholly_below : (j k : Job) → IsWhollyBefore (At j) k → IsJobBelow k j
wholly_below j k (inl less) = rw (nat_cmp-less k.size j.size less) refl
wholly_below j k (inr (same, smaller)) = rw (same, nat_cmp-same j.size) (smaller_less k.prefix j.prefix smaller)

not_later : (j k : Job) → IsJobBelow j k → IsWhollyBefore (At j) k → ⊥
not_later j k below before = job_not_below_itself j j (job_cmp_total.trans j k j below (wholly_below j k before)) refl refl

-- no job is before the first
none_before : (jobs : List Job) → AreAscendingJobs jobs → AllByRecursion (λ k. ¬ IsWhollyBefore (first_place jobs) k) jobs
none_before [] ascending = tt
none_before (job ∷ jobs) ascending =
    (not_before_itself job, all-map (IsJobBelow job) (λ k. ¬ IsWhollyBefore (At job) k) jobs (λ k below. not_later job k below) ascending.0)

stands_first : (jobs : List Job) (at : Position) → StandsAt (first_place jobs) (open_entries 1 jobs) at → at ≡ first_place jobs
stands_first [] at stands = stands
stands_first (job ∷ jobs) at (inl begun) = begun.1
stands_first (job ∷ jobs) at (inr unbegun) = unbegun.1

-- a machine that goes back to its opening
pub open_at_first : (q : Request) (jobs : List Job) (f g : Machine) → IsOpened q jobs (first_place jobs) 0 f → ((emitted : List Symbol) × IsStep f Resume g emitted)
    → g.entries ≡ open_entries 1 jobs
open_at_first q jobs f g opened (emitted, step) =
    let back : Resumes f g = step.0 in
    let stands = subst (λ es. StandsAt (first_place jobs) es f.saved.position) opened.entries opened.saved_position in
    let place = stands_first jobs f.saved.position stands in
    let here = subst (λ at. IsWithout (IsWhollyBefore at) f.opening back.jobs) place back.remaining in
    let left = subst (λ js. IsWithout (IsWhollyBefore (first_place jobs)) js back.jobs) opened.opening here in
    let whole = without_none (IsWhollyBefore (first_place jobs)) jobs (none_before jobs opened.ascending) in
    ap (λ (m : Machine). m.entries) back.after ∙ ap (open_entries 1) (without_unique (IsWhollyBefore (first_place jobs)) jobs back.jobs jobs left whole)
