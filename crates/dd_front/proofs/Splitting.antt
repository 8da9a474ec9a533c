-- Children in the place of a job.
use Rattle.std.proofs.Common.{◌≡◌, ℕ, ◌+◌, List, [], ◌∷◌, ◌++◌, length, refl, sym, ap, ◌∙◌, subst, ⊎_elim}
use Rattle.std.proofs.lemmas.List.{length_push}
use Rattle.std.proofs.lemmas.List.Elements.{Contains-append_cases}
use Rattle.std.specs.List.{Contains}
use Rattle.dd_model.specs.Jobs.{IsJobBelow, AreAscendingJobs, AreJobsApart, AreChildren, extended}
use Rattle.dd_model.specs.Joined.{IsPartBelow}
use Rattle.dd_model.specs.declared.requests.Request.{Request}
use Rattle.dd_model.specs.declared.jobs.Job.{Job}
use Rattle.dd_model.proofs.Lists.{Contains-head, Contains-later, each_of, all_from_members}
use Rattle.dd_model.proofs.Orders.{job_not_below_itself}
use Rattle.dd_model.proofs.Ascending.{begins_itself, begins_append, same_when_whole}
use Rattle.dd_model.proofs.Pairs.{ArePairs, pairs_append, pairs_front, pairs_back, pairs_across}
use Rattle.dd_model.proofs.Positions.{part_fronts}
use Rattle.dd_front.specs.Absorbed.{Extends}

-- jobs that extend one job by a number each, and ascend, are apart
pub child_pairs : (job : Job) (cs : List Job) → AreAscendingJobs cs → ((c : Job) → Contains cs c → (k : ℕ) × (c ≡ extended job k)) → ArePairs IsPartBelow cs
child_pairs job [] ascending extend = tt
child_pairs job (c ∷ cs) ascending extend = (
  all_from_members (IsPartBelow c) cs (λ d there. record { below = each_of (IsJobBelow c) cs d ascending.0 there; apart = apart d there }),
  child_pairs job cs ascending.1 (λ d there. extend d (Contains-later c d cs there)),
)
  where
    as_long : (d : Job) → (k : ℕ) × (d ≡ extended job k) → length d.prefix ≡ length job.prefix + 1
    as_long d is = ap (λ (x : Job). length x.prefix) is.1 ∙ length_push job.prefix is.0

    apart : (d : Job) → Contains cs d → AreJobsApart c d
    apart d there size =
        let below = each_of (IsJobBelow c) cs d ascending.0 there in
        let long : length c.prefix ≡ length d.prefix = as_long c (extend c (Contains-head c cs)) ∙ sym (as_long d (extend d (Contains-later c d cs there))) in (
          (λ begins. job_not_below_itself c d below size (sym (same_when_whole c.prefix d.prefix begins long))),
          (λ begins. job_not_below_itself c d below size (same_when_whole d.prefix c.prefix begins (sym long))),
        )

pub child_extends : (job child : Job) → (k : ℕ) × (child ≡ extended job k) → Extends child job
child_extends job child is = subst (λ c. Extends c job) (sym is.1) (record { size = refl; begins = begins_append job.prefix (is.0 ∷ []) })

-- after a split each job is still before all that follow it, and apart from them
pub children_pairs : (q : Request) (front back cs : List Job) (job : Job) → ArePairs IsPartBelow (front ++ job ∷ back) → AreChildren q job cs → ArePairs IsPartBelow (front ++ (cs ++ back))
children_pairs q front back cs job pairs children =
    let behind : ArePairs IsPartBelow (job ∷ back) = pairs_back IsPartBelow front (job ∷ back) pairs in
    let child_of : (c : Job) → Contains cs c → Extends c job = λ c there. child_extends job c (children.extensions.extend c there) in
    pairs_append IsPartBelow front (cs ++ back)
    (pairs_front IsPartBelow front (job ∷ back) pairs)
    (pairs_append IsPartBelow cs back
    (child_pairs job cs children.extensions.ascending children.extensions.extend)
    behind.1
    (λ c k hc hk. let e = child_of c hc in part_fronts job k c k (each_of (IsPartBelow job) back k behind.0 hk) e.size refl e.begins (begins_itself k.prefix)))
    (λ j k hj hk. ⊎_elim
    (λ hc. let e = child_of k hc in part_fronts j job j k (pairs_across IsPartBelow front (job ∷ back) pairs j job hj (Contains-head job back)) refl e.size (begins_itself j.prefix) e.begins)
    (λ hb. pairs_across IsPartBelow front (job ∷ back) pairs j k hj (Contains-later job k back hb))
    (Contains-append_cases cs back k hk))
