-- The children of a job under which a member may be.
use Rattle.std.proofs.Common.{◌≡◌, ℕ, List, ◌++◌, ◌∷◌, [], length, ◌*◌, ◌<◌, ap, sym, subst, ◌∙◌, inr, ⊎_elim, arith}
use Rattle.std.specs.List.{Contains}
use Rattle.dd_model.specs.Symbol.{Symbol}
use Rattle.dd_model.specs.Wanted.{IsMember}
use Rattle.dd_model.specs.Jobs.{IsMemberUnder, AreExtensions, AreChildren, extended}
use Rattle.dd_model.proofs.Lists.{Contains-one}
use Rattle.dd_model.specs.declared.requests.Request.{Request}
use Rattle.dd_model.specs.declared.jobs.Job.{Job}
use Rattle.dd_model.specs.Code.{code}
use Rattle.dd_model.proofs.Ascending.{begins_less}
use Rattle.dd_front_jobs.specs.Under.{HasNothingUnder}
use Rattle.dd_branch_tables.specs.Stem.{Any, prefix_of, size_of}
use Rattle.dd_branch_tables.proofs.Follows.{member_orderly}
use Rattle.dd_branch_tables.proofs.Stems.{any_under}
use Rattle.dd_branch.specs.Descent.{Descending}
use Rattle.dd_branch.proofs.Descents.{dead_job, no_member_of_job}

-- a search that has come to the prefix of a job
pub record HasReached (q : Request) (job : Job) (d : Descending) : Type 0 where
  pub request : d.request ≡ q
  pub size : size_of d.stem ≡ job.size
  pub prefix : prefix_of d.stem ≡ job.prefix

-- no extension of a job under which no member is has one
pub extensions_dead : (q : Request) (job : Job) → HasNothingUnder (IsMember q) job.size job.prefix → AreExtensions q job []
extensions_dead q job none = record {
  ascending = tt;
  extend = λ child there. absurd (let below = there.1 in omega arith);
  complete = λ k. inr (λ s under. none s (record { wanted = under.member; orderly = member_orderly q s under.member; size = under.size; begins = (begins_less job.prefix (code s) k under.begins).0 }));
}

-- no member is under a job with a number more that the search refuses
pub none_extended : (q : Request) (job : Job) (d : Descending) (k : ℕ) → HasReached q job d
    → HasNothingUnder (IsMember d.request) (size_of d.stem) (prefix_of d.stem ++ k ∷ []) → (s : Symbol) → IsMemberUnder q (extended job k) s → ⊥
none_extended q job d k at dead =
    no_member_of_job q (extended job k) (dead_job q (extended job k) d (prefix_of d.stem ++ k ∷ []) at.request at.size (ap (λ xs. xs ++ k ∷ []) at.prefix) dead)

-- nothing that is wanted is under a longer prefix under which no table is
pub none_where_no_table : (W : Symbol → Type 0) (n : ℕ) (prefix : List ℕ) (k : ℕ) → HasNothingUnder Any n (prefix ++ k ∷ []) → HasNothingUnder W n (prefix ++ k ∷ [])
none_where_no_table W n prefix k none s under = none s (any_under W n (prefix ++ k ∷ []) s under)

-- the child with the number 0, where there is none else
pub dead_child : (q : Request) (job : Job) (jobs new : List Job) → length job.prefix < 3 * job.size → jobs ≡ [] → new ≡ jobs ++ extended job 0 ∷ [] → AreExtensions q job jobs → AreChildren q job new
dead_child q job jobs new short none grown old =
    let whole : new ≡ extended job 0 ∷ [] = grown ∙ ap (λ js. js ++ extended job 0 ∷ []) none in
    record {
      shorter = short;
      some = λ e. let clash : extended job 0 ∷ [] ≡ [] = sym whole ∙ e in let l : length (extended job 0 ∷ []) ≡ 0 = ap length clash in omega arith;
      extensions = subst (AreExtensions q job) (sym whole) (record {
        ascending = (tt, tt);
        extend = λ child there. (0, sym (Contains-one (extended job 0) child there));
        complete = λ k. ⊎_elim
            (λ there. absurd (let low = (subst (λ js. Contains js (extended job k)) none there).1 in omega arith))
            (λ nothing. inr nothing)
            (old.complete k);
      });
    }
