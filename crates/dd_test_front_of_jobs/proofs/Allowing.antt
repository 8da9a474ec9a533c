-- Where an entry is out, a split of its job and the list of what is under it are allowed.
use Rattle.std.proofs.Common.{◌≡◌, ◌⊎◌, inr, ℕ, List, subst, sym}
use Rattle.std.specs.List.{Contains}
use Rattle.dd_model.specs.Symbol.{Symbol}
use Rattle.dd_model.specs.Jobs.{AreMembersUnder, AreChildren}
use Rattle.dd_model.specs.declared.requests.Request.{Request}
use Rattle.dd_model.specs.declared.jobs.Job.{Job}
use Rattle.dd_front.specs.declared.entry.State.TheVariants.{Out}
use Rattle.dd_front.specs.Machine.{Machine, entry_of}
use Rattle.dd_front.specs.Allowed.{MaySplit, MayFinish}

pub split_allowed : (f : Machine) (q : Request) (k : ℕ) (job : Job) (jobs parts : List Job) → Contains f.entries (entry_of k job Out)
    → q ≡ f.request → parts ≡ jobs → AreChildren q job jobs → (k ≡ 0) ⊎ MaySplit f k parts
split_allowed f q k job jobs parts out same is children = inr (record {
  out = record { job = job; stands = out };
  children = subst (λ r. AreChildren r job parts) same (subst (AreChildren q job) (sym is) children);
})

pub finish_allowed : (f : Machine) (q : Request) (k : ℕ) (job : Job) (found list : List Symbol) → Contains f.entries (entry_of k job Out)
    → q ≡ f.request → list ≡ found → AreMembersUnder q job found → (k ≡ 0) ⊎ MayFinish f k list
finish_allowed f q k job found list out same is under = inr (record {
  out = record { job = job; stands = out };
  under = subst (λ r. AreMembersUnder r job list) same (subst (AreMembersUnder q job) (sym is) under);
})
