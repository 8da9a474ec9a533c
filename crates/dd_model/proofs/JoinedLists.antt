-- Lists of what is under jobs that ascend and are apart join to an ascending list.
use Rattle.std.proofs.Common.{List, [], ◌∷◌, ◌++◌, sym, subst, ⊎_elim}
use Rattle.std.proofs.lemmas.List.Elements.{Contains-append_right, Contains-append_left, Contains-append_cases, Contains-push}
use Rattle.std.specs.List.{Contains}
use Rattle.dd_model.specs.Symbol.{Symbol}
use Rattle.dd_model.specs.Jobs.{AreAscendingJobs, AreApart, IsMemberUnder, AreMembersUnder}
use Rattle.dd_model.specs.Joined.{AreUnderInTurn, joined, AreUnderJobs, IsPartBelow}
use Rattle.dd_model.specs.declared.requests.Request.{Request}
use Rattle.dd_model.specs.declared.jobs.Job.{Job}
use Rattle.dd_model.proofs.Lists.{Contains-none, Contains-one, each_of}
use Rattle.dd_model.proofs.Ascending.{ascending-append}
use Rattle.dd_model.proofs.Positions.{under_below}

-- the first of a list of jobs is below each later one, and apart from it
pub first_parts : (j k : Job) (jobs : List Job) → AreAscendingJobs (j ∷ jobs) → AreApart (j ∷ jobs) → Contains jobs k → IsPartBelow j k
first_parts j k jobs ascending apart there = record { below = each_of _ jobs k ascending.0 there; apart = each_of _ jobs k apart.0 there }

pub under_none : (q : Request) → AreUnderJobs q [] []
under_none q = record { ascending = tt; members = λ s. ((λ there. absurd (Contains-none s there)), (λ under. absurd (Contains-none under.job under.listed))) }

pub under_one : (q : Request) (job : Job) (ss : List Symbol) → AreMembersUnder q job ss → AreUnderJobs q (job ∷ []) ss
under_one q job ss are = record {
  ascending = are.ascending;
  members = λ s. (
    (λ there. record { job = job; listed = Contains-push [] job; under = (are.members s).0 there }),
    (λ under. (are.members s).1 (subst (λ j. IsMemberUnder q j s) (sym (Contains-one job under.job under.listed)) under.under)),
  );
}

pub under_append : (q : Request) (js ks : List Job) (ss ts : List Symbol) → ((j k : Job) → Contains js j → Contains ks k → IsPartBelow j k)
    → AreUnderJobs q js ss → AreUnderJobs q ks ts → AreUnderJobs q (js ++ ks) (ss ++ ts)
under_append q js ks ss ts parts us ut = record {
  ascending = ascending-append ss ts us.ascending ut.ascending (λ s t hs ht.
      let a = (us.members s).0 hs in
      let b = (ut.members t).0 ht in
      under_below q a.job b.job s t (parts a.job b.job a.listed b.listed) a.under b.under);
  members = λ s. (
    (λ there. ⊎_elim
        (λ early. let a = (us.members s).0 early in record { job = a.job; listed = Contains-append_left js ks a.job a.listed; under = a.under })
        (λ late. let b = (ut.members s).0 late in record { job = b.job; listed = Contains-append_right js ks b.job b.listed; under = b.under })
        (Contains-append_cases ss ts s there)),
    (λ under. ⊎_elim
        (λ early. Contains-append_left ss ts s ((us.members s).1 (record { job = under.job; listed = early; under = under.under })))
        (λ late. Contains-append_right ss ts s ((ut.members s).1 (record { job = under.job; listed = late; under = under.under })))
        (Contains-append_cases js ks under.job under.listed)),
  );
}

pub in_turn_joined : (q : Request) (jobs : List Job) (lists : List (List Symbol)) → AreAscendingJobs jobs → AreApart jobs → AreUnderInTurn q jobs lists → AreUnderJobs q jobs (joined lists)
in_turn_joined q [] [] ascending apart are = under_none q
in_turn_joined q [] (ss ∷ lists) ascending apart are = absurd are
in_turn_joined q (job ∷ jobs) [] ascending apart are = absurd are
in_turn_joined q (job ∷ jobs) (ss ∷ lists) ascending apart are =
    under_append q (job ∷ []) jobs ss (joined lists)
    (λ j k hj hk. subst (λ i. IsPartBelow i k) (Contains-one job j hj) (first_parts job k jobs ascending apart hk))
    (under_one q job ss are.0) (in_turn_joined q jobs lists ascending.1 apart.1 are.1)
