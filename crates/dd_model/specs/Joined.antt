-- What is under several jobs.
use Rattle.std.specs.Prelude.{◌↔◌, ◌⊎◌, List, [], ◌∷◌, ◌++◌}
use Rattle.std.specs.List.{AllByRecursion, Contains}
use Rattle.dd_model.specs.Symbol.{Symbol}
use Rattle.dd_model.specs.Code.{IsBelow}
use Rattle.dd_model.specs.Wanted.{IsMember, IsAscending}
use Rattle.dd_model.specs.Jobs.{IsJobBelow, AreJobsApart, IsMemberUnder, AreMembersUnder}
use Rattle.dd_model.specs.declared.requests.Request.{Request}
use Rattle.dd_model.specs.declared.jobs.Job.{Job}

-- lists of what is under some jobs, one list for each
abbrev pub AreUnderInTurn : Request → List Job → List (List Symbol) → Type 0
AreUnderInTurn q [] [] = Unit {0}
AreUnderInTurn q [] (ss ∷ lists) = ⊥
AreUnderInTurn q (job ∷ jobs) [] = ⊥
AreUnderInTurn q (job ∷ jobs) (ss ∷ lists) = AreMembersUnder q job ss × AreUnderInTurn q jobs lists

-- the lists one after the other
abbrev pub joined : List (List Symbol) → List Symbol
joined [] = []
joined (ss ∷ lists) = ss ++ joined lists

-- a member under one of the jobs
pub record IsUnderOne (q : Request) (jobs : List Job) (s : Symbol) : Type 0 where
  pub job : Job
  pub listed : Contains jobs job
  pub under : IsMemberUnder q job s

-- all members under the jobs, ascending
pub record AreUnderJobs (q : Request) (jobs : List Job) (ss : List Symbol) : Type 0 where
  pub ascending : IsAscending ss
  pub members : (s : Symbol) → Contains ss s ↔ IsUnderOne q jobs s

-- j comes before k, and neither is a part of the other
pub record IsPartBelow (j k : Job) : Type 0 where
  pub below : IsJobBelow j k
  pub apart : AreJobsApart j k

-- the first members of a catalogue: each other member comes after all of them
pub record AreFirstMembers (q : Request) (ss : List Symbol) : Type 0 where
  pub ascending : IsAscending ss
  pub members : (s : Symbol) → Contains ss s → IsMember q s
  pub first : (s : Symbol) → IsMember q s → Contains ss s ⊎ AllByRecursion (λ m. IsBelow m s) ss
