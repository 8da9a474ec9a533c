-- What holds of the jobs, the members and the text of every portion.
use Rattle.std.proofs.Common.{◌≡◌, ◌↔◌, ℕ, List, Option, Some, None, ◌∷◌, sym, subst}
use Rattle.std.proofs.lemmas.List.Elements.{Contains-append_right}
use Rattle.std.specs.List.{AllByRecursion, Contains}
use Rattle.dd_model.specs.Symbol.{Symbol, IsSymbol}
use Rattle.dd_model.specs.Lists.{IsWithout}
use Rattle.dd_model.specs.Position.{IsBefore}
use Rattle.dd_model.specs.Jobs.{AreApart, IsJobOf}
use Rattle.dd_model.specs.Joined.{IsUnderOne}
use Rattle.dd_model.specs.Text.{AreLines}
use Rattle.dd_model.specs.Wanted.{IsMember}
use Rattle.dd_model.specs.declared.requests.Request.{Request}
use Rattle.dd_model.specs.declared.jobs.Job.{Job}
use Rattle.dd_model.specs.declared.jobs.Position.{Position}
use Rattle.dd_model.proofs.Lists.{Contains-head}
use Rattle.dd_front_jobs.specs.declared.shards.Shard.{Shard}
use Rattle.dd_front_jobs.specs.Opening.{IsOpening, IsOpeningJob}
use Rattle.dd_front_jobs.specs.Shards.{IsShardJob, IsShardOpening}
use Rattle.dd_front_jobs.specs.declared.portions.Portion.{Portion}
use Rattle.dd_front_jobs.specs.Portions.{IsJobIn, IsPortionJob, IsPortionOpening, IsMemberIn, IsPortionMember, ArePortionMembers, IsTextIn, IsPortionText}
use Rattle.dd_front_jobs.proofs.Listings.{one_ascending}
use Rattle.dd_front_jobs.proofs.OpeningLaws.{opening_covers, opening_jobs_apart, opening_jobs_search}

-- a job of a shard is one of the opening
pub shard_job : (q : Request) (shard : Shard) (job : Job) → IsShardJob q shard job → IsOpeningJob q job
shard_job q shard job is =
    (is.is_opening.members job).0
    (subst (λ jobs. Contains jobs job) (sym is.comes.parts) (Contains-append_right is.before (job ∷ is.comes.after) job (Contains-head job is.comes.after)))

job_in : (shard : Option Shard) (q : Request) (job : Job) → IsJobIn shard q job → IsOpeningJob q job
job_in None q job is = is
job_in (Some shard) q job is = shard_job q shard job is

-- a job of a portion is one of the opening
pub portion_job : (p : Portion) (job : Job) → IsPortionJob p job → IsOpeningJob p.request job
portion_job p = job_in p.shard p.request

member_in : (shard : Option Shard) (q : Request) (s : Symbol) → IsMemberIn shard q s → IsMember q s
member_in None q s is = is
member_in (Some shard) q s is = is.under.member

-- a member of a portion is one of the catalogue
pub portion_member : (p : Portion) (s : Symbol) → IsPortionMember p s → IsMember p.request s
portion_member p = member_in p.shard p.request

pub portion_symbol : (p : Portion) (s : Symbol) → IsPortionMember p s → IsSymbol s
portion_symbol p s is = (portion_member p s is).wanted.symbol

-- ## Its jobs

each_opening : (p : Portion) (jobs : List Job) → IsPortionOpening p jobs → (job : Job) → Contains jobs job → IsOpeningJob p.request job
each_opening p jobs is job there = portion_job p job ((is.members job).0 there)

pub portion_apart : (p : Portion) (jobs : List Job) → IsPortionOpening p jobs → AreApart jobs
portion_apart p jobs is = opening_jobs_apart p.request jobs is.ascending (each_opening p jobs is)

pub portion_jobs : (p : Portion) (jobs : List Job) → IsPortionOpening p jobs → AllByRecursion (IsJobOf p.request) jobs
portion_jobs p jobs is = opening_jobs_search p.request jobs (each_opening p jobs is)

covers_in : (shard : Option Shard) (q : Request) (jobs : List Job) (s : Symbol) → IsPortionOpening (record { request = q; shard = shard }) jobs → IsMemberIn shard q s → IsUnderOne q jobs s
covers_in None q jobs s is member = opening_covers q jobs s (record { ascending = is.ascending; members = is.members }) member
covers_in (Some shard) q jobs s is member = record { job = member.job; listed = (is.members member.job).1 member.of_shard; under = member.under }

-- each member is under one of them
pub portion_covers : (p : Portion) (jobs : List Job) (s : Symbol) → IsPortionOpening p jobs → IsPortionMember p s → IsUnderOne p.request jobs s
portion_covers p = covers_in p.shard p.request

under_in : (shard : Option Shard) (q : Request) (jobs : List Job) (s : Symbol) → IsPortionOpening (record { request = q; shard = shard }) jobs → IsUnderOne q jobs s → IsMemberIn shard q s
under_in None q jobs s is under = under.under.member
under_in (Some shard) q jobs s is under = record { job = under.job; of_shard = (is.members under.job).0 under.listed; under = under.under }

-- and what is under one of them is a member
pub under_portion : (p : Portion) (jobs : List Job) (s : Symbol) → IsPortionOpening p jobs → IsUnderOne p.request jobs s → IsPortionMember p s
under_portion p = under_in p.shard p.request

-- the opening is that of the whole catalogue, and a shard's that of the shard
pub whole_opening : (p : Portion) (jobs : List Job) → p.shard ≡ None → IsOpening p.request jobs → IsPortionOpening p jobs
whole_opening p jobs e is = record { ascending = is.ascending; members = λ job. subst (λ s. Contains jobs job ↔ IsJobIn s p.request job) (sym e) (is.members job) }

pub shard_opening : (p : Portion) (shard : Shard) (jobs : List Job) → p.shard ≡ Some shard → IsShardOpening p.request shard jobs → IsPortionOpening p jobs
shard_opening p shard jobs e is = record { ascending = is.ascending; members = λ job. subst (λ s. Contains jobs job ↔ IsJobIn s p.request job) (sym e) (is.members job) }

-- ## Its text

-- the text of a portion by its members
pub record IsTold (p : Portion) (at : Position) (c : ℕ) (bytes : List ℕ) : Type 0 where
  pub members : List Symbol
  pub catalogue : ArePortionMembers p members
  pub later : List Symbol
  pub not_before : IsWithout (IsBefore at) members later
  pub lines : AreLines c later bytes

told_in : (shard : Option Shard) (q : Request) (at : Position) (c : ℕ) (bytes : List ℕ) → IsTextIn shard q at c bytes → IsTold (record { request = q; shard = shard }) at c bytes
told_in None q at c bytes is = record {
  members = is.members;
  catalogue = record { ascending = is.catalogue.ascending; members = is.catalogue.members };
  later = is.later;
  not_before = is.not_before;
  lines = is.lines;
}
told_in (Some shard) q at c bytes is = record {
  members = is.members;
  catalogue = record { ascending = is.are_members.ascending; members = is.are_members.members };
  later = is.later;
  not_before = is.not_before;
  lines = is.lines;
}

pub told_text : (p : Portion) (at : Position) (c : ℕ) (bytes : List ℕ) → IsPortionText p at c bytes → IsTold p at c bytes
told_text p = told_in p.shard p.request

text_in : (shard : Option Shard) (q : Request) (at : Position) (c : ℕ) (bytes : List ℕ) → IsTold (record { request = q; shard = shard }) at c bytes → IsTextIn shard q at c bytes
text_in None q at c bytes is = record {
  members = is.members;
  catalogue = record { ascending = is.catalogue.ascending; members = is.catalogue.members };
  later = is.later;
  not_before = is.not_before;
  lines = is.lines;
}
text_in (Some shard) q at c bytes is = record {
  members = is.members;
  are_members = record { ascending = is.catalogue.ascending; members = is.catalogue.members };
  later = is.later;
  not_before = is.not_before;
  lines = is.lines;
}

pub text_from : (p : Portion) (at : Position) (c : ℕ) (bytes : List ℕ) → IsTold p at c bytes → IsPortionText p at c bytes
text_from p = text_in p.shard p.request

-- a portion has one list of members
pub members_unique : (p : Portion) (ss ts : List Symbol) → ArePortionMembers p ss → ArePortionMembers p ts → ss ≡ ts
members_unique p ss ts a b =
    one_ascending ss ts a.ascending b.ascending
    (λ s there. (b.members s).1 ((a.members s).0 there))
    (λ s there. (a.members s).1 ((b.members s).0 there))
