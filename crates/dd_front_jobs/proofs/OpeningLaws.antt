-- The code of each least connected symbol begins with one prefix of the opening, and the jobs of an opening are apart.
use Rattle.std.proofs.Common.{◌≡◌, ◌*◌, ◌≤◌, min, List, [], ◌∷◌, length, length-take-le, take, refl, sym, ap, ◌∙◌, arith}
use Rattle.std.proofs.lemmas.List.{get_or-take}
use Rattle.std.specs.List.{AllByRecursion, Contains}
use Rattle.dd_model.specs.declared.pair.Pair.TheVariants.{Edge}
use Rattle.dd_model.specs.Symbol.{Symbol, IsSymbol}
use Rattle.dd_model.specs.Connected.{Connected}
use Rattle.dd_model.specs.Lists.{Begins}
use Rattle.dd_model.specs.Code.{code, Least}
use Rattle.dd_model.specs.Wanted.{IsCatalogue, IsMember}
use Rattle.dd_model.specs.Jobs.{IsJobBelow, IsJobOf, AreAscendingJobs, AreJobsApart, AreApart}
use Rattle.dd_model.specs.Joined.{AreUnderJobs, IsUnderOne}
use Rattle.dd_model.specs.declared.jobs.Job.{Job}
use Rattle.dd_model.specs.declared.requests.Request.{Request}
use Rattle.dd_model.proofs.LeastForms.{least_as_table}
use Rattle.dd_front_jobs.specs.Orderly.{IsOrderly}
use Rattle.dd_front_jobs.specs.Opening.{IsOpeningJob, IsOpening, IsCoveredBy}
use Rattle.dd_model.proofs.Ascending.{begins_from, same_when_whole}
use Rattle.dd_model.proofs.Lists.{Contains-head, Contains-later, all_from_members, each_of}
use Rattle.dd_model.proofs.Orders.{job_not_below_itself}
use Rattle.dd_model.proofs.Codes.{length-code}
use Rattle.dd_front_jobs.proofs.Growth.{begins_take}
use Rattle.dd_front_jobs.proofs.CodeFronts.{front_first_visit}

orderly : (s : Symbol) → IsSymbol s → Connected s → Least s → IsOrderly s
orderly s is connected least = record { table = is.table; connected = connected; commuting = λ d h. is.degrees Edge d h; least = least_as_table s is least }

pub covered : (q : Request) (s : Symbol) → IsSymbol s → Connected s → Least s → s.size ≤ q.chambers → IsCoveredBy q s
covered q s is connected least few =
    let m = min (3 * s.size) 9 in
    let whole = length-code s is.table in
    let size : length (take m (code s)) ≡ m = length-take-le m (code s) (omega arith) in
    record {
      job = record { size = s.size; prefix = take m (code s) };
      opening = record { size = (is.table.chambers, few); numbers = size; first_visit = front_first_visit s (orderly s is connected least) m (omega arith) };
      size = refl;
      begins = begins_from (take m (code s)) (code s) (omega arith) (λ u h. sym (get_or-take m (code s) u 0 (omega arith)));
    }

pub covered_once : (q : Request) (s : Symbol) (j k : Job) → IsOpeningJob q j → IsOpeningJob q k → s.size ≡ j.size → s.size ≡ k.size → Begins j.prefix (code s) → Begins k.prefix (code s) → j ≡ k
covered_once q s j k oj ok sj sk bj bk =
    let size : j.size ≡ k.size = sym sj ∙ sk in
    let long : length j.prefix ≡ length k.prefix = oj.numbers ∙ ap (λ n. min (3 * n) 9) size ∙ sym ok.numbers in
    let prefix : j.prefix ≡ k.prefix = sym (begins_take j.prefix (code s) bj) ∙ ap (λ n. take n (code s)) long ∙ begins_take k.prefix (code s) bk in
    λ x. record { size = size x; prefix = prefix x }

-- equally long prefixes of one size
abbrev AreAsLong : List Job → Type 0
AreAsLong jobs = (j k : Job) → Contains jobs j → Contains jobs k → j.size ≡ k.size → length j.prefix ≡ length k.prefix

-- jobs that ascend are apart where their prefixes are as long
apart_from_lengths : (jobs : List Job) → AreAscendingJobs jobs → AreAsLong jobs → AreApart jobs
apart_from_lengths [] ascending long = tt
apart_from_lengths (j ∷ jobs) ascending long = (
  all_from_members (AreJobsApart j) jobs (λ k there. parts k there (each_of (IsJobBelow j) jobs k ascending.0 there)),
  apart_from_lengths jobs ascending.1 (λ a b ha hb. long a b (Contains-later j a jobs ha) (Contains-later j b jobs hb)),
)
  where
    parts : (k : Job) → Contains jobs k → IsJobBelow j k → AreJobsApart j k
    parts k there below size =
        let as_long = long j k (Contains-head j jobs) (Contains-later j k jobs there) size in (
          (λ begins. job_not_below_itself j k below size (sym (same_when_whole j.prefix k.prefix begins as_long))),
          (λ begins. job_not_below_itself j k below size (same_when_whole k.prefix j.prefix begins (sym as_long))),
        )

-- jobs of an opening, ascending, are apart
pub opening_jobs_apart : (q : Request) (jobs : List Job) → AreAscendingJobs jobs → ((job : Job) → Contains jobs job → IsOpeningJob q job) → AreApart jobs
opening_jobs_apart q jobs ascending each = apart_from_lengths jobs ascending (λ j k hj hk size. (each j hj).numbers ∙ ap (λ n. min (3 * n) 9) size ∙ sym (each k hk).numbers)

-- they are jobs of a search
pub opening_jobs_search : (q : Request) (jobs : List Job) → ((job : Job) → Contains jobs job → IsOpeningJob q job) → AllByRecursion (IsJobOf q) jobs
opening_jobs_search q jobs each = all_from_members (IsJobOf q) jobs (λ job there.
    let o = each job there in
    let numbers = o.numbers in
    record { positive = o.size.0; small = o.size.1; short = omega arith })

pub opening_apart : (q : Request) (jobs : List Job) → IsOpening q jobs → AreApart jobs
opening_apart q jobs is = opening_jobs_apart q jobs is.ascending (λ job there. (is.members job).0 there)

pub opening_jobs : (q : Request) (jobs : List Job) → IsOpening q jobs → AllByRecursion (IsJobOf q) jobs
opening_jobs q jobs is = opening_jobs_search q jobs (λ job there. (is.members job).0 there)

-- each member is under one of them
pub opening_covers : (q : Request) (jobs : List Job) (s : Symbol) → IsOpening q jobs → IsMember q s → IsUnderOne q jobs s
opening_covers q jobs s is member =
    let c = covered q s member.wanted.symbol member.wanted.connected member.least member.wanted.chambers in
    record { job = c.job; listed = (is.members c.job).1 c.opening; under = record { member = member; size = c.size; begins = c.begins } }

-- what is under all jobs of an opening is the catalogue
pub under_opening : (q : Request) (jobs : List Job) (ss : List Symbol) → IsOpening q jobs → AreUnderJobs q jobs ss → IsCatalogue q ss
under_opening q jobs ss is are = record {
  ascending = are.ascending;
  members = λ s. (
    (λ there. ((are.members s).0 there).under.member),
    (λ member. (are.members s).1 (opening_covers q jobs s is member)),
  );
}
