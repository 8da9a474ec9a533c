-- Jobs of whole sizes: they are in order, and each member is under one of them.
use Rattle.std.proofs.Common.{◌≡◌, ℕ, zero, suc, ◌<◌, ◌≤◌, [], ◌∷◌, Option, None, ⊎_elim, refl, sym, ap, subst, arith}
use Rattle.std.proofs.lemmas.List.Elements.{Contains-append_cases, Contains-append_left, Contains-append_right}
use Rattle.std.proofs.lemmas.Bool.{cases_eq}
use Rattle.std.specs.List.{Contains}
use Rattle.dd_model.specs.Symbol.{Symbol}
use Rattle.dd_model.specs.Jobs.{IsJobOf}
use Rattle.dd_model.specs.Joined.{IsPartBelow, IsUnderOne}
use Rattle.dd_model.specs.Wanted.{IsMember}
use Rattle.dd_model.specs.declared.jobs.Job.{Job}
use Rattle.dd_model.specs.declared.jobs.Position.{Position}
use Rattle.dd_model.specs.declared.requests.Request.{Request}
use Rattle.dd_model.proofs.Ascending.{all-append}
use Rattle.dd_model.proofs.Lists.{Contains-none, Contains-head, Contains-cases}
use Rattle.dd_model.proofs.Orders.{nat_cmp-less}
use Rattle.dd_model.proofs.Pairs.{ArePairs, pairs_append, pairs_ascending_jobs, pairs_apart}
use Rattle.dd_front_jobs.specs.declared.portions.Portion.{Portion}
use Rattle.dd_front_jobs.specs.declared.shards.Shard.{Shard}
use Rattle.dd_front_jobs.specs.Portions.{IsMemberIn}
use Rattle.dd_front_jobs.proofs.PortionLaws.{portion_member}
use Rattle.dd_board.specs.Desk.{AreJobsOf}
use Rattle.dd_catalogue_rounds.specs.Works.{AreWithin, CoverRest}
use Rattle.dd_catalogue_rounds.specs.WholeSizes.{sizes_up_to}

abbrev of_size : ℕ → Job
of_size n = record { size = n; prefix = [] }

only : (job other : Job) → Contains (job ∷ []) other → job ≡ other
only job other there = ⊎_elim (λ same. same) (λ later. absurd (Contains-none other later)) (Contains-cases job other [] there)

sizes_small : (n : ℕ) (job : Job) → Contains (sizes_up_to n) job → job.size ≤ n
sizes_small zero job there = absurd (Contains-none job there)
sizes_small (suc n) job there =
    ⊎_elim
    (λ before. let less = sizes_small n job before in omega (arith, less))
    (λ last. let size = ap (λ (j : Job). j.size) (only (of_size (suc n)) job last) in omega (arith, size))
    (Contains-append_cases (sizes_up_to n) (of_size (suc n) ∷ []) job there)

-- one of a smaller size comes before the other
below_size : (j k : Job) → j.size < k.size → IsPartBelow j k
below_size j k less = record {
  below = let order = nat_cmp-less j.size k.size less in rw order refl;
  apart = λ same. absurd (omega (arith, less, same));
}

sizes_pairs : (n : ℕ) → ArePairs IsPartBelow (sizes_up_to n)
sizes_pairs zero = tt
sizes_pairs (suc n) =
    pairs_append IsPartBelow (sizes_up_to n) (of_size (suc n) ∷ []) (sizes_pairs n) (tt, tt)
    (λ x y hx hy.
    let few = sizes_small n x hx in
    let size = ap (λ (j : Job). j.size) (only (of_size (suc n)) y hy) in
    below_size x y (omega (arith, few, size)))

sizes_jobs : (q : Request) (n : ℕ) → n ≤ q.chambers → AreJobsOf q (sizes_up_to n)
sizes_jobs q zero low = tt
sizes_jobs q (suc n) low =
    all-append (IsJobOf q) (sizes_up_to n) (of_size (suc n) ∷ []) (sizes_jobs q n (omega (arith, low)))
    (record { positive = omega arith; small = low; short = omega arith }, tt)

has_size : (n k : ℕ) → 1 ≤ k → k ≤ n → Contains (sizes_up_to n) (of_size k)
has_size zero k some low = absurd (omega (arith, some, low))
has_size (suc n) k some low =
    ⊎_elim
    (λ same. Contains-append_right (sizes_up_to n) (of_size (suc n) ∷ []) (of_size k) (subst (λ m. Contains (of_size (suc n) ∷ []) (of_size m)) (sym same) (Contains-head (of_size (suc n)) [])))
    (λ differs. Contains-append_left (sizes_up_to n) (of_size (suc n) ∷ []) (of_size k) (has_size n k some (omega (arith, low, differs))))
    (cases_eq k (suc n))

-- a member of the catalogue is under the job of its size
under_size : (q : Request) (s : Symbol) → IsMember q s → IsUnderOne q (sizes_up_to q.chambers) s
under_size q s member = record {
  job = of_size s.size;
  listed = has_size q.chambers s.size member.wanted.symbol.table.chambers member.wanted.chambers;
  under = record { member = member; size = refl; begins = tt };
}

-- what a portion is that has no shard
all_members : (q : Request) (shard : Option Shard) (s : Symbol) → shard ≡ None → IsMember q s → IsMemberIn shard q s
all_members q shard s none member = subst (λ (x : Option Shard). IsMemberIn x q s) (sym none) member

pub sizes_within : (p : Portion) → p.shard ≡ None → AreWithin p (sizes_up_to p.request.chambers)
sizes_within p none = record {
  members = λ s under. all_members p.request p.shard s none under.under.member;
  ascending = pairs_ascending_jobs (sizes_up_to p.request.chambers) (sizes_pairs p.request.chambers);
  apart = pairs_apart (sizes_up_to p.request.chambers) (sizes_pairs p.request.chambers);
  all = sizes_jobs p.request p.request.chambers (omega arith);
}

pub sizes_cover : (p : Portion) (at : Position) → CoverRest p at (sizes_up_to p.request.chambers)
sizes_cover p at s member later = under_size p.request s (portion_member p s member)
