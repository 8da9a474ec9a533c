-- Shards part an opening, and the only shard is all of it.
use mathlib.Core.HLevel.{is_prop→PathP}
use Rattle.std.proofs.Common.{◌≡◌, ◌↔◌, ℕ, suc, ◌+◌, ◌%◌, ◌<◌, ◌≤◌, List, [], ◌∷◌, ◌++◌, length, refl, sym, ap, ◌∙◌, subst, ⊎_elim, arith}
use Rattle.std.proofs.Props.{props}
use Rattle.std.proofs.lemmas.Nat.{mod_below}
use Rattle.std.proofs.lemmas.List.Elements.{Contains-append_right}
use Rattle.std.specs.List.{Contains}
use Rattle.dd_model.specs.Symbol.{Symbol}
use Rattle.dd_model.specs.Jobs.{IsJobBelow, AreAscendingJobs}
use Rattle.dd_model.specs.Text.{IsText}
use Rattle.dd_model.specs.Wanted.{IsMember}
use Rattle.dd_model.specs.declared.jobs.Job.{Job}
use Rattle.dd_model.specs.declared.jobs.Position.{Position}
use Rattle.dd_model.specs.declared.requests.Request.{Request}
use Rattle.dd_model.proofs.Lists.{Contains-none, Contains-head, Contains-cases, cons_head, cons_tail, each_of}
use Rattle.dd_front_jobs.specs.declared.shards.Shard.{Shard}
use Rattle.dd_front_jobs.specs.Opening.{IsOpening, IsOpeningJob}
use Rattle.dd_front_jobs.specs.Shards.{ComesAfter, IsShardJob, IsShardMember, IsShardText}
use Rattle.dd_model.proofs.Orders.{jobs_not_both}
use Rattle.dd_front_jobs.proofs.Listings.{one_opening}
use Rattle.dd_front_jobs.proofs.OpeningLaws.{opening_covers}
use Rattle.dd_front_jobs.proofs.PortionLaws.{shard_job}

-- shards of equal numbers are equal
pub same_shard : (a b : Shard) → a.index ≡ b.index → a.count ≡ b.count → a ≡ b
same_shard a b p q = λ i. record {
  index = p i;
  count = q i;
  positive = is_prop→PathP (λ j. 1 ≤ p j) (λ j. hlevel props) a.positive b.positive i;
  within = is_prop→PathP (λ j. p j ≤ q j) (λ j. hlevel props) a.within b.within i;
  few = is_prop→PathP (λ j. q j ≤ 8) (λ j. hlevel props) a.few b.few i;
}

-- what comes before an item of a list
there_after : (xs : List Job) (x : Job) → Contains xs x → (before : List Job) × ComesAfter xs before x
there_after [] x there = absurd (Contains-none x there)
there_after (y ∷ ys) x there =
    ⊎_elim
    (λ same. ([], record { after = ys; parts = ap (λ z. z ∷ ys) same }))
    (λ later. let rest = there_after ys x later in (y ∷ rest.0, record { after = rest.1.after; parts = ap (λ zs. y ∷ zs) rest.1.parts }))
    (Contains-cases y x ys there)

-- a job of an opening at a place of the shard
shard_job_at : (q : Request) (opening : List Job) (shard : Shard) (job : Job) (before : List Job) → IsOpening q opening → ComesAfter opening before job
    → length before % shard.count + 1 ≡ shard.index → IsShardJob q shard job
shard_job_at q opening shard job before is comes at = record { opening = opening; is_opening = is; before = before; comes = comes; remainder = at }

-- each job of an opening is of some shard
pub some_shard : (q : Request) (opening : List Job) (count : ℕ) (job : Job) → IsOpening q opening → 1 ≤ count → count ≤ 8 → Contains opening job
    → (shard : Shard) × (shard.count ≡ count) × IsShardJob q shard job
some_shard q opening count job is some few there =
    let at = there_after opening job there in
    let low : length at.0 % count < count = mod_below (length at.0) count (omega (arith, some)) in
    let shard : Shard = record { index = length at.0 % count + 1; count = count; positive = omega arith; within = omega (arith, low); few = few } in
    (shard, refl, shard_job_at q opening shard job at.0 is at.1 refl)

-- an item stands at one place of an ascending list
one_place : (x : Job) (before after other rest : List Job) → AreAscendingJobs (before ++ x ∷ after) → before ++ x ∷ after ≡ other ++ x ∷ rest → length before ≡ length other
one_place x [] after [] rest ascending same = refl
one_place x [] after (y ∷ other) rest ascending same =
    let tail = cons_tail x y after (other ++ x ∷ rest) same in
    let there : Contains after x = subst (λ zs. Contains zs x) (sym tail) (Contains-append_right other (x ∷ rest) x (Contains-head x rest)) in
    let below = each_of (IsJobBelow x) after x ascending.0 there in
    absurd (jobs_not_both x x below below)
one_place x (y ∷ before) after [] rest ascending same =
    let head : y ≡ x = cons_head y x (before ++ x ∷ after) rest same in
    let below = each_of (IsJobBelow y) (before ++ x ∷ after) x ascending.0 (Contains-append_right before (x ∷ after) x (Contains-head x after)) in
    let own : IsJobBelow x x = subst (λ z. IsJobBelow z x) head below in
    absurd (jobs_not_both x x own own)
one_place x (y ∷ before) after (z ∷ other) rest ascending same = ap (λ n. suc n) (one_place x before after other rest ascending.1 (cons_tail y z (before ++ x ∷ after) (other ++ x ∷ rest) same))

-- and of one only
pub one_shard : (q : Request) (a b : Shard) (job : Job) → a.count ≡ b.count → IsShardJob q a job → IsShardJob q b job → a ≡ b
one_shard q a b job same x y =
    let opening = one_opening q x.opening y.opening x.is_opening y.is_opening in
    let parts = sym x.comes.parts ∙ opening ∙ y.comes.parts in
    let place = one_place job x.before x.comes.after y.before y.comes.after (subst AreAscendingJobs x.comes.parts x.is_opening.ascending) parts in
    let index : a.index ≡ b.index = sym x.remainder ∙ (λ i. place i % same i + 1) ∙ y.remainder in
    same_shard a b index same

-- ## The only shard

module _ (q : Request) (opening : List Job) (shard : Shard) (is : IsOpening q opening) (only : shard.count ≡ 1) where
  at_all : (n : ℕ) → n % shard.count + 1 ≡ shard.index
  at_all n =
      let low = shard.positive in
      let high = shard.within in
      let first : shard.index ≡ 1 = omega (arith, low, high, only) in
      let none : n % 1 ≡ 0 = omega arith in
      ap (λ c. n % c + 1) only ∙ ap (λ r. r + 1) none ∙ sym first

  pub only_job : (job : Job) → IsOpeningJob q job → IsShardJob q shard job
  only_job job of_opening =
      let at = there_after opening job ((is.members job).1 of_opening) in
      shard_job_at q opening shard job at.0 is at.1 (at_all (length at.0))

  only_member : (s : Symbol) → IsMember q s → IsShardMember q shard s
  only_member s member =
      let under = opening_covers q opening s is member in
      record { job = under.job; of_shard = only_job under.job ((is.members under.job).0 under.listed); under = under.under }

  pub only_text : (at : Position) (c : ℕ) (bytes : List ℕ) → IsText q at c bytes → IsShardText q shard at c bytes
  only_text at c bytes t = record {
    members = t.members;
    are_members = record {
      ascending = t.catalogue.ascending;
      members = λ s. ((λ there. only_member s ((t.catalogue.members s).0 there)), (λ m. (t.catalogue.members s).1 m.under.member));
    };
    later = t.later;
    not_before = t.not_before;
    lines = t.lines;
  }

  pub whole_from_only : (at : Position) (c : ℕ) (bytes : List ℕ) → IsShardText q shard at c bytes → IsText q at c bytes
  whole_from_only at c bytes t = record {
    members = t.members;
    catalogue = record {
      ascending = t.are_members.ascending;
      members = λ s. ((λ there. ((t.are_members.members s).0 there).under.member), (λ m. (t.are_members.members s).1 (only_member s m)));
    };
    later = t.later;
    not_before = t.not_before;
    lines = t.lines;
  }

  pub only_jobs : (job : Job) → IsOpeningJob q job ↔ IsShardJob q shard job
  only_jobs job = (only_job job, shard_job q shard job)

  pub only_texts : (at : Position) (c : ℕ) (bytes : List ℕ) → IsText q at c bytes ↔ IsShardText q shard at c bytes
  only_texts at c bytes = (only_text at c bytes, whole_from_only at c bytes)
