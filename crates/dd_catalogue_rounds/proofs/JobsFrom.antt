-- The jobs of a portion that are not wholly before a position.
use Rattle.std.proofs.Common.{◌≡◌, ◌⊎◌, Bool, true, false, length, List, [], ◌∷◌, inl, inr, ⊎_elim, refl, sym, ◌∙◌, subst, arith}
use Rattle.std.specs.List.{Contains, items_where_true}
use Rattle.std.specs.List.Retain.{IsFiltered, ReturnsInTurn}
use Rattle.dd_model.specs.Symbol.{Symbol}
use Rattle.dd_model.specs.Lists.{IsWithout}
use Rattle.dd_model.specs.Position.{IsBefore, IsWhollyBefore}
use Rattle.dd_model.specs.Jobs.{AreAscendingJobs, AreApart, IsJobOf}
use Rattle.dd_model.specs.Joined.{IsPartBelow, IsUnderOne}
use Rattle.dd_model.specs.declared.jobs.Job.{Job}
use Rattle.dd_model.specs.declared.jobs.Position.{Position}
use Rattle.dd_model.proofs.Lists.{Contains-none, Contains-cases, each_of}
use Rattle.dd_model.proofs.Pairs.{ArePairs, part_pairs, pairs_ascending_jobs, pairs_apart}
use Rattle.dd_model.proofs.Positions.{under_wholly_before}
use Rattle.dd_model.proofs.Without.{without_all, without_first, without_kept, without_pairs, without_there}
use Rattle.dd_front_jobs.specs.declared.portions.Portion.{Portion}
use Rattle.dd_front_jobs.specs.Portions.{IsPortionJob, IsPortionOpening, IsPortionMember}
use Rattle.dd_front_jobs.proofs.PortionLaws.{portion_apart, portion_jobs, portion_covers}
use Rattle.dd_board.specs.Desk.{AreJobsOf}
use Rattle.dd_pages_and_checkpoints.specs.Rounds.{AreJobsFrom}

pub opening_pairs : (q : Portion) (jobs : List Job) → IsPortionOpening q jobs → ArePairs IsPartBelow jobs
opening_pairs q jobs is = part_pairs jobs is.ascending (portion_apart q jobs is)

pub from_pairs : (q : Portion) (at : Position) (jobs : List Job) → AreJobsFrom q at jobs → ArePairs IsPartBelow jobs
from_pairs q at jobs from = without_pairs (IsWhollyBefore at) IsPartBelow from.opening jobs from.left (opening_pairs q from.opening from.is_opening)

pub from_ascending : (q : Portion) (at : Position) (jobs : List Job) → AreJobsFrom q at jobs → AreAscendingJobs jobs
from_ascending q at jobs from = pairs_ascending_jobs jobs (from_pairs q at jobs from)

pub from_apart : (q : Portion) (at : Position) (jobs : List Job) → AreJobsFrom q at jobs → AreApart jobs
from_apart q at jobs from = pairs_apart jobs (from_pairs q at jobs from)

pub from_jobs : (q : Portion) (at : Position) (jobs : List Job) → AreJobsFrom q at jobs → AreJobsOf q.request jobs
from_jobs q at jobs from = without_all (IsWhollyBefore at) (IsJobOf q.request) from.opening jobs from.left (portion_jobs q from.opening from.is_opening)

pub from_opening : (q : Portion) (at : Position) (jobs : List Job) (job : Job) → AreJobsFrom q at jobs → Contains jobs job → IsPortionJob q job
from_opening q at jobs job from there = (from.is_opening.members job).0 (without_there (IsWhollyBefore at) from.opening jobs job from.left there).0

-- each member that is not before the position is under one of them
pub from_covers : (q : Portion) (at : Position) (jobs : List Job) (s : Symbol) → AreJobsFrom q at jobs → IsPortionMember q s → (¬ IsBefore at s) → IsUnderOne q.request jobs s
from_covers q at jobs s from member later =
    let under = portion_covers q from.opening s from.is_opening member in
    record {
      job = under.job;
      listed = without_kept (IsWhollyBefore at) from.opening jobs under.job from.left under.listed (λ wholly. later (under_wholly_before q.request at under.job s wholly under.under));
      under = under.under;
    }

-- ## Those that are left

-- a test that answers `true` where P does not hold, and stays as it was, leaves those at which it does not
module _ {A F : Type 0} (R : F → A → Bool → F → Type 0) (P : A → Type 0) (f : F) (h : (x : A) (b : Bool) (g : F) → R f x b g → (b ≡ true → ¬ P x) × (b ≡ false → P x) × (g ≡ f)) where
  without_told : (bs : List Bool) (q : F) (xs : List A) → length bs ≡ length xs → ReturnsInTurn R f bs xs q → IsWithout P xs (items_where_true bs xs)
  without_told [] q [] many told = tt
  without_told [] q (x ∷ xs) many told = cc
  without_told (b ∷ bs) q [] many told = absurd told
  without_told (true ∷ bs) q (x ∷ xs) many told =
      let one = h x true told.0 told.1 in
      inr (one.0 refl, refl, without_told bs q xs (let m = many in omega arith) (subst (λ g. ReturnsInTurn R g bs xs q) one.2 told.2))
  without_told (false ∷ bs) q (x ∷ xs) many told =
      let one = h x false told.0 told.1 in
      without_first P x xs (items_where_true bs xs) (one.1 refl) (without_told bs q xs (let m = many in omega arith) (subst (λ g. ReturnsInTurn R g bs xs q) one.2 told.2))

  pub without_from_retain : (xs ys : List A) → IsFiltered R f xs ys → IsWithout P xs ys
  without_from_retain xs ys k = subst (IsWithout P xs) (sym k.4) (without_told k.0 k.1 xs k.2 k.3)

-- two of a list of pairs are the same, or one comes before the other
pub one_first : {A : Type 0} (R : A → A → Type 0) (xs : List A) (x y : A) → ArePairs R xs → Contains xs x → Contains xs y → (x ≡ y) ⊎ (R x y ⊎ R y x)
one_first R [] x y pairs hx hy = absurd (Contains-none x hx)
one_first R (z ∷ zs) x y pairs hx hy =
    ⊎_elim
    (λ fx. ⊎_elim (λ fy. inl (sym fx ∙ fy)) (λ ly. inr (inl (subst (λ a. R a y) fx (each_of (R z) zs y pairs.0 ly)))) (Contains-cases z y zs hy))
    (λ lx. ⊎_elim (λ fy. inr (inr (subst (λ a. R a x) fy (each_of (R z) zs x pairs.0 lx)))) (λ ly. one_first R zs x y pairs.1 lx ly) (Contains-cases z y zs hy))
    (Contains-cases z x zs hx)
