-- The number under which something is booked.
use Rattle.std.proofs.Common.{◌≡◌, ◌⊎◌, inl, inr, ℕ, List, sym, subst}
use Rattle.dd_model.specs.Symbol.{Symbol}
use Rattle.dd_model.specs.Jobs.{AreMembersUnder, AreChildren}
use Rattle.dd_model.specs.declared.requests.Request.{Request}
use Rattle.dd_model.specs.declared.jobs.Job.{Job}
use Rattle.dd_front.specs.declared.entry.State.TheVariants.{Out}
use Rattle.dd_front.specs.Machine.{Machine}
use Rattle.dd_front.specs.Allowed.{HasState, MaySplit, MayFinish}
use Rattle.dd_board.specs.Desk.{DeskView}
use Rattle.dd_board.specs.Calls.{IsNumberWhere, IsOutWith, MaySplitNow}

pub may_finish : (f : Machine) (q : Request) (k number : ℕ) (job : Job) (list : List Symbol) → IsNumberWhere (IsOutWith f.entries k job) k number → f.request ≡ q
    → AreMembersUnder q job list → (number ≡ 0) ⊎ MayFinish f number list
may_finish f q k number job list (inl fits) same under =
    let may : MayFinish f k list = record { out = record { job = job; stands = fits.0 }; under = subst (λ r. AreMembersUnder r job list) (sym same) under } in
    inr (subst (λ n. MayFinish f n list) (sym fits.1) may)
may_finish f q k number job list (inr none) same under = inl none.1

pub may_split : (v : DeskView) (q : Request) (k number : ℕ) (job : Job) (jobs : List Job) → IsNumberWhere (MaySplitNow v k job jobs) k number → v.machine.request ≡ q
    → AreChildren q job jobs → (number ≡ 0) ⊎ MaySplit v.machine number jobs
may_split v q k number job jobs (inl fits) same children =
    let may : MaySplit v.machine k jobs = record { out = record { job = job; stands = fits.0.out }; children = subst (λ r. AreChildren r job jobs) (sym same) children } in
    inr (subst (λ n. MaySplit v.machine n jobs) (sym fits.1) may)
may_split v q k number job jobs (inr none) same children = inl none.1

pub may_go_back : (f : Machine) (k number : ℕ) → IsNumberWhere (HasState f k Out) k number → (number ≡ 0) ⊎ HasState f number Out
may_go_back f k number (inl fits) = inr (subst (λ n. HasState f n Out) (sym fits.1) fits.0)
may_go_back f k number (inr none) = inl none.1
