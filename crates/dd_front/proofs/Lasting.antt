-- What holds of a front lasts.
use Rattle.std.proofs.Common.{◌≡◌, ◌≢◌, ◌⊎◌, ℕ, zero, suc, ◌+◌, ◌<◌, true, false, cond, nat_eq, List, [], ◌∷◌, ◌++◌, length, get_or, take, drop, refl, sym, ap, ◌∙◌, subst, ⊎_elim, arith}
use Rattle.std.proofs.Math.Seq.{drop-cons}
use Rattle.std.proofs.lemmas.List.{take-append-drop, map-append}
use Rattle.std.specs.List.{AllByRecursion, Contains}
use Rattle.dd_model.specs.Symbol.{Symbol, IsSymbol}
use Rattle.dd_model.specs.Lists.{IsWithout}
use Rattle.dd_model.specs.Jobs.{AreMembersUnder, AreChildren}
use Rattle.dd_model.specs.Joined.{IsPartBelow}
use Rattle.dd_model.specs.Request.{IsValid}
use Rattle.dd_model.specs.Wanted.{IsMember}
use Rattle.dd_model.specs.declared.requests.Request.{Request}
use Rattle.dd_model.specs.declared.jobs.Job.{Job}
use Rattle.dd_model.proofs.Lists.{each_of, all_from_members}
use Rattle.dd_model.proofs.Pairs.{ArePairs, part_pairs, pairs_ascending_jobs, pairs_apart}
use Rattle.dd_model.proofs.Without.{without_pairs}
use Rattle.dd_front.specs.declared.entry.Entry.{Entry}
use Rattle.dd_front.specs.declared.entry.State.{State}
use Rattle.dd_front.specs.declared.entry.State.TheVariants.{Out}
use Rattle.dd_front.specs.Machine.{Machine, entry_of, open_entries, jobs_of}
use Rattle.dd_front.specs.Allowed.{MaySplit}
use Rattle.dd_front.specs.Step.{replaced, with_state, split_entries}
use Rattle.dd_front.specs.Numbers.{AreBelow, HaveOwnNumbers}
use Rattle.dd_front.specs.Places.{IsPlaceOf}
use Rattle.dd_front.specs.Taken.{BeginsDone}
use Rattle.dd_front.specs.Invariant.{IsFront, IsListed, AreListed, AreInOrder, AreParts}
use Rattle.dd_front.proofs.Entries.{jobs_opened}
use Rattle.dd_front.proofs.Splitting.{children_pairs}
use Rattle.dd_front.proofs.Replaced.{all-map, all_replaced, restated, split_at, opened_below, opened_listed}

-- ## Jobs

pub parts_from : (jobs : List Job) → ArePairs IsPartBelow jobs → AreParts jobs
parts_from jobs pairs = record { ascending = pairs_ascending_jobs jobs pairs; apart = pairs_apart jobs pairs }

pub pairs_of : (jobs : List Job) → AreParts jobs → ArePairs IsPartBelow jobs
pairs_of jobs parts = part_pairs jobs parts.ascending parts.apart

jobs_replaced : (k : ℕ) (state : State) (es : List Entry) → jobs_of (replaced k (restated state) es) ≡ jobs_of es
jobs_replaced k state [] = refl
jobs_replaced k state (e ∷ es) =
    elim (nat_eq e.number k) as (λ b. jobs_of (cond b (restated state e) (e ∷ []) ++ replaced k (restated state) es) ≡ e.job ∷ jobs_of es) [
      | true ↦ ap (λ js. e.job ∷ js) (jobs_replaced k state es)
      | false ↦ ap (λ js. e.job ∷ js) (jobs_replaced k state es)
    ]

pub jobs_kept : (k : ℕ) (state : State) (es : List Entry) → jobs_of (with_state k state es) ≡ jobs_of es
jobs_kept zero state es = refl
jobs_kept (suc k) state es = jobs_replaced (suc k) state es

-- an entry stands where the first of its number does
place_there : (e : Entry) (es : List Entry) (i : ℕ) → HaveOwnNumbers es → i < length es → get_or es i e ≡ e → IsPlaceOf e.number es i
place_there e [] i own low is = absurd (omega arith)
place_there e (d ∷ es) zero own low is = ap (λ x. x.number) is
place_there e (d ∷ es) (suc i) own low is =
    ((λ same. each_of (λ x. x.number ≢ d.number) es e own.1 (i, omega arith, is) (sym same)), place_there e es i own.2 (omega arith) is)

parts_split : (q : Request) (k next : ℕ) (jobs : List Job) (job : Job) (state : State) (es : List Entry) → HaveOwnNumbers es → Contains es (entry_of k job state) → AreChildren q job jobs
    → ArePairs IsPartBelow (jobs_of es) → ArePairs IsPartBelow (jobs_of (split_entries k next jobs es))
parts_split q k next jobs job state es own there children pairs =
    let i = there.0 in
    let e = entry_of k job state in
    let now : split_entries k next jobs es ≡ take i es ++ (open_entries next jobs ++ drop (suc i) es) = split_at k next jobs es i e own (place_there e es i own there.1 there.2) in
    let before : es ≡ take i es ++ e ∷ drop (suc i) es =
    sym (take-append-drop i es) ∙ ap (λ ds. take i es ++ ds) (drop-cons es i e there.1 ∙ ap (λ x. x ∷ drop (suc i) es) there.2) in
    let old : jobs_of es ≡ jobs_of (take i es) ++ job ∷ jobs_of (drop (suc i) es) = ap jobs_of before ∙ map-append (λ x. x.job) (take i es) (e ∷ drop (suc i) es) in
    let new : jobs_of (split_entries k next jobs es) ≡ jobs_of (take i es) ++ (jobs ++ jobs_of (drop (suc i) es)) =
    ap jobs_of now ∙ map-append (λ x. x.job) (take i es) (open_entries next jobs ++ drop (suc i) es)
    ∙ ap (λ js. jobs_of (take i es) ++ js) (map-append (λ x. x.job) (open_entries next jobs) (drop (suc i) es) ∙ ap (λ js. js ++ jobs_of (drop (suc i) es)) (jobs_opened next jobs)) in
    subst (ArePairs IsPartBelow) (sym new) (children_pairs q (jobs_of (take i es)) (jobs_of (drop (suc i) es)) jobs job (subst (ArePairs IsPartBelow) old pairs) children)

-- ## Fronts

pub front_restated : (q : Request) (opening : List Job) (next k : ℕ) (state : State) (es : List Entry) → IsFront q opening next es → (k ≡ 0) ⊎ IsListed q state → IsFront q opening next (with_state k state es)
front_restated q opening next zero state es held listed = held
front_restated q opening next (suc k) state es held listed =
    let fits : IsListed q state = ⊎_elim (λ (none : suc k ≡ 0). absurd (omega arith)) (λ some. some) listed in
    record {
      valid = held.valid;
      opening = held.opening;
      numbers = all_replaced (λ e. e.number < next) (suc k) (restated state) es (λ e low. (low, tt)) held.numbers;
      lists = all_replaced (λ e. IsListed q e.state) (suc k) (restated state) es (λ e old. (fits, tt)) held.lists;
      jobs = subst AreParts (sym (jobs_kept (suc k) state es)) held.jobs;
    }

higher : (next more : ℕ) (es : List Entry) → AreBelow next es → AreBelow (next + more) es
higher next more es low = all-map (λ e. e.number < next) (λ e. e.number < next + more) es (λ e low. omega arith) low

pub front_split : (f : Machine) (k : ℕ) (jobs : List Job) → HaveOwnNumbers f.entries → IsFront f.request f.opening f.next f.entries → (k ≡ 0) ⊎ MaySplit f k jobs
    → IsFront f.request f.opening (f.next + length jobs) (split_entries k f.next jobs f.entries)
front_split f zero jobs own held may =
    record { valid = held.valid; opening = held.opening; numbers = higher f.next (length jobs) f.entries held.numbers; lists = held.lists; jobs = held.jobs }
front_split f (suc k) jobs own held may =
    let split : MaySplit f (suc k) jobs = ⊎_elim (λ (none : suc k ≡ 0). absurd (omega arith)) (λ some. some) may in
    record {
      valid = held.valid;
      opening = held.opening;
      numbers = all_replaced (λ e. e.number < f.next + length jobs) (suc k) (λ e. open_entries f.next jobs) f.entries (λ e low. opened_below f.next jobs) (higher f.next (length jobs) f.entries held.numbers);
      lists = all_replaced (λ e. IsListed f.request e.state) (suc k) (λ e. open_entries f.next jobs) f.entries (λ e old. opened_listed f.request f.next jobs) held.lists;
      jobs = parts_from (jobs_of (split_entries (suc k) f.next jobs f.entries))
          (parts_split f.request (suc k) f.next jobs split.out.job Out f.entries own split.out.stands split.children (pairs_of (jobs_of f.entries) held.jobs));
    }

-- a front of open entries for these jobs
pub front_opened : (q : Request) (opening jobs : List Job) → IsValid q → AreParts opening → AreParts jobs → IsFront q opening (1 + length jobs) (open_entries 1 jobs)
front_opened q opening jobs valid whole parts = record {
  valid = valid;
  opening = whole;
  numbers = opened_below 1 jobs;
  lists = opened_listed q 1 jobs;
  jobs = subst AreParts (sym (jobs_opened 1 jobs)) parts;
}

-- some of the jobs ascend and are apart where all do
pub parts_without : (P : Job → Type 0) (jobs left : List Job) → IsWithout P jobs left → AreParts jobs → AreParts left
parts_without P jobs left without parts = parts_from left (without_pairs P IsPartBelow jobs left without (pairs_of jobs parts))

pub in_order_found : (q : Request) (job : Job) (list : List Symbol) → AreMembersUnder q job list → AreInOrder q list
in_order_found q job list under = record {
  ascending = under.ascending;
  members = all_from_members (IsMember q) list (λ s there. ((under.members s).0 there).member);
}

pub symbols_in_order : (q : Request) (list : List Symbol) → AreInOrder q list → AllByRecursion IsSymbol list
symbols_in_order q list order = all-map (IsMember q) IsSymbol list (λ s m. m.wanted.symbol) order.members

-- the list of the first entry, and the entries after it
pub first_in_order : (q : Request) (es : List Entry) (list : List Symbol) (rest : List Entry) → AreListed q es → BeginsDone es list rest → AreInOrder q list × AreListed q rest
first_in_order q es list rest lists begins = subst (AreListed q) begins.entries lists

-- the same, told of a machine and jobs that are equal
pub split_where : {m f : Machine} (k : ℕ) (given jobs : List Job) → m ≡ f → given ≡ jobs → HaveOwnNumbers m.entries → IsFront m.request m.opening m.next m.entries → (k ≡ 0) ⊎ MaySplit f k jobs
    → IsFront m.request m.opening (m.next + length given) (split_entries k m.next given m.entries)
split_where {m} {f} k given jobs same is own held may =
    let here : (k ≡ 0) ⊎ MaySplit m k jobs = subst (λ n. (k ≡ 0) ⊎ MaySplit n k jobs) (sym same) may in
    let there : (k ≡ 0) ⊎ MaySplit m k given = subst (λ js. (k ≡ 0) ⊎ MaySplit m k js) (sym is) here in
    front_split m k given own held there
