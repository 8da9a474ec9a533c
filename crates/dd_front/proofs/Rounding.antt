-- What a round brings back is absorbed.
use Rattle.std.proofs.Common.{◌≡◌, ℕ, zero, suc, ◌≤◌, List, [], ◌∷◌, ◌++◌, length, take, drop, refl, sym, ap, ◌∙◌, subst, arith}
use Rattle.std.proofs.lemmas.List.{append-nil, take-append-drop, take-map, length-take, length-map}
use Rattle.std.specs.List.{AllByRecursion, Contains}
use Rattle.dd_model.specs.Symbol.{Symbol}
use Rattle.dd_model.specs.Code.{IsBelow}
use Rattle.dd_model.specs.Wanted.{IsMember}
use Rattle.dd_model.specs.Joined.{IsPartBelow, AreUnderJobs}
use Rattle.dd_model.specs.declared.jobs.Job.{Job}
use Rattle.dd_model.specs.declared.requests.Request.{Request}
use Rattle.dd_model.proofs.Ascending.{begins_itself}
use Rattle.dd_model.proofs.Lists.{all_from_members, Contains-head, Contains-none}
use Rattle.dd_model.proofs.Pairs.{ArePairs, pairs_front, pairs_back, ascending_pairs, pairs_ascending}
use Rattle.dd_front.specs.declared.entry.Entry.{Entry}
use Rattle.dd_front.specs.declared.entry.State.TheVariants.{Done}
use Rattle.dd_front.specs.Machine.{Machine, entry_of, jobs_of}
use Rattle.dd_front.specs.Absorbed.{Extends, IsFound, MayAbsorb, AreAbsorbed, Absorbs, found_by}
use Rattle.dd_front.specs.Numbers.{AreBelow}
use Rattle.dd_front.specs.Invariant.{IsFront, AreInOrder, AreListed, AreParts}
use Rattle.dd_front.specs.Joining.{IsDone, AreBlocks, AreJoined, done_with, done_first}
use Rattle.dd_front.proofs.Blocks.{blocks_from}
use Rattle.dd_front.proofs.Lasting.{pairs_of}
use Rattle.dd_front.proofs.Entries.{found_by-append}
use Rattle.dd_front.proofs.Absorbing.{all_front, all_back}

taken_pairs : (k : ℕ) (es : List Entry) → ArePairs IsPartBelow (jobs_of es) → ArePairs IsPartBelow (jobs_of (take k es))
taken_pairs k es pairs =
    subst (ArePairs IsPartBelow) (take-map (λ e. e.job) k es)
    (pairs_front IsPartBelow (take k (jobs_of es)) (drop k (jobs_of es)) (subst (ArePairs IsPartBelow) (sym (take-append-drop k (jobs_of es))) pairs))

-- entries that may be absorbed stand in blocks
pub blocks_absorbed : (f : Machine) (k : ℕ) (es : List Entry) → AreParts (jobs_of f.entries) → MayAbsorb f k es → AreBlocks (jobs_of (take k f.entries)) es
blocks_absorbed f k es parts may =
    let from = may.come_from in
    blocks_from (jobs_of (take k f.entries)) es (taken_pairs k f.entries (pairs_of (jobs_of f.entries) parts)) from.ascending from.extend from.each

pub done_found : (q : Request) (es : List Entry) → AllByRecursion (IsFound q) es → AllByRecursion (λ e. IsDone e.state) es
done_found q [] h = tt
done_found q (e ∷ es) h = (subst IsDone (sym h.0.done) tt, done_found q es h.1)

-- lists joined are as many as jobs
pub joined_long : (jobs : List Job) (es : List Entry) (lists : List (List Symbol)) → AreJoined jobs es lists → length lists ≡ length jobs
joined_long [] es [] h = refl
joined_long [] es (l ∷ lists) h = absurd h
joined_long (j ∷ jobs) es [] h = absurd h
joined_long (j ∷ jobs) es (l ∷ lists) h = ap suc (joined_long jobs h.1 lists h.5)

pub absorbed_with : (olds es : List Entry) (lists : List (List Symbol)) → AreJoined (jobs_of olds) es lists → AreAbsorbed olds es (done_with lists olds)
absorbed_with [] es [] h = h
absorbed_with [] es (l ∷ lists) h = absurd h
absorbed_with (a ∷ olds) es [] h = absurd h
absorbed_with (a ∷ olds) es (l ∷ lists) h = (h.0, h.1, h.2, h.3, ap (λ ss. entry_of a.number a.job (Done ss)) h.4, absorbed_with olds h.1 lists h.5)

done_front : (lists : List (List Symbol)) (k : ℕ) (es : List Entry) → length lists ≡ length (take k es) → done_with lists es ≡ done_with lists (take k es) ++ drop k es
done_front [] zero es long = refl
done_front [] (suc k) [] long = refl
done_front [] (suc k) (e ∷ es) long = absurd (omega arith)
done_front (l ∷ lists) zero es long = absurd (omega arith)
done_front (l ∷ lists) (suc k) [] long = absurd (omega arith)
done_front (l ∷ lists) (suc k) (e ∷ es) long = ap (λ ds. entry_of e.number e.job (Done l) ∷ ds) (done_front lists k es (omega arith))

pub absorbs_with : (f g : Machine) (k : ℕ) (es : List Entry) (lists : List (List Symbol)) → AreJoined (jobs_of (take k f.entries)) es lists → g ≡ record f { entries = done_with lists f.entries } → Absorbs f k es g
absorbs_with f g k es lists joined after =
    let long : length lists ≡ length (take k f.entries) = joined_long (jobs_of (take k f.entries)) es lists joined ∙ length-map (take k f.entries) (λ e. e.job) in
    record {
      done = done_with lists (take k f.entries);
      absorbed = absorbed_with (take k f.entries) es lists joined;
      after = subst (λ ds. g ≡ record f { entries = ds }) (done_front lists k f.entries long) after;
    }

-- ## What holds of the front

order_front : (q : Request) (ss ts : List Symbol) → AreInOrder q (ss ++ ts) → AreInOrder q ss × AreInOrder q ts
order_front q ss ts order =
    let pairs : ArePairs IsBelow (ss ++ ts) = ascending_pairs (ss ++ ts) order.ascending in (
      record { ascending = pairs_ascending ss (pairs_front IsBelow ss ts pairs); members = all_front (IsMember q) ss ts order.members },
      record { ascending = pairs_ascending ts (pairs_back IsBelow ss ts pairs); members = all_back (IsMember q) ss ts order.members },
    )

pub lists_in_order : (q : Request) (jobs : List Job) (es : List Entry) (lists : List (List Symbol)) → AreJoined jobs es lists → AreInOrder q (found_by es) → AllByRecursion (AreInOrder q) lists
lists_in_order q [] es [] h order = tt
lists_in_order q [] es (l ∷ lists) h order = absurd h
lists_in_order q (j ∷ jobs) es [] h order = absurd h
lists_in_order q (j ∷ jobs) es (l ∷ lists) h order =
    let both = order_front q (found_by h.0) (found_by h.1) (subst (AreInOrder q) (ap found_by h.2 ∙ found_by-append h.0 h.1) order) in
    (subst (AreInOrder q) (sym h.4) both.0, lists_in_order q jobs h.1 lists h.5 both.1)

pub order_found : (q : Request) (jobs : List Job) (ss : List Symbol) → AreUnderJobs q jobs ss → AreInOrder q ss
order_found q jobs ss under = record { ascending = under.ascending; members = all_from_members (IsMember q) ss (λ s there. ((under.members s).0 there).under.member) }

listed_with : (q : Request) (lists : List (List Symbol)) (es : List Entry) → AllByRecursion (AreInOrder q) lists → AreListed q es → AreListed q (done_with lists es)
listed_with q [] es order listed = listed
listed_with q (l ∷ lists) [] order listed = tt
listed_with q (l ∷ lists) (e ∷ es) order listed = (order.0, listed_with q lists es order.1 listed.1)

numbers_with : (next : ℕ) (lists : List (List Symbol)) (es : List Entry) → AreBelow next es → AreBelow next (done_with lists es)
numbers_with next [] es below = below
numbers_with next (l ∷ lists) [] below = tt
numbers_with next (l ∷ lists) (e ∷ es) below = (below.0, numbers_with next lists es below.1)

pub jobs_with : (lists : List (List Symbol)) (es : List Entry) → jobs_of (done_with lists es) ≡ jobs_of es
jobs_with [] es = refl
jobs_with (l ∷ lists) [] = refl
jobs_with (l ∷ lists) (e ∷ es) = ap (λ js. e.job ∷ js) (jobs_with lists es)

pub front_with : (q : Request) (opening : List Job) (next : ℕ) (lists : List (List Symbol)) (es : List Entry) → AllByRecursion (AreInOrder q) lists → IsFront q opening next es → IsFront q opening next (done_with lists es)
front_with q opening next lists es order held = record {
  valid = held.valid;
  opening = held.opening;
  numbers = numbers_with next lists es held.numbers;
  lists = listed_with q lists es order held.lists;
  jobs = subst AreParts (sym (jobs_with lists es)) held.jobs;
}

-- ## The same, told of a machine that is equal

may_where : {m f : Machine} (k : ℕ) (es : List Entry) → m ≡ f → MayAbsorb f k es → MayAbsorb m k es
may_where {m} {f} k es same may = subst (λ n. MayAbsorb n k es) (sym same) may

pub blocks_where : {m f : Machine} (k : ℕ) (es olds : List Entry) → m ≡ f → olds ≡ m.entries → AreParts (jobs_of m.entries) → MayAbsorb f k es → AreBlocks (jobs_of (take k olds)) es
blocks_where {m} {f} k es olds same is parts may =
    subst (λ ds. AreBlocks (jobs_of (take k ds)) es) (sym is) (blocks_absorbed m k es parts (may_where k es same may))

pub lists_fit : (k : ℕ) (es olds entries : List Entry) (lists : List (List Symbol)) → olds ≡ entries → AreJoined (jobs_of (take k olds)) es lists → length lists ≤ length entries
lists_fit k es olds entries lists is joined =
    let long : length lists ≡ length (take k olds) = joined_long (jobs_of (take k olds)) es lists joined ∙ length-map (take k olds) (λ e. e.job) in
    omega (arith, length-take k olds, ap length is)

pub front_where : {m f : Machine} (k : ℕ) (es olds now : List Entry) (lists : List (List Symbol)) → m ≡ f → AreJoined (jobs_of (take k olds)) es lists → MayAbsorb f k es → now ≡ done_with lists m.entries
    → IsFront m.request m.opening m.next m.entries → IsFront m.request m.opening m.next now
front_where {m} {f} k es olds now lists same joined may is held =
    let from = (may_where k es same may).come_from in
    let order = order_found m.request (jobs_of (take k m.entries)) (found_by es) from.all in
    subst (IsFront m.request m.opening m.next) (sym is)
    (front_with m.request m.opening m.next lists m.entries (lists_in_order m.request (jobs_of (take k olds)) es lists joined order) held)

pub absorbs_where : {m f g : Machine} (k : ℕ) (es olds now : List Entry) (lists : List (List Symbol)) → m ≡ f → olds ≡ m.entries → AreJoined (jobs_of (take k olds)) es lists → now ≡ done_with lists m.entries
    → g ≡ record m { entries = now } → Absorbs f k es g
absorbs_where {m} {f} {g} k es olds now lists same is joined put after =
    let here : AreJoined (jobs_of (take k m.entries)) es lists = subst (λ ds. AreJoined (jobs_of (take k ds)) es lists) is joined in
    subst (λ n. Absorbs n k es g) same (absorbs_with m g k es lists here (subst (λ ds. g ≡ record m { entries = ds }) put after))

none_taken : (olds es : List Entry) → es ≡ [] → ((job : Job) → Contains (jobs_of olds) job → (e : Entry) × Contains es e × Extends e.job job) → olds ≡ []
none_taken [] es none each = refl
none_taken (a ∷ olds) es none each =
    let e = each a.job (Contains-head a.job (jobs_of olds)) in
    absurd (Contains-none e.0 (subst (λ ds. Contains ds e.0) none e.1))

-- where nothing is handed in, nothing is absorbed
pub absorbs_none : (f : Machine) (k : ℕ) (es : List Entry) → es ≡ [] → MayAbsorb f k es → Absorbs f k es f
absorbs_none f k es none may =
    let taken = none_taken (take k f.entries) es none may.come_from.each in
    absorbs_with f f k es [] (subst (λ ds. AreJoined (jobs_of ds) es []) (sym taken) none) refl

-- ## Entries that are done where they stand

extends_own : (job : Job) → Extends job job
extends_own job = record { size = refl; begins = begins_itself job.prefix }

-- each entry has its own list
joined_own : (lists : List (List Symbol)) (olds : List Entry) → length lists ≡ length olds → AreJoined (jobs_of olds) (done_with lists olds) lists
joined_own [] [] long = refl
joined_own [] (e ∷ es) long = absurd (omega arith)
joined_own (l ∷ lists) [] long = absurd (omega arith)
joined_own (l ∷ lists) (e ∷ es) long =
    (entry_of e.number e.job (Done l) ∷ [], done_with lists es, refl, (extends_own e.job, tt), sym (append-nil l), joined_own lists es (omega arith))

pub joined_first : {m f : Machine} (lists : List (List Symbol)) → m ≡ f → length lists ≤ length f.entries → AreJoined (jobs_of (take (length lists) m.entries)) (done_first lists f.entries) lists
joined_first {m} {f} lists same enough =
    let taken = length-take (length lists) f.entries in
    subst (λ (n : Machine). AreJoined (jobs_of (take (length lists) n.entries)) (done_first lists f.entries) lists) (sym same)
    (joined_own lists (take (length lists) f.entries) (omega (arith, taken, enough)))
