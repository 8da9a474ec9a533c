-- The entries of a front over a round.
use Rattle.std.proofs.Common.{◌≡◌, ℕ, zero, suc, ◌+◌, ◌≤◌, List, [], ◌∷◌, ◌++◌, length, take, drop, inl, inr, ⊎_elim, refl, sym, ap, ◌∙◌, subst, arith}
use Rattle.std.proofs.lemmas.List.{drop-map, map-append, take-append-drop, length-take, take-map}
use Rattle.std.proofs.lemmas.List.Elements.{Contains-append_cases}
use Rattle.std.specs.List.{AllByRecursion, Contains}
use Rattle.dd_model.specs.Symbol.{Symbol}
use Rattle.dd_model.specs.Jobs.{AreAscendingJobs, AreApart}
use Rattle.dd_model.specs.declared.jobs.Job.{Job}
use Rattle.dd_model.proofs.Lists.{Contains-none, Contains-head, Contains-later, Contains-cases, Contains-map, each_of}
use Rattle.dd_front.specs.declared.entry.Entry.{Entry}
use Rattle.dd_front.specs.declared.entry.State.{State}
use Rattle.dd_front.specs.declared.entry.State.TheVariants.{Open, Out, Done}
use Rattle.dd_front.specs.Absorbed.{AreAbsorbed, MayAbsorb, ComeFrom}
use Rattle.dd_front.specs.Allowed.{HasFirst}
use Rattle.dd_front.specs.Joining.{IsDone, done_with, done_first}
use Rattle.dd_front.specs.Machine.{Machine, entry_of, open_entries, jobs_of}
use Rattle.dd_front.specs.Rounds.{open_jobs, job_if_open}
use Rattle.dd_front.proofs.Absorbing.{all_front, all_back, absorbed_jobs}
use Rattle.dd_pages_and_checkpoints.specs.Rounds.{AreOpen, AreDoneThenOpen, IsRoundDone}

pub open_all : (es : List Entry) → AreOpen es → AreDoneThenOpen es
open_all [] opens = tt
open_all (e ∷ es) opens = inr opens

pub opened_open : (k : ℕ) (jobs : List Job) → AreOpen (open_entries k jobs)
opened_open k [] = tt
opened_open k (job ∷ jobs) = (refl, opened_open (k + 1) jobs)

-- what holds of all jobs of some entries
pub each_job : (P : Job → Type 0) (es : List Entry) → AllByRecursion P (jobs_of es) → AllByRecursion (λ e. P e.job) es
each_job P [] all = tt
each_job P (e ∷ es) all = (all.0, each_job P es all.1)

-- where all are open, their jobs are those that wait
pub waiting_all : (es : List Entry) → AreOpen es → open_jobs es ≡ jobs_of es
waiting_all [] opens = refl
waiting_all (e ∷ es) opens = ap (λ state. job_if_open state e.job ++ open_jobs es) opens.0 ∙ ap (λ js. e.job ∷ js) (waiting_all es opens.1)

-- entries that a round brought back are done, and none of them waits
absorbed_done : (olds es done : List Entry) → AreAbsorbed olds es done → AllByRecursion (λ e. IsDone e.state) done
absorbed_done [] es [] are = tt
absorbed_done [] es (b ∷ bs) are = absurd are
absorbed_done (a ∷ olds) es [] are = absurd are
absorbed_done (a ∷ olds) es (b ∷ bs) are = (subst (λ (e : Entry). IsDone e.state) (sym are.4) tt, absorbed_done olds are.1 bs are.5)

none_waits : (done back : List Entry) → AllByRecursion (λ e. IsDone e.state) done → open_jobs (done ++ back) ≡ open_jobs back
none_waits [] back all = refl
none_waits (e ∷ es) back all = go e.state all.0 ∙ none_waits es back all.1
  where
    go : (state : State) → IsDone state → job_if_open state e.job ++ open_jobs (es ++ back) ≡ open_jobs (es ++ back)
    go Open never = absurd never
    go Out never = absurd never
    go (Done list) done = refl

done_then : (done back : List Entry) → AllByRecursion (λ e. IsDone e.state) done → AreOpen back → AreDoneThenOpen (done ++ back)
done_then [] back all opens = open_all back opens
done_then (e ∷ es) back all opens = inl (all.0, done_then es back all.1 opens)

pub opens_back : (k : ℕ) (es : List Entry) → AreOpen es → AreOpen (drop k es)
opens_back k es opens = all_back (λ (e : Entry). e.state ≡ Open) (take k es) (drop k es) (subst AreOpen (sym (take-append-drop k es)) opens)

pub round_entries : (most : ℕ) (f g : Machine) → IsRoundDone most f g → AreOpen f.entries → AreDoneThenOpen g.entries
round_entries most f g round opens =
    let done = round.absorbs.done in
    let after : g.entries ≡ done ++ drop round.count f.entries = ap (λ (m : Machine). m.entries) round.absorbs.after in
    subst AreDoneThenOpen (sym after) (done_then done (drop round.count f.entries) (absorbed_done (take round.count f.entries) round.found done round.absorbs.absorbed) (opens_back round.count f.entries opens))

pub round_jobs : (most : ℕ) (f g : Machine) → IsRoundDone most f g → jobs_of g.entries ≡ jobs_of f.entries
round_jobs most f g round =
    let k = round.count in
    let done = round.absorbs.done in
    let job : Entry → Job = λ e. e.job in
    ap (λ (m : Machine). jobs_of m.entries) round.absorbs.after ∙ map-append job done (drop k f.entries)
    ∙ ap (λ js. js ++ jobs_of (drop k f.entries)) (absorbed_jobs (take k f.entries) round.found done round.absorbs.absorbed)
    ∙ sym (map-append job (take k f.entries) (drop k f.entries)) ∙ ap jobs_of (take-append-drop k f.entries)

pub length_jobs : (es : List Entry) → length (jobs_of es) ≡ length es
length_jobs [] = refl
length_jobs (e ∷ es) = ap suc (length_jobs es)

-- the jobs that wait after a round
pub after_round : (most : ℕ) (f g : Machine) (round : IsRoundDone most f g) → AreOpen f.entries → open_jobs g.entries ≡ drop round.count (jobs_of f.entries)
after_round most f g round opens =
    let k = round.count in
    let done = round.absorbs.done in
    let back = drop k f.entries in
    ap (λ (m : Machine). open_jobs m.entries) round.absorbs.after ∙ none_waits done back (absorbed_done (take k f.entries) round.found done round.absorbs.absorbed) ∙ waiting_all back (opens_back k f.entries opens)
    ∙ sym (drop-map (λ (e : Entry). e.job) k f.entries)

-- ## How many may be done

-- without the first entry, those behind so many are still open
pub open_behind : (m : ℕ) (e : Entry) (es : List Entry) → AreOpen (drop m (e ∷ es)) → AreOpen (drop m es)
open_behind zero e [] opens = tt
open_behind zero e (x ∷ xs) opens = opens.1
open_behind (suc m) e [] opens = tt
open_behind (suc m) e (x ∷ xs) opens = open_behind m x xs opens

-- where there are no more entries
pub none_behind : (m : ℕ) (es : List Entry) → length es ≤ m → AreOpen (drop m es)
none_behind zero [] low = tt
none_behind zero (e ∷ es) low = absurd (omega (arith, low))
none_behind (suc m) [] low = tt
none_behind (suc m) (e ∷ es) low = none_behind m es (omega (arith, low))

behind_done : (m : ℕ) (done back : List Entry) → length done ≤ m → AreOpen back → AreOpen (drop m (done ++ back))
behind_done m [] back low opens = opens_back m back opens
behind_done zero (e ∷ es) back low opens = absurd (omega (arith, low))
behind_done (suc m) (e ∷ es) back low opens = behind_done m es back (omega (arith, low)) opens

-- behind the entries of a round all are open
pub round_behind : (most m : ℕ) (f g : Machine) → IsRoundDone most f g → AreOpen f.entries → most ≤ m → AreOpen (drop m g.entries)
round_behind most m f g round opens low =
    let k = round.count in
    let done = round.absorbs.done in
    let after : g.entries ≡ done ++ drop k f.entries = ap (λ (m : Machine). m.entries) round.absorbs.after in
    let long = ap length (absorbed_jobs (take k f.entries) round.found done round.absorbs.absorbed) in
    let one = length_jobs done in
    let two = length_jobs (take k f.entries) in
    let size = length-take k f.entries in
    let few = round.few in
    subst (λ es. AreOpen (drop m es)) (sym after) (behind_done m done (drop k f.entries) (omega (arith, long, one, two, size, few, low)) (opens_back k f.entries opens))

-- ## What goes into a round

-- so many of the first entries as there are jobs taken
taken_entries : (most : ℕ) (es : List Entry) → jobs_of (take (length (take most (jobs_of es))) es) ≡ take most (jobs_of es)
taken_entries zero [] = refl
taken_entries zero (e ∷ es) = refl
taken_entries (suc most) [] = refl
taken_entries (suc most) (e ∷ es) = ap (λ js. e.job ∷ js) (taken_entries most es)

pub taken_jobs : (most : ℕ) (es : List Entry) (jobs : List Job) → AreOpen es → jobs ≡ take most (open_jobs es) → jobs ≡ take most (jobs_of es)
taken_jobs most es jobs opens is = is ∙ ap (take most) (waiting_all es opens)

pub may_absorb : (f : Machine) (most : ℕ) (jobs : List Job) (es : List Entry) → AreOpen f.entries → jobs ≡ take most (open_jobs f.entries) → ComeFrom f.request jobs es → MayAbsorb f (length jobs) es
may_absorb f most jobs es opens is come =
    let taken = taken_jobs most f.entries jobs opens is in
    let long : length jobs ≡ length (take most (jobs_of f.entries)) = ap length taken in
    let most_long = length-take most (jobs_of f.entries) in
    let all = length_jobs f.entries in
    let same : jobs_of (take (length jobs) f.entries) ≡ jobs = ap (λ n. jobs_of (take n f.entries)) long ∙ taken_entries most f.entries ∙ sym taken in
    let k = length jobs in
    record {
      enough = omega arith;
      open_entries = all_front (λ (e : Entry). e.state ≡ Open) (take k f.entries) (drop k f.entries) (subst AreOpen (sym (take-append-drop k f.entries)) opens);
      come_from = subst (λ js. ComeFrom f.request js es) (sym same) come;
    }

pub all_taken : {A : Type 0} (P : A → Type 0) (most : ℕ) (xs : List A) → AllByRecursion P xs → AllByRecursion P (take most xs)
all_taken P most xs all = all_front P (take most xs) (drop most xs) (subst (AllByRecursion P) (sym (take-append-drop most xs)) all)

pub ascending_taken : (most : ℕ) (jobs : List Job) → AreAscendingJobs jobs → AreAscendingJobs (take most jobs)
ascending_taken zero [] ascending = tt
ascending_taken zero (job ∷ jobs) ascending = tt
ascending_taken (suc most) [] ascending = tt
ascending_taken (suc most) (job ∷ jobs) ascending = (all_taken _ most jobs ascending.0, ascending_taken most jobs ascending.1)

pub apart_taken : (most : ℕ) (jobs : List Job) → AreApart jobs → AreApart (take most jobs)
apart_taken zero [] apart = tt
apart_taken zero (job ∷ jobs) apart = tt
apart_taken (suc most) [] apart = tt
apart_taken (suc most) (job ∷ jobs) apart = (all_taken _ most jobs apart.0, apart_taken most jobs apart.1)

pub few_taken : {A : Type 0} (most : ℕ) (xs ys : List A) → ys ≡ take most xs → length ys ≤ most
few_taken most xs ys is = let size = length-take most xs in let long = ap length is in omega (arith, size, long)

-- none is taken only where none is left
pub none_taken : (most : ℕ) (es : List Entry) (jobs : List Job) → 1 ≤ most → AreOpen es → jobs ≡ take most (open_jobs es) → length jobs ≡ 0 → es ≡ []
none_taken most [] jobs some opens is none = refl
none_taken zero (e ∷ es) jobs some opens is none = absurd (omega (arith, some))
none_taken (suc most) (e ∷ es) jobs some opens is none =
    let taken = ap length (taken_jobs (suc most) (e ∷ es) jobs opens is) in
    absurd (omega (arith, taken, none))

-- the jobs of the first entries
pub jobs_first : (P : List Job → Type 0) (count : ℕ) (es now : List Entry) → now ≡ es → P (take count (jobs_of es)) → P (jobs_of (take count now))
jobs_first P count es now same holds = subst (λ (ds : List Entry). P (jobs_of (take count ds))) (sym same) (subst P (take-map (λ (e : Entry). e.job) count es) holds)

-- what one worker found under the first jobs may be absorbed
pub may_absorb_first : (f : Machine) (lists : List (List Symbol)) (count : ℕ) → AreOpen f.entries → count ≤ length f.entries → length lists ≡ length (take count f.entries)
    → ComeFrom f.request (jobs_of (take count f.entries)) (done_with lists (take count f.entries)) → (length lists ≡ count) × MayAbsorb f (length lists) (done_first lists f.entries)
may_absorb_first f lists count opens low long come =
    let taken = length-take count f.entries in
    let same : length lists ≡ count = omega (arith, long, taken, low) in (
      same,
      subst (λ k. MayAbsorb f k (done_with lists (take k f.entries))) (sym same) (record {
        enough = low;
        open_entries = all_front (λ (e : Entry). e.state ≡ Open) (take count f.entries) (drop count f.entries) (subst AreOpen (sym (take-append-drop count f.entries)) opens);
        come_from = come;
      }),
    )

-- where those behind so many are open, one that is done is among so many
pub done_early : (m : ℕ) (es : List Entry) (e : Entry) → AreOpen (drop m es) → Contains es e → IsDone e.state → Contains (take m (jobs_of es)) e.job
done_early m [] e opens there done = absurd (Contains-none e there)
done_early zero (d ∷ ds) e opens there done = absurd (never e.state (each_of (λ (x : Entry). x.state ≡ Open) (d ∷ ds) e opens there) done)
  where
    never : (state : State) → state ≡ Open → IsDone state → ⊥
    never Open is none = none
    never Out is none = none
    never (Done list) is here = cc
done_early (suc m) (d ∷ ds) e opens there done =
    ⊎_elim
    (λ first. subst (λ (x : Entry). Contains (d.job ∷ take m (jobs_of ds)) x.job) first (Contains-head d.job (take m (jobs_of ds))))
    (λ later. Contains-later d.job e.job (take m (jobs_of ds)) (done_early m ds e opens later done))
    (Contains-cases d e ds there)

-- ## At the front

-- where the first entry is not done, all are open
pub rest_open : (f : Machine) → AreDoneThenOpen f.entries → ((list : List Symbol) → ¬ HasFirst f list) → AreOpen f.entries
rest_open f are none = go f.entries refl are
  where
    state_of : (e : Entry) (es : List Entry) → f.entries ≡ e ∷ es → (state : State) → e.state ≡ state → IsDone state → ⊥
    state_of e es is Open same never = never
    state_of e es is Out same never = never
    state_of e es is (Done list) same done = none list (record { number = e.number; job = e.job; rest = es; entries = is ∙ ap (λ state. entry_of e.number e.job state ∷ es) same })

    go : (es : List Entry) → f.entries ≡ es → AreDoneThenOpen es → AreOpen es
    go [] is are' = tt
    go (e ∷ es) is are' = ⊎_elim (λ done. absurd (state_of e es is e.state refl done.0)) (λ opens. opens) are'

-- ## The jobs of a round

pub take_nothing : {A : Type 0} (ys : List A) → take 0 ys ≡ []
take_nothing [] = refl
take_nothing (y ∷ ys) = refl

pub take_within : {A : Type 0} (k most : ℕ) (xs : List A) (x : A) → k ≤ most → Contains (take k xs) x → Contains (take most xs) x
take_within zero most xs x low there = absurd (Contains-none x (subst (λ ys. Contains ys x) (take_nothing xs) there))
take_within (suc k) most [] x low there = absurd (Contains-none x there)
take_within (suc k) zero (y ∷ ys) x low there = absurd (omega (arith, low))
take_within (suc k) (suc most) (y ∷ ys) x low there =
    ⊎_elim
    (λ first. subst (λ z. Contains (y ∷ take most ys) z) first (Contains-head y (take most ys)))
    (λ later. Contains-later y x (take most ys) (take_within k most ys x (omega (arith, low)) later))
    (Contains-cases y x (take k ys) there)

pub take_inside : {A : Type 0} (k : ℕ) (xs : List A) (x : A) → Contains (take k xs) x → Contains xs x
take_inside zero xs x there = absurd (Contains-none x (subst (λ ys. Contains ys x) (take_nothing xs) there))
take_inside (suc k) [] x there = absurd (Contains-none x there)
take_inside (suc k) (y ∷ ys) x there =
    ⊎_elim
    (λ first. subst (λ z. Contains (y ∷ ys) z) first (Contains-head y ys))
    (λ later. Contains-later y x ys (take_inside k ys x later))
    (Contains-cases y x (take k ys) there)

-- an entry that a round made done is one of its jobs
pub done_in_round : (most : ℕ) (f g : Machine) → IsRoundDone most f g → AreOpen f.entries → (e : Entry) → Contains g.entries e → IsDone e.state → Contains (take most (jobs_of f.entries)) e.job
done_in_round most f g round opens e there done =
    let k = round.count in
    let job : Entry → Job = λ d. d.job in
    let brought = round.absorbs.done in
    let after : g.entries ≡ brought ++ drop k f.entries = ap (λ (m : Machine). m.entries) round.absorbs.after in
    let jobs : jobs_of brought ≡ take k (jobs_of f.entries) = absorbed_jobs (take k f.entries) round.found brought round.absorbs.absorbed ∙ sym (take-map job k f.entries) in
    ⊎_elim
    (λ early. take_within k most (jobs_of f.entries) e.job round.few (subst (λ js. Contains js e.job) jobs (Contains-map job brought e early)))
    (λ late. absurd (never e.state (each_of (λ (d : Entry). d.state ≡ Open) (drop k f.entries) e (opens_back k f.entries opens) late) done))
    (Contains-append_cases brought (drop k f.entries) e (subst (λ es. Contains es e) after there))
  where
    never : (state : State) → state ≡ Open → IsDone state → ⊥
    never Open is none = none
    never Out is none = none
    never (Done list) is done = cc
