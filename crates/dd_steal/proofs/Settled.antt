-- What a sweep does to the entries of a desk.
use Rattle.std.proofs.Common.{◌≡◌, ⊎_elim, ℕ, zero, suc, ◌+◌, ◌<◌, ◌≤◌, Bool, true, false, cond, nat_eq, List, [], ◌∷◌, ◌++◌, refl, sym, ◌∙◌, ap, subst, arith}
use Rattle.std.proofs.lemmas.Bool.Decides.{eqb_tells}
use Rattle.std.proofs.lemmas.List.Elements.{Contains-append_left, Contains-append_right}
use Rattle.std.specs.List.{AllByRecursion, Contains}
use Rattle.dd_model.specs.Symbol.{Symbol}
use Rattle.dd_model.specs.declared.requests.Request.{Request}
use Rattle.dd_model.specs.declared.jobs.Job.{Job}
use Rattle.dd_model.proofs.Lists.{Contains-none, Contains-head, Contains-cases}
use Rattle.dd_front.specs.declared.entry.Entry.{Entry}
use Rattle.dd_front.specs.declared.entry.State.{State}
use Rattle.dd_front.specs.declared.entry.State.TheVariants.{Open, Out, Done}
use Rattle.dd_front.specs.Machine.{Machine, entry_of}
use Rattle.dd_front.specs.Rounds.{IsFirstOpen}
use Rattle.dd_front.specs.Joining.{IsDone}
use Rattle.dd_front.specs.Step.{replaced, with_state}
use Rattle.dd_front.proofs.Entries.{range_of}
use Rattle.dd_front.proofs.Replaced.{all_replaced, restated}
use Rattle.dd_board.specs.Desk.{DeskView, IsDesk}
use Rattle.dd_board.proofs.Desks.{desk_held}
use Rattle.dd_board.specs.Calls.{TakesFirst, TakesNone, BooksFinish, BooksBack}
use Rattle.dd_steal.specs.Sweep.{AreDone, IsNoneOut, counted, if_open, if_out}

-- a state that does not count makes no more entries count
no_more : (weight : State → ℕ) (k : ℕ) (state : State) (es : List Entry) → weight state ≡ 0 → counted weight (replaced k (restated state) es) ≤ counted weight es
no_more weight k state [] none = omega arith
no_more weight k state (e ∷ es) none =
    let rest = no_more weight k state es none in
    elim (nat_eq e.number k) as (λ b. counted weight (cond b (restated state e) (e ∷ []) ++ replaced k (restated state) es) ≤ weight e.state + counted weight es) [
      | true ↦ omega (arith, rest, none)
      | false ↦ omega (arith, rest)
    ]

-- where one counted it makes fewer
fewer : (weight : State → ℕ) (k : ℕ) (state : State) (es : List Entry) (e : Entry) → weight state ≡ 0 → Contains es e → e.number ≡ k → weight e.state ≡ 1 → counted weight (replaced k (restated state) es) < counted weight es
fewer weight k state [] e none there is one = absurd (Contains-none e there)
fewer weight k state (d ∷ es) e none there is one =
    ⊎_elim
    (λ first.
    let number : d.number ≡ k = ap (λ (x : Entry). x.number) first ∙ is in
    let counts : weight d.state ≡ 1 = ap (λ (x : Entry). weight x.state) first ∙ one in
    let rest = no_more weight k state es none in
    ⊎_elim
    (λ yes. subst (λ b. counted weight (cond b (restated state d) (d ∷ []) ++ replaced k (restated state) es) < weight d.state + counted weight es) (sym yes.0) (omega (arith, rest, none, counts)))
    (λ no. absurd (no.1 number))
    (eqb_tells d.number k))
    (λ later.
    let rest = fewer weight k state es e none later is one in
    elim (nat_eq d.number k) as (λ b. counted weight (cond b (restated state d) (d ∷ []) ++ replaced k (restated state) es) < weight d.state + counted weight es) [
      | true ↦ omega (arith, rest, none)
      | false ↦ omega (arith, rest)
    ])
    (Contains-cases d e es there)

-- the later state stands
restated_twice : (k : ℕ) (state before : State) (es : List Entry) → replaced k (restated state) (replaced k (restated before) es) ≡ replaced k (restated state) es
restated_twice k state before [] = refl
restated_twice k state before (e ∷ es) = go (restated_twice k state before es) (nat_eq e.number k) refl
  where
    rest : List Entry
    rest = replaced k (restated before) es

    go : replaced k (restated state) rest ≡ replaced k (restated state) es → (b : Bool) → nat_eq e.number k ≡ b
        → replaced k (restated state) (cond b (restated before e) (e ∷ []) ++ rest) ≡ cond b (restated state e) (e ∷ []) ++ replaced k (restated state) es
    go same true is =
        let changed = entry_of e.number e.job before in
        ap (λ b. cond b (restated state changed) (changed ∷ []) ++ replaced k (restated state) rest) is ∙ ap (λ xs. entry_of e.number e.job state ∷ xs) same
    go same false is = ap (λ b. cond b (restated state e) (e ∷ []) ++ replaced k (restated state) rest) is ∙ ap (λ xs. e ∷ xs) same

stands_restated : (k : ℕ) (state : State) (es : List Entry) (e : Entry) → Contains es e → e.number ≡ k → Contains (replaced k (restated state) es) (entry_of e.number e.job state)
stands_restated k state [] e there is = absurd (Contains-none e there)
stands_restated k state (d ∷ es) e there is =
    let changed = entry_of e.number e.job state in
    let front = cond (nat_eq d.number k) (restated state d) (d ∷ []) in
    ⊎_elim
    (λ first. ⊎_elim
    (λ yes.
    let here : Contains (restated state d) changed = subst (λ (x : Entry). Contains (restated state x) changed) (sym first) (Contains-head changed []) in
    Contains-append_left front (replaced k (restated state) es) changed (subst (λ b. Contains (cond b (restated state d) (d ∷ [])) changed) (sym yes.0) here))
    (λ no. absurd (no.1 (ap (λ (x : Entry). x.number) first ∙ is)))
    (eqb_tells d.number k))
    (λ later. Contains-append_right front (replaced k (restated state) es) changed (stands_restated k state es e later is))
    (Contains-cases d e es there)

none_out : (k : ℕ) (state : State) (es : List Entry) → (state ≡ Out → ⊥) → IsNoneOut es → IsNoneOut (replaced k (restated state) es)
none_out k state es not none = all_replaced (λ e. e.state ≡ Out → ⊥) k (restated state) es (λ e old. (not, tt)) none

pub done_all : (es : List Entry) → AllByRecursion (λ e. e.state ≡ Open → ⊥) es → IsNoneOut es → AreDone es
done_all [] shut out = tt
done_all (e ∷ es) shut out = (go e.state refl, done_all es shut.1 out.1)
  where
    go : (state : State) → e.state ≡ state → IsDone state
    go Open is = absurd (shut.0 is)
    go Out is = absurd (out.0 is)
    go (Done list) is = tt

-- a job that was taken and finished
pub record IsSettled (old new : List Entry) : Type 0 where
  pub none : IsNoneOut new
  pub fewer_open : counted if_open new < counted if_open old

taken_stands : (es : List Entry) (k : ℕ) (job : Job) → IsFirstOpen es (entry_of k job Open) → Contains es (entry_of k job Open)
taken_stands es k job first =
    let e = entry_of k job Open in
    subst (λ ds. Contains ds e) (sym first.parts) (Contains-append_right first.before (e ∷ first.after) e (Contains-head e first.after))

settled : (es : List Entry) (k : ℕ) (job : Job) (list : List Symbol) → 1 ≤ k → IsNoneOut es → Contains es (entry_of k job Open) → IsSettled es (with_state k (Done list) (with_state k Out es))
settled es zero job list positive none there = absurd (omega (arith, positive))
settled es (suc k) job list positive none there =
    let same = sym (restated_twice (suc k) (Done list) Out es) in
    subst (IsSettled es) same (record {
      none = none_out (suc k) (Done list) es (λ e. cc) none;
      fewer_open = fewer if_open (suc k) (Done list) es (entry_of (suc k) job Open) refl there refl refl;
    })

out_stands : (es : List Entry) (k : ℕ) (job : Job) → 1 ≤ k → Contains es (entry_of k job Open) → Contains (with_state k Out es) (entry_of k job Out)
out_stands es zero job positive there = absurd (omega (arith, positive))
out_stands es (suc k) job positive there = stands_restated (suc k) Out es (entry_of (suc k) job Open) there refl

pub finished : (worker k : ℕ) (job : Job) (list : List Symbol) (old mid new : DeskView) → IsNoneOut old.machine.entries → TakesFirst worker k job old mid → BooksFinish worker k job list mid new
    → IsSettled old.machine.entries new.machine.entries
finished worker k job list old mid new none takes books =
    let es = old.machine.entries in
    let there = taken_stands es k job takes.first in
    let out : mid.machine.entries ≡ with_state k Out es = ap (λ (m : Machine). m.entries) takes.books.next.step.0 in
    let number : books.number ≡ k = ⊎_elim (λ fits. fits.1) (λ not. absurd (not.0 (subst (λ ds. Contains ds (entry_of k job Out)) (sym out) (out_stands es k job takes.positive there)))) books.is in
    let after : new.machine.entries ≡ with_state k (Done list) (with_state k Out es) =
    ap (λ (m : Machine). m.entries) books.books.next.step.0 ∙ ap (λ n. with_state n (Done list) mid.machine.entries) number ∙ ap (with_state k (Done list)) out in
    subst (IsSettled es) (sym after) (settled es k job list takes.positive none there)

fewer_out : (es : List Entry) (k : ℕ) (e : Entry) → 1 ≤ k → Contains es e → e.number ≡ k → e.state ≡ Out → counted if_out (with_state k Open es) < counted if_out es
fewer_out es zero e positive there is out = absurd (omega (arith, positive))
fewer_out es (suc k) e positive there is out = fewer if_out (suc k) Open es e refl there is (ap if_out out)

-- a job that was given back
pub given_back : (q : Request) (jobs : List Job) (worker : ℕ) (old new : DeskView) (e : Entry) → IsDesk q jobs old.machine old.log → Contains old.machine.entries e → e.state ≡ Out → BooksBack worker e.number old new
    → counted if_out new.machine.entries < counted if_out old.machine.entries
given_back q jobs worker old new e desk there out books =
    let es = old.machine.entries in
    let range = range_of old.machine.next es (desk_held q jobs old.machine old.log desk).numbered e there in
    let stands : Contains es (entry_of e.number e.job Out) = subst (λ state. Contains es (entry_of e.number e.job state)) out there in
    let number : books.number ≡ e.number = ⊎_elim (λ fits. fits.1) (λ not. absurd (not.0 (record { job = e.job; stands = stands }))) books.is in
    let after : new.machine.entries ≡ with_state e.number Open es = ap (λ (m : Machine). m.entries) books.books.next.step.0 ∙ ap (λ n. with_state n Open es) number in
    subst (λ ds. counted if_out ds < counted if_out es) (sym after) (fewer_out es e.number e range.0 there refl out)

-- where no job is open, and none is out, all are done
pub none_left : (worker : ℕ) (old new : DeskView) → IsNoneOut old.machine.entries → TakesNone worker old new → AreDone new.machine.entries × IsNoneOut new.machine.entries
none_left worker old new none takes =
    let same : new.machine.entries ≡ old.machine.entries = ap (λ (m : Machine). m.entries) takes.books.next.step.0 in
    subst (λ es. AreDone es × IsNoneOut es) (sym same) (done_all old.machine.entries takes.none none, none)
