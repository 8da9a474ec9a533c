-- The jobs of a desk are jobs of its request.
use Rattle.std.proofs.Common.{◌≡◌, ◌⊎◌, inl, inr, ℕ, zero, suc, ◌+◌, ◌*◌, ◌<◌, List, [], ◌∷◌, length, sym, subst, arith}
use Rattle.std.proofs.lemmas.List.{length_push}
use Rattle.dd_model.specs.Symbol.{Symbol}
use Rattle.dd_model.specs.Position.{IsPosition, IsWhollyBefore}
use Rattle.dd_model.specs.Jobs.{AreChildren, IsJobOf, extended}
use Rattle.dd_model.specs.declared.requests.Request.{Request}
use Rattle.dd_model.specs.declared.jobs.Job.{Job}
use Rattle.dd_model.proofs.Lists.{all_from_members, each_of}
use Rattle.dd_model.proofs.Without.{without_all}
use Rattle.dd_front.specs.declared.entry.Entry.{Entry}
use Rattle.dd_front.specs.declared.entry.State.{State}
use Rattle.dd_front.specs.declared.entry.State.TheVariants.{Open, Out, Done}
use Rattle.dd_front.specs.declared.event.Event.{Event}
use Rattle.dd_front.specs.declared.event.Event.TheVariants.{Take, Look, Split, Finish, Back, Emit, Part, Save, Resume}
use Rattle.dd_front.specs.Machine.{Machine, entry_of, open_entries}
use Rattle.dd_front.specs.Allowed.{MaySplit}
use Rattle.dd_front.specs.Step.{IsNext, IsRun, with_state, split_entries, out_after}
use Rattle.dd_front.proofs.Replaced.{all_replaced}
use Rattle.dd_board.specs.Desk.{IsDesk, AreJobsOf, HaveJobsOf, first_place}

pub place_fits : (q : Request) (jobs : List Job) → AreJobsOf q jobs → IsPosition (first_place jobs)
place_fits q [] all = tt
place_fits q (job ∷ jobs) all = let short = all.0.short in omega (arith, short)

-- the jobs of a machine's opening and of its entries are jobs of a request
record HasJobsOf (q : Request) (f : Machine) : Type 0 where
  opening : AreJobsOf q f.opening
  entries : HaveJobsOf q f.entries

opened_of : (q : Request) (k : ℕ) (jobs : List Job) → AreJobsOf q jobs → HaveJobsOf q (open_entries k jobs)
opened_of q k [] all = tt
opened_of q k (job ∷ jobs) all = (all.0, opened_of q (k + 1) jobs all.1)

child_of : (q : Request) (job child : Job) (k : ℕ) → IsJobOf q job → length job.prefix < 3 * job.size → child ≡ extended job k → IsJobOf q child
child_of q job child k of shorter is =
    let longer = length_push job.prefix k in
    subst (IsJobOf q) (sym is) (record { positive = of.positive; small = of.small; short = omega (arith, longer, shorter) })

children_of : (q r : Request) (job : Job) (jobs : List Job) → IsJobOf q job → AreChildren r job jobs → AreJobsOf q jobs
children_of q r job jobs of children =
    all_from_members (IsJobOf q) jobs (λ child there. let e = children.extensions.extend child there in child_of q job child e.0 of children.shorter e.1)

state_of : (q : Request) (k : ℕ) (state : State) (es : List Entry) → HaveJobsOf q es → HaveJobsOf q (with_state k state es)
state_of q zero state es all = all
state_of q (suc k) state es all = all_replaced (λ e. IsJobOf q e.job) (suc k) (λ e. entry_of e.number e.job state ∷ []) es (λ e of. (of, tt)) all

split_of : (q : Request) (k next : ℕ) (jobs : List Job) (es : List Entry) → (k ≡ 0) ⊎ AreJobsOf q jobs → HaveJobsOf q es → HaveJobsOf q (split_entries k next jobs es)
split_of q zero next jobs es of all = all
split_of q (suc k) next jobs es (inl none) all = absurd (omega (arith, none))
split_of q (suc k) next jobs es (inr of) all = all_replaced (λ e. IsJobOf q e.job) (suc k) (λ e. open_entries next jobs) es (λ e old. opened_of q next jobs of) all

may_of : (q : Request) (f : Machine) (k : ℕ) (jobs : List Job) → HaveJobsOf q f.entries → (k ≡ 0) ⊎ MaySplit f k jobs → (k ≡ 0) ⊎ AreJobsOf q jobs
may_of q f k jobs all (inl none) = inl none
may_of q f k jobs all (inr may) =
    let job = each_of (λ (e : Entry). IsJobOf q e.job) f.entries (entry_of k may.out.job Out) all may.out.stands in
    inr (children_of q f.request may.out.job jobs job may.children)

next_of : (q : Request) (f g : Machine) (e : Event) (emitted : List Symbol) → IsNext f e g emitted → HasJobsOf q f → HasJobsOf q g
next_of q f g (Take worker k) emitted next of =
    subst (HasJobsOf q) (sym next.step.0) (record { opening = of.opening; entries = state_of q k Out f.entries of.entries })
next_of q f g (Look worker) emitted next of = subst (HasJobsOf q) (sym next.step.0) of
next_of q f g (Split worker k jobs) emitted next of =
    subst (HasJobsOf q) (sym next.step.0)
    (record { opening = of.opening; entries = split_of q k f.next jobs f.entries (may_of q f k jobs of.entries next.allowed) of.entries })
next_of q f g (Finish worker k list) emitted next of =
    subst (HasJobsOf q) (sym next.step.0) (record { opening = of.opening; entries = state_of q k (Done list) f.entries of.entries })
next_of q f g (Back worker k) emitted next of =
    subst (HasJobsOf q) (sym next.step.0) (record { opening = of.opening; entries = state_of q k Open f.entries of.entries })
next_of q f g Emit emitted next of =
    let rest = (subst (HaveJobsOf q) next.step.first.entries of.entries).1 in subst (HasJobsOf q) (sym next.step.after) (record { opening = of.opening; entries = rest })
next_of q f g (Part count) emitted next of = subst (HasJobsOf q) (sym next.step.after) (record { opening = of.opening; entries = of.entries })
next_of q f g Save emitted next of = subst (HasJobsOf q) (sym next.step.0.after) (record { opening = of.opening; entries = of.entries })
next_of q f g Resume emitted next of =
    let back = next.step.0 in
    let jobs = without_all (IsWhollyBefore f.saved.position) (IsJobOf q) f.opening back.jobs back.remaining of.opening in
    subst (HasJobsOf q) (sym back.after) (record { opening = of.opening; entries = opened_of q 1 back.jobs jobs })

run_of : (q : Request) (f g : Machine) (out last : List Symbol) (es : List Event) → IsRun f out es g last → HasJobsOf q f → HasJobsOf q g
run_of q f g out last [] run of = subst (HasJobsOf q) (sym run.0) of
run_of q f g out last (e ∷ es) (h, emitted, next, rest) of = run_of q h g (out_after f e out emitted) last es rest (next_of q f h e emitted next of)

-- at all times
pub desk_jobs : (q : Request) (jobs : List Job) (f : Machine) (log : List Event) → IsDesk q jobs f log → HaveJobsOf q f.entries
desk_jobs q jobs f log desk =
    let opening = subst (AreJobsOf q) (sym desk.opened.opening) desk.jobs_of in
    let entries = subst (HaveJobsOf q) (sym desk.opened.entries) (opened_of q 1 jobs desk.jobs_of) in
    (run_of q desk.start f [] [] log desk.run (record { opening = opening; entries = entries })).entries
