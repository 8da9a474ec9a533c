-- Each job of a round has an entry, at all times.
use Rattle.std.proofs.Common.{◌≡◌, ◌⊎◌, inl, inr, ⊎_elim, ℕ, zero, suc, ◌+◌, cond, nat_eq, List, [], ◌∷◌, refl, sym, ◌∙◌, ap, subst, arith}
use Rattle.std.proofs.lemmas.Bool.{cond-true, cond-false}
use Rattle.std.proofs.lemmas.Bool.Decides.{eqb_tells}
use Rattle.std.proofs.lemmas.List.Elements.{Contains-append_left, Contains-append_right}
use Rattle.std.specs.List.{AllByRecursion, Contains}
use Rattle.dd_model.specs.Symbol.{Symbol}
use Rattle.dd_model.specs.declared.requests.Request.{Request}
use Rattle.dd_model.specs.declared.jobs.Job.{Job}
use Rattle.dd_model.specs.declared.jobs.Position.{Position}
use Rattle.dd_model.proofs.Ascending.{begins_itself, begins_through}
use Rattle.dd_model.proofs.Pairs.{ArePairs}
use Rattle.dd_model.proofs.Lists.{Contains-none, Contains-head, Contains-later, Contains-cases, each_of}
use Rattle.dd_front.specs.declared.entry.Entry.{Entry}
use Rattle.dd_front.specs.declared.entry.State.{State}
use Rattle.dd_front.specs.declared.entry.State.TheVariants.{Open, Out, Done}
use Rattle.dd_front.specs.declared.event.Event.{Event}
use Rattle.dd_front.specs.declared.event.Event.TheVariants.{Take, Look, Split, Finish, Back, Emit, Part, Save, Resume}
use Rattle.dd_front.specs.Machine.{Machine, entry_of, open_entries}
use Rattle.dd_front.specs.Absorbed.{Extends}
use Rattle.dd_front.specs.Allowed.{MaySplit}
use Rattle.dd_front.specs.Held.{IsHeld}
use Rattle.dd_front.specs.Step.{IsNext, IsRun, replaced, with_state, split_entries, out_after}
use Rattle.dd_front.proofs.Entries.{Differ, own_pairs}
use Rattle.dd_front.proofs.Replaced.{restated}
use Rattle.dd_front.proofs.Splitting.{child_extends}
use Rattle.dd_front.proofs.Holding.{held_first}
use Rattle.dd_front.proofs.Events.{held_next}
use Rattle.dd_board.specs.Desk.{IsDesk, IsCall, first_place}
use Rattle.dd_board.proofs.Openings.{open_at_first}

pub extends_itself : (job : Job) → Extends job job
extends_itself job = record { size = refl; begins = begins_itself job.prefix }

extends_through : (a b c : Job) → Extends a b → Extends b c → Extends a c
extends_through a b c first second = record { size = first.size ∙ second.size; begins = begins_through c.prefix b.prefix a.prefix second.begins first.begins }

-- an entry that extends the job
pub record HasPart (job : Job) (es : List Entry) : Type 0 where
  pub entry : Entry
  pub listed : Contains es entry
  pub extends : Extends entry.job job

-- each of these jobs has one
abbrev pub HaveParts : List Job → List Entry → Type 0
HaveParts jobs es = (job : Job) → Contains jobs job → HasPart job es

-- where an entry is replaced by others, some of which extend its job, one of these stands there
stays : (k : ℕ) (new : Entry → List Entry) (es : List Entry) (e : Entry) → Contains es e → (e.number ≡ k → HasPart e.job (new e)) → HasPart e.job (replaced k new es)
stays k new [] e there some = absurd (Contains-none e there)
stays k new (d ∷ es) e there some =
    let front = cond (nat_eq d.number k) (new d) (d ∷ []) in
    ⊎_elim
    (λ first. ⊎_elim
    (λ yes.
    let part = some (ap (λ (x : Entry). x.number) (sym first) ∙ yes.1) in
    let here : Contains (new d) part.entry = subst (λ (x : Entry). Contains (new x) part.entry) (sym first) part.listed in
    let listed : Contains front part.entry = subst (λ xs. Contains xs part.entry) (sym (cond-true (nat_eq d.number k) (new d) (d ∷ []) yes.0)) here in
    record { entry = part.entry; listed = Contains-append_left front (replaced k new es) part.entry listed; extends = part.extends })
    (λ no.
    let here : Contains (d ∷ []) e = subst (Contains (d ∷ [])) first (Contains-head d []) in
    let listed : Contains front e = subst (λ xs. Contains xs e) (sym (cond-false (nat_eq d.number k) (new d) (d ∷ []) no.0)) here in
    record { entry = e; listed = Contains-append_left front (replaced k new es) e listed; extends = extends_itself e.job })
    (eqb_tells d.number k))
    (λ later.
    let part = stays k new es e later some in
    record { entry = part.entry; listed = Contains-append_right front (replaced k new es) part.entry part.listed; extends = part.extends })
    (Contains-cases d e es there)

parts_replaced : (jobs : List Job) (k : ℕ) (new : Entry → List Entry) (es : List Entry) → ((e : Entry) → Contains es e → e.number ≡ k → HasPart e.job (new e)) → HaveParts jobs es → HaveParts jobs (replaced k new es)
parts_replaced jobs k new es some parts job there =
    let old = parts job there in
    let part = stays k new es old.entry old.listed (some old.entry old.listed) in
    record { entry = part.entry; listed = part.listed; extends = extends_through part.entry.job old.entry.job job part.extends old.extends }

parts_state : (jobs : List Job) (k : ℕ) (state : State) (es : List Entry) → HaveParts jobs es → HaveParts jobs (with_state k state es)
parts_state jobs zero state es parts = parts
parts_state jobs (suc k) state es parts =
    parts_replaced jobs (suc k) (restated state) es (λ e there is. record { entry = entry_of e.number e.job state; listed = Contains-head (entry_of e.number e.job state) []; extends = extends_itself e.job }) parts

-- a number has one entry
numbered_once : (es : List Entry) (a b : Entry) → ArePairs Differ es → Contains es a → Contains es b → a.number ≡ b.number → a ≡ b
numbered_once [] a b distinct there_a there_b same = absurd (Contains-none a there_a)
numbered_once (e ∷ es) a b distinct there_a there_b same =
    ⊎_elim
    (λ first. ⊎_elim
    (λ second. sym first ∙ second)
    (λ later. absurd (each_of (Differ e) es b distinct.0 later (ap (λ (x : Entry). x.number) first ∙ same)))
    (Contains-cases e b es there_b))
    (λ later. ⊎_elim
    (λ second. absurd (each_of (Differ e) es a distinct.0 later (ap (λ (x : Entry). x.number) second ∙ sym same)))
    (λ both. numbered_once es a b distinct.1 later both same)
    (Contains-cases e b es there_b))
    (Contains-cases e a es there_a)

-- a split puts at least one job in the place of another
parts_split : (jobs : List Job) (f : Machine) (k : ℕ) (split : List Job) → ArePairs Differ f.entries → (k ≡ 0) ⊎ MaySplit f k split → HaveParts jobs f.entries → HaveParts jobs (split_entries k f.next split f.entries)
parts_split jobs f zero split distinct may parts = parts
parts_split jobs f (suc k) split distinct (inl none) parts = absurd (omega (arith, none))
parts_split jobs f (suc k) [] distinct (inr may) parts = absurd (may.children.some refl)
parts_split jobs f (suc k) (child ∷ more) distinct (inr may) parts =
    let job = may.out.job in
    let first = entry_of f.next child Open in
    let extends : Extends child job = child_extends job child (may.children.extensions.extend child (Contains-head child more)) in
    parts_replaced jobs (suc k) (λ e. open_entries f.next (child ∷ more)) f.entries
    (λ e there is.
    let same : entry_of (suc k) job Out ≡ e = numbered_once f.entries (entry_of (suc k) job Out) e distinct may.out.stands there (sym is) in
    record {
      entry = first;
      listed = Contains-head first (open_entries (f.next + 1) more);
      extends = subst (λ (x : Entry). Extends child x.job) same extends;
    })
    parts

parts_next : (jobs : List Job) (f g : Machine) (e : Event) (emitted : List Symbol) → IsCall e → ArePairs Differ f.entries → IsNext f e g emitted → HaveParts jobs f.entries → HaveParts jobs g.entries
parts_next jobs f g (Take worker k) emitted call distinct next parts = subst (λ (m : Machine). HaveParts jobs m.entries) (sym next.step.0) (parts_state jobs k Out f.entries parts)
parts_next jobs f g (Look worker) emitted call distinct next parts = subst (λ (m : Machine). HaveParts jobs m.entries) (sym next.step.0) parts
parts_next jobs f g (Split worker k split) emitted call distinct next parts =
    subst (λ (m : Machine). HaveParts jobs m.entries) (sym next.step.0) (parts_split jobs f k split distinct next.allowed parts)
parts_next jobs f g (Finish worker k list) emitted call distinct next parts =
    subst (λ (m : Machine). HaveParts jobs m.entries) (sym next.step.0) (parts_state jobs k (Done list) f.entries parts)
parts_next jobs f g (Back worker k) emitted call distinct next parts = subst (λ (m : Machine). HaveParts jobs m.entries) (sym next.step.0) (parts_state jobs k Open f.entries parts)
parts_next jobs f g Emit emitted call distinct next parts = absurd call
parts_next jobs f g (Part count) emitted call distinct next parts = absurd call
parts_next jobs f g Save emitted call distinct next parts = absurd call
parts_next jobs f g Resume emitted call distinct next parts = absurd call

parts_run : (q : Request) (jobs : List Job) (at : Position) (f g : Machine) (out last : List Symbol) (es : List Event) → AllByRecursion IsCall es → IsHeld q jobs at f out → IsRun f out es g last → HaveParts jobs f.entries
    → HaveParts jobs g.entries
parts_run q jobs at f g out last [] calls held run parts = subst (λ (m : Machine). HaveParts jobs m.entries) (sym run.0) parts
parts_run q jobs at f g out last (e ∷ es) calls held (h, emitted, next, rest) parts =
    parts_run q jobs at h g (out_after f e out emitted) last es calls.1 (held_next q jobs at f h out emitted e held next) rest (parts_next jobs f h e emitted calls.0 (own_pairs f.entries held.numbered.own) next parts)

opened_parts : (k : ℕ) (jobs : List Job) → HaveParts jobs (open_entries k jobs)
opened_parts k [] job there = absurd (Contains-none job there)
opened_parts k (first ∷ jobs) job there =
    let entry = entry_of k first Open in
    ⊎_elim
    (λ is. record { entry = entry; listed = Contains-head entry (open_entries (k + 1) jobs); extends = subst (Extends first) is (extends_itself first) })
    (λ later.
    let part = opened_parts (k + 1) jobs job later in
    record { entry = part.entry; listed = Contains-later entry part.entry (open_entries (k + 1) jobs) part.listed; extends = part.extends })
    (Contains-cases first job jobs there)

-- at a desk
pub desk_parts : (q : Request) (jobs : List Job) (f : Machine) (log : List Event) → IsDesk q jobs f log → HaveParts jobs f.entries
desk_parts q jobs f log desk =
    let at = first_place jobs in
    let run : IsRun desk.start [] (Resume ∷ desk.calls) f [] = subst (λ es. IsRun desk.start [] es f []) desk.begins desk.run in
    let opened = open_at_first q jobs desk.start run.0 desk.opened (run.1, run.2.step) in
    let held = held_next q jobs at desk.start run.0 [] run.1 Resume (held_first q jobs at 0 desk.start desk.opened) run.2 in
    parts_run q jobs at run.0 f (out_after desk.start Resume [] run.1) [] desk.calls desk.are_calls held run.3 (subst (HaveParts jobs) (sym opened) (opened_parts 1 jobs))
