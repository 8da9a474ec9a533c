-- The log of a desk is a run that goes on with each event.
use Rattle.std.proofs.Common.{◌≡◌, ◌-◌, List, [], ◌∷◌, ◌++◌, refl, sym, ◌∙◌, ap, subst}
use Rattle.std.proofs.Math.Seq.{take-nil}
use Rattle.std.specs.List.{AllByRecursion}
use Rattle.dd_model.specs.Symbol.{Symbol}
use Rattle.dd_model.specs.Request.{IsValid}
use Rattle.dd_model.specs.declared.requests.Request.{Request}
use Rattle.dd_model.specs.declared.jobs.Job.{Job}
use Rattle.dd_front.specs.declared.event.Event.{Event}
use Rattle.dd_front.specs.declared.event.Event.TheVariants.{Take, Look, Split, Finish, Back, Emit, Part, Save, Resume}
use Rattle.dd_front.specs.Machine.{Machine, IsOpened}
use Rattle.dd_front.specs.Allowed.{IsAllowed}
use Rattle.dd_front.specs.Held.{IsHeld}
use Rattle.dd_front.specs.Step.{IsStep, IsNext, IsRun, out_after}
use Rattle.dd_front.proofs.Holding.{held_first}
use Rattle.dd_front.proofs.Runs.{run_held}
use Rattle.dd_board.specs.Desk.{IsDesk, IsCall, AreJobsOf, first_place}

-- a run goes on by one event
pub run_more : (f g h : Machine) (out last emitted : List Symbol) (es : List Event) (e : Event) → IsRun f out es g last → IsNext g e h emitted
    → IsRun f out (es ++ e ∷ []) h (out_after g e last emitted)
run_more f g h out last emitted [] e run next =
    (h, emitted, subst (λ m. IsNext m e h emitted) run.0 next, (refl, ap (λ m. out_after m e last emitted) run.0 ∙ ap (λ o. out_after f e o emitted) run.1))
run_more f g h out last emitted (d ∷ es) e (m, first, next, rest) more = (m, first, next, run_more m g h (out_after f d out first) last emitted es e rest more)

-- a call emits nothing
pub call_emits_nothing : (f g : Machine) (e : Event) (emitted : List Symbol) → IsCall e → IsStep f e g emitted → emitted ≡ []
call_emits_nothing f g (Take worker k) emitted call step = step.1
call_emits_nothing f g (Look worker) emitted call step = step.1
call_emits_nothing f g (Split worker k jobs) emitted call step = step.1
call_emits_nothing f g (Finish worker k list) emitted call step = step.1
call_emits_nothing f g (Back worker k) emitted call step = step.1
call_emits_nothing f g Emit emitted call step = absurd call
call_emits_nothing f g (Part count) emitted call step = absurd call
call_emits_nothing f g Save emitted call step = absurd call
call_emits_nothing f g Resume emitted call step = absurd call

call_adds_nothing : (f : Machine) (e : Event) → IsCall e → out_after f e [] [] ≡ []
call_adds_nothing f (Take worker k) call = refl
call_adds_nothing f (Look worker) call = refl
call_adds_nothing f (Split worker k jobs) call = refl
call_adds_nothing f (Finish worker k list) call = refl
call_adds_nothing f (Back worker k) call = refl
call_adds_nothing f Emit call = refl
call_adds_nothing f (Part count) call = refl
call_adds_nothing f Save call = refl
call_adds_nothing f Resume call = absurd call

pub next_of_call : (f g : Machine) (e : Event) → IsCall e → IsAllowed f e → ((emitted : List Symbol) × IsStep f e g emitted) → IsNext f e g []
next_of_call f g e call may (emitted, step) = record { allowed = may; step = subst (λ out. IsStep f e g out) (call_emits_nothing f g e emitted call step) step }

all_more : (es : List Event) (e : Event) → AllByRecursion IsCall es → IsCall e → AllByRecursion IsCall (es ++ e ∷ [])
all_more [] e all call = (call, tt)
all_more (d ∷ es) e all call = (all.0, all_more es e all.1 call)

-- a desk goes on by one call
pub desk_more : (q : Request) (jobs : List Job) (f g : Machine) (log : List Event) (e : Event) → IsDesk q jobs f log → IsCall e → IsNext f e g []
    → IsDesk q jobs g (log ++ e ∷ [])
desk_more q jobs f g log e desk call next = record {
  valid = desk.valid;
  jobs_of = desk.jobs_of;
  start = desk.start;
  opened = desk.opened;
  calls = desk.calls ++ e ∷ [];
  begins = ap (λ es. es ++ e ∷ []) desk.begins;
  are_calls = all_more desk.calls e desk.are_calls call;
  run = subst (IsRun desk.start [] (log ++ e ∷ []) g) (call_adds_nothing f e call) (run_more desk.start f g [] [] [] log e desk.run next);
}

-- a desk begins with a resumption
pub desk_first : (q : Request) (jobs : List Job) (f g : Machine) → IsValid q → AreJobsOf q jobs → IsOpened q jobs (first_place jobs) 0 f → ((emitted : List Symbol) × IsStep f Resume g emitted)
    → IsDesk q jobs g (Resume ∷ [])
desk_first q jobs f g valid of opened (emitted, step) =
    let next : IsNext f Resume g emitted = record { allowed = tt; step = step } in
    record {
      valid = valid;
      jobs_of = of;
      start = f;
      opened = opened;
      calls = [];
      begins = refl;
      are_calls = tt;
      run = (g, emitted, next, (refl, sym (take-nil (f.saved.lines - f.opened))));
    }

-- what a machine holds at all times
pub desk_held : (q : Request) (jobs : List Job) (f : Machine) (log : List Event) → IsDesk q jobs f log → IsHeld q jobs (first_place jobs) f []
desk_held q jobs f log desk = run_held q jobs (first_place jobs) desk.start f [] [] log (held_first q jobs (first_place jobs) 0 desk.start desk.opened) desk.run

-- the machine of a desk is one for its request
pub desk_request : (q : Request) (jobs : List Job) (f : Machine) (log : List Event) → IsDesk q jobs f log → f.request ≡ q
desk_request q jobs f log desk = (desk_held q jobs f log desk).request
