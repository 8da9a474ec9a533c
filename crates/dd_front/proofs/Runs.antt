-- What is held all through a run.
use Rattle.std.proofs.Common.{ℕ, List, [], ◌∷◌, sym, subst}
use Rattle.dd_model.specs.Symbol.{Symbol}
use Rattle.dd_model.specs.declared.requests.Request.{Request}
use Rattle.dd_model.specs.declared.jobs.Job.{Job}
use Rattle.dd_model.specs.declared.jobs.Position.{Position}
use Rattle.dd_front.specs.declared.event.Event.{Event}
use Rattle.dd_front.specs.Machine.{Machine, IsOpened}
use Rattle.dd_front.specs.Step.{IsRun, out_after}
use Rattle.dd_front.specs.Covered.{IsCovered}
use Rattle.dd_front.specs.Held.{IsHeld}
use Rattle.dd_front.proofs.Holding.{held_covered, held_first}
use Rattle.dd_front.proofs.Events.{held_next}

pub run_held : (q : Request) (jobs : List Job) (at : Position) (f g : Machine) (out last : List Symbol) (es : List Event) → IsHeld q jobs at f out → IsRun f out es g last → IsHeld q jobs at g last
run_held q jobs at f g out last [] held run = subst (λ h. IsHeld q jobs at h last) (sym run.0) (subst (IsHeld q jobs at f) (sym run.1) held)
run_held q jobs at f g out last (e ∷ es) held (h, emitted, next, rest) =
    run_held q jobs at h g (out_after f e out emitted) last es (held_next q jobs at f h out emitted e held next) rest

pub run_covers : (q : Request) (jobs : List Job) (at : Position) (k : ℕ) (f g : Machine) (es : List Event) (out : List Symbol) → IsOpened q jobs at k f → IsRun f [] es g out → IsCovered q jobs at g out
run_covers q jobs at k f g es out opened run = held_covered q jobs at g out (run_held q jobs at f g [] out es (held_first q jobs at k f opened) run)
