use Rattle.std.proofs.Common.{◌↔◌, IsTrue, sym, subst}
use Rattle.std.specs.Prelude.{IfOk}
use Rattle.dd_check.specs.Places.{IsPlace}
use Rattle.dd_check.proofs.ranges.is_place.Goals as goal

pub returns-in-At : goal.returns-in-At
returns-in-At c = subst (λ at. IfOk c.is_job_place.result (λ answer. IsTrue answer ↔ IsPlace c.args.q.now at)) (sym c.in-At.is) c.is_job_place.ensures
