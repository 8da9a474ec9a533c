use Rattle.std.proofs.Common.{◌≡◌, [], ◌∷◌, ◌∙◌, ap, subst, sym}
use Rattle.dd_front.specs.declared.event.Event.TheVariants.{Resume}
use Rattle.dd_front.specs.Machine.{IsOpened}
use Rattle.dd_board.specs.Desk.{IsDesk, AreJobsOf, first_place}
use Rattle.dd_model.specs.Position.{IsPosition}
use Rattle.dd_model.specs.Request.{IsValid}
use Rattle.dd_model.specs.declared.jobs.Position.{Position}
use Rattle.dd_board.proofs.Desks.{desk_first}
use Rattle.dd_board.proofs.JobsOf.{place_fits}
use Rattle.dd_board.proofs.Openings.{open_at_first}
use Rattle.dd_board.proofs.desk.Desk.open.Goals as goal

pub open-requires-clause-position : goal.open-requires-clause-position
open-requires-clause-position g c =
    subst IsPosition (sym c.in_ok-place.ensures) (place_fits c.args.request c.as_slice.result.now (subst (AreJobsOf c.args.request) (sym c.as_slice.ensures.value) c.requires.all))

pub invariant_of-result : goal.invariant_of-result
invariant_of-result g c =
    let q = g.N.Naming.request in
    let jobs = g.N.Naming.jobs in
    let at_first = subst (λ (place : Position). IsOpened c.args.request c.args.jobs.items place 0 c.in_ok-front.front) (c.in_ok-place.ensures ∙ ap first_place c.as_slice.ensures.value) c.in_ok-front.ensures in
    let by_jobs = subst (λ js. IsOpened c.args.request js (first_place js) 0 c.in_ok-front.front) c.requires.jobs at_first in
    let opened : IsOpened q jobs (first_place jobs) 0 c.in_ok-front.front = subst (λ r. IsOpened r jobs (first_place jobs) 0 c.in_ok-front.front) c.requires.request by_jobs in
    let log : c.in_ok-log.log.items ≡ Resume ∷ [] = c.in_ok-log.ensures.items in
    let all : AreJobsOf q jobs = subst (AreJobsOf q) c.requires.jobs (subst (λ r. AreJobsOf r c.args.jobs.items) c.requires.request c.requires.all) in
    subst (IsDesk q jobs c.step.new.self) (sym log) (desk_first q jobs c.in_ok-front.front c.step.new.self (subst IsValid c.requires.request c.requires.valid) all opened c.in_ok-step.ensures.step)

pub returns-clause-entries : goal.returns-clause-entries
returns-clause-entries g c =
    let at_first = subst (λ (place : Position). IsOpened c.args.request c.args.jobs.items place 0 c.in_ok-front.front) (c.in_ok-place.ensures ∙ ap first_place c.as_slice.ensures.value) c.in_ok-front.ensures in
    open_at_first c.args.request c.args.jobs.items c.in_ok-front.front c.step.new.self at_first c.in_ok-step.ensures.step
