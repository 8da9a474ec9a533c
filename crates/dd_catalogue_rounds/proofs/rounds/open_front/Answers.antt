use Rattle.std.proofs.Common.{ℕ, subst, sym}
use Rattle.dd_model.specs.Position.{IsPosition}
use Rattle.std.proofs.lemmas.Result.{IfOk-weaker}
use Rattle.dd_model.specs.declared.jobs.Position.{Position}
use Rattle.dd_front.specs.Machine.{IsOpened}
use Rattle.dd_pages_and_checkpoints.proofs.RunFacts.{run_valid, run_position}
use Rattle.dd_catalogue_rounds.proofs.rounds.open_front.Goals as goal

pub open-requires-clause-valid : goal.open-requires-clause-valid
open-requires-clause-valid c = run_valid c.args.run.now

pub open-requires-clause-position : goal.open-requires-clause-position
open-requires-clause-position c = subst IsPosition (sym c.in_ok-try_copy.ensures) (run_position c.args.run.now)

pub returns : goal.returns
returns c =
    let q = c.args.run.now.portion.request in
    let at = c.args.run.now.at in
    let jobs = c.args.jobs.items in
    IfOk-weaker c.open.result (IsOpened q jobs c.in_ok-try_copy.field-0 c.from.result) (IsOpened q jobs at c.args.run.now.lines)
    (λ front is. subst (λ (n : ℕ). IsOpened q jobs at n front) c.from.ensures (subst (λ (place : Position). IsOpened q jobs place c.from.result front) c.in_ok-try_copy.ensures is))
    c.open.ensures
