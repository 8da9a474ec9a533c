use Rattle.std.proofs.Common.{false, arith}
use Rattle.std.proofs.lemmas.Result.{err_from_is_err_and}
use Rattle.dd_pages_and_checkpoints.specs.Runs.{start_of}
use Rattle.dd_pages_and_checkpoints.specs.declared.fault.RunFault.TheVariants.{Memory}
use Rattle.dd_catalogue_rounds.proofs.KeptGroups.{head_saved, head_stopped, head_unsaved}
use Rattle.dd_catalogue_rounds.proofs.kept_round.keep_place.Goals as goal

pub returns-in_default-clause-leaves : goal.returns-in_default-clause-leaves
returns-in_default-clause-leaves g c most tells before start now still head =
    let held = g.S.Store.held c.args.store.now c.args.name.now in
    head_stopped (start_of c.args.run.now) most tells false start before held now c.args.page.now c.args.front.now head c.args.run.now.pause Memory

pub returns-in_err-save-clause-leaves : goal.returns-in_err-save-clause-leaves
returns-in_err-save-clause-leaves g c most tells before start now still head =
    let s = start_of c.args.run.now in
    let held = g.S.Store.held c.args.store.now c.args.name.now in
    let after = g.S.Store.held c.save.new.store c.args.name.now in
    let place = c.in-Ok.ensures c.if-is_place.true in
    let p = err_from_is_err_and c.from_residual.result c.from_residual.ensures.1 in
    rw p.1 (head_unsaved s most tells start before held now c.args.page.now c.args.front.now head place.0 place.1 place.2 after c.args.run.now.pause p.0 (λ told. c.in_err-save.ensures.saves (still told)))

pub returns-in_ok-save-clause-leaves : goal.returns-in_ok-save-clause-leaves
returns-in_ok-save-clause-leaves g c most tells before start now still head =
    let s = start_of c.args.run.now in
    let held = g.S.Store.held c.args.store.now c.args.name.now in
    let after = g.S.Store.held c.save.new.store c.args.name.now in
    let place = c.in-Ok.ensures c.if-is_place.true in
    rw c.if-is_place.true (head_saved s most tells start before held now c.args.page.now c.args.front.now head place.0 place.1 place.2 (omega (arith, c.if-page-ge-MOST_LINES.false)) after (λ told. c.in_ok-save.ensures.saves (still told)))

pub returns-else-is_place-clause-leaves : goal.returns-else-is_place-clause-leaves
returns-else-is_place-clause-leaves g c most tells before start now still head = rw c.if-is_place.false head
