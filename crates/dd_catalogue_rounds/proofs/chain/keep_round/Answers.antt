use Rattle.std.proofs.Common.{false, Ok, subst, ◌∙◌}
use Rattle.dd_pages_and_checkpoints.specs.Runs.{start_of}
use Rattle.dd_catalogue_rounds.specs.Kept.{IsMid}
use Rattle.dd_catalogue_rounds.specs.Steps.{Leaves}
use Rattle.dd_catalogue_rounds.proofs.KeptRuns.{untold}
use Rattle.dd_catalogue_rounds.proofs.chain.keep_round.Goals as goal

pub write_kept-requires-in-None-clause-mid : goal.write_kept-requires-in-None-clause-mid
write_kept-requires-in-None-clause-mid g c κs within =
    let some = c.requires.mid in
    let w = some.way in
    let held = g.S.Store.held c.args.store.now c.args.name.now in
    let now = g.O.Sink.held c.args.out.now in
    let mid = untold w some.tells c.args.output.now.is_kept some.old some.before some.held now c.args.output.now.page c.args.output.now.front some.mid held in
    let start = subst (λ here. IsMid w false here some.old some.before held now c.args.output.now.page c.args.output.now.front) c.if-output.false mid in
    let leaves = c.in_ok-step.ensures.leaves w false some.before some.old now some.start_is (λ never. cc) start in
    let here = rw c.in-None.is at leaves in
    record { way = here.way; start_is = here.start_is ∙ some.start_is; work = some.work; tells = false; old = some.old; before = some.before; held = g.S.Store.held c.keep_member.new.store c.args.name.now; mid = here.mid }

pub returns-in-Some-clause-leaves : goal.returns-in-Some-clause-leaves
returns-in-Some-clause-leaves g c w tells before start same still mid work =
    let now = g.O.Sink.held c.args.out.now in
    let held = g.S.Store.held c.args.store.now c.args.name.now in
    let there = subst (λ here. IsMid w tells here start before held now c.args.output.now.page c.args.output.now.front) c.if-output.false mid in
    let leaves = c.in_ok-step.ensures.leaves w tells before start now same still there in
    let got = rw c.in-Some.is at leaves in
    subst (λ x. Leaves x w.most c.args.run.now.pause tells start before (g.S.Store.held c.keep_member.new.store c.args.name.now) now c.args.output.now.page c.keep_member.new.front (Ok c.in-Some.step)) same got

pub returns-in-None-clause-leaves : goal.returns-in-None-clause-leaves
returns-in-None-clause-leaves g c w tells before start same still mid work =
    let now = g.O.Sink.held c.args.out.now in
    let held = g.S.Store.held c.args.store.now c.args.name.now in
    let there = subst (λ here. IsMid w tells here start before held now c.args.output.now.page c.args.output.now.front) c.if-output.false mid in
    let leaves = c.in_ok-step.ensures.leaves w tells before start now same still there in
    let here = rw c.in-None.is at leaves in
    let after = c.write_kept-in-None.ensures.leaves here.way tells before start (here.start_is ∙ same) (λ told. (c.in_ok-step.ensures.others (still told)).0) here.mid work in
    subst (λ n. Leaves (start_of c.args.run.now) n c.args.run.now.pause tells start before (g.S.Store.held c.write_kept-in-None.new.store c.args.name.now) (g.O.Sink.held c.write_kept-in-None.new.out) c.write_kept-in-None.new.output.page c.write_kept-in-None.new.output.front c.write_kept-in-None.result)
    here.most_is after

pub returns-then-output-clause-leaves : goal.returns-then-output-clause-leaves
returns-then-output-clause-leaves g c w tells before start same still mid work =
    let now = g.O.Sink.held c.args.out.now in
    let held = g.S.Store.held c.args.store.now c.args.name.now in
    let there = subst (λ here. IsMid w tells here start before held now c.args.output.now.page c.args.output.now.front) c.if-output.true mid in
    c.write_kept.ensures.leaves w tells before start same still there work
