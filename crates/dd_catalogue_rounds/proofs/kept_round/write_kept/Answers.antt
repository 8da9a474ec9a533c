use Rattle.std.proofs.Common.{true, false, Err, Ok, ◌∙◌, refl, subst, arith}
use Rattle.std.proofs.lemmas.Result.{err_from_is_err_and}
use Rattle.dd_pages_and_checkpoints.specs.Names.{HasRun}
use Rattle.dd_pages_and_checkpoints.specs.Runs.{start_of}
use Rattle.dd_catalogue_rounds.specs.Steps.{Leaves}
use Rattle.dd_catalogue_rounds.proofs.KeptRuns.{other_fault, untold}
use Rattle.dd_catalogue_rounds.proofs.kept_round.write_kept.Goals as goal

pub loop-step-init : goal.loop-step-init
loop-step-init g c = record {
  goes = λ w tells before start same still mid work. record { way = w; start_is = refl; most_is = refl; mid = mid };
  some = c.requires.mid;
  waiting = refl;
  low = c.requires.room;
  store_faults = omega arith;
  store_sure = λ sure. (sure, refl);
  others = λ told. (told, λ other not. refl);
  sink_faults = omega arith;
  sink_sure = λ sure. (sure, refl);
}

pub returns-in_err-step-clause-leaves : goal.returns-in_err-step-clause-leaves
returns-in_err-step-clause-leaves g c w tells before start same still mid work =
    let i = c.loop-step.invariant in
    let here = i.goes w tells before start same still mid work in
    let s = start_of c.args.run.now in
    let pause = c.args.run.now.pause in
    let after = g.S.Store.held c.write_part.new.store c.args.name.now in
    let now = g.O.Sink.held c.write_part.new.out in
    let leaves = c.in_err-step.ensures.leaves here.way tells before start (here.start_is ∙ same) (λ told. (i.others (still told)).0) here.mid work in
    let fault = c.in_err-step.field-0.0 in
    let run = subst (λ n. HasRun s n pause start now tells before after (Err fault)) here.most_is (subst (λ x. HasRun x here.way.most pause start now tells before after (Err fault)) (here.start_is ∙ same) leaves) in
    let p = err_from_is_err_and c.from_residual.result c.from_residual.ensures.1 in
    rw p.1 (other_fault s w.most pause start now tells before after fault p.0 run)

pub returns-in-Some-clause-leaves : goal.returns-in-Some-clause-leaves
returns-in-Some-clause-leaves g c w tells before start same still mid work =
    let i = c.loop-step.invariant in
    let here = i.goes w tells before start same still mid work in
    let s = start_of c.args.run.now in
    let pause = c.args.run.now.pause in
    let after = g.S.Store.held c.write_part.new.store c.args.name.now in
    let now = g.O.Sink.held c.write_part.new.out in
    let leaves = c.in_ok-step.ensures.leaves here.way tells before start (here.start_is ∙ same) (λ told. (i.others (still told)).0) here.mid work in
    let got = rw c.in-Some.is at leaves in
    let page = c.write_part.new.output.page in
    let front = c.write_part.new.output.front in
    subst (λ n. Leaves s n pause tells start before after now page front (Ok c.in-Some.step)) here.most_is
    (subst (λ x. Leaves x here.way.most pause tells start before after now page front (Ok c.in-Some.step)) (here.start_is ∙ same) got)

pub loop-step-smaller : goal.loop-step-smaller
loop-step-smaller g c = let room = rw c.in-None.is at c.in_ok-step.ensures.room in omega (arith, room.0, room.1)

pub loop-step-preserved : goal.loop-step-preserved
loop-step-preserved g c =
    let i = c.loop-step.invariant in
    let room = rw c.in-None.is at c.in_ok-step.ensures.room in
    let waiting = rw c.in-None.is at c.in_ok-step.ensures.waiting in
    let some = i.some in
    let held = g.S.Store.held c.loop-step.store c.args.name.now in
    let now = g.O.Sink.held c.loop-step.out in
    let any = untold some.way some.tells true some.old some.before some.held now c.loop-step.output.page c.loop-step.output.front some.mid held in
    let next = rw c.in-None.is at (c.in_ok-step.ensures.leaves some.way false some.before some.old some.start_is (λ never. cc) any some.work) in
    record {
      goes = λ w tells before start same still mid work.
          let here = i.goes w tells before start same still mid work in
          let more = rw c.in-None.is at (c.in_ok-step.ensures.leaves here.way tells before start (here.start_is ∙ same) (λ told. (i.others (still told)).0) here.mid work) in
          record { way = more.way; start_is = more.start_is ∙ here.start_is; most_is = more.most_is ∙ here.most_is; mid = more.mid };
      some = record {
        way = next.way;
        start_is = next.start_is ∙ some.start_is;
        work = some.work;
        tells = false;
        old = some.old;
        before = some.before;
        held = g.S.Store.held c.write_part.new.store c.args.name.now;
        mid = next.mid;
      };
      waiting = waiting ∙ i.waiting;
      low = room.1;
      store_faults = omega (arith, c.write_part.ensures.store_cause.later, i.store_faults);
      store_sure = λ s. let sure = i.store_sure s in let later = c.write_part.ensures.store_sure sure.0 in (later.sure, later.count ∙ sure.1);
      others = λ told. let was = i.others told in let others = c.write_part.ensures.others was.0 in (others.0, λ other not. others.1 other not ∙ was.1 other not);
      sink_faults = omega (arith, c.write_part.ensures.sink_cause.later, i.sink_faults);
      sink_sure = λ s. let sure = i.sink_sure s in let later = c.write_part.ensures.sink_sure sure.0 in (later.sure, later.count ∙ sure.1);
    }
