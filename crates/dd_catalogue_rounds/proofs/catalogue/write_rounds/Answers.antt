use Rattle.std.proofs.Common.{◌≤◌, ◌<◌, ◌++◌, List, [], refl, sym, ◌∙◌, subst, arith, rules, IfOk}
use Rattle.dd_model.specs.declared.jobs.Job.{Job}
use Rattle.dd_model.specs.declared.jobs.Position.TheVariants.{End}
use Rattle.dd_model.specs.Request.{IsValid}
use Rattle.dd_front.specs.Machine.{StandsAt}
use Rattle.dd_front.specs.Rounds.{open_jobs}
use Rattle.dd_pages_and_checkpoints.proofs.RunFacts.{run_valid}
use Rattle.dd_catalogue_rounds.specs.Splits.{IsGroupDone}
use Rattle.dd_catalogue_rounds.specs.Ways.{Way}
use Rattle.dd_pages_and_checkpoints.specs.Runs.{start_of, Finishes}
use Rattle.dd_catalogue_rounds.proofs.Outcomes.{went_out, lines_between, finish_whole, finish_full, full_lines, limit_above, limit_most}
use Rattle.dd_catalogue_rounds.proofs.PlainRuns.{plain_way, plain_begun, plain_here, plain_group, lighter_group}
use Rattle.dd_catalogue_rounds.proofs.Weights.{weighed}
use Rattle.dd_catalogue_rounds.proofs.WaySteps.{appends_nothing, way_ready, begun_open, way_jobs, way_part, way_written, way_flushed, full_flushed, full_written, full_part}
use Rattle.dd_catalogue_rounds.proofs.catalogue.write_rounds.Goals as goal

pub loop-more-init : goal.loop-more-init
loop-more-init g c =
    let s = start_of c.args.run.now in
    let begun = c.requires.begun in
    let above = limit_above c.args.run.now.lines c.args.run.now.pause c.limit-limit.result c.limit-limit.ensures c.args.run.now.few_lines in (
      (begun.jobs, plain_begun s (g.O.Sink.held c.args.out.now) c.args.page.now c.args.front.now begun c.requires.empty c.requires.count c.requires.bytes),
      begun_open s c.args.front.now begun,
      omega (arith, above, c.requires.count),
      omega arith,
      λ sure. (sure, refl),
      refl,
    )

pub do_long_round-requires-clause-ready : goal.do_long_round-requires-clause-ready
do_long_round-requires-clause-ready g c κs within =
    let at = c.loop-more.invariant.0 in
    let f = c.loop-more.front in
    let w : Way = plain_way (start_of c.args.run.now) at.0 (g.O.Sink.held c.args.out.now) f in
    way_ready (g.F.Finder.request c.loop-more.finder) w (g.O.Sink.held c.loop-more.out) c.loop-more.page f (sym (c.loop-more.invariant.5 ∙ c.requires.request)) at.1 c.loop-more.invariant.1
    (subst IsValid (sym (c.loop-more.invariant.5 ∙ c.requires.request)) (run_valid c.args.run.now))

pub returns-in_err-flush-clause-output : goal.returns-in_err-flush-clause-output
returns-in_err-flush-clause-output g c =
    let at = c.loop-more.invariant.0 in
    let old = g.O.Sink.held c.args.out.now in
    let now = g.O.Sink.held c.flush.new.out in
    let w : Way = plain_way (start_of c.args.run.now) at.0 old c.loop-more.front in
    let part = way_written w (g.O.Sink.held c.loop-more.out) now c.loop-more.page c.loop-more.front c.flush.ensures.front at.1 in
    let went = went_out w old now part (appends_nothing old) in
    let output = [] ++ part.out.written in
    let none : IfOk c.from_residual.result (Finishes w.start c.args.run.now.pause output) = search rules in
    (output, record { appended = went.appended; front = went.front; finishes = none })

pub returns-then-not-more-clause-output : goal.returns-then-not-more-clause-output
returns-then-not-more-clause-output g c =
    let at = c.loop-more.invariant.0 in
    let old = g.O.Sink.held c.args.out.now in
    let now = g.O.Sink.held c.flush.new.out in
    let f = c.loop-more.front in
    let w : Way = plain_way (start_of c.args.run.now) at.0 old c.loop-more.front in
    let way = way_flushed w (g.O.Sink.held c.loop-more.out) now c.loop-more.page c.flush.new.self f c.in_ok-flush.ensures.kept at.1 in
    let went = went_out w old now (way_part w now c.flush.new.self f way) (appends_nothing old) in
    let output = [] ++ way.lines.written in
    let none = rw c.if-not-more.true at c.in-Ok.ensures.round in
    let stands : StandsAt f.from f.entries End = subst (λ es. StandsAt f.from es End) (sym none) refl in
    let lines = lines_between w now c.flush.new.self f way.members End way.emitted.work way.emitted.covers way.emitted.held way.lines c.in_ok-flush.ensures.empty stands in
    let low : c.flush.new.self.count ≤ c.limit-limit.result.last = omega (arith, c.flush.ensures.count, c.loop-more.invariant.2) in
    (output, record { appended = went.appended; front = went.front; finishes = finish_whole w.start c.args.run.now.pause c.limit-limit.result c.flush.new.self.count output c.limit-limit.ensures lines low })

pub write_done-requires-clause-last : goal.write_done-requires-clause-last
write_done-requires-clause-last g c κs within = limit_most c.args.run.now.lines c.args.run.now.pause c.limit-limit.result c.limit-limit.ensures

pub write_done-requires-clause-any : goal.write_done-requires-clause-any
write_done-requires-clause-any g c κs within =
    let at = c.loop-more.invariant.0 in
    let f = c.loop-more.front in
    let w : Way = plain_way (start_of c.args.run.now) at.0 (g.O.Sink.held c.args.out.now) c.loop-more.front in
    let found = rw c.if-not-more.false at c.in-Ok.ensures.round in
    let most = found.0 in
    let round = subst (λ q. IsGroupDone q most c.loop-more.front c.do_long_round.new.front) (c.loop-more.invariant.5 ∙ c.requires.request) found.1 in
    let next = plain_group w.start at.0 (g.O.Sink.held c.args.out.now) (g.O.Sink.held c.loop-more.out) c.loop-more.page most f c.do_long_round.new.front round at.1 c.loop-more.invariant.1 in
    record { any = plain_way w.start at.0 (g.O.Sink.held c.args.out.now) round.ready; way = next }

pub returns-in_err-write_done-clause-output : goal.returns-in_err-write_done-clause-output
returns-in_err-write_done-clause-output g c =
    let at = c.loop-more.invariant.0 in
    let f = c.loop-more.front in
    let old = g.O.Sink.held c.args.out.now in
    let now = g.O.Sink.held c.write_done.new.out in
    let w : Way = plain_way (start_of c.args.run.now) at.0 old c.loop-more.front in
    let found = rw c.if-not-more.false at c.in-Ok.ensures.round in
    let most = found.0 in
    let round = subst (λ q. IsGroupDone q most c.loop-more.front c.do_long_round.new.front) (c.loop-more.invariant.5 ∙ c.requires.request) found.1 in
    let next = plain_group w.start at.0 old (g.O.Sink.held c.loop-more.out) c.loop-more.page most f c.do_long_round.new.front round at.1 c.loop-more.invariant.1 in
    let v : Way = plain_way w.start at.0 old round.ready in
    let part = c.write_done.ensures.part v next in
    let went = went_out v old now part (appends_nothing old) in
    let output = [] ++ part.out.written in
    let none : IfOk c.from_residual-in_err-write_done.result (Finishes w.start c.args.run.now.pause output) = search rules in
    (output, record { appended = went.appended; front = went.front; finishes = none })

pub loop-more-smaller : goal.loop-more-smaller
loop-more-smaller g c =
    let found = rw c.if-not-more.false at c.in-Ok.ensures.round in
    let most = found.0 in
    let round = subst (λ q. IsGroupDone q most c.loop-more.front c.do_long_round.new.front) (c.loop-more.invariant.5 ∙ c.requires.request) found.1 in
    let goes = rw c.if-not-branch.false at c.in_ok-write_done.ensures.all in
    let at = c.loop-more.invariant.0 in
    let f = c.loop-more.front in
    let w : Way = plain_way (start_of c.args.run.now) at.0 (g.O.Sink.held c.args.out.now) f in
    let jobs = way_jobs w (g.O.Sink.held c.loop-more.out) c.loop-more.page f at.1 in
    subst (λ (js : List Job). weighed js < weighed (open_jobs f.entries)) (sym goes.waiting)
    (lighter_group w.start.portion.request most f c.do_long_round.new.front (run_valid c.args.run.now) jobs c.loop-more.invariant.1 round)

pub loop-more-preserved : goal.loop-more-preserved
loop-more-preserved g c =
    let at = c.loop-more.invariant.0 in
    let f = c.loop-more.front in
    let old = g.O.Sink.held c.args.out.now in
    let w : Way = plain_way (start_of c.args.run.now) at.0 old c.loop-more.front in
    let found = rw c.if-not-more.false at c.in-Ok.ensures.round in
    let most = found.0 in
    let round = subst (λ q. IsGroupDone q most c.loop-more.front c.do_long_round.new.front) (c.loop-more.invariant.5 ∙ c.requires.request) found.1 in
    let next = plain_group w.start at.0 old (g.O.Sink.held c.loop-more.out) c.loop-more.page most f c.do_long_round.new.front round at.1 c.loop-more.invariant.1 in
    let v : Way = plain_way w.start at.0 old round.ready in
    let goes = rw c.if-not-branch.false at c.in_ok-write_done.ensures.all in
    let opens = rw c.if-not-branch.false at c.in_ok-write_done.ensures.opened in
    let room = rw c.if-not-branch.false at c.in_ok-write_done.ensures.room in
    let ih = c.loop-more.invariant in (
      (at.0, plain_here v (g.O.Sink.held c.write_done.new.out) c.write_done.new.page c.write_done.new.front refl (goes.way v next) opens),
      opens,
      room,
      omega (arith, c.write_done.ensures.cause.later, ih.3),
      λ s. let sure = ih.4 s in let later = c.write_done.ensures.sure sure.0 in (later.sure, later.count ∙ sure.1),
      c.do_long_round.ensures.request ∙ ih.5,
    )

pub returns-clause-output : goal.returns-clause-output
returns-clause-output g c =
    let at = c.loop-more.invariant.0 in
    let old = g.O.Sink.held c.args.out.now in
    let now = g.O.Sink.held c.loop-more.out in
    let w : Way = plain_way (start_of c.args.run.now) at.0 old c.loop-more.front in
    let went = went_out w old now (way_part w now c.loop-more.page c.loop-more.front at.1) (appends_nothing old) in
    ([] ++ at.1.lines.written, record { appended = went.appended; front = went.front; finishes = tt })

pub returns-in_err-flush-2-clause-output : goal.returns-in_err-flush-2-clause-output
returns-in_err-flush-2-clause-output g c =
    let at = c.loop-more.invariant.0 in
    let f = c.loop-more.front in
    let old = g.O.Sink.held c.args.out.now in
    let mid = g.O.Sink.held c.write_done.new.out in
    let now = g.O.Sink.held c.flush-then-not-branch.new.out in
    let page = c.write_done.new.page in
    let h = c.write_done.new.front in
    let last = c.limit-limit.result.last in
    let w : Way = plain_way (start_of c.args.run.now) at.0 old c.loop-more.front in
    let found = rw c.if-not-more.false at c.in-Ok.ensures.round in
    let most = found.0 in
    let round = subst (λ q. IsGroupDone q most c.loop-more.front c.do_long_round.new.front) (c.loop-more.invariant.5 ∙ c.requires.request) found.1 in
    let next = plain_group w.start at.0 old (g.O.Sink.held c.loop-more.out) c.loop-more.page most f c.do_long_round.new.front round at.1 c.loop-more.invariant.1 in
    let v : Way = plain_way w.start at.0 old round.ready in
    let fills = rw c.if-not-branch.true at c.in_ok-write_done.ensures.full in
    let full = fills v next in
    let part = full_written v mid now page last h c.flush-then-not-branch.ensures.front full in
    let went = went_out v old now part (appends_nothing old) in
    let output = [] ++ part.out.written in
    let none : IfOk c.from_residual-in_err-flush-2.result (Finishes w.start c.args.run.now.pause output) = search rules in
    (output, record { appended = went.appended; front = went.front; finishes = none })

pub returns-then-not-branch-clause-output : goal.returns-then-not-branch-clause-output
returns-then-not-branch-clause-output g c =
    let at = c.loop-more.invariant.0 in
    let f = c.loop-more.front in
    let old = g.O.Sink.held c.args.out.now in
    let mid = g.O.Sink.held c.write_done.new.out in
    let now = g.O.Sink.held c.flush-then-not-branch.new.out in
    let page = c.write_done.new.page in
    let h = c.write_done.new.front in
    let last = c.limit-limit.result.last in
    let w : Way = plain_way (start_of c.args.run.now) at.0 old c.loop-more.front in
    let found = rw c.if-not-more.false at c.in-Ok.ensures.round in
    let most = found.0 in
    let round = subst (λ q. IsGroupDone q most c.loop-more.front c.do_long_round.new.front) (c.loop-more.invariant.5 ∙ c.requires.request) found.1 in
    let next = plain_group w.start at.0 old (g.O.Sink.held c.loop-more.out) c.loop-more.page most f c.do_long_round.new.front round at.1 c.loop-more.invariant.1 in
    let v : Way = plain_way w.start at.0 old round.ready in
    let fills = rw c.if-not-branch.true at c.in_ok-write_done.ensures.full in
    let full = fills v next in
    let flushed = full_flushed v mid now page c.flush-then-not-branch.new.self last h c.in_ok-flush-2.ensures.kept c.flush-then-not-branch.ensures.count full in
    let went = went_out v old now (full_part v now c.flush-then-not-branch.new.self last h flushed) (appends_nothing old) in
    let output = [] ++ flushed.lines.written in
    let lines = full_lines v now c.flush-then-not-branch.new.self last h flushed c.in_ok-flush-2.ensures.empty in
    let finishes = subst (Finishes w.start c.args.run.now.pause output) (sym c.finish.ensures) (finish_full w.start c.args.run.now.pause c.limit-limit.result output c.limit-limit.ensures lines) in
    (output, record { appended = went.appended; front = went.front; finishes = finishes })
