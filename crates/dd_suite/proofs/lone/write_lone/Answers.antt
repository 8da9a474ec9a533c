use Rattle.std.proofs.Common.{sym, ap, ◌∙◌}
use Rattle.dd_check.specs.ChainStarts.{Start}
use Rattle.dd_suite_tasks.specs.Endings.{run_ending}
use Rattle.dd_suite.proofs.RunCalls.{lone_ends, lone_sink, lone_none}
use Rattle.dd_suite.proofs.lone.write_lone.Goals as goal

pub write_catalogue-ended-requires-clause-request : goal.write_catalogue-ended-requires-clause-request
write_catalogue-ended-requires-clause-request g c κs within = c.new-search.ensures ∙ sym (ap (λ (s : Start). s.portion.request) c.in-Ok.ensures.start)

pub returns-clause-ending : goal.returns-clause-ending
returns-clause-ending g c =
    lone_ends c.of_run.result c.args.portion.now c.in-Ok.run' (g.O.Sink.held c.args.out.now) (g.O.Sink.held c.write_catalogue-ended.new.out) (g.O.Sink.faults c.args.out.now) (g.O.Sink.faults c.write_catalogue-ended.new.out)
    c.write_catalogue-ended.result c.write_catalogue-ended.ensures.output.0 (c.of_run.ensures ∙ ap (λ r. run_ending r 0) c.as_run.ensures) c.in-Ok.ensures.start c.in-Ok.ensures.pause
    c.write_catalogue-ended.ensures.output.1 c.write_catalogue-ended.ensures.cause.failed

pub returns-clause-sure : goal.returns-clause-sure
returns-clause-sure g c sure =
    let stays = c.write_catalogue-ended.ensures.sure sure in
    (stays.count, λ e. stays.passes (lone_sink c.of_run.result c.write_catalogue-ended.result (c.of_run.ensures ∙ ap (λ r. run_ending r 0) c.as_run.ensures) e))

pub returns-in_default-clause-ending : goal.returns-in_default-clause-ending
returns-in_default-clause-ending g c = lone_none c.args.portion.now (g.O.Sink.held c.args.out.now) (g.O.Sink.faults c.args.out.now)
