use Rattle.std.proofs.Common.{sym, ◌∙◌}
use Rattle.dd_pages_and_checkpoints.specs.Runs.{start_of}
use Rattle.dd_suite.proofs.RunCalls.{ends_from}
use Rattle.dd_suite.proofs.RunEndings.{store_end, sink_end}
use Rattle.dd_suite.proofs.kept.keep_run.Goals as goal

pub returns-clause-run : goal.returns-clause-run
returns-clause-run g c =
    ends_from (start_of c.args.run.now) c.args.name.now c.args.run.now.pace.round c.args.run.now.pause c.of_run.result c.write_run-ended.result c.last_before_pause.result _ _ c.of_run.ensures c.last_before_pause.ensures
    c.write_run-ended.ensures.run (λ told. (c.write_run-ended.ensures.others told).1) c.write_run-ended.ensures.store_cause.failed c.write_run-ended.ensures.sink_cause.failed

pub returns-clause-store_sure : goal.returns-clause-store_sure
returns-clause-store_sure g c sure =
    let stays = c.write_run-ended.ensures.store_sure sure in
    (stays.count, λ e. stays.passes (store_end c.write_run-ended.result c.last_before_pause.result (sym c.of_run.ensures ∙ e)))

pub returns-clause-sink_sure : goal.returns-clause-sink_sure
returns-clause-sink_sure g c sure =
    let stays = c.write_run-ended.ensures.sink_sure sure in
    (stays.count, λ e. stays.passes (sink_end c.write_run-ended.result c.last_before_pause.result (sym c.of_run.ensures ∙ e)))
