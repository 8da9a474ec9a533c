use Rattle.std.proofs.Common.{subst}
use Rattle.dd_check.specs.ChainStarts.{next_start}
use Rattle.dd_pages_and_checkpoints.specs.Runs.{start_of}
use Rattle.dd_check.specs.Calls.{Resume}
use Rattle.dd_suite_tasks.specs.Outcomes.{IsRunOutcome}
use Rattle.dd_suite_tasks.specs.Outside.{before_of, after_of}
use Rattle.dd_suite.proofs.CheckValues.{check_valid, check_counts, check_position, saved_check}
use Rattle.dd_suite.proofs.RunCalls.{resumed_outcome, same_run, ends_earlier}
use Rattle.dd_suite.proofs.resume.resume.Goals as goal

pub next_run-run-requires-clause-run : goal.next_run-run-requires-clause-run
next_run-run-requires-clause-run g c =
    let holds = c.in-Ok.ensures.check.1 in
    let saved = saved_check c.in-Ok.saved.shard holds.bytes c.in-Ok.saved.check holds.accepted in
    (check_counts saved.0 c.in-Ok.saved.check saved.1).run

pub next_run-run-requires-clause-lines : goal.next_run-run-requires-clause-lines
next_run-run-requires-clause-lines g c =
    let holds = c.in-Ok.ensures.check.1 in
    let saved = saved_check c.in-Ok.saved.shard holds.bytes c.in-Ok.saved.check holds.accepted in
    (check_counts saved.0 c.in-Ok.saved.check saved.1).lines.1

pub next_run-run-requires-clause-valid : goal.next_run-run-requires-clause-valid
next_run-run-requires-clause-valid g c =
    let holds = c.in-Ok.ensures.check.1 in
    let saved = saved_check c.in-Ok.saved.shard holds.bytes c.in-Ok.saved.check holds.accepted in
    check_valid saved.0 c.in-Ok.saved.check saved.1

pub next_run-run-requires-clause-position : goal.next_run-run-requires-clause-position
next_run-run-requires-clause-position g c =
    let holds = c.in-Ok.ensures.check.1 in
    let saved = saved_check c.in-Ok.saved.shard holds.bytes c.in-Ok.saved.check holds.accepted in
    check_position saved.0 c.in-Ok.saved.check saved.1

pub returns-clause-outcome : goal.returns-clause-outcome
returns-clause-outcome g c =
    let before = before_of g.S.Store g.O.Sink c.args.store.now c.args.out.now in
    let after = after_of g.S.Store g.O.Sink c.keep_run.new.store c.keep_run.new.out in
    let saved = c.in-Ok.saved in
    let holds = c.in-Ok.ensures.check in
    let run = c.next_run-run.result in
    let ends = ends_earlier (start_of run) c.args.name.now run.pace.round run.pause before after (g.S.Store.tells c.fetch_check.new.store) (g.S.Store.held c.fetch_check.new.store) (g.S.Store.faults c.fetch_check.new.store)
    c.fetch_check.ensures.same c.fetch_check.ensures.count c.keep_run.result c.keep_run.ensures.run in
    subst (λ kind. IsRunOutcome (record { task = Resume kind c.args.name.now; round = c.args.pace.round; pause = c.args.pause }) c.keep_run.result before after) holds.0
    (resumed_outcome saved.shard saved.check c.args.name.now c.args.pace.round c.args.pause c.keep_run.result before after holds.1
    (same_run run (next_start saved.shard saved.check) c.args.name.now c.args.pace c.args.pause c.keep_run.result before after c.next_run-run.ensures.start c.next_run-run.ensures.pace c.next_run-run.ensures.pause ends))
