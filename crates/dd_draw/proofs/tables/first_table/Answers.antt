use Rattle.std.proofs.Common.{arith}
use Rattle.dd_draw.proofs.StepLemmas.{begun_all}
use Rattle.dd_draw.proofs.TableReading.{handed_on, begun_row, first_stop}
use Rattle.dd_draw.specs.Tables.{IsPlaceFault, lists}
use Rattle.dd_draw.proofs.tables.first_table.Goals as goal

pub returns-in_err-first_row-clause-fault : goal.returns-in_err-first_row-clause-fault
returns-in_err-first_row-clause-fault c =
    handed_on c.from_residual.result (IsPlaceFault c.args.small.now.net.now) c.in_err-first_row.field-0.0 c.from_residual.ensures.1
    (first_stop c.args.small.now.net.now c.loop-place.place c.loop-place.rows.items c.in_err-first_row.field-0.0 c.args.small.now.net.now.joined c.args.small.now.few
    (omega (arith, c.loop-place-test.true)) c.loop-place.invariant c.in_err-first_row.ensures.fault)

pub loop-place-preserved : goal.loop-place-preserved
loop-place-preserved c =
    begun_row c.args.small.now.net.now c.loop-place.place c.loop-place.rows.items c.push.new.self.items c.in_ok-first_row.field-0 c.in_ok-push.ensures.items
    c.loop-place.invariant c.in_ok-first_row.ensures.made

pub returns-clause-table : goal.returns-clause-table
returns-clause-table c =
    begun_all c.args.small.now.net.now c.loop-place.place (lists c.loop-place.rows.items) c.args.small.now.net.now.joined
    (let some = c.args.small.now.net.now.joined.some in omega (arith, c.loop-place-test.false, c.loop-place.auto.place-end)) c.loop-place.invariant
