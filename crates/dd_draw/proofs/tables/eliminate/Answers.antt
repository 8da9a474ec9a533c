use Rattle.std.proofs.Common.{◌≢◌, suc, ◌+◌, pos, length, sym, subst, arith}
use Rattle.dd_draw.proofs.StepLemmas.{midway_skip, midway_all}
use Rattle.dd_draw.proofs.RowLemmas.{read_number}
use Rattle.dd_draw.proofs.TableLemmas.{pivot_number, AreWideRemainders}
use Rattle.dd_draw.proofs.TableReading.{handed_on, column_inside, few_numbers, rows_count, pivot_row, own_stop, own_done, left_row, done_row, other_stop, other_done}
use Rattle.dd_draw.specs.Limit.{IsWide}
use Rattle.dd_draw.specs.Rows.{AreMade, IsRowFault, quotients, remainders}
use Rattle.dd_draw.specs.Tables.{IsMidway, IsPlaceFault, lists}
use Rattle.dd_draw.proofs.tables.eliminate.Goals as goal
use Rattle.dd_draw.proofs.tables.eliminate.Goals.{then-other-place+in_ok-rest, else-other-place}

pub bounds-pivot_row-place : goal.bounds-pivot_row-place
bounds-pivot_row-place c =
    column_inside c.args.small.now.net.now c.args.place (suc c.args.place) c.args.place c.as_slice-pivot_row.result.now (let p = c.requires.place in omega arith)
    (pivot_row c.args.small.now.net.now c.args.place c.args.rows.now.items c.index.result.now c.as_slice-pivot_row.result.now c.requires.place c.requires.table
    c.index.ensures c.as_slice-pivot_row.ensures.value)

pub divided-requires-clause-few : goal.divided-requires-clause-few
divided-requires-clause-few c =
    few_numbers c.args.small.now.net.now c.args.place (suc c.args.place) c.as_slice-pivot_row.result.now c.args.small.now.few
    (pivot_row c.args.small.now.net.now c.args.place c.args.rows.now.items c.index.result.now c.as_slice-pivot_row.result.now c.requires.place c.requires.table
    c.index.ensures c.as_slice-pivot_row.ensures.value)

pub divided-requires-clause-nonzero : goal.divided-requires-clause-nonzero
divided-requires-clause-nonzero c =
    let row = c.as_slice-pivot_row.result.now in
    let is = pivot_row c.args.small.now.net.now c.args.place c.args.rows.now.items c.index.result.now row c.requires.place c.requires.table c.index.ensures c.as_slice-pivot_row.ensures.value in
    let read = read_number row c.args.place c.index-pivot_row-place.result (column_inside c.args.small.now.net.now c.args.place (suc c.args.place) c.args.place row (let p = c.requires.place in omega arith) is) c.index-pivot_row-place.is in
    subst (λ x. x.num ≢ pos 0) (sym read) (
    pivot_number c.args.small.now.net.now c.args.place c.as_slice-pivot_row.result.now c.args.small.now.net.now.joined c.requires.place
    (pivot_row c.args.small.now.net.now c.args.place c.args.rows.now.items c.index.result.now c.as_slice-pivot_row.result.now c.requires.place c.requires.table
    c.index.ensures c.as_slice-pivot_row.ensures.value))

pub returns-in_err-top-clause-fault : goal.returns-in_err-top-clause-fault
returns-in_err-top-clause-fault c =
    let row = c.as_slice-pivot_row.result.now in
    let is = pivot_row c.args.small.now.net.now c.args.place c.args.rows.now.items c.index.result.now row c.requires.place c.requires.table c.index.ensures c.as_slice-pivot_row.ensures.value in
    let read = read_number row c.args.place c.index-pivot_row-place.result (column_inside c.args.small.now.net.now c.args.place (suc c.args.place) c.args.place row (let p = c.requires.place in omega arith) is) c.index-pivot_row-place.is in
    handed_on c.from_residual.result (IsPlaceFault c.args.small.now.net.now) c.in_err-top.field-0.0 c.from_residual.ensures.1
    (own_stop c.args.small.now.net.now c.args.place c.args.rows.now.items c.index.result.now c.as_slice-pivot_row.result.now c.in_err-top.field-0.0 c.args.small.now.net.now.joined
    c.args.small.now.few c.requires.place c.requires.table c.index.ensures c.as_slice-pivot_row.ensures.value (subst (λ x. IsRowFault (c.args.place + 1) (c.args.place + 1) (length row) (λ j. IsWide (quotients row x j)) c.in_err-top.field-0.0) read c.in_err-top.ensures.fault))

pub loop-other-init : goal.loop-other-init
loop-other-init c =
    let row = c.as_slice-pivot_row.result.now in
    let is = pivot_row c.args.small.now.net.now c.args.place c.args.rows.now.items c.index.result.now row c.requires.place c.requires.table c.index.ensures c.as_slice-pivot_row.ensures.value in
    let read = read_number row c.args.place c.index-pivot_row-place.result (column_inside c.args.small.now.net.now c.args.place (suc c.args.place) c.args.place row (let p = c.requires.place in omega arith) is) c.index-pivot_row-place.is in
    own_done c.args.small.now.net.now c.args.place c.args.rows.now.items c.index.result.now c.in_ok-top.top c.as_slice-pivot_row.result.now c.args.small.now.net.now.joined
    c.requires.place c.requires.table c.index.ensures c.as_slice-pivot_row.ensures.value
    (subst (λ x. AreMade (quotients row x) (λ j. IsWide (quotients row x j)) (length row) c.in_ok-top.top.items) read c.in_ok-top.ensures.made)

pub bounds-row-place : goal.bounds-row-place
bounds-row-place c =
    column_inside c.args.small.now.net.now c.args.place (suc c.loop-other.other) c.args.place c.as_slice-row.result.now (let p = c.requires.place in omega arith)
    (left_row c.args.small.now.net.now c.args.place c.loop-other.other c.loop-other.rows.items c.index-then-other-place-2.result.now c.as_slice-row.result.now
    (omega (arith, c.loop-other-test.true)) c.if-other-place.true c.loop-other.invariant c.index-then-other-place-2.ensures c.as_slice-row.ensures.value)

pub remaining-requires-clause-few : goal.remaining-requires-clause-few
remaining-requires-clause-few c =
    few_numbers c.args.small.now.net.now c.args.place (suc c.loop-other.other) c.as_slice-row.result.now c.args.small.now.few
    (left_row c.args.small.now.net.now c.args.place c.loop-other.other c.loop-other.rows.items c.index-then-other-place-2.result.now c.as_slice-row.result.now
    (omega (arith, c.loop-other-test.true)) c.if-other-place.true c.loop-other.invariant c.index-then-other-place-2.ensures c.as_slice-row.ensures.value)

pub remaining-requires-clause-as_long : goal.remaining-requires-clause-as_long
remaining-requires-clause-as_long c =
    let is = left_row c.args.small.now.net.now c.args.place c.loop-other.other c.loop-other.rows.items c.index-then-other-place-2.result.now c.as_slice-row.result.now
    (omega (arith, c.loop-other-test.true)) c.if-other-place.true c.loop-other.invariant c.index-then-other-place-2.ensures c.as_slice-row.ensures.value in
    let above = done_row c.args.small.now.net.now c.args.place c.loop-other.other c.loop-other.rows.items c.index-then-other-place.result.now c.as_slice-top.result.now c.requires.place
    c.loop-other.invariant c.index-then-other-place.ensures c.as_slice-top.ensures.value in
    omega (arith, is.many, above.many)

pub returns-in_err-rest-clause-fault : goal.returns-in_err-rest-clause-fault
returns-in_err-rest-clause-fault c =
    let row = c.as_slice-row.result.now in
    let top = c.as_slice-top.result.now in
    let is = left_row c.args.small.now.net.now c.args.place c.loop-other.other c.loop-other.rows.items c.index-then-other-place-2.result.now row
    (omega (arith, c.loop-other-test.true)) c.if-other-place.true c.loop-other.invariant c.index-then-other-place-2.ensures c.as_slice-row.ensures.value in
    let read = read_number row c.args.place c.index-row-place.result (column_inside c.args.small.now.net.now c.args.place (suc c.loop-other.other) c.args.place row (let p = c.requires.place in omega arith) is) c.index-row-place.is in
    handed_on c.from_residual-in_err-rest.result (IsPlaceFault c.args.small.now.net.now) c.in_err-rest.field-0.0 c.from_residual-in_err-rest.ensures.1
    (other_stop c.args.small.now.net.now c.args.place c.loop-other.other c.loop-other.rows.items c.index-then-other-place-2.result.now c.index-then-other-place.result.now
    c.as_slice-row.result.now c.as_slice-top.result.now c.in_err-rest.field-0.0 c.args.small.now.net.now.joined c.args.small.now.few c.requires.place
    (omega (arith, c.loop-other-test.true)) c.if-other-place.true c.loop-other.invariant c.index-then-other-place-2.ensures c.as_slice-row.ensures.value
    c.index-then-other-place.ensures c.as_slice-top.ensures.value (subst (λ x. IsRowFault (c.args.place + 1) (c.loop-other.other + 1) (length row) (AreWideRemainders row x top) c.in_err-rest.field-0.0) read c.in_err-rest.ensures.fault))

pub loop-other-preserved : goal.loop-other-preserved
loop-other-preserved c =
    elim c.if-other-place.branch [
      | then-other-place+in_ok-rest w ↦
          let row = w.as_slice-row.result.now in
          let top = w.as_slice-top.result.now in
          let is = left_row c.args.small.now.net.now c.args.place c.loop-other.other c.loop-other.rows.items w.index-then-other-place-2.result.now row
          (omega (arith, c.loop-other-test.true)) w.if-other-place.true c.loop-other.invariant w.index-then-other-place-2.ensures w.as_slice-row.ensures.value in
          let read = read_number row c.args.place w.index-row-place.result (column_inside c.args.small.now.net.now c.args.place (suc c.loop-other.other) c.args.place row (let p = c.requires.place in omega arith) is) w.index-row-place.is in
          subst (λ rows. IsMidway c.args.small.now.net.now c.args.place (c.loop-other.other + 1) (lists rows.items)) (sym w.rows-is)
          (other_done c.args.small.now.net.now c.args.place c.loop-other.other c.loop-other.rows.items w.index-then-other-place-2.result.now w.index-then-other-place.result.now
          w.in_ok-rest.rest w.as_slice-row.result.now w.as_slice-top.result.now c.args.small.now.net.now.joined c.requires.place (omega (arith, c.loop-other-test.true))
          w.if-other-place.true c.loop-other.invariant w.index-then-other-place-2.ensures w.as_slice-row.ensures.value w.index-then-other-place.ensures
          w.as_slice-top.ensures.value
          (subst (λ x. AreMade (remainders row x top) (AreWideRemainders row x top) (length row) w.in_ok-rest.rest.items) read w.in_ok-rest.ensures.made))
      | else-other-place w ↦
          subst (λ rows. IsMidway c.args.small.now.net.now c.args.place (c.loop-other.other + 1) (lists rows.items)) (sym w.rows-is)
          (midway_skip c.args.small.now.net.now c.args.place c.loop-other.other (lists c.loop-other.rows.items) w.if-other-place.false c.loop-other.invariant)
    ]

pub returns-clause-table : goal.returns-clause-table
returns-clause-table c =
    midway_all c.args.small.now.net.now c.args.place c.loop-other.other (lists c.loop-other.rows.items)
    (let m = c.loop-other.invariant.many in omega (arith, c.loop-other-test.false)) c.loop-other.invariant

pub index-requires : goal.index-requires
index-requires c =
    omega (arith, rows_count c.args.rows.now.items c.args.small.now.net.now.vertices c.args.place c.requires.table.many c.requires.place, c.args.rows.now.ok.0)

pub index_mut-requires : goal.index_mut-requires
index_mut-requires c =
    omega (arith, rows_count c.args.rows.now.items c.args.small.now.net.now.vertices c.args.place c.requires.table.many c.requires.place, c.args.rows.now.ok.0)

pub index-requires-then-other-place : goal.index-requires-then-other-place
index-requires-then-other-place c =
    omega (arith, rows_count c.loop-other.rows.items c.args.small.now.net.now.vertices c.args.place c.loop-other.invariant.many c.requires.place, c.loop-other.rows.ok.0)

pub index-requires-then-other-place-2 : goal.index-requires-then-other-place-2
index-requires-then-other-place-2 c =
    omega (arith, rows_count c.loop-other.rows.items c.args.small.now.net.now.vertices c.loop-other.other c.loop-other.invariant.many (omega (arith, c.loop-other-test.true)), c.loop-other.rows.ok.0)

pub index_mut-requires-then-other-place : goal.index_mut-requires-then-other-place
index_mut-requires-then-other-place c =
    omega (arith, rows_count c.loop-other.rows.items c.args.small.now.net.now.vertices c.loop-other.other c.loop-other.invariant.many (omega (arith, c.loop-other-test.true)), c.loop-other.rows.ok.0)
