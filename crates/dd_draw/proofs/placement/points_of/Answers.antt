use Rattle.std.proofs.Common.{◌+◌, ◌-◌, ◌∙◌, [], ◌∷◌, ◌++◌, arith}
use Rattle.dd_draw.proofs.Placed.{points_more}
use Rattle.dd_draw.proofs.RowLemmas.{read_number}
use Rattle.dd_draw.proofs.TableReading.{slice_row}
use Rattle.dd_draw.specs.Tables.{lists}
use Rattle.dd_draw.proofs.placement.points_of.Goals as goal

pub bounds-row-vertices : goal.bounds-row-vertices
bounds-row-vertices c =
    let row = slice_row c.args.rows.now (c.args.small.now.net.now.vertices + 1) c.loop-place.place c.index-rows-place.result c.as_slice-row.result.now c.requires
    c.loop-place-test.true c.index-rows-place.is c.as_slice-row.ensures.value in
    omega (arith, row.1)

pub bounds-row-vertices-in-loop-place : goal.bounds-row-vertices-in-loop-place
bounds-row-vertices-in-loop-place c =
    let row = slice_row c.args.rows.now (c.args.small.now.net.now.vertices + 1) c.loop-place.place c.index-rows-place.result c.as_slice-row.result.now c.requires
    c.loop-place-test.true c.index-rows-place.is c.as_slice-row.ensures.value in
    omega (arith, row.1)

pub loop-place-preserved : goal.loop-place-preserved
loop-place-preserved c =
    let row = slice_row c.args.rows.now (c.args.small.now.net.now.vertices + 1) c.loop-place.place c.index-rows-place.result c.as_slice-row.result.now c.requires
    c.loop-place-test.true c.index-rows-place.is c.as_slice-row.ensures.value in
    let xs = c.as_slice-row.result.now in
    let x = c.fraction.ensures.same ∙ read_number xs (c.args.small.now.net.now.vertices - 1) c.index-row-vertices.result (omega (arith, row.1)) c.index-row-vertices.is in
    let y = c.fraction-in-loop-place.ensures.same ∙ read_number xs c.args.small.now.net.now.vertices c.index-row-vertices-in-loop-place.result (omega (arith, row.1)) c.index-row-vertices-in-loop-place.is in
    points_more c.args.small.now.net.now.vertices c.loop-place.place (lists c.args.rows.now) c.as_slice-row.result.now c.loop-place.points.items _
    (c.in_ok-push-2.ensures.items ∙ (λ i. c.loop-place.points.items ++ record { x = x i; y = y i } ∷ [])) row.0 c.loop-place.invariant
