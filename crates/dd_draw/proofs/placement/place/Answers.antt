use Rattle.std.proofs.Common.{◌≡◌, suc, ◌-◌, subst, sym, arith}
use Rattle.std.proofs.lemmas.List.{length-map}
use Rattle.dd_draw.proofs.Placed.{placed, narrow_points}
use Rattle.dd_draw.proofs.TableReading.{rows_long}
use Rattle.dd_draw.specs.Points.{ArePointsTo}
use Rattle.dd_draw.specs.Tables.{IsTable, items_of, lists}
use Rattle.dd_draw.proofs.placement.place.Goals as goal

pub points_of-requires : goal.points_of-requires
points_of-requires c =
    let last : suc (c.args.net.now.vertices - 1) ≡ c.args.net.now.vertices = omega (arith, c.args.net.now.joined.some) in
    rows_long c.args.net.now (c.args.net.now.vertices - 1) c.as_slice.result.now c.in_ok-rows.rows.items c.as_slice.ensures.value
    (c.in_ok-rows.ensures.table (c.args.net.now.vertices - 1) last)

pub returns-clause-placement : goal.returns-clause-placement
returns-clause-placement c =
    let last : suc (c.args.net.now.vertices - 1) ≡ c.args.net.now.vertices = omega (arith, c.args.net.now.joined.some) in
    let rows = c.as_slice.result.now in
    placed c.args.net.now (c.args.net.now.vertices - 1) (lists rows) c.in_ok-points.points.items c.args.net.now.joined last
    (subst (λ r. IsTable c.args.net.now (c.args.net.now.vertices - 1) (lists r)) (sym c.as_slice.ensures.value)
    (c.in_ok-rows.ensures.table (c.args.net.now.vertices - 1) last))
    (subst (λ n. ArePointsTo c.args.net.now.vertices n (lists rows) c.in_ok-points.points.items) (sym (length-map rows items_of)) c.in_ok-points.ensures)

pub returns-clause-within : goal.returns-clause-within
returns-clause-within c =
    let last : suc (c.args.net.now.vertices - 1) ≡ c.args.net.now.vertices = omega (arith, c.args.net.now.joined.some) in
    let rows = c.as_slice.result.now in
    narrow_points c.args.net.now (c.args.net.now.vertices - 1) (lists rows) c.in_ok-points.points.items
    (subst (λ r. IsTable c.args.net.now (c.args.net.now.vertices - 1) (lists r)) (sym c.as_slice.ensures.value)
    (c.in_ok-rows.ensures.table (c.args.net.now.vertices - 1) last))
    (subst (λ n. ArePointsTo c.args.net.now.vertices n (lists rows) c.in_ok-points.points.items) (sym (length-map rows items_of)) c.in_ok-points.ensures)

pub returns-clause-narrow : goal.returns-clause-narrow
returns-clause-narrow c = λ p is.
    let last : suc (c.args.net.now.vertices - 1) ≡ c.args.net.now.vertices = omega (arith, c.args.net.now.joined.some) in
    (c.in_ok-rows.ensures.table (c.args.net.now.vertices - 1) last).narrow p is (omega (arith, is.step))
