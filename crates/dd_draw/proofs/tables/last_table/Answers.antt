use Rattle.std.proofs.Common.{◌≡◌, ◌+◌, suc, subst, arith}
use Rattle.dd_draw.specs.Tables.{lists, IsTable}
use Rattle.dd_draw.proofs.tables.last_table.Goals as goal

pub loop-place-init : goal.loop-place-init
loop-place-init c = c.in_ok-rows.ensures.table

pub eliminate-requires-clause-place : goal.eliminate-requires-clause-place
eliminate-requires-clause-place c = omega (arith, c.loop-place-test.true)

pub eliminate-requires-clause-table : goal.eliminate-requires-clause-table
eliminate-requires-clause-table c = c.loop-place.invariant

pub loop-place-preserved : goal.loop-place-preserved
loop-place-preserved c =
    let next : suc c.loop-place.place ≡ c.loop-place.place + 1 = omega arith in
    subst (λ k. IsTable c.args.small.now.net.now k (lists c.eliminate.new.rows.items)) next c.in_ok-eliminate.ensures.table

pub returns-clause-table : goal.returns-clause-table
returns-clause-table c k e =
    let last : c.loop-place.place ≡ k = omega (arith, c.loop-place-test.false, c.loop-place.auto.place-end) in
    subst (λ j. IsTable c.args.small.now.net.now j (lists c.loop-place.rows.items)) last c.loop-place.invariant
