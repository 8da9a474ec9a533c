use Rattle.std.proofs.Common.{◌<◌, ◌^◌, refl, arith}
use Rattle.dd_draw.proofs.FirstSums.{sum_fits, sum_more, sum_small, sum_all}
use Rattle.dd_draw.proofs.first_table.first_entry.Goals as goal

pub loop-edge-init : goal.loop-edge-init
loop-edge-init c = record { sum = refl; small = omega arith }

pub overflow_add-sum : goal.overflow_add-sum
overflow_add-sum c =
    let low : c.loop-edge.edge-index < 2 ^ 63 =
    omega (arith, c.deref-edge-items.ensures.len, c.loop-edge-test.true, c.args.net.now.edges.ok, c.args.net.now.edges.small) in
    sum_fits _ c.share-sum.result c.loop-edge.edge-index c.loop-edge.invariant.small c.share-sum.ensures.small low

pub loop-edge-preserved : goal.loop-edge-preserved
loop-edge-preserved c =
    let low : c.loop-edge.edge-index < 2 ^ 63 =
    omega (arith, c.deref-edge-items.ensures.len, c.loop-edge-test.true, c.args.net.now.edges.ok, c.args.net.now.edges.small) in
    record {
      sum = sum_more _ c.deref-edge-items.result.now _ c.share-sum.result c.loop-edge.edge-index _ c.loop-edge.invariant.small c.share-sum.ensures.small low
          c.loop-edge-test.true c.loop-edge.invariant.sum c.share-sum.ensures.value;
      small = sum_small _ c.share-sum.result c.loop-edge.edge-index c.loop-edge.invariant.small c.share-sum.ensures.small low;
    }

pub returns : goal.returns
returns c = sum_all c.args.net.now c.args.row c.args.column c.loop-edge.edge-index _ c.deref-edge-items.result.now c.deref-edge-items.ensures.value
    c.loop-edge-test.false c.loop-edge.invariant.sum
