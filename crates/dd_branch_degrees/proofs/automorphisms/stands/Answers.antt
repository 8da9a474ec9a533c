use Rattle.std.proofs.Common.{◌+◌, drop, sym, ap, ◌∙◌, arith}
use Rattle.std.specs.Ordering.{nat_cmp, ordering_then}
use Rattle.std.specs.Cmp.Lexicographic.{slice_cmp}
use Rattle.dd_model.proofs.Orders.{then_first}
use Rattle.dd_branch_degrees.specs.Automorphism.{along_list}
use Rattle.dd_canon.proofs.OrderLemmas.{then_second}
use Rattle.dd_branch_degrees.proofs.TurnedDegrees.{stand_step, there_at}
use Rattle.dd_branch_degrees.proofs.automorphisms.stands.Goals as goal

pub overflow_sub-list : goal.overflow_sub-list
overflow_sub-list c = (there_at c.args.own.now c.args.list.now c.loop-k.k c.requires.each c.loop-k-test.true).0

pub bounds-own-list : goal.bounds-own-list
bounds-own-list c = let there = there_at c.args.own.now c.args.list.now c.loop-k.k c.requires.each c.loop-k-test.true in let low = there.0 in let high = there.1 in omega (arith, low, high)

pub returns-then-is_ne : goal.returns-then-is_ne
returns-then-is_ne c =
    let own = c.args.own.now in
    let f = c.args.list.now in
    let k = c.loop-k.k in
    let rest = slice_cmp nat_cmp (drop (k + 1) own) (drop (k + 1) (along_list f own)) in
    then_first c.cmp-order.result rest (cc) ∙ ap (λ o. ordering_then o rest) c.cmp-order.ensures
    ∙ sym (stand_step own f k c.requires.count c.loop-k-test.true) ∙ sym c.loop-k.invariant.so_far

pub loop-k-preserved : goal.loop-k-preserved
loop-k-preserved c =
    let own = c.args.own.now in
    let f = c.args.list.now in
    let k = c.loop-k.k in
    let rest = slice_cmp nat_cmp (drop (k + 1) own) (drop (k + 1) (along_list f own)) in
    record {
      so_far = c.loop-k.invariant.so_far ∙ stand_step own f k c.requires.count c.loop-k-test.true
          ∙ ap (λ o. ordering_then o rest) (sym c.cmp-order.ensures) ∙ then_second c.cmp-order.result rest (cc);
    }
