use Rattle.std.proofs.Common.{◌≡◌, ◌+◌, ◌-◌, [], get_or, refl, sym, ap, arith}
use Rattle.dd_model.specs.Symbol.{op}
use Rattle.dd_symbol.specs.Building.{listed}
use Rattle.dd_symbol.proofs.TableLemmas.{pushed_row}
use Rattle.dd_symbol.proofs.involutions.interleaved.Goals as goal

pub loop-k-preserved : goal.loop-k-preserved
loop-k-preserved c =
    let k = c.loop-k.k in
    let place : k + 1 - 1 ≡ k = omega arith in
    pushed_row (op (listed c.args.lists.now.s0.now c.args.lists.now.s1.now c.args.lists.now.s2.now [] [])) k c.loop-k.numbers c.push_row.new.self _ _ _ _
    c.loop-k.invariant c.in_ok-push_row.ensures refl
    (ap (λ j. get_or c.args.lists.now.s0.now j 0) (sym place)) (ap (λ j. get_or c.args.lists.now.s1.now j 0) (sym place)) (ap (λ j. get_or c.args.lists.now.s2.now j 0) (sym place))
