use Rattle.std.proofs.Common.{◌≡◌, ◌+◌, ◌-◌, ap, subst, arith}
use Rattle.dd_model.specs.Symbol.{Symbol}
use Rattle.dd_canon.specs.Best.{IsBestNumbering}
use Rattle.dd_canon.proofs.BestLemmas.{one_more_counted, all_counted}
use Rattle.dd_canon.proofs.best_numbering.BestNumbering.improve_to_end.Goals as goal

pub returns-in_err-improve-clause-count : goal.returns-in_err-improve-clause-count
returns-in_err-improve-clause-count g c =
    let s = c.args.s.now in
    let size : c.symbol.result.now.size ≡ s.size = ap (λ (t : Symbol). t.size) c.symbol.ensures.same in
    let end = c.size-k-end.ensures.size in
    let test = c.loop-k-test.true in
    one_more_counted s.size c.loop-k.k (g.T.Comparer.count c.args.steps.now) (g.T.Comparer.count c.loop-k.steps) (g.T.Comparer.count c.improve.new.steps) (omega (arith, size, end, test)) c.loop-k.invariant.count c.improve.ensures.count

pub returns-clause-best : goal.returns-clause-best
returns-clause-best g c =
    let s = c.args.s.now in
    let size : c.symbol.result.now.size ≡ s.size = ap (λ (t : Symbol). t.size) c.symbol.ensures.same in
    let end = c.size-k-end.ensures.size in
    let test = c.loop-k-test.false in
    let high = c.loop-k.auto.k-end in
    let some = c.symbol.ensures.symbol.symbol.table.chambers in
    subst (λ n. IsBestNumbering s n c.loop-k.self) (omega (arith, size, end, test, high, some)) c.loop-k.invariant.best

pub returns-clause-count : goal.returns-clause-count
returns-clause-count g c =
    let s = c.args.s.now in
    let size : c.symbol.result.now.size ≡ s.size = ap (λ (t : Symbol). t.size) c.symbol.ensures.same in
    let end = c.size-k-end.ensures.size in
    let high = c.loop-k.auto.k-end in
    let some = c.symbol.ensures.symbol.symbol.table.chambers in
    all_counted s.size c.loop-k.k (g.T.Comparer.count c.args.steps.now) (g.T.Comparer.count c.loop-k.steps) (omega (arith, size, end, high, some)) c.loop-k.invariant.count

pub improve-requires-clause-best : goal.improve-requires-clause-best
improve-requires-clause-best g c =
    let k = c.loop-k.k in
    let e : k ≡ k + 1 - 1 = omega arith in
    subst (λ n. IsBestNumbering c.args.s.now n c.loop-k.self) e c.loop-k.invariant.best
