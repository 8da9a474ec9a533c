use Rattle.std.proofs.Common.{◌≡◌, ◌+◌, ap, subst, arith}
use Rattle.dd_model.specs.Symbol.{Symbol}
use Rattle.dd_canon.specs.Ties.{AreTiesTo}
use Rattle.dd_canon.proofs.FormLemmas.{beaten}
use Rattle.dd_canon.proofs.TieLemmas.{more_ties}
use Rattle.dd_canon.proofs.ties.tied_starts.Goals as goal

pub returns-then-is_lt : goal.returns-then-is_lt
returns-then-is_lt c =
    let s = c.args.s.now in
    let size : c.symbol.result.now.size ≡ s.size = ap (λ (t : Symbol). t.size) c.symbol.ensures.same in
    beaten s (c.loop-k.k + 1) c.stand-order.result c.symbol.ensures.symbol.symbol c.symbol.ensures.connected (omega arith, omega arith) c.stand-order.ensures.standing (cc)

pub loop-k-preserved : goal.loop-k-preserved
loop-k-preserved c =
    let s = c.args.s.now in
    let k = c.loop-k.k in
    let size : c.symbol.result.now.size ≡ s.size = ap (λ (t : Symbol). t.size) c.symbol.ensures.same in
    record {
      ready = c.stand-order.ensures.ready;
      ties = more_ties s k c.loop-k.ties.items c.keep.new.ties.items c.stand-order.result c.symbol.ensures.symbol.symbol.table c.symbol.ensures.connected (omega arith, omega arith) c.loop-k.invariant.ties c.stand-order.ensures.standing (cc) c.in_ok-keep.ensures;
    }

pub returns : goal.returns
returns c =
    let s = c.args.s.now in
    let size : c.symbol.result.now.size ≡ s.size = ap (λ (t : Symbol). t.size) c.symbol.ensures.same in
    let test = c.loop-k-test.false in
    let end = c.loop-k.auto.k-end in
    subst (λ n. AreTiesTo s n c.loop-k.ties.items) (omega (arith, size, test, end)) c.loop-k.invariant.ties
