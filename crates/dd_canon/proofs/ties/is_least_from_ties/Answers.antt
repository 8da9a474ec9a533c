use Rattle.std.proofs.Common.{get_or, refl, arith}
use Rattle.std.proofs.lemmas.List.{get_or_default}
use Rattle.dd_canon.proofs.TieLemmas.{all_starts, next_start, smaller_start}
use Rattle.dd_canon.proofs.ties.is_least_from_ties.Goals as goal

pub stand-order-requires-clause-start : goal.stand-order-requires-clause-start
stand-order-requires-clause-start c =
    let ds = c.args.starts.now in
    let k = c.loop-k.k in
    let test = c.loop-k-test.true in
    c.requires (get_or ds k 0) (k, omega (arith, test), get_or_default ds k (get_or ds k 0) 0 (omega (arith, test)))

pub returns-then-is_lt : goal.returns-then-is_lt
returns-then-is_lt c =
    let ds = c.args.starts.now in
    let k = c.loop-k.k in
    let test = c.loop-k-test.true in
    let h = c.requires (get_or ds k 0) (k, omega (arith, test), get_or_default ds k (get_or ds k 0) 0 (omega (arith, test))) in
    ((λ no. absurd (cc)), (λ least. absurd (smaller_start c.args.s.now ds k c.stand-order.result c.stand-order.ensures.ready.symbol.symbol c.stand-order.ensures.ready.connected h (omega (arith, test)) c.stand-order.ensures.standing (cc) least)))

pub loop-k-preserved : goal.loop-k-preserved
loop-k-preserved c = record {
  ready = c.stand-order.ensures.ready;
  least = next_start c.args.s.now c.args.starts.now c.loop-k.k c.stand-order.result c.loop-k.invariant.least c.stand-order.ensures.standing (cc);
}

pub returns : goal.returns
returns c = ((λ _. all_starts c.args.s.now c.args.starts.now c.loop-k.k (let end = c.loop-k-test.false in omega (arith, end)) c.loop-k.invariant.least), (λ _. refl))
