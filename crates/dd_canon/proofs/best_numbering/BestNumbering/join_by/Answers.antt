use Rattle.std.proofs.Common.{◌≡◌, ap, arith}
use Rattle.dd_model.specs.Symbol.{Symbol}
use Rattle.dd_canon.proofs.OrbitLemmas.{joined_image, image_inside}
use Rattle.dd_canon.proofs.best_numbering.BestNumbering.join_by.Goals as goal

pub join-requires-clause-other : goal.join-requires-clause-other
join-requires-clause-other c =
    let s = c.args.s.now in
    let size : c.symbol.result.now.size ≡ s.size = ap (λ (t : Symbol). t.size) c.symbol.ensures.same in
    let end = c.size-k-end.ensures.size in
    let test = c.loop-k-test.true in
    image_inside s c.args.automorphism.now c.loop-k.self.orbits c.loop-k.k c.requires.automorphism (omega (arith, size, end, test)) c.loop-k.invariant.orbits

pub loop-k-preserved : goal.loop-k-preserved
loop-k-preserved c =
    let s = c.args.s.now in
    let b = c.loop-k.invariant in
    let size : c.symbol.result.now.size ≡ s.size = ap (λ (t : Symbol). t.size) c.symbol.ensures.same in
    let end = c.size-k-end.ensures.size in
    let test = c.loop-k-test.true in
    record {
      start = b.start;
      home = b.home;
      whole = b.whole;
      table = b.table;
      form = b.form;
      best = b.best;
      there = b.there;
      orbits = joined_image s c.args.automorphism.now c.loop-k.self.orbits c.join.new.self c.loop-k.k c.requires.automorphism (omega (arith, size, end, test)) b.orbits c.join.ensures.joined;
    }
