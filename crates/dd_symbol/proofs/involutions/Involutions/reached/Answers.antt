use Rattle.std.proofs.Common.{◌<◌, length, subst, arith}
use Rattle.std.proofs.lemmas.List.{get_or_read}
use Rattle.dd_model.specs.Symbol.{op}
use Rattle.dd_symbol.specs.Walk.{IsMarked}
use Rattle.dd_symbol.proofs.WalkLemmas.{closed_more, found}
use Rattle.dd_symbol.proofs.involutions.Involutions.reached.Goals as goal

pub loop-at-preserved : goal.loop-at-preserved
loop-at-preserved c =
    let s = c.args.self.now in
    let done = c.in_ok-visit.ensures in
    let inside : c.loop-at.at < length c.loop-at.queue.items = omega arith in
    let read = get_or_read c.loop-at.queue.items c.loop-at.at c.index-chamber.result.now inside c.index-chamber.ensures 0 in
    record {
      walk = done.walk;
      closed = closed_more s c.loop-at.seen.items c.loop-at.queue.items c.visit.new.seen.items c.visit.new.queue.items c.loop-at.at
          c.loop-at.invariant.closed inside done.grows
          (λ i. subst (λ d. IsMarked c.visit.new.seen.items (op s i d)) read (done.images i));
      first = done.grows.marks 1 c.loop-at.invariant.first;
      within = let longer = done.grows.longer in omega arith;
    }

pub returns-clause-reached : goal.returns-clause-reached
returns-clause-reached c =
    found c.args.self.now c.loop-at.seen.items c.loop-at.queue.items c.size.ensures.three.involutions c.requires.some c.loop-at.invariant.walk
    (λ k h i. c.loop-at.invariant.closed k (omega arith) i) c.loop-at.invariant.first
