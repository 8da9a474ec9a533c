use Rattle.std.proofs.Common.{arith}
use Rattle.dd_model.specs.Symbol.{op}
use Rattle.dd_model.proofs.AllIndices.{index_at_place, none_at_places, more_places, each_index}
use Rattle.dd_symbol.specs.Walk.{IsMarked}
use Rattle.dd_symbol.proofs.WalkLemmas.{Grows-refl, Grows-trans, next_reached}
use Rattle.dd_symbol.proofs.involutions.Involutions.visit.Goals as goal

pub loop-i-init : goal.loop-i-init
loop-i-init c = record {
  walk = c.requires.walk;
  grows = Grows-refl c.args.seen.now.items c.args.queue.now.items;
  marked = none_at_places (λ i. IsMarked c.args.seen.now.items (op c.args.self.now i c.args.chamber));
}

pub mark-requires-clause-chamber : goal.mark-requires-clause-chamber
mark-requires-clause-chamber c = c.op.ensures.chamber

pub mark-requires-clause-reached : goal.mark-requires-clause-reached
mark-requires-clause-reached c = rw c.op.ensures.image (next_reached c.args.self.now c.args.chamber _ c.requires.reached)

pub loop-i-preserved : goal.loop-i-preserved
loop-i-preserved c =
    let s = c.args.self.now in
    let seen = c.mark.new.seen.items in
    let step = c.in_ok-mark.ensures in
    record {
      walk = step.walk;
      grows = Grows-trans c.args.seen.now.items c.args.queue.now.items c.loop-i.seen.items c.loop-i.queue.items seen c.mark.new.queue.items
          c.loop-i.invariant.grows step.grows;
      marked = more_places (λ i. IsMarked seen (op s i c.args.chamber)) c.loop-i.i-index
          (λ k h. step.grows.marks (op s (index_at_place k) c.args.chamber) (c.loop-i.invariant.marked k h))
          (rw c.op.ensures.image at step.marked);
    }

pub returns-clause-images : goal.returns-clause-images
returns-clause-images c = each_index (λ i. IsMarked c.loop-i.seen.items (op c.args.self.now i c.args.chamber)) (λ k h. c.loop-i.invariant.marked k (omega arith))
