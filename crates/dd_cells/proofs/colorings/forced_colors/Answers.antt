use Rattle.std.proofs.Common.{◌<◌, length, sym, subst, arith}
use Rattle.std.proofs.lemmas.List.{get_or_read}
use Rattle.dd_model.specs.Symbol.{IsTable, op}
use Rattle.dd_model.specs.Connected.{Connected}
use Rattle.dd_symbol.specs.Walk.{IsMarked}
use Rattle.dd_symbol.proofs.WalkLemmas.{closed_more}
use Rattle.dd_cells.specs.Coloring.{AreForced}
use Rattle.dd_cells.proofs.ColoringLemmas.{by_index, all_forced}
use Rattle.dd_cells.proofs.colorings.forced_colors.Goals as goal

pub visit-requires-clause-marked : goal.visit-requires-clause-marked
visit-requires-clause-marked c =
    let old = c.loop-at.coloring in
    let inside : c.loop-at.at < length old.queue.items = omega arith in
    let read = get_or_read old.queue.items c.loop-at.at c.index-chamber.result.now inside c.index-chamber.ensures 0 in
    subst (λ d. IsMarked old.seen.items d) (sym read) (c.loop-at.invariant.coloring.met c.loop-at.at inside)

pub loop-at-preserved : goal.loop-at-preserved
loop-at-preserved c =
    let s = c.symbol-symbol.result.now in
    let done = c.in_ok-visit.ensures in
    let old = c.loop-at.coloring in
    let new = c.visit.new.self in
    let inside : c.loop-at.at < length old.queue.items = omega arith in
    let read = get_or_read old.queue.items c.loop-at.at c.index-chamber.result.now inside c.index-chamber.ensures 0 in
    let images = by_index (λ i. IsMarked new.seen.items (op s i c.index-chamber.result.now)) done.zero done.one done.two in
    record {
      coloring = done.coloring;
      closed = closed_more s old.seen.items old.queue.items new.seen.items new.queue.items c.loop-at.at
          c.loop-at.invariant.closed inside done.grows
          (λ i. subst (λ d. IsMarked new.seen.items (op s i d)) read (images i));
      first = done.grows.marks 1 c.loop-at.invariant.first;
      within = let longer = done.grows.longer in omega arith;
    }

pub returns : goal.returns
returns c =
    let t = c.symbol-symbol.result.now in
    let e = c.symbol-symbol.ensures.same in
    let old = c.loop-at.coloring in
    let kept = c.loop-at.invariant in
    let table = subst IsTable (sym e) c.symbol-symbol.ensures.symbol.symbol.table in
    let connected = subst Connected (sym e) c.symbol-symbol.ensures.connected in
    let forced = all_forced t old.seen.items old.colors.items old.queue.items table.involutions connected table.chambers kept.coloring.walk
    kept.coloring.colors kept.coloring.forced (λ k h i. kept.closed k (omega arith) i) kept.first in
    subst (λ s. AreForced s old.colors.items) e forced
