use Rattle.std.proofs.Common.{◌≡◌, ◌+◌, ◌++◌, [], drop, sym, ap, ◌∙◌, arith}
use Rattle.std.proofs.lemmas.List.{drop_all}
use Rattle.dd_front.specs.Spans.{joined_spans}
use Rattle.dd_front.proofs.Spanning.{joined_from}
use Rattle.dd_pages_and_checkpoints.proofs.PageLemmas.{front_kept, front_of_more}
use Rattle.dd_pages_and_checkpoints.proofs.PageParts.{part_added, front_part, all_added, all_counted}
use Rattle.dd_pages_and_checkpoints.proofs.pages.Page.add_in_parts.Goals as goal

pub returns-in_err-render-clause-front : goal.returns-in_err-render-clause-front
returns-in_err-render-clause-front g c k base start ss has = front_of_more k base start _ ss c.args.members.now (c.render.ensures.front k base start ss has)

pub returns-in_err-add_list-clause-front : goal.returns-in_err-add_list-clause-front
returns-in_err-add_list-clause-front g c =
    let spans = c.spans-span-items.result.now in
    let i = c.loop-span.span-index in
    let rest = joined_from spans i c.span-item.result c.loop-span-test.true ∙ ap (λ s. s ++ joined_spans (drop (i + 1) spans)) (sym c.span-item.is ∙ sym c.symbols.ensures) in
    front_part _ _ _ _ _ _ _ _ _ rest c.add_list.ensures.front c.loop-span.invariant.0

pub loop-span-preserved : goal.loop-span-preserved
loop-span-preserved g c =
    let spans = c.spans-span-items.result.now in
    let i = c.loop-span.span-index in
    let rest = joined_from spans i c.span-item.result c.loop-span-test.true ∙ ap (λ s. s ++ joined_spans (drop (i + 1) spans)) (sym c.span-item.is ∙ sym c.symbols.ensures) in
    let added = c.in_ok-add_list.ensures in
    let ih = c.loop-span.invariant in (
      part_added _ _ _ _ _ _ _ _ _ _ rest added.all added.count added.waiting ih.0,
      omega (arith, c.add_list.ensures.cause.later, ih.1),
      λ s. let sure = ih.2 s in let next = c.add_list.ensures.sure sure.0 in (next.sure, next.count ∙ sure.1),
    )

pub returns-clause-front : goal.returns-clause-front
returns-clause-front g c k base start ss has =
    let none : joined_spans (drop c.loop-span.span-index c.spans-span-items.result.now) ≡ [] = ap joined_spans (drop_all c.loop-span.span-index c.spans-span-items.result.now c.loop-span-test.false) in
    front_kept k base start _ _ _ (all_added _ _ _ _ _ _ none c.loop-span.invariant.0 k base start ss has)

pub returns-clause-all : goal.returns-clause-all
returns-clause-all g c =
    let none : joined_spans (drop c.loop-span.span-index c.spans-span-items.result.now) ≡ [] = ap joined_spans (drop_all c.loop-span.span-index c.spans-span-items.result.now c.loop-span-test.false) in
    all_added _ _ _ _ _ _ none c.loop-span.invariant.0

pub returns-clause-count : goal.returns-clause-count
returns-clause-count g c =
    let none : joined_spans (drop c.loop-span.span-index c.spans-span-items.result.now) ≡ [] = ap joined_spans (drop_all c.loop-span.span-index c.spans-span-items.result.now c.loop-span-test.false) in
    all_counted _ _ _ _ _ _ none c.loop-span.invariant.0
