use Rattle.std.proofs.Common.{◌≡◌, ◌<◌, ◌≤◌, length, get_or, take, drop, subst, sym, ap, ◌∙◌, [], false, true, arith}
use Rattle.std.proofs.lemmas.List.{take_all, get_or_default}
use Rattle.std.proofs.lemmas.Grind.{take_at_read}
use Rattle.std.specs.List.{AllByRecursion}
use Rattle.dd_model.specs.Lists.{IsWithout}
use Rattle.dd_model.specs.Position.{IsBefore}
use Rattle.dd_model.specs.Symbol.{Symbol}
use Rattle.dd_model.proofs.Ascending.{all-append}
use Rattle.dd_symbol.specs.Images.{of_rows}
use Rattle.dd_front.specs.Spans.{joined_spans}
use Rattle.dd_front.proofs.Skipped.{without_whole}
use Rattle.dd_front.proofs.Spanning.{length_more, walk_here, walk_more, walk_within}
use Rattle.dd_front.proofs.members.Members.count_before.Goals as goal

-- what stands where no symbol does
none : Symbol
none = of_rows 0 []

pub returns-then-not-is_before-clause-within : goal.returns-then-not-is_before-clause-within
returns-then-not-is_before-clause-within c =
    let spans = c.deref-span-items.result.now in
    let own = c.symbols-symbols.result in
    let i = c.loop-span.span-index in
    let all = ap joined_spans c.deref-span-items.ensures.value ∙ c.self.view_is in
    let here : own ≡ get_or spans i own = c.symbols-symbols.ensures ∙ c.span-item.is ∙ ap (get_or spans i) (sym c.symbols-symbols.ensures) in
    let inside : c.loop-k.k < length own = omega (arith, c.loop-k-test.true, c.len-k-end.ensures) in
    let low = walk_within spans c.args.self.now own i c.loop-k.k c.loop-k.count all c.loop-span-test.true here inside c.loop-k.invariant.0 in
    omega arith

pub returns-then-not-is_before-clause-without : goal.returns-then-not-is_before-clause-without
returns-then-not-is_before-clause-without c =
    let spans = c.deref-span-items.result.now in
    let own = c.symbols-symbols.result in
    let i = c.loop-span.span-index in
    let k = c.loop-k.k in
    let s = get_or own k none in
    let all = ap joined_spans c.deref-span-items.ensures.value ∙ c.self.view_is in
    let here : own ≡ get_or spans i own = c.symbols-symbols.ensures ∙ c.span-item.is ∙ ap (get_or spans i) (sym c.symbols-symbols.ensures) in
    let inside : k < length own = omega (arith, c.loop-k-test.true, c.len-k-end.ensures) in
    let read = get_or_default own k none s inside in
    walk_here c.args.at.now spans c.args.self.now own i k c.loop-k.count s all c.requires.ascending c.requires.symbols
    c.loop-span-test.true here inside c.loop-k.invariant.0 c.loop-k.invariant.1 c.loop-k.invariant.2 read
    (λ before. let wrong : false ≡ true = sym c.if-not-is_before.true ∙ (c.is_before.ensures s read).1 before in cc)

pub overflow_add-count : goal.overflow_add-count
overflow_add-count c =
    let spans = c.deref-span-items.result.now in
    let own = c.symbols-symbols.result in
    let i = c.loop-span.span-index in
    let all = ap joined_spans c.deref-span-items.ensures.value ∙ c.self.view_is in
    let here : own ≡ get_or spans i own = c.symbols-symbols.ensures ∙ c.span-item.is ∙ ap (get_or spans i) (sym c.symbols-symbols.ensures) in
    let inside : c.loop-k.k < length own = omega (arith, c.loop-k-test.true, c.len-k-end.ensures) in
    let low = walk_within spans c.args.self.now own i c.loop-k.k c.loop-k.count all c.loop-span-test.true here inside c.loop-k.invariant.0 in
    omega (arith, c.len-all.ensures.count, c.len-all.ensures.small, low)

pub loop-k-preserved : goal.loop-k-preserved
loop-k-preserved c =
    let own = c.symbols-symbols.result in
    let k = c.loop-k.k in
    let s = get_or own k none in
    let inside : k < length own = omega (arith, c.loop-k-test.true, c.len-k-end.ensures) in
    let is = (c.is_before.ensures s (get_or_default own k none s inside)).0 c.if-not-is_before.false in (
      omega (arith, c.loop-k.invariant.0),
      c.loop-k.invariant.1,
      subst (AllByRecursion (IsBefore c.args.at.now)) (sym (take_at_read own k none inside).1)
          (all-append (IsBefore c.args.at.now) (take k own) _ c.loop-k.invariant.2 (is, tt)),
    )

pub loop-span-preserved : goal.loop-span-preserved
loop-span-preserved c =
    let spans = c.deref-span-items.result.now in
    let own = c.symbols-symbols.result in
    let i = c.loop-span.span-index in
    let here : own ≡ get_or spans i own = c.symbols-symbols.ensures ∙ c.span-item.is ∙ ap (get_or spans i) (sym c.symbols-symbols.ensures) in
    let end : length own ≤ c.loop-k.k = omega (arith, c.loop-k-test.false, c.len-k-end.ensures) in
    let whole : c.loop-k.k ≡ length own = omega (arith, end, c.loop-k.auto.k-end, c.len-k-end.ensures) in (
      omega (arith, c.loop-k.invariant.0, whole, length_more spans i own c.loop-span-test.true, ap length here),
      walk_more c.args.at.now spans own i c.loop-span-test.true here c.loop-k.invariant.1
          (subst (AllByRecursion (IsBefore c.args.at.now)) (take_all c.loop-k.k own end) c.loop-k.invariant.2),
    )

pub returns-clause-without : goal.returns-clause-without
returns-clause-without c =
    let spans = c.deref-span-items.result.now in
    let all = ap joined_spans c.deref-span-items.ensures.value ∙ c.self.view_is in
    let walked : joined_spans (take c.loop-span.span-index spans) ≡ c.args.self.now = ap joined_spans (take_all c.loop-span.span-index spans c.loop-span-test.false) ∙ all in
    subst (λ n. IsWithout (IsBefore c.args.at.now) c.args.self.now (drop n c.args.self.now)) (sym c.len-all.ensures.count)
    (without_whole (IsBefore c.args.at.now) c.args.self.now (subst (AllByRecursion (IsBefore c.args.at.now)) walked c.loop-span.invariant.1))
