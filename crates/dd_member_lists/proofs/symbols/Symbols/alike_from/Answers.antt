use Rattle.std.proofs.Common.{◌≡◌, ◌+◌, ◌-◌, ◌*◌, ◌≤◌, ◌<◌, take, drop, length, refl, sym, ap, ◌∙◌, subst, arith}
use Rattle.std.proofs.lemmas.List.FromFn.{length-map-range_with_len}
use Rattle.dd_member_lists.specs.Lists.{with_bytes, alike, degrees_in, AreAlike}
use Rattle.dd_member_lists.proofs.Places.{some, begun, from_there, apart_here, are_alike, symbols_from, count_of, within_part}
use Rattle.dd_member_lists.proofs.symbols.Symbols.alike_from.Goals as goal

pub overflow_sub-next : goal.overflow_sub-next
overflow_sub-next c =
    let a = c.self.inside in
    let l = c.list.inside in
    let n = c.next_after-next in
    let inside = within_part a.list.now c.args.self.now a.start a.end c.args.place c.self.invariant.0 c.self.invariant.1 c.self.view_is c.requires in
    let count = count_of l.series.items l.degrees.items l.count a.list.now c.list.view_is in
    let whole = c.self.invariant.1 in
    some l.series.items c.deref.result.now l.degrees.items l.count (a.start + c.args.place) n.result c.list.invariant c.deref.ensures.value
    n.ensures.within n.ensures.point (omega arith)

pub degrees_from-requires-clause-begun : goal.degrees_from-requires-clause-begun
degrees_from-requires-clause-begun c =
    let a = c.self.inside in
    let l = c.list.inside in
    let n = c.next_after-next in
    let inside = within_part a.list.now c.args.self.now a.start a.end c.args.place c.self.invariant.0 c.self.invariant.1 c.self.view_is c.requires in
    let count = count_of l.series.items l.degrees.items l.count a.list.now c.list.view_is in
    let whole = c.self.invariant.1 in
    begun l.series.items c.deref.result.now l.degrees.items l.count (a.start + c.args.place) n.result c.list.invariant c.deref.ensures.value
    n.ensures.within n.ensures.point (omega arith) c.index-series.result.now c.index-series.ensures

pub degrees_from-requires-clause-within : goal.degrees_from-requires-clause-within
degrees_from-requires-clause-within c =
    let a = c.self.inside in
    let l = c.list.inside in
    let n = c.next_after-next in
    let inside = within_part a.list.now c.args.self.now a.start a.end c.args.place c.self.invariant.0 c.self.invariant.1 c.self.view_is c.requires in
    let count = count_of l.series.items l.degrees.items l.count a.list.now c.list.view_is in
    let whole = c.self.invariant.1 in
    let there = from_there l.series.items c.deref.result.now l.degrees.items l.count (a.start + c.args.place) n.result c.list.invariant c.deref.ensures.value
    n.ensures.within n.ensures.point (omega arith) c.index-series.result.now c.index-series.ensures in
    subst (λ xs. degrees_in c.index-series.result.now (a.start + c.args.place) ≤ length xs) (sym c.deref-2.ensures.value) there

pub overflow_sub-result : goal.overflow_sub-result
overflow_sub-result c =
    let a = c.self.inside in
    let l = c.list.inside in
    let n = c.next_after-next in
    let k = a.start + c.args.place in
    let inside = within_part a.list.now c.args.self.now a.start a.end c.args.place c.self.invariant.0 c.self.invariant.1 c.self.view_is c.requires in
    let count = count_of l.series.items l.degrees.items l.count a.list.now c.list.view_is in
    let whole = c.self.invariant.1 in
    let here : k < l.count = omega arith in
    let apart = apart_here l.series.items c.deref.result.now l.degrees.items l.count k n.result c.list.invariant c.deref.ensures.value
    n.ensures.within n.ensures.point here c.deref-3.result.now c.deref-3.ensures.value in
    let end = c.end_before.result in
    let later : k < end = c.end_before.ensures.least k inside apart in
    omega arith

pub invariant_of-result : goal.invariant_of-result
invariant_of-result c =
    let a = c.self.inside in
    let l = c.list.inside in
    let n = c.next_after-next in
    let k = a.start + c.args.place in
    let inside = within_part a.list.now c.args.self.now a.start a.end c.args.place c.self.invariant.0 c.self.invariant.1 c.self.view_is c.requires in
    let count = count_of l.series.items l.degrees.items l.count a.list.now c.list.view_is in
    let whole = c.self.invariant.1 in
    let here : k < l.count = omega arith in
    let apart = apart_here l.series.items c.deref.result.now l.degrees.items l.count k n.result c.list.invariant c.deref.ensures.value
    n.ensures.within n.ensures.point here c.deref-3.result.now c.deref-3.ensures.value in
    let end = c.end_before.result in
    let later : k < end = c.end_before.ensures.least k inside apart in
    let until : end ≤ l.count = let most = c.end_before.ensures.most in omega arith in
    let one = c.index-series.result.now in
    subst (λ xs. AreAlike one.table xs (end - k)) (sym (c.degrees_from.ensures ∙ ap (drop (degrees_in one k)) c.deref-2.ensures.value))
    (are_alike l.series.items c.deref.result.now l.degrees.items l.count k n.result c.list.invariant c.deref.ensures.value n.ensures.within n.ensures.point here
    one c.index-series.ensures c.deref-3.result.now c.deref-3.ensures.value end until c.end_before.ensures.next (end - k) (omega arith) (omega arith))

pub returns-clause-some : goal.returns-clause-some
returns-clause-some c =
    let a = c.self.inside in
    let l = c.list.inside in
    let n = c.next_after-next in
    let k = a.start + c.args.place in
    let inside = within_part a.list.now c.args.self.now a.start a.end c.args.place c.self.invariant.0 c.self.invariant.1 c.self.view_is c.requires in
    let count = count_of l.series.items l.degrees.items l.count a.list.now c.list.view_is in
    let whole = c.self.invariant.1 in
    let here : k < l.count = omega arith in
    let apart = apart_here l.series.items c.deref.result.now l.degrees.items l.count k n.result c.list.invariant c.deref.ensures.value
    n.ensures.within n.ensures.point here c.deref-3.result.now c.deref-3.ensures.value in
    let end = c.end_before.result in
    let later : k < end = c.end_before.ensures.least k inside apart in
    let one = c.index-series.result.now in
    let made = length-map-range_with_len (λ j. with_bytes c.degrees_from.result.now (2 * one.table.size * j) one.table) 0 (end - k) in
    omega (arith, made)

pub returns-clause-symbols : goal.returns-clause-symbols
returns-clause-symbols c =
    let a = c.self.inside in
    let l = c.list.inside in
    let n = c.next_after-next in
    let k = a.start + c.args.place in
    let inside = within_part a.list.now c.args.self.now a.start a.end c.args.place c.self.invariant.0 c.self.invariant.1 c.self.view_is c.requires in
    let count = count_of l.series.items l.degrees.items l.count a.list.now c.list.view_is in
    let whole = c.self.invariant.1 in
    let here : k < l.count = omega arith in
    let apart = apart_here l.series.items c.deref.result.now l.degrees.items l.count k n.result c.list.invariant c.deref.ensures.value
    n.ensures.within n.ensures.point here c.deref-3.result.now c.deref-3.ensures.value in
    let end = c.end_before.result in
    let later : k < end = c.end_before.ensures.least k inside apart in
    let until : end ≤ l.count = let most = c.end_before.ensures.most in omega arith in
    let one = c.index-series.result.now in
    let bytes = c.degrees_from.result.now in
    let rest = drop (degrees_in one k) l.degrees.items in
    let read : bytes ≡ rest = c.degrees_from.ensures ∙ ap (drop (degrees_in one k)) c.deref-2.ensures.value in
    let made = length-map-range_with_len (λ j. with_bytes bytes (2 * one.table.size * j) one.table) 0 (end - k) in
    let from = symbols_from l.series.items c.deref.result.now l.degrees.items l.count k n.result c.list.invariant c.deref.ensures.value n.ensures.within
    n.ensures.point here one c.index-series.ensures c.deref-3.result.now c.deref-3.ensures.value end until c.end_before.ensures.next
    a.start c.args.place a.end (end - k) refl (omega arith) c.end_before.ensures.most (omega arith) in
    ap (λ xs. alike one.table xs (end - k)) read ∙ sym from
    ∙ ap (λ xs. take (end - k) (drop c.args.place xs)) (ap (λ xs. take (a.end - a.start) (drop a.start xs)) c.list.view_is ∙ c.self.view_is)
    ∙ ap (λ m. take m (drop c.args.place c.args.self.now)) (sym made)
