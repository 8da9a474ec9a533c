use Rattle.std.proofs.Common.{rules, ◌≡◌, get_or, drop, set, subst, ap, ◌∙◌, arith}
use Rattle.std.proofs.lemmas.List.{get_or-drop}
use Rattle.dd_front.specs.Spans.{IsCut, joined_spans}
use Rattle.dd_front.proofs.Spanning.{cut_skip, cut_skip_whole, cut_low}
use Rattle.dd_front.proofs.members.Members.skip.Goals as goal

pub returns-then-rest-gt0 : goal.returns-then-rest-gt0
returns-then-rest-gt0 c =
    let spans = c.self.inside.spans.items in
    let k = c.cut-k.result.0 in
    let rest = c.cut-k.result.1 in
    let first = c.index_mut-first.result.now in
    let cut : IsCut spans c.args.count k rest = subst (λ xs. IsCut xs c.args.count k rest) c.deref.ensures.value c.cut-k.ensures in
    let low = cut_low spans c.args.count k rest cut c.if-rest-gt0.true in
    let after : c.drop-drain.new.self.0.items ≡ drop k spans = search rules in
    let read : first ≡ get_or spans k first = c.index_mut-first.ensures.value ∙ ap (λ xs. get_or xs 0 first) after ∙ get_or-drop k spans 0 first ∙ ap (λ n. get_or spans n first) (omega arith) in
    ap (λ xs. joined_spans (set xs 0 c.skip.new.self)) after
    ∙ ap (λ s. joined_spans (set (drop k spans) 0 s)) (c.skip.ensures ∙ ap (drop rest) read)
    ∙ cut_skip spans c.args.count k rest first cut low
    ∙ ap (drop c.args.count) c.self.view_is

pub returns-else-rest-gt0 : goal.returns-else-rest-gt0
returns-else-rest-gt0 c =
    let spans = c.self.inside.spans.items in
    let k = c.cut-k.result.0 in
    let rest = c.cut-k.result.1 in
    let cut : IsCut spans c.args.count k rest = subst (λ xs. IsCut xs c.args.count k rest) c.deref.ensures.value c.cut-k.ensures in
    let after : c.drop-drain.new.self.0.items ≡ drop k spans = search rules in
    ap joined_spans after
    ∙ cut_skip_whole spans c.args.count k rest cut (omega (arith, c.if-rest-gt0.false))
    ∙ ap (drop c.args.count) c.self.view_is
