use Rattle.std.proofs.Common.{◌+◌, take, set, subst, ap, ◌∙◌, arith}
use Rattle.dd_front.specs.Spans.{IsCut, joined_spans}
use Rattle.dd_front.proofs.Spanning.{cut_keep, cut_keep_whole, cut_low}
use Rattle.dd_front.proofs.members.Members.keep.Goals as goal

pub returns-then-rest-gt0 : goal.returns-then-rest-gt0
returns-then-rest-gt0 c =
    let spans = c.self.inside.spans.items in
    let k = c.cut-k.result.0 in
    let rest = c.cut-k.result.1 in
    let last = c.index_mut-last.result.now in
    let cut : IsCut spans c.args.count k rest = subst (λ xs. IsCut xs c.args.count k rest) c.deref.ensures.value c.cut-k.ensures in
    ap joined_spans c.truncate.ensures.items
    ∙ ap (λ s. joined_spans (take (k + 1) (set spans k s))) (c.keep.ensures ∙ ap (take rest) c.index_mut-last.ensures.value)
    ∙ cut_keep spans c.args.count k rest last cut (cut_low spans c.args.count k rest cut c.if-rest-gt0.true)
    ∙ ap (take c.args.count) c.self.view_is

pub returns-else-rest-gt0 : goal.returns-else-rest-gt0
returns-else-rest-gt0 c =
    let spans = c.self.inside.spans.items in
    let k = c.cut-k.result.0 in
    let rest = c.cut-k.result.1 in
    let cut : IsCut spans c.args.count k rest = subst (λ xs. IsCut xs c.args.count k rest) c.deref.ensures.value c.cut-k.ensures in
    ap joined_spans c.truncate-else-rest-gt0.ensures.items
    ∙ cut_keep_whole spans c.args.count k rest cut (omega (arith, c.if-rest-gt0.false))
    ∙ ap (take c.args.count) c.self.view_is
