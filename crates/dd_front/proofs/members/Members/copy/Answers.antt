use Rattle.std.proofs.Common.{◌<◌, length, get_or, subst, sym, ap, ◌∙◌}
use Rattle.std.proofs.lemmas.Result.{IfOk-weaker}
use Rattle.dd_front.specs.Spans.{IsCut, joined_spans}
use Rattle.dd_front.proofs.Spanning.{cut_get, cut_some}
use Rattle.dd_front.proofs.members.Members.copy.Goals as goal

pub returns : goal.returns
returns c =
    let spans = c.self.inside.spans.items in
    let k = c.cut-k.result.0 in
    let rest = c.cut-k.result.1 in
    let d = c.index.result.now in
    let cut : IsCut spans c.args.place k rest = subst (λ xs. IsCut xs c.args.place k rest) c.deref.ensures.value c.cut-k.ensures in
    let some : c.args.place < length (joined_spans spans) = subst (λ ss. c.args.place < length ss) (sym c.self.view_is) c.requires in
    IfOk-weaker c.copy.result _ _
    (λ s is. is
    ∙ ap (λ ss. get_or ss rest s) (c.symbols.ensures ∙ c.index.ensures)
    ∙ sym (cut_get spans c.args.place k rest d s cut (cut_some spans c.args.place k rest cut some))
    ∙ ap (λ ss. get_or ss c.args.place s) c.self.view_is)
    c.copy.ensures
