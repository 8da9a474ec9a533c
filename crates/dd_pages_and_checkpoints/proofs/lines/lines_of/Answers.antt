use Rattle.std.proofs.Common.{◌≡◌, ◌+◌, ◌++◌, length, take, subst, sym, ap, ◌∙◌, arith}
use Rattle.std.proofs.lemmas.List.{take_all}
use Rattle.dd_model.specs.Text.{AreLines}
use Rattle.dd_front.specs.Spans.{joined_spans}
use Rattle.dd_front.proofs.Spanning.{joined_more, length_more, span_within}
use Rattle.dd_model.proofs.Texts.{joined_lines}
use Rattle.dd_pages_and_checkpoints.proofs.lines.lines_of.Goals as goal

pub overflow_add-before : goal.overflow_add-before
overflow_add-before c =
    let spans = c.spans-span-items.result.now in
    let i = c.loop-span.span-index in
    let within = span_within spans i c.span-item.result c.loop-span-test.true in
    omega (arith, within, ap length c.span-item.is, c.len.ensures, ap length c.spans-span-items.ensures, c.loop-span.invariant.0, c.args.part.few)

pub loop-span-preserved : goal.loop-span-preserved
loop-span-preserved c =
    let spans = c.spans-span-items.result.now in
    let i = c.loop-span.span-index in
    let k = c.args.part.before in
    let done = joined_spans (take i spans) in
    let span = c.span-item.result in
    let adds = c.in_ok-put_list.ensures.lines in
    let more : joined_spans (take (i + 1) spans) ≡ done ++ span = joined_more spans i span c.loop-span-test.true ∙ ap (λ s. done ++ s) (sym c.span-item.is) in
    let lines : AreLines (k + length done) span adds.lines = subst (λ n. AreLines n span adds.lines) c.loop-span.invariant.0 (subst (λ ss. AreLines c.loop-span.before ss adds.lines) c.symbols.ensures adds.are_lines) in (
      omega (arith, c.loop-span.invariant.0, length_more spans i span c.loop-span-test.true, ap length c.span-item.is, c.len.ensures),
      subst (λ ss. AreLines k ss c.put_list.new.out.items) (sym more)
          (subst (AreLines k (done ++ span)) (sym adds.text) (joined_lines k done span c.loop-span.lines.items adds.lines c.loop-span.invariant.1 lines)),
    )

pub returns : goal.returns
returns c =
    let spans = c.spans-span-items.result.now in
    let all : joined_spans (take c.loop-span.span-index spans) ≡ c.args.part.members = ap joined_spans (take_all c.loop-span.span-index spans c.loop-span-test.false) ∙ c.spans-span-items.ensures in
    subst (λ ss. AreLines c.args.part.before ss c.loop-span.lines.items) all c.loop-span.invariant.1
