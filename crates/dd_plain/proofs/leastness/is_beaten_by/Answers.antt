use Rattle.std.proofs.Common.{◌≡◌, sym, ap, ◌∙◌}
use Rattle.std.specs.Ordering.{is_gt}
use Rattle.dd_model.specs.Code.{code_cmp}
use Rattle.dd_plain.specs.Choices.{choices, chamber_table}
use Rattle.dd_plain.proofs.LeastLemmas.{unbeaten}
use Rattle.dd_plain.proofs.leastness.is_beaten_by.Goals as goal

pub returns-clause-unbeaten : goal.returns-clause-unbeaten
returns-clause-unbeaten c =
    let s = c.args.symbol.now in
    let t = c.in_ok-other.other in
    let map : choices chamber_table s.size c.args.number ≡ c.deref-2.result.now = cc (c.in_ok-map.ensures.items, c.deref-2.ensures.value) in
    let test : is_gt (code_cmp s t) ≡ c.is_gt.result =
    sym (c.is_gt.ensures ∙ ap is_gt (c.cmp_code.ensures ∙ ap (λ x. code_cmp x c.symbol-3.result.now) c.symbol-2.ensures.same ∙ ap (code_cmp s) c.symbol-3.ensures.same)) in
    unbeaten s t c.deref-2.result.now (choices chamber_table s.size c.args.number) c.in_ok-other.ensures.symbol.symbol c.in_ok-other.ensures.isomorphism map c.is_gt.result test
