use Rattle.std.proofs.Common.{[], ◌∷◌, sym, ap, ◌∙◌}
use Rattle.dd_model.specs.Symbol.{item}
use Rattle.dd_model.specs.declared.index.Index.TheVariants.{Zero, Two}
use Rattle.dd_branch_degrees.proofs.minimality.are_told_apart.Goals as goal

pub returns-then-m01 : goal.returns-then-m01
returns-then-m01 c _ alike = c.if-m01.true (c.m01.ensures ∙ (alike []).0 ∙ sym c.m01-2.ensures)

pub returns-then-m12 : goal.returns-then-m12
returns-then-m12 c _ alike = c.if-m12.true (c.m12.ensures ∙ (alike []).1 ∙ sym c.m12-2.ensures)

pub returns-then-m12-2 : goal.returns-then-m12-2
returns-then-m12-2 c _ alike =
    let degrees = c.args.symbol.now.m12 in
    c.if-m12-2.true (c.m12-3.ensures ∙ ap (item degrees) c.op.ensures.image ∙ (alike (Zero ∷ [])).1 ∙ sym (c.m12-4.ensures ∙ ap (item degrees) c.op-2.ensures.image))

pub returns-then-m01-2 : goal.returns-then-m01-2
returns-then-m01-2 c _ alike =
    let degrees = c.args.symbol.now.m01 in
    c.if-m01-2.true (c.m01-3.ensures ∙ ap (item degrees) c.op-3.ensures.image ∙ (alike (Two ∷ [])).0 ∙ sym (c.m01-4.ensures ∙ ap (item degrees) c.op-4.ensures.image))
