use Rattle.std.proofs.Common.{pos, ◌≢◌, sym, subst}
use Rattle.dd_draw.proofs.Ratios.{den_nonzero}
use Rattle.dd_draw.proofs.FractionSteps.{read_product, read_product_fits, read_turned, read_turned_fits, read_turned_positive, read_not_negative, answer_at, answer_along, turned_same, quotient_found}
use Rattle.dd_draw.proofs.fractions.over.Goals as goal

pub reduced-requires-else-bottom-lt0 : goal.reduced-requires-else-bottom-lt0
reduced-requires-else-bottom-lt0 c =
    let a = c.fraction-a in
    let b = c.fraction-b in
    read_not_negative a.result.den b.result.num a.ensures.within.den b.ensures.within.num (den_nonzero a.result a.ensures.within) (subst (λ x. x.num ≢ pos 0) (sym b.ensures.same) c.requires) c.if-bottom-lt0.false

pub returns-then-bottom-lt0 : goal.returns-then-bottom-lt0
returns-then-bottom-lt0 c =
    let a = c.fraction-a in
    let b = c.fraction-b in
    quotient_found a.result b.result c.args.a c.args.b c.reduced.result a.ensures.within c.requires a.ensures.same b.ensures.same
    (answer_along c.reduced.result _ _ (turned_same a.result b.result a.ensures.within (subst (λ x. x.num ≢ pos 0) (sym b.ensures.same) c.requires))
    (answer_at c.reduced.result _ _ _ _ (read_turned a.result.num b.result.den a.ensures.within.num b.ensures.within.den)
    (read_turned a.result.den b.result.num a.ensures.within.den b.ensures.within.num) c.reduced.ensures))

pub returns-else-bottom-lt0 : goal.returns-else-bottom-lt0
returns-else-bottom-lt0 c =
    let a = c.fraction-a in
    let b = c.fraction-b in
    quotient_found a.result b.result c.args.a c.args.b c.reduced-else-bottom-lt0.result a.ensures.within c.requires a.ensures.same b.ensures.same
    (answer_at c.reduced-else-bottom-lt0.result _ _ _ _ (read_product a.result.num b.result.den a.ensures.within.num b.ensures.within.den)
    (read_product a.result.den b.result.num a.ensures.within.den b.ensures.within.num) c.reduced-else-bottom-lt0.ensures)

pub overflow_mul-top : goal.overflow_mul-top
overflow_mul-top c = read_product_fits c.fraction-a.result.num c.fraction-b.result.den c.fraction-a.ensures.within.num c.fraction-b.ensures.within.den

pub overflow_mul-bottom : goal.overflow_mul-bottom
overflow_mul-bottom c = read_product_fits c.fraction-a.result.den c.fraction-b.result.num c.fraction-a.ensures.within.den c.fraction-b.ensures.within.num

pub overflow_sub-top : goal.overflow_sub-top
overflow_sub-top c = read_turned_fits c.fraction-a.result.num c.fraction-b.result.den c.fraction-a.ensures.within.num c.fraction-b.ensures.within.den

pub overflow_sub-bottom : goal.overflow_sub-bottom
overflow_sub-bottom c = read_turned_fits c.fraction-a.result.den c.fraction-b.result.num c.fraction-a.ensures.within.den c.fraction-b.ensures.within.num

pub reduced-requires : goal.reduced-requires
reduced-requires c = read_turned_positive c.fraction-a.result.den c.fraction-b.result.num c.fraction-a.ensures.within.den c.fraction-b.ensures.within.num c.if-bottom-lt0.true
