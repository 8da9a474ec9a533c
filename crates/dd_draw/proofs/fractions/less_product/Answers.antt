use Rattle.std.proofs.Common.{inr, sym, subst}
use Rattle.dd_draw.specs.Elimination.{Ratio, product}
use Rattle.dd_draw.specs.Limit.{IsWide, IsNarrow, ratio_of}
use Rattle.dd_draw.proofs.FractionSteps.{IsLess, less_along, read_product, read_product_fits, read_difference, read_difference_fits, read_positive_product, answer_at, product_within}
use Rattle.dd_draw.proofs.fractions.less_product.Goals as goal

pub reduced-requires : goal.reduced-requires
reduced-requires c = read_positive_product c.fraction-b.result c.fraction-c.result c.fraction-b.ensures.within c.fraction-c.ensures.within

pub overflow_mul-b : goal.overflow_mul-b
overflow_mul-b c = read_product_fits c.fraction-b.result.num c.fraction-c.result.num c.fraction-b.ensures.within.num c.fraction-c.ensures.within.num

pub overflow_mul-b-2 : goal.overflow_mul-b-2
overflow_mul-b-2 c = read_product_fits c.fraction-b.result.den c.fraction-c.result.den c.fraction-b.ensures.within.den c.fraction-c.ensures.within.den

pub returns-in_err-reduced : goal.returns-in_err-reduced
returns-in_err-reduced c =
    let a = c.fraction-a in
    let x = c.fraction-b in
    let y = c.fraction-c in
    less_along a.result x.result y.result c.args.a c.args.b c.args.c c.from_residual.result a.ensures.same x.ensures.same y.ensures.same
    (subst (IsLess a.result x.result y.result) (sym c.from_residual.ensures)
    (inr (subst (λ (r : Ratio). IsWide r) (λ i. record { over = read_product x.result.num y.result.num x.ensures.within.num y.ensures.within.num i; under = read_product x.result.den y.result.den x.ensures.within.den y.ensures.within.den i }) c.in_err-reduced.ensures)))

pub overflow_mul-a : goal.overflow_mul-a
overflow_mul-a c = read_product_fits c.fraction-a.result.num c.fraction-product.result.den c.fraction-a.ensures.within.num c.fraction-product.ensures.within.den

pub overflow_mul-product : goal.overflow_mul-product
overflow_mul-product c = read_product_fits c.fraction-product.result.num c.fraction-a.result.den c.fraction-product.ensures.within.num c.fraction-a.ensures.within.den

pub overflow_sub-a : goal.overflow_sub-a
overflow_sub-a c =
    let a = c.fraction-a in
    let p = c.fraction-product in
    read_difference_fits a.result.num p.result.den p.result.num a.result.den a.ensures.within.num p.ensures.within.den p.ensures.within.num a.ensures.within.den

pub overflow_mul-a-2 : goal.overflow_mul-a-2
overflow_mul-a-2 c = read_product_fits c.fraction-a.result.den c.fraction-product.result.den c.fraction-a.ensures.within.den c.fraction-product.ensures.within.den

pub reduced-requires-2 : goal.reduced-requires-2
reduced-requires-2 c = read_positive_product c.fraction-a.result c.fraction-product.result c.fraction-a.ensures.within c.fraction-product.ensures.within

pub returns : goal.returns
returns c =
    let a = c.fraction-a in
    let p = c.fraction-product in
    let x = c.fraction-b in
    let y = c.fraction-c in
    let narrow = subst (λ (r : Ratio). IsNarrow c.in_ok-reduced.field-0 r) (λ i. record { over = read_product x.result.num y.result.num x.ensures.within.num y.ensures.within.num i; under = read_product x.result.den y.result.den x.ensures.within.den y.ensures.within.den i }) c.in_ok-reduced.ensures in
    less_along a.result x.result y.result c.args.a c.args.b c.args.c c.reduced-2.result a.ensures.same x.ensures.same y.ensures.same
    (product_within a.result x.result y.result p.result c.reduced-2.result a.ensures.within x.ensures.within y.ensures.within
    (subst (λ z. IsNarrow z (product (ratio_of x.result) (ratio_of y.result))) (sym p.ensures.same) narrow)
    (answer_at c.reduced-2.result _ _ _ _ (read_difference a.result.num p.result.den p.result.num a.result.den a.ensures.within.num p.ensures.within.den p.ensures.within.num a.ensures.within.den)
    (read_product a.result.den p.result.den a.ensures.within.den p.ensures.within.den) c.reduced-2.ensures))
