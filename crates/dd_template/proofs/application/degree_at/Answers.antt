use Rattle.std.proofs.Common.{◌≤◌, sym, ap, ◌∙◌, subst, arith}
use Rattle.dd_model.specs.declared.pair.Pair.TheVariants.{Tile, Vertex}
use Rattle.dd_model.specs.Symbol.{degree}
use Rattle.dd_template.specs.Applying.{HasSmallFactor}
use Rattle.dd_template.proofs.ApplyLemmas.{degree_bound, product_bound}
use Rattle.dd_template.proofs.application.degree_at.Goals as goal

pub overflow_mul-result : goal.overflow_mul-result
overflow_mul-result c =
    let factor : c.in-OfTile.factor ≤ 64 = subst HasSmallFactor c.in-OfTile.is c.requires.factor in
    let bound : c.m01.result ≤ 491520 = subst (λ m. m ≤ 491520) (sym (c.m01.ensures ∙ ap (λ t. degree t Tile c.args.chamber) c.symbol-symbol.ensures.same)) (degree_bound c.args.s.now c.symbol-symbol.ensures.symbol Tile c.args.chamber c.requires.chamber) in
    let product = product_bound c.in-OfTile.factor c.m01.result factor bound in
    omega arith

pub overflow_mul-result-in-OfVertex : goal.overflow_mul-result-in-OfVertex
overflow_mul-result-in-OfVertex c =
    let factor : c.in-OfVertex.factor ≤ 64 = subst HasSmallFactor c.in-OfVertex.is c.requires.factor in
    let bound : c.m12.result ≤ 491520 = subst (λ m. m ≤ 491520) (sym (c.m12.ensures ∙ ap (λ t. degree t Vertex c.args.chamber) c.symbol-symbol.ensures.same)) (degree_bound c.args.s.now c.symbol-symbol.ensures.symbol Vertex c.args.chamber c.requires.chamber) in
    let product = product_bound c.in-OfVertex.factor c.m12.result factor bound in
    omega arith
