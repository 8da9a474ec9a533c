use Rattle.std.proofs.Common.{◌≡◌, ℕ, ◌*◌, ap, ◌∙◌, arith}
use Rattle.dd_cells.proofs.CurvatureLemmas.{curvature_by_parts}
use Rattle.dd_cells.proofs.curvatures.curvature.Goals as goal

pub returns : goal.returns
returns c =
    let s = c.args.s.now in
    let common : ℕ = 2329089562800 in
    let loss = common * c.from-loss.result in
    let size : loss ≡ common * s.size = ap (λ n. common * n) (c.from-loss.ensures ∙ c.size.ensures.size ∙ ap (λ t. t.size) c.symbol.ensures.same) in
    curvature_by_parts s c.of_difference.result common c.gain.result loss (omega arith) c.gain.ensures.sum size
    c.of_difference.ensures.reduced c.of_difference.ensures.value
