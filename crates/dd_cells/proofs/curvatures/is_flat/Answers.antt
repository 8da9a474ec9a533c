use Rattle.std.proofs.Common.{◌≡◌, ◌↔◌, ℕ, ◌*◌, ap, ◌∙◌, arith}
use Rattle.std.proofs.lemmas.Bool.{eqb-true, eq-eqb}
use Rattle.dd_model.specs.Flat.{Flat}
use Rattle.dd_cells.proofs.CurvatureLemmas.{flat_by_parts}
use Rattle.dd_cells.proofs.curvatures.is_flat.Goals as goal

pub returns : goal.returns
returns c =
    let s = c.args.s.now in
    let common : ℕ = 2329089562800 in
    let loss = common * c.from.result in
    let size : loss ≡ common * s.size = ap (λ n. common * n) (c.from.ensures ∙ c.size.ensures.size ∙ ap (λ t. t.size) c.symbol.ensures.same) in
    let flat : (c.gain.result ≡ loss) ↔ Flat s = flat_by_parts s c.symbol.ensures.symbol.symbol common c.gain.result loss (omega arith) c.gain.ensures.sum size in (
      λ equal. flat.0 (eqb-true c.gain.result loss equal),
      λ is_flat. eq-eqb c.gain.result loss (flat.1 is_flat),
    )
