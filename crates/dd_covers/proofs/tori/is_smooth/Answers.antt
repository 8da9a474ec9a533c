use Rattle.dd_model.specs.declared.pair.Pair.TheVariants.{Tile, Vertex, Edge}
use Rattle.dd_covers.specs.Torus.{IsSmoothAt}
use Rattle.dd_covers.proofs.tori.is_smooth.Goals as goal

pub returns : goal.returns
returns c = (
  λ yes pair. elim pair as (λ p. IsSmoothAt c.args.symbol.now p) [
    | Tile ↦ c.is_smooth_at.ensures.0 c.if-not-is_smooth_at.false
    | Vertex ↦ c.is_smooth_at-2.ensures.0 c.if-not-is_smooth_at-2.false
    | Edge ↦ c.is_smooth_at-3.ensures.0 yes
  ],
  λ all. c.is_smooth_at-3.ensures.1 (all Edge),
)
