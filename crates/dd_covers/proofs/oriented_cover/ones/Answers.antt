use Rattle.dd_covers.proofs.OrientedLemmas.{are_ones}
use Rattle.dd_covers.proofs.oriented_cover.ones.Goals as goal

pub returns : goal.returns
returns c =
    are_ones c.args.symbol.now
    (record { x0 = c.in_ok-vec.field-0; x1 = c.in_ok-vec-2.field-0; x2 = c.in_ok-vec-3.field-0 })
    c.size-size.result c.size-size.ensures.size
    (c.in_ok-vec.ensures.items_if_clones_equal (λ y e. e))
    (c.in_ok-vec-2.ensures.items_if_clones_equal (λ y e. e))
    (c.in_ok-vec-3.ensures.items_if_clones_equal (λ y e. e))
