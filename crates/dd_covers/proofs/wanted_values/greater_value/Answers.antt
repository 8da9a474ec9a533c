use Rattle.dd_covers.proofs.WantLemmas.{three_more}
use Rattle.dd_covers.proofs.wanted_values.greater_value.Goals as goal

pub returns : goal.returns
returns c =
    three_more c.args.s.now c.args.chamber c.greater_at-tile.result c.greater_at-vertex.result c.greater_at.result
    c.greater_at-vertex.ensures.higher c.greater_at.ensures.higher c.greater_at.ensures.so_far
    c.greater_at-tile.ensures.own c.greater_at-vertex.ensures.own c.greater_at.ensures.own
