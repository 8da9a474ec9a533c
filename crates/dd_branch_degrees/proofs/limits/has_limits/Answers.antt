use Rattle.std.proofs.Common.{◌≡◌, ap, ◌∙◌, arith}
use Rattle.dd_model.specs.Symbol.{Symbol}
use Rattle.dd_branch_degrees.proofs.PlaceCells.{tiles_within, vertices_within}
use Rattle.dd_branch_degrees.proofs.limits.has_limits.Goals as goal

pub returns-then-not-tell_at_most : goal.returns-then-not-tell_at_most
returns-then-not-tell_at_most c =
    let t = c.args.t.now in
    let size : c.size-size.result ≡ t.size = c.size-size.ensures.size ∙ ap (λ (s : Symbol). s.size) c.symbol.ensures.same in
    let tiles = tiles_within c.args.q.now t c.args.places.now c.split_at.result.0.now c.size-size.result c.args.q.now.tiles c.tell_at_most.result c.symbol.ensures.symbol.symbol.table.involutions c.requires.places size c.split_at.ensures.front c.tell_at_most.ensures in (
      (λ never. absurd cc),
      (λ limits. absurd (let yes' = tiles.1 limits.tiles in let no' = c.if-not-tell_at_most.true in cc)),
    )

pub returns : goal.returns
returns c =
    let t = c.args.t.now in
    let inv = c.symbol.ensures.symbol.symbol.table.involutions in
    let size : c.size-size.result ≡ t.size = c.size-size.ensures.size ∙ ap (λ (s : Symbol). s.size) c.symbol.ensures.same in
    let tiles = tiles_within c.args.q.now t c.args.places.now c.split_at.result.0.now c.size-size.result c.args.q.now.tiles c.tell_at_most.result inv c.requires.places size c.split_at.ensures.front c.tell_at_most.ensures in
    let vertices = vertices_within c.args.q.now t c.args.places.now c.split_at.result.1.now c.size-size.result c.args.q.now.vertices c.tell_at_most-2.result inv c.requires.places size c.split_at.ensures.back c.tell_at_most-2.ensures in
    let chambers = c.if-size-q.false in (
      (λ yes'. record { chambers = omega (arith, size, chambers); tiles = tiles.0 c.if-not-tell_at_most.false; vertices = vertices.0 yes' }),
      (λ limits. vertices.1 limits.vertices),
    )
