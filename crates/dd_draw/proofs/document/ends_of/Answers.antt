use Rattle.std.proofs.Common.{◌≡◌, ◌-◌, ◌<◌, length, to_z, of_z, ◌∙◌, ap, rules, arith}
use Rattle.std.specs.Int.{w64}
use Rattle.std.proofs.lemmas.Int.{to_z-of_z}
use Rattle.std.proofs.lemmas.List.{get_or_default}
use Rattle.dd_draw.specs.Placement.{point_of, origin}
use Rattle.dd_draw.specs.Spots.{moved, spot_of}
use Rattle.dd_draw.proofs.document.ends_of.Goals as goal

pub returns-clause-to : goal.returns-clause-to
returns-clause-to c =
    let e = c.args.edge in
    let x : to_z w64 (of_z w64 e.x) ≡ e.x = to_z-of_z w64 e.x (search rules) in
    let y : to_z w64 (of_z w64 e.y) ≡ e.y = to_z-of_z w64 e.y (search rules) in
    let spot : c.of-to.result ≡ spot_of c.args.frame (point_of c.args.points.now e.to) =
    let low : e.to - 1 < length c.args.points.now = let r = c.requires.to in omega arith in
    c.of-to.ensures.same ∙ ap (spot_of c.args.frame) (c.index-points-edge-2.is ∙ get_or_default c.args.points.now (e.to - 1) _ origin low) in
    c.moved.ensures.same ∙ (λ i. moved c.args.frame (spot i) (x i) (y i))

pub returns-clause-from : goal.returns-clause-from
returns-clause-from c =
    let low : c.args.edge.from - 1 < length c.args.points.now = let r = c.requires.from in omega arith in
    c.of-from.ensures.same ∙ ap (spot_of c.args.frame) (c.index-points-edge.is ∙ get_or_default c.args.points.now (c.args.edge.from - 1) _ origin low)
