use Rattle.std.proofs.Common.{◌+◌, ◌∙◌, arith}
use Rattle.dd_model.proofs.Turns.{period_bound}
use Rattle.dd_model.proofs.CellWalks.{next_place}
use Rattle.dd_symbol.proofs.CellShapes.{unfixed_more}
use Rattle.dd_symbol.proofs.involutions.Involutions.period.Goals as goal

pub loop-place-smaller : goal.loop-place-smaller
loop-place-smaller c =
    let i = c.loop-place.invariant in
    let bound = period_bound c.args.self.now c.turned-place.ensures.three.involutions c.args.pair c.args.chamber (c.loop-place.turns + 1) c.requires
    (unfixed_more c.args.self.now c.args.pair c.args.chamber c.loop-place.turns c.loop-place.place i.place c.loop-place-test.true i.unfixed) in
    omega arith

pub loop-place-preserved : goal.loop-place-preserved
loop-place-preserved c =
    let s = c.args.self.now in
    let i = c.loop-place.invariant in
    let unfixed = unfixed_more s c.args.pair c.args.chamber c.loop-place.turns c.loop-place.place i.place c.loop-place-test.true i.unfixed in
    record {
      positive = omega arith;
      few = period_bound s c.turned-place.ensures.three.involutions c.args.pair c.args.chamber (c.loop-place.turns + 1) c.requires unfixed;
      place = c.turned-place-in-loop-place.ensures.image
          ∙ next_place s c.args.pair c.args.chamber c.loop-place.turns c.loop-place.place i.place;
      chamber = c.turned-place-in-loop-place.ensures.chamber;
      unfixed = unfixed;
    }
