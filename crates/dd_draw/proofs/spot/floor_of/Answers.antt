use Rattle.std.proofs.Common.{refl, arith}
use Rattle.dd_draw.proofs.Spots.{floor_small, floor_read, times_fits}
use Rattle.dd_draw.proofs.spot.floor_of.Goals as goal

pub returns-clause-small : goal.returns-clause-small
returns-clause-small c = floor_small c.args.times c.args.fraction.num c.args.fraction.den c.div_euclid.result c.requires.times c.requires.within.num c.requires.within.reduced.positive c.requires.within.den c.div_euclid.ensures

pub overflow_mul-times : goal.overflow_mul-times
overflow_mul-times c = times_fits c.args.times c.args.fraction.num c.args.times c.args.fraction.num c.requires.times (omega (arith, c.requires.within.num)) refl refl

pub returns-clause-same : goal.returns-clause-same
returns-clause-same c = floor_read c.args.times c.args.fraction.num c.args.fraction.den c.div_euclid.result c.requires.times c.requires.within.num c.requires.within.reduced.positive c.requires.within.den c.div_euclid.ensures
