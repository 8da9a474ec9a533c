use Rattle.std.proofs.Common.{length, arith}
use Rattle.dd_model.proofs.Lists.{inside_of}
use Rattle.dd_canon.proofs.isomorphisms.joined.Goals as goal

pub overflow_sub-chamber : goal.overflow_sub-chamber
overflow_sub-chamber c = (inside_of c.args.first.now (length c.args.then.now) c.loop-chamber.chamber-index c.requires.within (omega arith)).0

pub bounds-then-chamber : goal.bounds-then-chamber
bounds-then-chamber c =
    let low = (inside_of c.args.first.now (length c.args.then.now) c.loop-chamber.chamber-index c.requires.within (omega arith)).0 in
    let high = (inside_of c.args.first.now (length c.args.then.now) c.loop-chamber.chamber-index c.requires.within (omega arith)).1 in
    omega arith
