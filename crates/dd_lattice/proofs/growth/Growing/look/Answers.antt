use Rattle.std.proofs.Common.{refl, ap, ◌∙◌}
use Rattle.dd_model.specs.declared.index.Index.TheVariants.{Zero, One}
use Rattle.dd_model.specs.Symbol.{op}
use Rattle.dd_lattice.proofs.GrowLemmas.{looked_round, looked_over}
use Rattle.dd_lattice.proofs.growth.Growing.look.Goals as goal

pub returns-in_ok-take-3 : goal.returns-in_ok-take-3
returns-in_ok-take-3 c first growing reached =
    let t = c.args.crossing.now.symbol.now in
    looked_over t c.args.crossing.now.small.symbol.table.involutions first c.args.chamber c.requires.chamber c.args.self.now.met.items c.args.self.now.steps.items growing reached
    _ _ c.take.new.self.met.items c.take-2.new.self.met.items c.take.new.self.steps.items c.take-2.new.self.steps.items c.in_ok-take.ensures c.in_ok-take-2.ensures
    (record { from = refl; to = c.op-2.ensures.image ∙ ap (op t One) c.op.ensures.image; crosses = refl })
    (record { from = refl; to = c.op-4.ensures.image ∙ ap (op t Zero) c.op-3.ensures.image; crosses = refl })
    c.if-has.ensures.yes _ c.take-then-has.new.self.met.items c.take-then-has.new.self.steps.items c.in_ok-take-3.ensures
    (record { from = refl; to = c.op-then-has-2.ensures.image ∙ ap (op t Zero) c.op-then-has.ensures.image; crosses = refl })

pub returns-else-has : goal.returns-else-has
returns-else-has c first growing reached =
    let t = c.args.crossing.now.symbol.now in
    looked_round t c.args.crossing.now.small.symbol.table.involutions first c.args.chamber c.requires.chamber c.args.self.now.met.items c.args.self.now.steps.items growing reached
    _ _ c.take.new.self.met.items c.take-2.new.self.met.items c.take.new.self.steps.items c.take-2.new.self.steps.items c.in_ok-take.ensures c.in_ok-take-2.ensures
    (record { from = refl; to = c.op-2.ensures.image ∙ ap (op t One) c.op.ensures.image; crosses = refl })
    (record { from = refl; to = c.op-4.ensures.image ∙ ap (op t Zero) c.op-3.ensures.image; crosses = refl })
    c.if-has.ensures.no
