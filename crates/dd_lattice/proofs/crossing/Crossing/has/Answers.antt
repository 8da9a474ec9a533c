use Rattle.std.proofs.Common.{◌-◌, ◌<◌, false, sym, subst, arith}
use Rattle.std.proofs.lemmas.List.{get_or_read}
use Rattle.std.specs.Bool.{OnTrue, OnFalse}
use Rattle.dd_lattice.specs.Steps.{IsCrossingAt}
use Rattle.dd_lattice.proofs.GrowLemmas.{on_true, on_false, crossing_at, not_crossing_at}
use Rattle.dd_lattice.proofs.crossing.Crossing.has.Goals as goal

pub returns-clause-yes : goal.returns-clause-yes
returns-clause-yes c =
    let t = c.args.self.now.symbol.now in
    let flags = c.args.self.now.flags.items in
    let least = c.cell-least.ensures.least in
    let low = least.is_least.0.0 in
    let high = least.is_least.0.1 in
    let whole = c.args.self.now.are_crossing.whole in
    subst (λ b. OnTrue b (IsCrossingAt t c.args.chamber)) (sym (get_or_read flags (c.cell-least.result.least - 1) c.index.result.now (omega arith) c.index.ensures false))
    (on_true _ _ (crossing_at t c.args.self.now.small.symbol.table.involutions flags c.args.self.now.are_crossing c.args.chamber c.cell-least.result.least c.requires least))

pub returns-clause-no : goal.returns-clause-no
returns-clause-no c =
    let t = c.args.self.now.symbol.now in
    let flags = c.args.self.now.flags.items in
    let least = c.cell-least.ensures.least in
    let low = least.is_least.0.0 in
    let high = least.is_least.0.1 in
    let whole = c.args.self.now.are_crossing.whole in
    subst (λ b. OnFalse b (IsCrossingAt t c.args.chamber → ⊥)) (sym (get_or_read flags (c.cell-least.result.least - 1) c.index.result.now (omega arith) c.index.ensures false))
    (on_false _ _ (not_crossing_at t flags c.args.self.now.are_crossing c.args.chamber c.cell-least.result.least least))
