use Rattle.std.proofs.Common.{◌≡◌, sym, ap, ◌∙◌, subst, arith}
use Rattle.dd_model.specs.Symbol.{first, second, item, op}
use Rattle.dd_model.specs.Cell.{InCell, IsPeriod}
use Rattle.dd_model.proofs.CellWalks.{in_cell-refl, in_cell-first, in_cell-second}
use Rattle.dd_symbol.proofs.CellShapes.{period_across}
use Rattle.dd_symbol.proofs.involutions.Involutions.following_period.Goals as goal

pub returns-then-first-chamber : goal.returns-then-first-chamber
returns-then-first-chamber c =
    let s = c.args.self.now in
    let p = c.args.pair in
    let d = c.args.chamber in
    let e = c.op-first.result in
    let image : e ≡ op s (first p) d = c.op-first.ensures.image ∙ ap (λ i. op s i d) c.first.ensures in
    let there = subst (InCell s p d) (sym image) (in_cell-first s p d d (in_cell-refl s p d)) in
    let inside = c.op-first.ensures.chamber in
    let smaller = c.if-first-chamber.true in
    subst (IsPeriod s p d) (sym c.item.ensures)
    (period_across s c.op-first.ensures.three.involutions p d e (item c.args.periods.now e) c.requires.chamber inside there (c.requires.before e inside.0 (omega (arith, smaller))))

pub returns-then-second-chamber : goal.returns-then-second-chamber
returns-then-second-chamber c =
    let s = c.args.self.now in
    let p = c.args.pair in
    let d = c.args.chamber in
    let e = c.op-second.result in
    let image : e ≡ op s (second p) d = c.op-second.ensures.image ∙ ap (λ i. op s i d) c.second.ensures in
    let there = subst (InCell s p d) (sym image) (in_cell-second s p d d (in_cell-refl s p d)) in
    let inside = c.op-second.ensures.chamber in
    let smaller = c.if-second-chamber.true in
    subst (IsPeriod s p d) (sym c.item-then-second-chamber.ensures)
    (period_across s c.op-second.ensures.three.involutions p d e (item c.args.periods.now e) c.requires.chamber inside there (c.requires.before e inside.0 (omega (arith, smaller))))
