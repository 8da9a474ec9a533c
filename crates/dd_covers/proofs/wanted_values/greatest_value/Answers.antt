use Rattle.std.proofs.Common.{◌≡◌, ap, ◌∙◌, subst, arith}
use Rattle.dd_model.specs.Cell.{IsBranching}
use Rattle.dd_model.specs.Symbol.{Symbol}
use Rattle.dd_model.specs.declared.pair.Pair.TheVariants.{Tile}
use Rattle.dd_covers.proofs.WantLemmas.{greatest_first, greatest_last}
use Rattle.dd_covers.proofs.wanted_values.greatest_value.Goals as goal

pub loop-j-init : goal.loop-j-init
loop-j-init c =
    let some = c.symbol-symbol.ensures.symbol.symbol.table.chambers in
    greatest_first c.args.s.now c.branching-greatest.result (omega arith, omega arith)
    (subst (λ t. IsBranching t Tile 1 c.branching-greatest.result) c.symbol-symbol.ensures.same c.branching-greatest.ensures)

pub returns : goal.returns
returns c =
    let size = c.size-j-end.ensures.size ∙ ap (λ (t : Symbol). t.size) c.symbol-symbol.ensures.same in
    let e : c.loop-j.j ≡ c.args.s.now.size = omega arith in
    greatest_last c.args.s.now c.loop-j.j c.loop-j.greatest e c.loop-j.invariant
