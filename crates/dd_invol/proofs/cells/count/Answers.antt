use Rattle.std.proofs.Common.{◌≡◌, ◌+◌, sym, subst, arith}
use Rattle.dd_model.proofs.CellLists.{cells_exist}
use Rattle.dd_symbol.specs.Images.{of_rows}
use Rattle.dd_cells.proofs.CountLemmas.{IsCount, one_more, none_more, whole_count}
use Rattle.dd_invol.proofs.cells.count.Goals as goal
use Rattle.dd_invol.proofs.cells.count.Goals.{then-is_least_of_cell, else-is_least_of_cell}

pub loop-k-preserved : goal.loop-k-preserved
loop-k-preserved c =
    let s = of_rows c.args.size c.args.images.now in
    let p = c.args.pair in
    let k = c.loop-k.k in
    elim c.if-is_least_of_cell.branch [
      | then-is_least_of_cell w ↦
          subst (IsCount s p (k + 1)) (sym w.cells-is)
          (one_more s p k c.loop-k.cells c.loop-k.invariant (c.is_least_of_cell.ensures.0 w.if-is_least_of_cell.true))
      | else-is_least_of_cell w ↦
          subst (IsCount s p (k + 1)) (sym w.cells-is)
          (none_more s p k c.loop-k.cells c.loop-k.invariant
          (λ least. let yes = c.is_least_of_cell.ensures.1 least in let no = w.if-is_least_of_cell.false in (cc)))
    ]

pub returns-clause-cells : goal.returns-clause-cells
returns-clause-cells c chambers are =
    let s = of_rows c.args.size c.args.images.now in
    let p = c.args.pair in
    let whole : c.loop-k.k ≡ s.size = omega arith in
    whole_count s p c.loop-k.cells (subst (λ k. IsCount s p k c.loop-k.cells) whole c.loop-k.invariant) chambers are

pub returns-clause-exist : goal.returns-clause-exist
returns-clause-exist c = cells_exist (of_rows c.args.size c.args.images.now) c.requires.involutions c.args.pair
