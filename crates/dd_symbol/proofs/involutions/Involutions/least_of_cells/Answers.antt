use Rattle.std.proofs.Common.{◌≡◌, ◌+◌, sym, ap, ◌∙◌, subst, arith}
use Rattle.dd_model.specs.Symbol.{item}
use Rattle.dd_symbol.proofs.CellMarks.{IsFilled, filled_already, filled_more}
use Rattle.dd_symbol.proofs.involutions.Involutions.least_of_cells.Goals as goal
use Rattle.dd_symbol.proofs.involutions.Involutions.least_of_cells.Goals.{then-item-eq0, else-item-eq0}

pub loop-k-preserved : goal.loop-k-preserved
loop-k-preserved c =
    let s = c.args.self.now in
    let p = c.args.pair in
    let k = c.loop-k.k in
    let least = c.loop-k.least.items in
    let read : c.item.result ≡ item least (k + 1) = c.item.ensures ∙ ap (λ xs. item xs (k + 1)) c.deref.ensures.value in
    elim c.if-item-eq0.branch [
      | then-item-eq0 w ↦
          subst (λ v. IsFilled s p (k + 1) v.items) (sym w.least-is)
          (filled_more s c.size.ensures.three.involutions p k least w.mark_cell.new.marks.items c.loop-k.invariant (omega arith, omega arith) (sym read ∙ w.if-item-eq0.true)
          w.mark_cell.ensures.length (λ e there. w.mark_cell.ensures.cell e there 0) (λ e he out. w.mark_cell.ensures.others e he out 0))
      | else-item-eq0 w ↦
          subst (λ v. IsFilled s p (k + 1) v.items) (sym w.least-is)
          (filled_already s p k least c.loop-k.invariant (omega arith) (λ none. w.if-item-eq0.false (read ∙ none)))
    ]
