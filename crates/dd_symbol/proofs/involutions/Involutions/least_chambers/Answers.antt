use Rattle.std.proofs.Common.{◌≡◌, ◌+◌, ◌-◌, ◌<◌, length, false, get_or, sym, ap, ◌∙◌, subst, arith}
use Rattle.std.proofs.lemmas.List.{get_or_read}
use Rattle.dd_symbol.proofs.CellMarks.{AreSwept, swept_already, swept_more, all_cells}
use Rattle.dd_symbol.proofs.involutions.Involutions.least_chambers.Goals as goal
use Rattle.dd_symbol.proofs.involutions.Involutions.least_chambers.Goals.{then-not-index+in_ok-push, else-not-index}

pub loop-k-preserved : goal.loop-k-preserved
loop-k-preserved c =
    let s = c.args.self.now in
    let p = c.args.pair in
    let k = c.loop-k.k in
    let i = c.loop-k.invariant in
    let marked = c.loop-k.marked.items in
    let chambers = c.loop-k.chambers.items in
    let whole = i.whole in
    let inside : k < length marked = omega arith in
    let here : k + 1 - 1 ≡ k = omega arith in
    let read : c.index.result.now ≡ get_or marked (k + 1 - 1) false =
    get_or_read marked k c.index.result.now inside c.index.ensures false ∙ ap (λ n. get_or marked n false) (sym here) in
    elim c.if-not-index.branch [
      | then-not-index+in_ok-push w ↦
          subst (λ v. AreSwept s p (k + 1) v.items c.if-not-index.chambers.items) (sym w.marked-is)
          (subst (λ v. AreSwept s p (k + 1) w.mark_cell.new.marks.items v.items) (sym w.chambers-is)
          (subst (AreSwept s p (k + 1) w.mark_cell.new.marks.items) (sym w.in_ok-push.ensures.items)
          (swept_more s c.size.ensures.three.involutions p k marked w.mark_cell.new.marks.items chambers i (omega arith, omega arith)
          (λ is. let e = read ∙ is in let f = w.if-not-index.true in cc)
          w.mark_cell.ensures.length (λ e there. w.mark_cell.ensures.cell e there false) (λ e h out. w.mark_cell.ensures.others e h out false))))
      | else-not-index w ↦
          subst (λ v. AreSwept s p (k + 1) v.items c.if-not-index.chambers.items) (sym w.marked-is)
          (subst (λ v. AreSwept s p (k + 1) marked v.items) (sym w.chambers-is)
          (swept_already s p k marked chambers i (omega arith, omega arith) (sym read ∙ w.if-not-index.false)))
    ]

pub returns : goal.returns
returns c = all_cells c.args.self.now c.args.pair c.loop-k.k c.loop-k.chambers.items c.loop-k.invariant.cells (omega arith)
