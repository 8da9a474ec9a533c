use Rattle.std.proofs.Common.{◌≡◌, ◌+◌, ◌<◌, length, get_or, refl, inl, ap, sym, subst, arith}
use Rattle.std.proofs.lemmas.List.{get_or_read}
use Rattle.dd_model.specs.Symbol.{IsChamber}
use Rattle.dd_lattice.specs.declared.growth.Growing.{Growing}
use Rattle.dd_lattice.specs.declared.step.Step.{Step}
use Rattle.dd_lattice.proofs.GrowLemmas.{IsGrownTo, grown_first, grown_more, grown_past, next_reached, step_within, whole_tree}
use Rattle.dd_lattice.proofs.growth.steps_from.Goals.{then-k-len+in_ok-look-2, else-k-len}
use Rattle.dd_lattice.proofs.growth.steps_from.Goals as goal

pub loop-k-init : goal.loop-k-init
loop-k-init c =
    let first = c.in_ok-tree.ensures in
    grown_first c.args.crossing.now.symbol.now c.args.first c.look.new.self.met.items c.in_ok-tree.tree.steps.items c.look.new.self.steps.items (c.in_ok-look.ensures c.args.first first (inl refl))

pub look-requires-then-k-len-clause-chamber : goal.look-requires-then-k-len-clause-chamber
look-requires-then-k-len-clause-chamber c =
    let grown = c.loop-k.invariant in
    let xs = c.loop-k.tree.steps.items in
    let inside : c.loop-k.k < length xs = omega (arith, c.if-k-len.true) in
    subst (λ (x : Step). IsChamber c.args.crossing.now.symbol.now x.to) (sym c.index.ensures)
    (step_within c.args.crossing.now.symbol.now c.args.crossing.now.small.symbol.table.involutions (get_or xs c.loop-k.k c.index.result.now) (grown.growing.tree.each c.loop-k.k c.index.result.now inside))

pub loop-k-preserved : goal.loop-k-preserved
loop-k-preserved c =
    let t = c.args.crossing.now.symbol.now in
    let first = c.args.first in
    let k = c.loop-k.k in
    let met = c.loop-k.tree.met.items in
    let steps = c.loop-k.tree.steps.items in
    let grown = c.loop-k.invariant in
    elim c.if-k-len.branch [
      | then-k-len+in_ok-look-2 w ↦
          let inside : k < length steps = omega (arith, w.if-k-len.true) in
          let leads : (e : Step) → (get_or steps k e).to ≡ w.index.result.now.to = λ e. ap (λ (x : Step). x.to) (sym (get_or_read steps k w.index.result.now inside w.index.ensures e)) in
          let looked = w.in_ok-look-2.ensures first grown.growing (next_reached t first k met steps grown inside w.index.result.now.to leads) in
          subst (λ (tree : Growing). IsGrownTo t first (k + 1) tree.met.items tree.steps.items) (sym w.tree-is)
          (grown_more t first k met steps grown inside w.index.result.now.to leads w.look-then-k-len.new.self.met.items w.look-then-k-len.new.self.steps.items looked)
      | else-k-len w ↦
          subst (λ (tree : Growing). IsGrownTo t first (k + 1) tree.met.items tree.steps.items) (sym w.tree-is)
          (grown_past t first k met steps grown (omega (arith, w.if-k-len.false)))
    ]

pub returns : goal.returns
returns c =
    let size = c.size-k-end.ensures.size in
    let end = c.loop-k-test.false in
    whole_tree c.args.crossing.now.symbol.now c.args.first c.loop-k.k c.loop-k.tree.met.items c.loop-k.tree.steps.items c.loop-k.invariant (omega arith)
