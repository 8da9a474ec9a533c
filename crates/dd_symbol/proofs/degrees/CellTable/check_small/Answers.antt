use Rattle.std.proofs.Common.{◌+◌, sym, subst, arith}
use Rattle.dd_model.specs.Symbol.{IsChamber}
use Rattle.dd_model.proofs.Branching.{branching_unique}
use Rattle.dd_symbol.specs.Table.{symbol_of}
use Rattle.dd_symbol.specs.Cells.{IsLeastFor, AreLeast}
use Rattle.dd_symbol.specs.Causes.{PairBefore}
use Rattle.dd_symbol.specs.Conditions.{IsSmall, OfBoth, AreSmall, AreConstant, AreMultiples, HasDegreeOfCell}
use Rattle.dd_symbol.proofs.DegreeLemmas.{at_more, test_more, of_both, small-along_cell}
use Rattle.dd_symbol.proofs.degrees.CellTable.check_small.Goals as goal
use Rattle.dd_symbol.proofs.degrees.CellTable.check_small.Goals.{then-item-chamber+else-v-gt-LARGEST_BRANCHING, else-item-chamber}

pub branching-v-requires-clause-multiple : goal.branching-v-requires-clause-multiple
branching-v-requires-clause-multiple c =
    let s = symbol_of c.self.inside.table.now in
    let before : PairBefore (AreSmall s) c.args.pair = rw c.self.view_is c.requires.before in
    let both : OfBoth (AreMultiples s) = rw c.self.view_is c.requires.multiples in
    of_both (AreMultiples s) (AreSmall s) c.args.pair before both (c.loop-k.k + 1) (omega arith, omega arith)

pub returns-then-v-gt-LARGEST_BRANCHING-clause-why : goal.returns-then-v-gt-LARGEST_BRANCHING-clause-why
returns-then-v-gt-LARGEST_BRANCHING-clause-why c =
    rw (← c.self.view_is)
    (record {
      table = c.self.invariant.table;
      positive = c.self.invariant.positive;
      constant = rw c.self.view_is c.requires.constant;
      multiples = rw c.self.view_is c.requires.multiples;
      before = rw c.self.view_is c.requires.before;
      value = c.branching-v.ensures;
      first = record { chamber = (omega arith, omega arith); fails = omega arith; before = λ e he below. c.loop-k.invariant e he (omega arith) };
    })

pub loop-k-preserved : goal.loop-k-preserved
loop-k-preserved c =
    let s = symbol_of c.self.inside.table.now in
    let p = c.args.pair in
    let k = c.loop-k.k in
    let inv = c.self.invariant.table.involutions in
    let h : IsChamber s (k + 1) = (omega arith, omega arith) in
    let least : AreLeast s p c.least-least.result.now = rw c.self.view_is c.least-least.ensures.least in
    let is : IsLeastFor s p (k + 1) c.item.result = subst (IsLeastFor s p (k + 1)) (sym c.item.ensures) (least.each (k + 1) h) in
    let before : PairBefore (AreSmall s) p = rw c.self.view_is c.requires.before in
    let both : OfBoth (AreConstant s) = rw c.self.view_is c.requires.constant in
    let constant : HasDegreeOfCell s p (k + 1) = of_both (AreConstant s) (AreSmall s) p before both (k + 1) h in
    at_more s (IsSmall s p) k c.loop-k.invariant
    (elim c.if-item-chamber.branch [
      | then-item-chamber+else-v-gt-LARGEST_BRANCHING w ↦
          λ v b. let same = branching_unique s p (k + 1) v w.branching-v.result b w.branching-v.ensures in let low = w.if-v-gt-LARGEST_BRANCHING.false in omega arith
      | else-item-chamber w ↦
          test_more s inv (IsSmall s p) p k c.item.result c.loop-k.invariant h is w.if-item-chamber.false
          (small-along_cell s inv p (k + 1) c.item.result h constant is)
    ])

pub returns-clause-small : goal.returns-clause-small
returns-clause-small c = rw (← c.self.view_is) (λ d h. c.loop-k.invariant d h (let high = h.1 in omega arith))
