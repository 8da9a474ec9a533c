use Rattle.std.proofs.Common.{◌+◌, ◌%◌, sym, ap, ◌∙◌, subst, arith}
use Rattle.dd_model.specs.Symbol.{IsChamber}
use Rattle.dd_model.proofs.Turns.{IsLeastTurns-from_period}
use Rattle.dd_symbol.specs.Table.{symbol_of}
use Rattle.dd_symbol.specs.Cells.{IsLeastFor, AreLeast}
use Rattle.dd_symbol.specs.Causes.{PairBefore}
use Rattle.dd_symbol.specs.Conditions.{IsMultiple, OfBoth, AreMultiples, AreConstant, HasDegreeOfCell}
use Rattle.dd_symbol.proofs.DegreeLemmas.{at_more, test_more, of_both, multiple-along, multiple-from_period}
use Rattle.dd_symbol.proofs.degrees.CellTable.check_multiples.Goals as goal
use Rattle.dd_symbol.proofs.degrees.CellTable.check_multiples.Goals.{then-item-chamber+else-m-r-ne0, else-item-chamber}

pub returns-then-m-r-ne0-clause-why : goal.returns-then-m-r-ne0-clause-why
returns-then-m-r-ne0-clause-why c =
    let s = symbol_of c.self.inside.table.now in
    let d = c.loop-k.k + 1 in
    let h : IsChamber s d = (omega arith, omega arith) in
    rw (← c.self.view_is)
    (record {
      table = c.self.invariant.table;
      positive = c.self.invariant.positive;
      constant = rw c.self.view_is c.requires.constant;
      before = rw c.self.view_is c.requires.before;
      degree = c.degree-m.ensures;
      turns = IsLeastTurns-from_period s c.self.invariant.table.involutions c.args.pair d c.period-r.result h c.period-r.ensures.period;
      first = record { chamber = h; fails = c.if-m-r-ne0.true; before = λ e he below. c.loop-k.invariant e he (omega arith) };
    })

pub loop-k-preserved : goal.loop-k-preserved
loop-k-preserved c =
    let s = symbol_of c.self.inside.table.now in
    let p = c.args.pair in
    let k = c.loop-k.k in
    let inv = c.self.invariant.table.involutions in
    let h : IsChamber s (k + 1) = (omega arith, omega arith) in
    let least : AreLeast s p c.least-least.result.now = rw c.self.view_is c.least-least.ensures.least in
    let is : IsLeastFor s p (k + 1) c.item.result = subst (IsLeastFor s p (k + 1)) (sym c.item.ensures) (least.each (k + 1) h) in
    let before : PairBefore (AreMultiples s) p = rw c.self.view_is c.requires.before in
    let both : OfBoth (AreConstant s) = rw c.self.view_is c.requires.constant in
    let constant : HasDegreeOfCell s p (k + 1) = of_both (AreConstant s) (AreMultiples s) p before both (k + 1) h in
    at_more s (IsMultiple s p) k c.loop-k.invariant
    (elim c.if-item-chamber.branch [
      | then-item-chamber+else-m-r-ne0 w ↦
          multiple-from_period s inv p (k + 1) w.period-r.result h w.period-r.ensures.period (ap (λ m. m % w.period-r.result) (sym w.degree-m.ensures) ∙ w.if-m-r-ne0.false)
      | else-item-chamber w ↦
          test_more s inv (IsMultiple s p) p k c.item.result c.loop-k.invariant h is w.if-item-chamber.false
          (multiple-along s inv p (k + 1) c.item.result h constant is)
    ])
