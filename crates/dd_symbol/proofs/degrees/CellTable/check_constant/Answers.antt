use Rattle.std.proofs.Common.{◌≡◌, ◌+◌, sym, ap, ◌∙◌, subst, arith}
use Rattle.dd_model.specs.Symbol.{IsChamber, degree}
use Rattle.dd_symbol.specs.Table.{symbol_of}
use Rattle.dd_symbol.specs.Cells.{IsLeastFor, AreLeast}
use Rattle.dd_symbol.specs.Conditions.{HasDegreeOfCell}
use Rattle.dd_symbol.proofs.CellMarks.{least_for_unique}
use Rattle.dd_symbol.proofs.DegreeLemmas.{at_more}
use Rattle.dd_symbol.proofs.degrees.CellTable.check_constant.Goals as goal

pub returns-then-degree-clause-why : goal.returns-then-degree-clause-why
returns-then-degree-clause-why c =
    let s = symbol_of c.self.inside.table.now in
    let p = c.args.pair in
    let d = c.loop-k.k + 1 in
    let h : IsChamber s d = (omega arith, omega arith) in
    let least : AreLeast s p c.least-least.result.now = rw c.self.view_is c.least-least.ensures.least in
    rw (← c.self.view_is)
    (record {
      table = c.self.invariant.table;
      positive = c.self.invariant.positive;
      before = rw c.self.view_is c.requires.before;
      first = record {
        chamber = h;
        fails = record {
          least = c.item.result;
          is_least = subst (IsLeastFor s p d) (sym c.item.ensures) (least.each d h);
          other = λ e. c.if-degree.true (c.degree.ensures ∙ e ∙ sym c.degree-in-loop-k.ensures);
        };
        before = λ e he below. c.loop-k.invariant e he (omega arith);
      };
    })

pub loop-k-preserved : goal.loop-k-preserved
loop-k-preserved c =
    let s = symbol_of c.self.inside.table.now in
    let p = c.args.pair in
    let d = c.loop-k.k + 1 in
    let h : IsChamber s d = (omega arith, omega arith) in
    let least : AreLeast s p c.least-least.result.now = rw c.self.view_is c.least-least.ensures.least in
    let own : IsLeastFor s p d c.item.result = subst (IsLeastFor s p d) (sym c.item.ensures) (least.each d h) in
    let same : degree s p d ≡ degree s p c.item.result = sym c.degree.ensures ∙ c.if-degree.false ∙ c.degree-in-loop-k.ensures in
    at_more s (HasDegreeOfCell s p) c.loop-k.k c.loop-k.invariant
    (λ l is. same ∙ ap (degree s p) (least_for_unique s c.self.invariant.table.involutions p d c.item.result l h own is))

pub returns-clause-constant : goal.returns-clause-constant
returns-clause-constant c = rw (← c.self.view_is) (λ d h. c.loop-k.invariant d h (let high = h.1 in omega arith))
