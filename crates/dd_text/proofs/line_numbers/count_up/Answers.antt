use Rattle.std.proofs.Common.{◌+◌, ◌-◌, sym, subst, length-set, ◌∙◌, arith}
use Rattle.dd_text.specs.Numbered.{IsNumbered}
use Rattle.dd_text.proofs.CountingUp.{counted, carry_on, longer}
use Rattle.dd_text.proofs.line_numbers.count_up.Goals as goal

pub returns-then-index-lt57 : goal.returns-then-index-lt57
returns-then-index-lt57 c k rest small is =
    counted k rest c.loop-place.place c.loop-place.text.items c.args.end c.index.result.now c.index_mut.result.now
    (c.loop-place.invariant.carrying k rest small is) small c.loop-place-test.true c.index.ensures c.if-index-lt57.true c.index_mut.ensures.value is.end_is

pub loop-place-preserved : goal.loop-place-preserved
loop-place-preserved c =
    let text = c.loop-place.text.items in
    let i = c.loop-place.invariant in
    let some = c.loop-place-test.true in
    let within = i.within in
    record {
      some = omega arith;
      within = omega arith;
      length = length-set text (c.loop-place.place - 1) 48 ∙ i.length;
      carrying = λ k rest small is. carry_on k rest c.loop-place.place text c.index.result.now (i.carrying k rest small is) small some c.index.ensures c.if-index-lt57.false;
    }

pub returns : goal.returns
returns c k rest small is =
    subst (λ text. IsNumbered (k + 1) rest text (c.args.end + 1)) (sym c.in_ok-insert.ensures.items)
    (longer k rest c.loop-place.place c.loop-place.text.items c.args.end (c.loop-place.invariant.carrying k rest small is) small c.loop-place-test.false is.end_is)
