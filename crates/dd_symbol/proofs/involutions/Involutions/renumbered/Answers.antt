use Rattle.std.proofs.Common.{refl, subst, arith}
use Rattle.dd_model.specs.Symbol.{item, op}
use Rattle.dd_symbol.specs.Rows.{HasRows}
use Rattle.dd_symbol.proofs.TableLemmas.{pushed_row}
use Rattle.dd_symbol.proofs.RenumberLemmas.{carried_rows, three_carried}
use Rattle.dd_symbol.proofs.involutions.Involutions.renumbered.Goals as goal

pub loop-k-preserved : goal.loop-k-preserved
loop-k-preserved c =
    pushed_row (λ i e. item c.args.map.now (op c.args.self.now i (item c.args.back.now e))) c.loop-k.k c.loop-k.numbers c.push_row.new.self
    c.carried.result _ _ _ c.loop-k.invariant c.in_ok-push_row.ensures c.carried.ensures refl refl refl

pub invariant_of-result-2 : goal.invariant_of-result-2
invariant_of-result-2 c =
    let s = c.args.self.now in
    let rows = subst (λ k. HasRows (λ i e. item c.args.map.now (op s i (item c.args.back.now e))) k c.loop-k.numbers) (omega arith) c.loop-k.invariant in
    three_carried s c.args.map.now c.args.back.now c.loop-k.numbers c.size-2.result c.size-2.ensures.three c.requires.maps c.size-2.ensures.size rows

pub returns-clause-carried : goal.returns-clause-carried
returns-clause-carried c =
    let s = c.args.self.now in
    let rows = subst (λ k. HasRows (λ i e. item c.args.map.now (op s i (item c.args.back.now e))) k c.loop-k.numbers) (omega arith) c.loop-k.invariant in
    carried_rows s c.args.map.now c.args.back.now c.loop-k.numbers c.size-2.result c.size-2.ensures.size rows

pub returns-clause-three : goal.returns-clause-three
returns-clause-three c =
    let s = c.args.self.now in
    let rows = subst (λ k. HasRows (λ i e. item c.args.map.now (op s i (item c.args.back.now e))) k c.loop-k.numbers) (omega arith) c.loop-k.invariant in
    three_carried s c.args.map.now c.args.back.now c.loop-k.numbers c.size-2.result c.size-2.ensures.three c.requires.maps c.size-2.ensures.size rows
