use Rattle.std.proofs.Common.{◌++◌, ◌∷◌, [], ◌∙◌, get_or, ap, sym}
use Rattle.std.proofs.lemmas.List.{take_all, take_more}
use Rattle.std.proofs.lemmas.Result.{IfOk-weaker}
use Rattle.dd_check.proofs.ranges.prefix_of.Goals as goal

pub loop-number-preserved : goal.loop-number-preserved
loop-number-preserved c =
    let k = c.loop-number.number-index in
    c.in_ok-push.ensures.items ∙ ap (λ xs. xs ++ get_or c.args.numbers.now k 0 ∷ []) c.loop-number.invariant ∙ sym (take_more c.args.numbers.now k 0 c.loop-number-test.true)

pub returns : goal.returns
returns c =
    IfOk-weaker c.from_slice.result _ _
    (λ prefix is. is ∙ c.deref.ensures.value ∙ c.loop-number.invariant ∙ take_all c.loop-number.number-index c.args.numbers.now c.loop-number-test.false)
    c.from_slice.ensures
