use Rattle.std.proofs.Common.{◌≡◌, ◌<◌, ◌++◌, ◌∷◌, [], get_or, sym, ◌∙◌, ap, arith}
use Rattle.std.proofs.lemmas.List.{take_more, take_all, get_or_default}
use Rattle.dd_model.proofs.Lists.{each_of}
use Rattle.dd_front.proofs.emission.bytes_of.Goals as goal

pub overflow_cast-number : goal.overflow_cast-number
overflow_cast-number c =
    let numbers = c.args.numbers.now in
    let i = c.loop-number.number-index in
    let low = c.loop-number-test.true in
    let number = get_or numbers i 0 in
    let small = each_of (λ n. n < 256) numbers number c.requires (i, low, sym (get_or_default numbers i 0 number low)) in
    omega (arith, small)

pub loop-number-preserved : goal.loop-number-preserved
loop-number-preserved c =
    let numbers = c.args.numbers.now in
    let i = c.loop-number.number-index in
    c.in_ok-push.ensures.items ∙ ap (λ xs. xs ++ get_or numbers i 0 ∷ []) c.loop-number.invariant ∙ sym (take_more numbers i 0 c.loop-number-test.true)

pub returns : goal.returns
returns c = c.loop-number.invariant ∙ take_all c.loop-number.number-index c.args.numbers.now c.loop-number-test.false
