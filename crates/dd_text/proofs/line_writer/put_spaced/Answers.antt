use Rattle.std.proofs.Common.{◌++◌, ◌∷◌, ◌∙◌, ap, arith}
use Rattle.std.proofs.lemmas.Result.{on_ok_weaker}
use Rattle.dd_text.proofs.Digits.{one_digit, two_digits}
use Rattle.dd_text.proofs.line_writer.put_spaced.Goals as goal

pub returns-then-number-lt10 : goal.returns-then-number-lt10
returns-then-number-lt10 c =
    let text = one_digit c.args.number c.digit.result (let small = c.if-number-lt10.true in omega arith) c.digit.ensures in
    on_ok_weaker c.put_bytes.result (λ bytes. bytes ∙ ap (λ t. c.args.out.now.items ++ 32 ∷ t) text) c.put_bytes.ensures.bytes

pub returns-then-number-lt100 : goal.returns-then-number-lt100
returns-then-number-lt100 c =
    let large = c.if-number-lt10.false in
    let text = two_digits c.args.number c.digit-then-number-lt100.result c.digit-then-number-lt100-2.result (omega arith) (let small = c.if-number-lt100.true in omega arith)
    c.digit-then-number-lt100.ensures c.digit-then-number-lt100-2.ensures in
    on_ok_weaker c.put_bytes-then-number-lt100.result (λ bytes. bytes ∙ ap (λ t. c.args.out.now.items ++ 32 ∷ t) text) c.put_bytes-then-number-lt100.ensures.bytes
