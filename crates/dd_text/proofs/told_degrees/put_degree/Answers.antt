use Rattle.std.proofs.Common.{◌++◌, ◌∙◌, refl, ap, arith}
use Rattle.dd_text.proofs.Digits.{one_digit, two_digits, three_digits, two_pushed, three_pushed}
use Rattle.dd_text.proofs.told_degrees.put_degree.Goals as goal

pub returns-then-degree-lt10-clause-degree : goal.returns-then-degree-lt10-clause-degree
returns-then-degree-lt10-clause-degree c =
    c.push_reserved.ensures.items ∙ ap (λ t. c.args.out.now.items ++ t) (one_digit c.args.degree _ c.if-degree-lt10.true refl)

pub returns-then-degree-lt100-clause-degree : goal.returns-then-degree-lt100-clause-degree
returns-then-degree-lt100-clause-degree c =
    two_pushed c.args.out.now.items _ _ _ _ _ c.push_reserved-then-degree-lt100.ensures.items c.push_reserved-then-degree-lt100-2.ensures.items
    (two_digits c.args.degree _ _ c.if-degree-lt10.false c.if-degree-lt100.true refl refl)

pub returns-clause-degree : goal.returns-clause-degree
returns-clause-degree c =
    let fits = c.ranges.degree.fits in
    three_pushed c.args.out.now.items _ _ _ _ _ _ _ c.push_reserved-2.ensures.items c.push_reserved-3.ensures.items c.push_reserved-4.ensures.items
    (three_digits c.args.degree _ _ _ c.if-degree-lt100.false (omega arith) refl refl refl)
