use Rattle.std.proofs.lemmas.Result.{err_from_is_err_and}
use Rattle.dd_text.proofs.HeadReads.{no_first, no_second, no_colon, no_size, whole_head}
use Rattle.dd_text.proofs.reader.Reader.head.Goals as goal

pub returns-in_err-first-clause-why : goal.returns-in_err-first-clause-why
returns-in_err-first-clause-why c =
    let p = err_from_is_err_and c.from_residual.result c.from_residual.ensures.1 in
    rw (p.1, p.2) (no_first _ _ _ _ c.part.ensures c.in_err-first.ensures.why)

pub returns-in_err-number-clause-why : goal.returns-in_err-number-clause-why
returns-in_err-number-clause-why c =
    let p = err_from_is_err_and c.from_residual-in_err-number.result c.from_residual-in_err-number.ensures.1 in
    rw (p.1, p.2) (no_second _ _ _ _ _ _ _ _ _ _ c.part.ensures c.in_ok-first.ensures.ok c.part-next.ensures (c.is_sign.ensures.0 c.if-not-is_sign.false)
    c.part-2.ensures c.in_err-number.ensures.why)

pub returns-in_err-expect_sign-clause-why : goal.returns-in_err-expect_sign-clause-why
returns-in_err-expect_sign-clause-why c =
    let p = err_from_is_err_and c.from_residual-in_err-expect_sign.result c.from_residual-in_err-expect_sign.ensures.1 in
    rw (p.1, p.2) (no_colon _ _ _ _ _ _ _ _ _ _ _ _ _ c.part.ensures c.in_ok-first.ensures.ok c.part-next.ensures (c.is_sign.ensures.0 c.if-not-is_sign.false)
    c.part-2.ensures c.in_ok-number.ensures.ok c.part-3.ensures c.in_err-expect_sign.ensures.why)

pub returns-in_err-size-clause-why : goal.returns-in_err-size-clause-why
returns-in_err-size-clause-why c =
    let p = err_from_is_err_and c.from_residual-in_err-size.result c.from_residual-in_err-size.ensures.1 in
    rw (p.1, p.2) (no_size _ _ _ _ _ _ _ _ _ _ _ _ _ _ _ _ c.part.ensures c.in_ok-first.ensures.ok c.part-next.ensures (c.is_sign.ensures.0 c.if-not-is_sign.false)
    c.part-2.ensures c.in_ok-number.ensures.ok c.part-3.ensures c.in_ok-expect_sign.ensures.ok c.part-4.ensures c.in_err-size.ensures.why)

pub returns-clause-ok : goal.returns-clause-ok
returns-clause-ok c =
    whole_head _ _ _ _ _ _ _ _ _ _ _ _ _ _ _ _ _ _ c.part.ensures c.in_ok-first.ensures.ok c.part-next.ensures (c.is_sign.ensures.0 c.if-not-is_sign.false)
    c.part-2.ensures c.in_ok-number.ensures.ok c.part-3.ensures c.in_ok-expect_sign.ensures.ok c.part-4.ensures c.in_ok-size.ensures.ok c.part-5.ensures
