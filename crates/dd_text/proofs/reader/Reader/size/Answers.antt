use Rattle.std.proofs.Common.{arith, inl, inr}
use Rattle.std.proofs.lemmas.Result.{err_from_is_err_and}
use Rattle.dd_text.proofs.SizeReads.{size_fault, size_only, no_dimension, no_colon, size_and_dimension}
use Rattle.dd_text.proofs.reader.Reader.size.Goals as goal
use Rattle.dd_text.proofs.reader.Reader.size.Goals.{then-size-eq0-via-then-size-eq0, then-size-eq0-via-else-size-eq0+then-size-gt-MOST_CHAMBERS}

pub returns-then-size-eq0-clause-why : goal.returns-then-size-eq0-clause-why
returns-then-size-eq0-clause-why c =
    size_fault _ _ _ _ c.in_ok-size.ensures.ok
    (elim c.then-size-eq0.branch [
      | then-size-eq0-via-then-size-eq0 w ↦ inl (omega arith)
      | then-size-eq0-via-else-size-eq0+then-size-gt-MOST_CHAMBERS w ↦ inr (omega arith)
    ])

pub returns-then-is_sign-clause-ok : goal.returns-then-is_sign-clause-ok
returns-then-is_sign-clause-ok c = size_only _ _ _ _ c.in_ok-size.ensures.ok (omega arith) (omega arith) (c.is_sign.ensures.0 c.if-is_sign.true)

pub returns-in_err-dimension-clause-why : goal.returns-in_err-dimension-clause-why
returns-in_err-dimension-clause-why c =
    let p = err_from_is_err_and c.from_residual-in_err-dimension.result c.from_residual-in_err-dimension.ensures.1 in
    rw (p.1, p.2) (no_dimension _ _ _ _ _ c.in_ok-size.ensures.ok (omega arith) (omega arith) (λ e. cc (c.is_sign.ensures.1 e, c.if-is_sign.false)) c.in_err-dimension.ensures.why)

pub returns-in_err-expect_sign-clause-why : goal.returns-in_err-expect_sign-clause-why
returns-in_err-expect_sign-clause-why c =
    let p = err_from_is_err_and c.from_residual-in_err-expect_sign.result c.from_residual-in_err-expect_sign.ensures.1 in
    rw (p.1, p.2) (no_colon _ _ _ _ _ _ _ _ c.in_ok-size.ensures.ok (omega arith) (omega arith) c.in_ok-dimension.ensures.ok (omega arith) c.part.ensures c.in_err-expect_sign.ensures.why)

pub returns-clause-ok : goal.returns-clause-ok
returns-clause-ok c =
    size_and_dimension _ _ _ _ _ _ _ c.in_ok-size.ensures.ok (omega arith) (omega arith) c.in_ok-dimension.ensures.ok (omega arith) c.part.ensures c.in_ok-expect_sign.ensures.ok
