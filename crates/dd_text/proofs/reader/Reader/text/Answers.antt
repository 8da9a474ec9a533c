use Rattle.std.proofs.Common.{[], ◌∷◌, refl, arith}
use Rattle.std.proofs.lemmas.Result.{err_from_is_err_and}
use Rattle.dd_text.specs.Texts.{told_of}
use Rattle.dd_text.proofs.TextReads.{list_fault, lists_1, lists_2, lists_3, lists_4, text_read}
use Rattle.dd_text.proofs.reader.Reader.text.Goals as goal

pub returns-in_err-s0-clause-why : goal.returns-in_err-s0-clause-why
returns-in_err-s0-clause-why c =
    let p = err_from_is_err_and c.from_residual-in_err-s0.result c.from_residual-in_err-s0.ensures.1 in
    rw (p.1, p.2) (list_fault _ _ _ _ ([]) _ (omega arith) c.in_ok-size.ensures.ok (refl) c.in_err-s0.ensures.why)

pub returns-in_err-s1-clause-why : goal.returns-in_err-s1-clause-why
returns-in_err-s1-clause-why c =
    let p = err_from_is_err_and c.from_residual-in_err-s1.result c.from_residual-in_err-s1.ensures.1 in
    rw (p.1, p.2) (list_fault _ _ _ _ (told_of c.in_ok-s0.s0 ∷ []) _ (omega arith) c.in_ok-size.ensures.ok (lists_1 _ _ _ c.in_ok-s0.ensures.ok) c.in_err-s1.ensures.why)

pub returns-in_err-s2-clause-why : goal.returns-in_err-s2-clause-why
returns-in_err-s2-clause-why c =
    let p = err_from_is_err_and c.from_residual-in_err-s2.result c.from_residual-in_err-s2.ensures.1 in
    rw (p.1, p.2) (list_fault _ _ _ _ (told_of c.in_ok-s0.s0 ∷ told_of c.in_ok-s1.s1 ∷ []) _ (omega arith) c.in_ok-size.ensures.ok (lists_2 _ _ _ _ _ c.in_ok-s0.ensures.ok c.in_ok-s1.ensures.ok) c.in_err-s2.ensures.why)

pub returns-in_err-m01-clause-why : goal.returns-in_err-m01-clause-why
returns-in_err-m01-clause-why c =
    let p = err_from_is_err_and c.from_residual-in_err-m01.result c.from_residual-in_err-m01.ensures.1 in
    rw (p.1, p.2) (list_fault _ _ _ _ (told_of c.in_ok-s0.s0 ∷ told_of c.in_ok-s1.s1 ∷ told_of c.in_ok-s2.s2 ∷ []) _ (omega arith) c.in_ok-size.ensures.ok (lists_3 _ _ _ _ _ _ _ c.in_ok-s0.ensures.ok c.in_ok-s1.ensures.ok c.in_ok-s2.ensures.ok) c.in_err-m01.ensures.why)

pub returns-in_err-m12-clause-why : goal.returns-in_err-m12-clause-why
returns-in_err-m12-clause-why c =
    let p = err_from_is_err_and c.from_residual-in_err-m12.result c.from_residual-in_err-m12.ensures.1 in
    rw (p.1, p.2) (list_fault _ _ _ _ (told_of c.in_ok-s0.s0 ∷ told_of c.in_ok-s1.s1 ∷ told_of c.in_ok-s2.s2 ∷ told_of c.in_ok-m01.m01 ∷ []) _ (omega arith) c.in_ok-size.ensures.ok (lists_4 _ _ _ _ _ _ _ _ _ c.in_ok-s0.ensures.ok c.in_ok-s1.ensures.ok c.in_ok-s2.ensures.ok c.in_ok-m01.ensures.ok) c.in_err-m12.ensures.why)

pub returns-clause-ok : goal.returns-clause-ok
returns-clause-ok c = text_read _ _ _ _ _ _ _ _ _ c.in_ok-size.ensures.ok refl c.in_ok-s0.ensures.ok c.in_ok-s1.ensures.ok c.in_ok-s2.ensures.ok c.in_ok-m01.ensures.ok c.in_ok-m12.ensures.ok
