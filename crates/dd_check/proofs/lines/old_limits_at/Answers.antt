use Rattle.std.proofs.Common.{refl, subst}
use Rattle.dd_check.specs.Texts.{texts}
use Rattle.dd_check.specs.Rows.{IsOldLimitsRow}
use Rattle.dd_check.proofs.RowFaults.{out_of_range}
use Rattle.dd_check.proofs.lines.old_limits_at.Goals as goal

pub returns-then-not-are_old_limits-clause-fault : goal.returns-then-not-are_old_limits-clause-fault
returns-then-not-are_old_limits-clause-fault c _ =
    out_of_range _ _ _ _ (texts c.in_ok-words.words.items) c.in-Some.limits _ refl c.in_ok-words.ensures.words
    (subst (λ ws. IsOldLimitsRow (texts ws) c.in-Some.limits) c.deref.ensures.value c.in-Some.ensures)
    (λ h. let holds = c.are_old_limits.ensures.1 h in let fails = c.if-not-are_old_limits.true in cc)
