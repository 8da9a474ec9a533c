use Rattle.std.proofs.Common.{refl, subst}
use Rattle.dd_check.specs.Texts.{texts}
use Rattle.dd_check.specs.Rows.{IsNumberRow}
use Rattle.dd_check.proofs.RowFaults.{out_of_range}
use Rattle.dd_check.proofs.lines.number_at.Goals as goal

pub returns-then-not-is_from_to-clause-fault : goal.returns-then-not-is_from_to-clause-fault
returns-then-not-is_from_to-clause-fault c _ =
    out_of_range _ _ _ _ (texts c.in_ok-words.words.items) c.in-Some.number _ refl c.in_ok-words.ensures.words
    (subst (λ ws. IsNumberRow c.args.key.now (texts ws) c.in-Some.number) c.deref.ensures.value c.in-Some.ensures)
    (λ h. let holds = c.is_from_to.ensures.1 h in let fails = c.if-not-is_from_to.true in cc)
