use Rattle.std.proofs.Common.{refl, sym, subst}
use Rattle.dd_check.specs.Texts.{texts}
use Rattle.dd_check.specs.Rows.{IsSetRow}
use Rattle.dd_check.specs.Sets.{AreItems}
use Rattle.dd_check.proofs.RowFaults.{out_of_range}
use Rattle.dd_check.proofs.lines.set_at.Goals as goal

pub returns-then-not-are_items-clause-fault : goal.returns-then-not-are_items-clause-fault
returns-then-not-are_items-clause-fault c _ =
    let row = rw c.in-Some.is at c.in_ok-items.ensures in
    out_of_range _ _ _ _ (texts c.in_ok-words.words.items) c.in-Some.items.items _ refl c.in_ok-words.ensures.words
    (subst (λ ws. IsSetRow c.args.key.now (texts ws) c.in-Some.items.items) c.deref.ensures.value row)
    (λ h. let holds = c.are_items.ensures.1 (subst AreItems (sym c.as_slice-items.ensures.value) h) in let fails = c.if-not-are_items.true in cc)
