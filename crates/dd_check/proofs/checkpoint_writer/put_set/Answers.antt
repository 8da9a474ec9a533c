use Rattle.std.proofs.Common.{◌≡◌, ◌+◌, true, sym, subst, arith}
use Rattle.std.specs.Prelude.{string_bytes}
use Rattle.dd_check.proofs.RunLemmas.{IsWritten, written_at_start, written_on, written_more, written_whole}
use Rattle.dd_check.proofs.checkpoint_writer.put_set.Goals.{then-begins_run+in_ok-put_item, else-begins_run}
use Rattle.dd_check.proofs.checkpoint_writer.put_set.Goals as goal

pub loop-number-init : goal.loop-number-init
loop-number-init c = written_at_start c.args.set.now (string_bytes c.args.text.now)

pub loop-number-preserved : goal.loop-number-preserved
loop-number-preserved c =
    let set = c.args.set.now in
    let n = c.loop-number.number in
    let old = string_bytes c.args.text.now in
    elim c.if-begins_run.branch [
      | then-begins_run+in_ok-put_item w ↦
          let begins = c.begins_run.ensures.0 w.if-begins_run.true in
          let within = w.last_of_run-last.ensures.within in
          let more = written_more set n w.last_of_run-last.result c.loop-number.begun old (string_bytes c.loop-number.text) (string_bytes w.put_item.new.text)
          c.loop-number.auto.number within.0 within.1 begins.1 w.last_of_run-last.ensures.all w.last_of_run-last.ensures.last w.in_ok-put_item.ensures c.loop-number.invariant in
          subst (λ b. IsWritten set (n + 1) b old (string_bytes c.if-begins_run.text)) (sym w.begun-is) (subst (λ o. IsWritten set (n + 1) true old (string_bytes o)) (sym w.text-is) more)
      | else-begins_run w ↦
          let on = written_on set n c.loop-number.begun old (string_bytes c.loop-number.text) c.loop-number.auto.number
          (λ h. let begins = c.begins_run.ensures.1 h in let ends = w.if-begins_run.false in cc) c.loop-number.invariant in
          subst (λ b. IsWritten set (n + 1) b old (string_bytes c.if-begins_run.text)) (sym w.begun-is) (subst (λ o. IsWritten set (n + 1) c.loop-number.begun old (string_bytes o)) (sym w.text-is) on)
    ]

pub returns : goal.returns
returns c =
    let e : c.loop-number.number ≡ 217 = omega (arith, c.loop-number-test.false, c.loop-number.auto.number-end) in
    let old = string_bytes c.args.text.now in
    let new = string_bytes c.loop-number.text in
    written_whole c.args.set.now c.loop-number.begun old new
    (subst (λ n. IsWritten c.args.set.now n c.loop-number.begun old new) e c.loop-number.invariant)
