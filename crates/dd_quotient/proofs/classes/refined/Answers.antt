use Rattle.std.proofs.Common.{◌≡◌, ◌+◌, sym, subst, arith}
use Rattle.dd_quotient.proofs.MeetLemmas.{AreFirsts, firsts_more, firsts_refine}
use Rattle.dd_quotient.proofs.classes.refined.Goals as goal

pub loop-k-preserved : goal.loop-k-preserved
loop-k-preserved c =
    let s = c.args.s.now in
    let k = c.loop-k.k in
    subst (λ f. AreFirsts s c.args.classes.now c.meet.new.firsts f (k + 1)) (sym c.in_ok-push.ensures.items)
    (firsts_more s c.args.classes.now c.loop-k.firsts c.meet.new.firsts c.loop-k.finer.items k c.in_ok-meet.field-0 c.signature_of-signature.result
    c.loop-k.invariant c.signature_of-signature.ensures c.in_ok-meet.ensures)

pub returns : goal.returns
returns c =
    let s = c.args.s.now in
    let size = c.size-k-end.ensures.size in
    let low = c.loop-k-test.false in
    let high = c.loop-k.auto.k-end in
    let all : c.loop-k.k ≡ s.size = omega (arith, size, low, high) in
    firsts_refine s c.args.classes.now c.loop-k.firsts c.loop-k.finer.items
    (subst (AreFirsts s c.args.classes.now c.loop-k.firsts c.loop-k.finer.items) all c.loop-k.invariant)
