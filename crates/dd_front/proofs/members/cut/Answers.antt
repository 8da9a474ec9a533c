use Rattle.std.proofs.Common.{◌≡◌, ◌<◌, length, get_or, subst, ap, ◌∙◌, arith}
use Rattle.dd_front.proofs.Spanning.{cut_here, cut_end, length_more}
use Rattle.dd_front.proofs.members.cut.Goals as goal

pub returns-then-rest-long : goal.returns-then-rest-long
returns-then-rest-long c =
    let span = c.index-spans-k.result in
    let long : c.len-long.result ≡ length (get_or c.args.spans.now c.loop-k.k span) = c.len-long.ensures ∙ ap length c.index-spans-k.is in
    cut_here c.args.spans.now c.args.count c.loop-k.k c.loop-k.rest span c.loop-k-test.true c.loop-k.invariant (subst (λ n. c.loop-k.rest < n) long c.if-rest-long.true)

pub loop-k-preserved : goal.loop-k-preserved
loop-k-preserved c =
    let span = c.index-spans-k.result in
    let more = length_more c.args.spans.now c.loop-k.k span c.loop-k-test.true in
    let long = ap length c.index-spans-k.is in
    omega (arith, c.loop-k.invariant, more, long, c.len-long.ensures, c.if-rest-long.false)

pub returns : goal.returns
returns c = cut_end c.args.spans.now c.args.count c.loop-k.k c.loop-k.rest c.loop-k-test.false c.requires c.loop-k.invariant
