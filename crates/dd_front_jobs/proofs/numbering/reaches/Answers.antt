use Rattle.std.proofs.Common.{◌+◌, ◌/◌, length, arith}
use Rattle.dd_front_jobs.proofs.FirstVisits.{not_reached}
use Rattle.dd_front_jobs.proofs.numbering.reaches.Goals as goal

pub returns : goal.returns
returns c =
    let row = (length c.args.prefix.now + 1) / 3 in
    let whole = c.if-told-ne0.false in
    (λ f. absurd (cc), λ all. absurd (not_reached c.args.prefix.now c.args.number (row + 1) (λ u low. c.loop-told.invariant u (omega arith)) c.if-number-row.false (all row (omega arith) (omega arith) (omega arith))))
