use Rattle.std.proofs.Common.{◌≡◌, ⊎_elim, ap, ◌∙◌, arith}
use Rattle.dd_steal.specs.Worker.{IsLeftWith, held_by}
use Rattle.dd_steal.proofs.worker.work.Goals as goal

pub returns-in-Err-do_job-clause-tickets : goal.returns-in-Err-do_job-clause-tickets
returns-in-Err-do_job-clause-tickets g c =
    let held : held_by c.in-Ok-Some.field-0 ≡ 1 = ap held_by c.in-Ok-Some.field-0-is in
    let counts = c.in-Err-do_job.ensures.counts.1 in
    omega (arith, c.loop.invariant.2, c.in-Ok-Some.ensures.tickets, held, counts.more_takes, counts.more_splits, counts.more_finishes, counts.more_backs)

pub loop-preserved : goal.loop-preserved
loop-preserved g c =
    let i = c.loop.invariant in
    let got = c.in-Ok-Some.ensures in
    let held : held_by c.in-Ok-Some.field-0 ≡ 1 = ap held_by c.in-Ok-Some.field-0-is in
    let left : IsLeftWith 0 c.args.seat.now c.args.hand.now c.do_job.new.seat c.next_ticket.new.hand = ⊎_elim
    (λ split. omega (arith, i.2, got.tickets, held, split.more_takes, split.more_splits, split.more_finishes, split.more_backs))
    (λ done. omega (arith, i.2, got.tickets, held, done.more_takes, done.more_splits, done.more_finishes, done.more_backs))
    c.in_default.ensures.counts in
    let looks = ⊎_elim (λ split. split.more_looks) (λ done. done.more_looks) c.in_default.ensures.counts in
    let worker = ⊎_elim (λ split. split.worker) (λ done. done.worker) c.in_default.ensures.counts in
    (tt, tt, left, omega (arith, i.3, got.looks, looks), worker ∙ got.worker ∙ i.4, got.place ∙ i.5, c.in_default.ensures.request ∙ i.6)
