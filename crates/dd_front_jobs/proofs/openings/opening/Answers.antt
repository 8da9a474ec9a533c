use Rattle.std.proofs.Common.{◌≡◌, ◌+◌, ◌*◌, min, subst, arith}
use Rattle.dd_front_jobs.specs.Opening.{AreJobsUnder}
use Rattle.dd_front_jobs.specs.Under.{Appends}
use Rattle.dd_front_jobs.proofs.JobLists.{AreOpeningBelow, opening_more, opening_whole}
use Rattle.dd_front_jobs.proofs.openings.opening.Goals as goal

pub loop-k-preserved : goal.loop-k-preserved
loop-k-preserved c =
    let k = c.loop-k.k + 1 in
    record {
      jobs = opening_more k c.loop-k.jobs.items c.add_jobs.new.jobs.items (omega arith) c.loop-k.invariant.jobs
          (subst (λ xs. Appends (AreJobsUnder k (min (3 * k) 9) xs) c.loop-k.jobs.items c.add_jobs.new.jobs.items) c.new-prefix.ensures c.in_ok-add_jobs.ensures.jobs);
    }

pub returns-then-q-lt-FIRST_ALIKE : goal.returns-then-q-lt-FIRST_ALIKE
returns-then-q-lt-FIRST_ALIKE c =
    let end = c.loop-k.auto.k-end in
    let last : c.loop-k.k ≡ c.args.q.now.chambers = omega arith in
    opening_whole c.args.q.now c.loop-k.jobs.items (subst (λ k. AreOpeningBelow (k + 1) c.loop-k.jobs.items) last c.loop-k.invariant.jobs)

pub loop-size-init : goal.loop-size-init
loop-size-init c =
    let end = c.loop-k.auto.k-end in
    let last : c.loop-k.k ≡ 3 = omega arith in
    record { jobs = subst (λ k. AreOpeningBelow (k + 1) c.loop-k.jobs.items) last c.loop-k.invariant.jobs }

pub loop-size-preserved : goal.loop-size-preserved
loop-size-preserved c = record { jobs = opening_more c.loop-size.size c.loop-size.jobs.items c.add_alike.new.jobs.items (omega arith) c.loop-size.invariant.jobs c.in_ok-add_alike.ensures }

pub returns : goal.returns
returns c =
    let end = c.loop-size.auto.size-end in
    let last : c.loop-size.size ≡ c.args.q.now.chambers + 1 = omega arith in
    opening_whole c.args.q.now c.loop-size.jobs.items (subst (λ k. AreOpeningBelow k c.loop-size.jobs.items) last c.loop-size.invariant.jobs)
