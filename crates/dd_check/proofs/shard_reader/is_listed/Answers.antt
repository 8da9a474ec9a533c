use Rattle.std.proofs.Common.{ap, ◌∙◌}
use Rattle.std.specs.Cmp.Lexicographic.{other_text}
use Rattle.dd_check.proofs.ShardReads.{none_more, none_at_all}
use Rattle.dd_check.proofs.shard_reader.is_listed.Goals.{else-job-size-via-then-job-size+else-eq, else-job-size-via-else-job-size}
use Rattle.dd_check.proofs.shard_reader.is_listed.Goals as goal

pub loop-job-preserved : goal.loop-job-preserved
loop-job-preserved c =
    none_more c.args.jobs.now c.loop-job.job-index c.job-item.result _ c.loop-job-test.true c.loop-job.invariant
    (λ e. elim c.else-job-size.branch [
      | else-job-size-via-then-job-size+else-eq w ↦
          other_text w.as_slice.result.now c.args.numbers.now w.if-eq.ensures (w.as_slice.ensures ∙ ap (λ job. job.prefix) (c.job-item.is ∙ e))
      | else-job-size-via-else-job-size w ↦ w.if-job-size.false (ap (λ job. job.size) (c.job-item.is ∙ e))
    ])

pub returns : goal.returns
returns c = (λ e. absurd (cc), λ there. absurd (none_at_all c.args.jobs.now c.loop-job.job-index _ c.loop-job-test.false c.loop-job.invariant there))
