use Rattle.std.proofs.Common.{◌≡◌, ◌≤◌, ◌++◌, length, take, ap, ◌∙◌, arith}
use Rattle.std.proofs.lemmas.List.{take_all}
use Rattle.dd_front_jobs.proofs.AlikeSizes.{alike, jobs_alike}
use Rattle.dd_front_jobs.proofs.openings.add_alike.Goals as goal

pub returns : goal.returns
returns c =
    let n = c.args.size in
    let jobs = c.args.alike.now in
    let end : length jobs ≤ c.loop-job.job-index = omega arith in
    let whole : take c.loop-job.job-index jobs ≡ jobs = take_all c.loop-job.job-index jobs end in
    record {
      list = alike n jobs;
      grown = c.loop-job.invariant.jobs ∙ ap (λ js. c.args.jobs.now.items ++ alike n js) whole;
      holds = jobs_alike n jobs c.requires.size c.requires.alike;
    }
