use Rattle.std.proofs.Common.{◌++◌, [], ◌∷◌, sym, ap, ◌∙◌, arith}
use Rattle.std.proofs.lemmas.List.{length_push}
use Rattle.dd_front.specs.declared.entry.State.TheVariants.{Open}
use Rattle.dd_front.specs.Machine.{entry_of, open_entries}
use Rattle.dd_front.proofs.Replaced.{opened_push}
use Rattle.dd_front.proofs.listed_jobs.listed.Goals as goal

pub loop-job-preserved : goal.loop-job-preserved
loop-job-preserved c =
    let i = c.loop-job.invariant in
    let first = c.args.first in
    let before = c.loop-job.yielded in
    let job = c.in-Some.job in
    let number = i.1 in
    let longer = length_push before job in (
      c.in_ok-push.ensures.items
          ∙ ap (λ es. es ++ entry_of c.loop-job.number job Open ∷ []) i.0
          ∙ ap (λ k. open_entries first before ++ entry_of k job Open ∷ []) number
          ∙ sym (opened_push first before job),
      omega arith,
    )
