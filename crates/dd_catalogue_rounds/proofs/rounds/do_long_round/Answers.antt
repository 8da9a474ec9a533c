use Rattle.std.proofs.Common.{List, sym, subst}
use Rattle.std.proofs.lemmas.Result.{IfOk-weaker}
use Rattle.std.specs.List.{AllByRecursion}
use Rattle.dd_model.specs.Jobs.{IsJobOf}
use Rattle.dd_front.specs.declared.entry.Entry.{Entry}
use Rattle.dd_front.specs.Machine.{jobs_of}
use Rattle.dd_catalogue_rounds.proofs.PlainRuns.{group_after}
use Rattle.dd_catalogue_rounds.proofs.RoundEntries.{each_job}
use Rattle.dd_catalogue_rounds.proofs.rounds.do_long_round.Goals as goal

pub pace_without_empty_jobs-requires-clause-jobs : goal.pace_without_empty_jobs-requires-clause-jobs
pace_without_empty_jobs-requires-clause-jobs g c =
    let q = g.F.Finder.request c.split_large.new.finder in
    let jobs = subst (λ r. AllByRecursion (IsJobOf r) (jobs_of c.split_large.new.front.entries)) (sym c.split_large.ensures.request) c.in_ok-split_large.ensures.ready.jobs in
    subst (λ (es : List Entry). AllByRecursion (λ e. IsJobOf q e.job) es) (sym c.entries.ensures) (each_job (IsJobOf q) c.split_large.new.front.entries jobs)

pub returns-then-workers-eq1-clause-round : goal.returns-then-workers-eq1-clause-round
returns-then-workers-eq1-clause-round g c =
    IfOk-weaker c.do_round.result _ _
    (λ more round. group_after (g.F.Finder.request c.args.finder.now) c.args.front.now c.split_large.new.front c.do_round.new.front c.with_round-few.result.round more c.in_ok-split_large.ensures.refined round)
    c.do_round.ensures.round

pub returns-clause-round : goal.returns-clause-round
returns-clause-round g c =
    IfOk-weaker c.do_round-2.result _ _
    (λ more round. group_after (g.F.Finder.request c.args.finder.now) c.args.front.now c.split_large.new.front c.do_round-2.new.front c.in_ok-longer.longer.round more c.in_ok-split_large.ensures.refined round)
    c.do_round-2.ensures.round
