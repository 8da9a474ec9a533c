use Rattle.std.proofs.Common.{List, sym, subst}
use Rattle.dd_model.specs.Position.{IsWhollyBefore}
use Rattle.dd_model.specs.declared.jobs.Job.{Job}
use Rattle.dd_model.proofs.Lists.{all_from_members}
use Rattle.dd_model.proofs.Without.{without_there}
use Rattle.dd_front.specs.Machine.{IsOpened}
use Rattle.std.proofs.lemmas.Result.{IfOk-weaker}
use Rattle.dd_pages_and_checkpoints.specs.Rounds.{AreJobsFrom}
use Rattle.dd_pages_and_checkpoints.specs.Runs.{start_of}
use Rattle.dd_pages_and_checkpoints.proofs.RunFacts.{run_valid}
use Rattle.dd_catalogue_rounds.specs.Works.{IsStarted}
use Rattle.dd_catalogue_rounds.proofs.JobsFrom.{from_covers}
use Rattle.dd_catalogue_rounds.proofs.Working.{whole_work}
use Rattle.dd_catalogue_rounds.proofs.rounds.front_of.Goals as goal

pub opening-requires : goal.opening-requires
opening-requires g c = run_valid c.args.run.now

pub parts_from-requires-clause-starting : goal.parts_from-requires-clause-starting
parts_from-requires-clause-starting g c =
    let p = c.args.run.now.portion in
    let at = c.args.run.now.at in
    let jobs = c.jobs_from-jobs.result.items in
    let from : AreJobsFrom p at jobs = record { opening = c.in_ok-opening.field-0.items; is_opening = c.in_ok-opening.ensures; left = c.jobs_from-jobs.ensures } in
    record {
      work = whole_work p at jobs from;
      covers = λ s member later. from_covers p at jobs s from member later;
      later = all_from_members (λ j. ¬ IsWhollyBefore at j) jobs (λ j there. (without_there (IsWhollyBefore at) from.opening jobs j from.left there).1);
    }

pub open_front-requires-clause-ascending : goal.open_front-requires-clause-ascending
open_front-requires-clause-ascending g c = c.in_ok-jobs.ensures.starting.work.ascending

pub open_front-requires-clause-apart : goal.open_front-requires-clause-apart
open_front-requires-clause-apart g c = c.in_ok-jobs.ensures.starting.work.apart

pub returns-clause-started : goal.returns-clause-started
returns-clause-started g c =
    let q = c.args.run.now.portion.request in
    let p = c.args.run.now.portion in
    let at = c.args.run.now.at in
    let whole = c.jobs_from-jobs.result.items in
    let jobs = c.in_ok-jobs.jobs.items in
    let from : AreJobsFrom p at whole = record { opening = c.in_ok-opening.field-0.items; is_opening = c.in_ok-opening.ensures; left = c.jobs_from-jobs.ensures } in
    IfOk-weaker c.open_front.result (IsOpened q jobs at c.args.run.now.lines) (IsStarted (start_of c.args.run.now))
    (λ front is. record {
      jobs = jobs;
      starting = c.in_ok-jobs.ensures.starting;
      whole = λ one. subst (λ (js : List Job). AreJobsFrom p at js) (sym (c.in_ok-jobs.ensures.first one)) from;
      opened = is;
    })
    c.open_front.ensures
