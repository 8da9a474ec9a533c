use Rattle.std.proofs.Common.{◌≡◌, List, Option, None, Some, false, refl, sym, ◌∙◌, subst}
use Rattle.std.proofs.lemmas.Result.{IfOk-weaker}
use Rattle.std.specs.Option.{is_some}
use Rattle.dd_model.specs.Jobs.{AreAscendingJobs, AreApart}
use Rattle.dd_model.specs.declared.jobs.Job.{Job}
use Rattle.dd_front.specs.Machine.{IsOpened}
use Rattle.dd_front_jobs.specs.declared.shards.Shard.{Shard}
use Rattle.dd_pages_and_checkpoints.specs.Runs.{start_of}
use Rattle.dd_catalogue_rounds.specs.Works.{AreWithin, CoverRest, IsStarted, IsBegun}
use Rattle.dd_catalogue_rounds.proofs.WholeSizes.{sizes_within, sizes_cover}
use Rattle.dd_catalogue_rounds.proofs.Working.{begun_of}
use Rattle.dd_catalogue_rounds.proofs.rounds.lone_front_of.Goals as goal

none_of : (shard : Option Shard) → is_some shard ≡ false → shard ≡ None
none_of None none = refl
none_of (Some shard) none = cc

pub returns-then-workers-gt1-clause-begun : goal.returns-then-workers-gt1-clause-begun
returns-then-workers-gt1-clause-begun g c =
    IfOk-weaker c.front_of.result (IsStarted (start_of c.args.run.now)) (IsBegun (start_of c.args.run.now)) (λ front started. begun_of (start_of c.args.run.now) front started) c.front_of.ensures.started

pub open_front-requires-clause-ascending : goal.open_front-requires-clause-ascending
open_front-requires-clause-ascending g c =
    let p = c.args.run.now.portion in
    let within = sizes_within p (none_of p.shard (sym c.is_some.ensures ∙ c.if-is_some.false)) in
    subst (λ (js : List Job). AreAscendingJobs js) (sym c.in_ok-jobs.ensures) within.ascending

pub open_front-requires-clause-apart : goal.open_front-requires-clause-apart
open_front-requires-clause-apart g c =
    let p = c.args.run.now.portion in
    let within = sizes_within p (none_of p.shard (sym c.is_some.ensures ∙ c.if-is_some.false)) in
    subst (λ (js : List Job). AreApart js) (sym c.in_ok-jobs.ensures) within.apart

pub returns-clause-begun : goal.returns-clause-begun
returns-clause-begun g c =
    let p = c.args.run.now.portion in
    let at = c.args.run.now.at in
    let jobs = c.in_ok-jobs.jobs.items in
    let within = sizes_within p (none_of p.shard (sym c.is_some.ensures ∙ c.if-is_some.false)) in
    IfOk-weaker c.open_front.result (IsOpened p.request jobs at c.args.run.now.lines) (IsBegun (start_of c.args.run.now))
    (λ front is. record {
      jobs = jobs;
      within = subst (λ (js : List Job). AreWithin p js) (sym c.in_ok-jobs.ensures) within;
      covers = subst (λ (js : List Job). CoverRest p at js) (sym c.in_ok-jobs.ensures) (sizes_cover p at);
      opened = is;
    })
    c.open_front.ensures
