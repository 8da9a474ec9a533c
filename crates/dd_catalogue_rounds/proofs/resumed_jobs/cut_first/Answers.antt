use Rattle.std.proofs.Common.{◌≤◌, ◌∙◌, ◌++◌, List, drop, length, sym, ap, subst, rules}
use Rattle.dd_model.specs.Request.{IsValid}
use Rattle.dd_model.specs.Jobs.{AreChildren}
use Rattle.dd_model.specs.declared.jobs.Job.{Job}
use Rattle.dd_catalogue_rounds.specs.Works.{IsStarting}
use Rattle.dd_catalogue_rounds.proofs.Splits.{drop_nothing, first_item, not_none}
use Rattle.dd_catalogue_rounds.proofs.Working.{cut_starting}
use Rattle.dd_pages_and_checkpoints.proofs.RunFacts.{run_valid}
use Rattle.dd_catalogue_rounds.proofs.resumed_jobs.cut_first.Goals as goal

pub split-requires-clause-valid : goal.split-requires-clause-valid
split-requires-clause-valid g c = subst IsValid (sym c.requires.request) (run_valid c.args.run.now)

pub returns-clause-starting : goal.returns-clause-starting
returns-clause-starting g c =
    let p = c.args.run.now.portion in
    let at = c.args.run.now.at in
    let cs = c.in_ok-children.children.items in
    let ds = c.jobs_from-parts.result.items in
    let item = c.in-Some.ensures.item in
    let parts = first_item c.deref.result.now c.in-Some.first.now item.3.0 item.1 in
    let whole = sym c.deref.ensures.value ∙ parts.1 in
    let rest = c.in_ok-rest.ensures.tail ∙ ap (drop 1) whole ∙ drop_nothing parts.0 in
    let are = subst (λ q. AreChildren q c.in-Some.first.now cs) c.requires.request c.in_ok-children.ensures.children in
    let some : 1 ≤ length ds = search rules in
    let cut = cut_starting p at c.in-Some.first.now parts.0 cs ds are c.jobs_from-parts.ensures (not_none ds some) (subst (λ (js : List Job). IsStarting p at js) whole c.requires.starting) in
    subst (λ (js : List Job). IsStarting p at js) (sym (c.in_ok-append.ensures.items ∙ ap (λ js. ds ++ js) rest)) cut
