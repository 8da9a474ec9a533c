use Rattle.std.proofs.Common.{◌≡◌, sym, ap, ◌∙◌}
use Rattle.dd_front_jobs.specs.declared.portions.Portion.{Portion}
use Rattle.dd_suite_tasks.specs.Words.{begin_command}
use Rattle.dd_suite_tasks.proofs.words.task_of.Goals as goal

pub returns-in-Catalogue : goal.returns-in-Catalogue
returns-in-Catalogue c =
    c.task_for.ensures c.args.command
    (c.in-Catalogue.is
    ∙ sym (ap (λ (p : Portion). begin_command p.shard p.request c.in-Catalogue.checkpoint c.in-Catalogue.pace c.in-Catalogue.pause) c.whole-portion.ensures))

pub returns-in-Shard : goal.returns-in-Shard
returns-in-Shard c = c.task_for-in-Shard.ensures c.args.command c.in-Shard.is
