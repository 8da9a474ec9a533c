use Rattle.std.proofs.Common.{◌++◌, ◌∷◌, [], length, vec_len, sym, ap, ◌∙◌, subst}
use Rattle.dd_model.specs.Jobs.{AreChildren}
use Rattle.dd_branch_tables.proofs.Extensions.{one_child, some_children, no_items, no_length, some_length}
use Rattle.dd_invol.proofs.splits.children.Goals as goal
use Rattle.dd_invol.proofs.splits.children.Goals.{then-is_empty+in_ok-child+in_ok-push, else-is_empty}

pub returns : goal.returns
returns c =
    let q = c.args.q.now in
    let job = c.args.job.now in
    elim c.if-is_empty.branch [
      | then-is_empty+in_ok-child+in_ok-push w ↦
          let pushed = ap (λ l. l.items) w.jobs-is ∙ w.in_ok-push.ensures.items ∙ ap (λ j. c.in_ok-jobs.jobs.items ++ j ∷ []) w.in_ok-child.ensures in
          one_child q job c.in_ok-jobs.jobs.items c.if-is_empty.jobs.items c.requires.shorter (no_items c.in_ok-jobs.jobs.items (no_length (vec_len c.in_ok-jobs.jobs) (length c.in_ok-jobs.jobs.items) w.if-is_empty.ensures c.in_ok-jobs.jobs.ok.0)) pushed c.in_ok-jobs.ensures
      | else-is_empty w ↦ subst (λ l. AreChildren q job l.items) (sym w.jobs-is) (some_children q job c.in_ok-jobs.jobs.items c.requires.shorter (some_length (vec_len c.in_ok-jobs.jobs) (length c.in_ok-jobs.jobs.items) w.if-is_empty.ensures c.in_ok-jobs.jobs.ok.0) c.in_ok-jobs.ensures)
    ]
