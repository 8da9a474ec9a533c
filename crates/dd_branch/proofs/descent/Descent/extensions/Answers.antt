use Rattle.std.proofs.Common.{◌≡◌, ◌+◌, ◌++◌, ◌∷◌, [], refl, sym, ap, ◌∙◌, subst, arith}
use Rattle.dd_model.specs.Jobs.{AreExtensions}
use Rattle.dd_branch_tables.proofs.Extensions.{AreExtensionsBelow, extensions_first, extensions_more, extensions_skip, extensions_all}
use Rattle.dd_branch.proofs.Descents.{dead_job}
use Rattle.dd_branch.proofs.Splits.{HasReached, extensions_dead, none_extended}
use Rattle.dd_branch.proofs.descent.Descent.extensions.Goals as goal
use Rattle.dd_branch.proofs.descent.Descent.extensions.Goals.{then-may_grow+in_ok-child+in_ok-push, else-may_grow}

pub returns-then-not-reach-clause-jobs : goal.returns-then-not-reach-clause-jobs
returns-then-not-reach-clause-jobs c =
    let d = c.args.self.now in
    let job = c.args.job.now in
    subst (AreExtensions d.request job) (sym c.new-jobs.ensures.items)
    (extensions_dead d.request job (dead_job d.request job d c.as_slice.result.now refl c.requires.size c.as_slice.ensures c.if-not-reach.ensures.dead))

pub loop-k-init : goal.loop-k-init
loop-k-init c =
    let q = c.args.self.now.request in
    let job = c.args.job.now in
    let told = c.if-not-reach.ensures in
    record {
      jobs = subst (AreExtensionsBelow q job 1) (sym c.new-jobs.ensures.items) (extensions_first q job c.requires.shorter);
      reached = record { request = told.request; size = told.size ∙ c.requires.size; prefix = told.prefix ∙ c.as_slice.ensures };
    }

pub loop-k-preserved : goal.loop-k-preserved
loop-k-preserved c =
    let q = c.args.self.now.request in
    let job = c.args.job.now in
    let k = c.loop-k.k + 1 in
    let i = c.loop-k.invariant in
    let at = subst (HasReached q job) (sym c.may_grow.ensures.same) i.reached in
    elim c.if-may_grow.branch [
      | then-may_grow+in_ok-child+in_ok-push w ↦
          let pushed = ap (λ l. l.items) w.jobs-is ∙ w.in_ok-push.ensures.items ∙ ap (λ j. c.loop-k.jobs.items ++ j ∷ []) w.in_ok-child.ensures in
          record { jobs = subst (AreExtensionsBelow q job (k + 1)) (sym pushed) (extensions_more q job k c.loop-k.jobs.items i.jobs); reached = at }
      | else-may_grow w ↦
          let none = none_extended q job c.loop-k.self k i.reached w.if-may_grow.ensures.dead in
          record { jobs = subst (λ l. AreExtensionsBelow q job (k + 1) l.items) (sym w.jobs-is) (extensions_skip q job k c.loop-k.jobs.items none i.jobs); reached = at }
    ]

pub returns-clause-jobs : goal.returns-clause-jobs
returns-clause-jobs c =
    let q = c.args.self.now.request in
    let job = c.args.job.now in
    let last : c.loop-k.k ≡ job.size = omega arith in
    extensions_all q job c.loop-k.jobs.items c.requires.shorter
    (subst (λ k. AreExtensionsBelow q job (k + 1) c.loop-k.jobs.items) last c.loop-k.invariant.jobs)
