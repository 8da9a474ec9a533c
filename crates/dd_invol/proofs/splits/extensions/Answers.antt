use Rattle.std.proofs.Common.{◌≡◌, ◌+◌, ◌++◌, ◌∷◌, [], sym, ap, ◌∙◌, subst, arith}
use Rattle.dd_model.specs.Jobs.{extended}
use Rattle.dd_model.specs.Jobs.{AreExtensions}
use Rattle.dd_invol.specs.Children.{IsStemOf}
use Rattle.dd_branch_tables.specs.Stem.{Any, prefix_of}
use Rattle.dd_front_jobs.specs.Under.{HasNothingUnder}
use Rattle.dd_branch_tables.proofs.Extensions.{AreExtensionsBelow, none_of_any, extensions_none, extensions_first, extensions_more, extensions_skip, extensions_all}
use Rattle.dd_invol.proofs.splits.extensions.Goals as goal
use Rattle.dd_invol.proofs.splits.extensions.Goals.{then-may_grow+in_ok-child+in_ok-push, else-may_grow}

pub returns-in_default : goal.returns-in_default
returns-in_default c = subst (AreExtensions c.args.q.now c.args.job.now) (sym c.new-jobs.ensures.items) (extensions_none c.args.q.now c.args.job.now c.in_default.ensures)

pub loop-k-init : goal.loop-k-init
loop-k-init c = record {
  jobs = subst (AreExtensionsBelow c.args.q.now c.args.job.now 1) (sym c.new-jobs.ensures.items) (extensions_first c.args.q.now c.args.job.now c.requires.shorter);
  stem = c.in-Some.ensures;
}

pub loop-k-preserved : goal.loop-k-preserved
loop-k-preserved c =
    let q = c.args.q.now in
    let job = c.args.job.now in
    let k = c.loop-k.k + 1 in
    let i = c.loop-k.invariant in
    let of = subst (IsStemOf job) (sym c.may_grow.ensures.same) i.stem in
    elim c.if-may_grow.branch [
      | then-may_grow+in_ok-child+in_ok-push w ↦
          let pushed = ap (λ l. l.items) w.jobs-is ∙ w.in_ok-push.ensures.items ∙ ap (λ j. c.loop-k.jobs.items ++ j ∷ []) w.in_ok-child.ensures in
          record { jobs = subst (AreExtensionsBelow q job (k + 1)) (sym pushed) (extensions_more q job k c.loop-k.jobs.items i.jobs); stem = of }
      | else-may_grow w ↦
          let one = subst (λ n. HasNothingUnder Any n (prefix_of c.loop-k.stem ++ k ∷ [])) i.stem.size w.if-may_grow.ensures.dead in
          let two = subst (λ xs. HasNothingUnder Any job.size (xs ++ k ∷ [])) i.stem.prefix one in
          let none = none_of_any q (extended job k) two in
          record { jobs = subst (λ l. AreExtensionsBelow q job (k + 1) l.items) (sym w.jobs-is) (extensions_skip q job k c.loop-k.jobs.items none i.jobs); stem = of }
    ]

pub returns : goal.returns
returns c =
    let last : c.loop-k.k ≡ c.args.job.now.size = omega arith in
    extensions_all c.args.q.now c.args.job.now c.loop-k.jobs.items c.requires.shorter
    (subst (λ k. AreExtensionsBelow c.args.q.now c.args.job.now (k + 1) c.loop-k.jobs.items) last c.loop-k.invariant.jobs)
