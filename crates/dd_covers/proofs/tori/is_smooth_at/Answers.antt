use Rattle.std.proofs.Common.{◌≡◌, ◌+◌, refl, ◌∙◌, subst, ⊎_elim, arith}
use Rattle.std.proofs.lemmas.Bool.{cases_lt}
use Rattle.dd_model.specs.Cell.{IsBranching}
use Rattle.dd_model.proofs.Branching.{branching_unique}
use Rattle.dd_covers.proofs.tori.is_smooth_at.Goals as goal

pub returns-then-branching-ne1 : goal.returns-then-branching-ne1
returns-then-branching-ne1 c = (
  λ no. absurd (cc),
  λ smooth. absurd (c.if-branching-ne1.true (smooth.each (c.loop-k.k + 1) c.branching.result (omega arith, omega arith) c.branching.ensures)),
)

pub loop-k-preserved : goal.loop-k-preserved
loop-k-preserved c d v low high branching = ⊎_elim
    (λ before. c.loop-k.invariant d v low (omega arith) branching)
    (λ here.
    let e : d ≡ c.loop-k.k + 1 = omega arith in
    branching_unique c.args.symbol.now c.args.pair (c.loop-k.k + 1) v c.branching.result
    (subst (λ x. IsBranching c.args.symbol.now c.args.pair x v) e branching) c.branching.ensures ∙ c.if-branching-ne1.false)
    (cases_lt d (c.loop-k.k + 1))

pub returns : goal.returns
returns c = (
  λ _. record { each = λ d v h branching. let size = c.size-k-end.ensures.size in c.loop-k.invariant d v h.0 (let high = h.1 in omega arith) branching },
  λ smooth. refl,
)
