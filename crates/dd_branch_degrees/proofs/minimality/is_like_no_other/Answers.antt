use Rattle.std.proofs.Common.{◌+◌, sym, ◌∙◌, subst, ⊎_elim, arith}
use Rattle.std.proofs.lemmas.Bool.{cases_eq}
use Rattle.dd_model.specs.Minimal.{Alike}
use Rattle.dd_branch_degrees.proofs.minimality.is_like_no_other.Goals as goal
use Rattle.dd_branch_degrees.proofs.minimality.is_like_no_other.Goals.{else-other-chamber-via-then-other-chamber+else-not-are_told_apart, else-other-chamber-via-else-other-chamber}

pub loop-k-preserved : goal.loop-k-preserved
loop-k-preserved c e h high alike =
    let s = c.args.symbol.now in
    let one = c.args.chamber in
    ⊎_elim
    (λ same. elim c.else-other-chamber.branch [
      | else-other-chamber-via-then-other-chamber+else-not-are_told_apart w ↦ absurd (w.are_told_apart.ensures w.if-not-are_told_apart.false (subst (Alike s one) same alike))
      | else-other-chamber-via-else-other-chamber w ↦ sym w.if-other-chamber.false ∙ sym same
    ])
    (λ other. c.loop-k.invariant e h (omega (arith, high, other)) alike)
    (cases_eq e (c.loop-k.k + 1))

pub returns : goal.returns
returns c _ e h alike =
    let low = c.loop-k-test.false in
    let size = c.size-k-end.ensures.size in
    c.loop-k.invariant e h (let high = h.1 in omega (arith, low, size, high)) alike
