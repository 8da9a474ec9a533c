use Rattle.std.proofs.Common.{◌+◌, refl, sym, ap, ◌∙◌, subst, arith}
use Rattle.dd_model.specs.Symbol.{Symbol}
use Rattle.dd_model.specs.Cell.{IsBranching}
use Rattle.dd_plain.proofs.WantedLemmas.{crystallographic-more}
use Rattle.dd_plain.proofs.branching.has_crystallographic_cells.Goals as goal

pub returns-then-not-is_crystallographic : goal.returns-then-not-is_crystallographic
returns-then-not-is_crystallographic c =
    let same = c.symbol-symbol.ensures.same in
    let size = ap (λ (t : Symbol). t.size) same in (
      (λ h. (cc)),
      (λ all.
          let here = all (c.loop-k.k + 1) c.branching.result (omega arith, omega (arith, size, c.size-k-end.ensures.size))
          (subst (λ t. IsBranching t c.args.pair (c.loop-k.k + 1) c.branching.result) same c.branching.ensures) in
          sym c.if-not-is_crystallographic.true ∙ c.is_crystallographic.ensures.1 here),
    )

pub loop-k-preserved : goal.loop-k-preserved
loop-k-preserved c =
    crystallographic-more c.args.s.now c.args.pair c.loop-k.k c.branching.result c.loop-k.invariant
    (subst (λ t. IsBranching t c.args.pair (c.loop-k.k + 1) c.branching.result) c.symbol-symbol.ensures.same c.branching.ensures)
    (c.is_crystallographic.ensures.0 c.if-not-is_crystallographic.false)

pub returns : goal.returns
returns c =
    let size = ap (λ (t : Symbol). t.size) c.symbol-symbol.ensures.same in
    ((λ _ d v h b. c.loop-k.invariant d v h.0 (omega (arith, h.1, size, c.size-k-end.ensures.size)) b), (λ _. refl))
