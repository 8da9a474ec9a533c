use Rattle.std.proofs.Common.{◌≡◌, ◌+◌, ◌-◌, get_or, refl, sym, ap, ◌∙◌, arith}
use Rattle.std.proofs.lemmas.List.{get_or_read}
use Rattle.dd_quotient.proofs.ClassLemmas.{not_minimal, minimal_if}
use Rattle.dd_quotient.proofs.minimal.is_minimal.Goals as goal

pub returns-then-index-chamber : goal.returns-then-index-chamber
returns-then-index-chamber c =
    let s = c.args.s.now in
    let classes = c.in_ok-classes.classes.items in
    let k = c.loop-k.k in
    let images = c.in_ok-classes.ensures.images in
    let same = ap (λ t. t.size) c.symbol.ensures.same in
    let size = c.size-k-end.ensures.size in
    let below = c.loop-k-test.true in
    let place : k + 1 - 1 ≡ k = omega arith in
    let read = get_or_read classes k c.index.result.now (omega (arith, images, same, size, below)) c.index.ensures 0 in (
      λ h. (cc),
      λ m. absurd (not_minimal s classes (k + 1) c.in_ok-classes.ensures (omega arith, omega (arith, same, size, below))
          (λ own. c.if-index-chamber.true (read ∙ ap (λ j. get_or classes j 0) (sym place) ∙ own)) m),
    )

pub returns : goal.returns
returns c =
    let s = c.args.s.now in
    let same = ap (λ t. t.size) c.symbol.ensures.same in
    let size = c.size-k-end.ensures.size in
    let low = c.loop-k-test.false in (
      λ _. minimal_if s c.in_ok-classes.classes.items c.in_ok-classes.ensures
          (λ d h. let high = h.1 in c.loop-k.invariant d h (omega (arith, same, size, low, high))),
      λ _. refl,
    )
