use Rattle.std.proofs.Common.{sym, subst}
use Rattle.dd_symbol.specs.Refusals.{IsRefused}
use Rattle.dd_quotient.specs.MinimalImage.{IsMinimalImage, IsInOrder, AreAllSmall}
use Rattle.dd_quotient.proofs.NumberedLemmas.{made_from_values, made_image, made_in_order, made_only_large, made_too_large}
use Rattle.dd_quotient.proofs.images.minimal_image.Goals as goal

pub returns-in-Ok-clause-image : goal.returns-in-Ok-clause-image
returns-in-Ok-clause-image c =
    let s = c.args.s.now in
    let made = made_from_values c.symbol-symbol.ensures.same c.in_ok-classes.ensures c.deref.ensures.value c.in_ok-all.ensures c.as_slice-leaders.ensures.value c.as_slice-ranks.ensures.value
    c.in_ok-images_of.ensures c.in_ok-images_of-2.ensures c.in_ok-images_of-3.ensures c.in_ok-m01.ensures c.in_ok-m12.ensures in
    subst (λ f. IsMinimalImage s c.in-Ok.image f) (sym c.from_vec.ensures)
    (subst (λ m. IsMinimalImage s m c.in_ok-all.all.ranks.items) (sym c.in-Ok.ensures.symbol)
    (made_image s _ _ _ _ c.symbol-symbol.ensures.symbol.symbol made))

pub returns-in-Ok-clause-order : goal.returns-in-Ok-clause-order
returns-in-Ok-clause-order c =
    let s = c.args.s.now in
    let made = made_from_values c.symbol-symbol.ensures.same c.in_ok-classes.ensures c.deref.ensures.value c.in_ok-all.ensures c.as_slice-leaders.ensures.value c.as_slice-ranks.ensures.value
    c.in_ok-images_of.ensures c.in_ok-images_of-2.ensures c.in_ok-images_of-3.ensures c.in_ok-m01.ensures c.in_ok-m12.ensures in
    subst (λ f. IsInOrder s f) (sym c.from_vec.ensures) (made_in_order s _ _ _ _ made)

pub returns-in-Ok-clause-small : goal.returns-in-Ok-clause-small
returns-in-Ok-clause-small c = subst AreAllSmall (sym c.in-Ok.ensures.symbol) c.in-Ok.ensures.accepted.symbol.branching

pub returns-in-BranchingTooLarge-clause-why : goal.returns-in-BranchingTooLarge-clause-why
returns-in-BranchingTooLarge-clause-why c =
    let s = c.args.s.now in
    let made = made_from_values c.symbol-symbol.ensures.same c.in_ok-classes.ensures c.deref.ensures.value c.in_ok-all.ensures c.as_slice-leaders.ensures.value c.as_slice-ranks.ensures.value
    c.in_ok-images_of.ensures c.in_ok-images_of-2.ensures c.in_ok-images_of-3.ensures c.in_ok-m01.ensures c.in_ok-m12.ensures in
    let fault = c.in-BranchingTooLarge in
    made_too_large s _ _ _ _ fault.pair fault.chamber fault.v c.symbol-symbol.ensures.symbol.symbol made (subst (IsRefused 16384 _) fault.is c.in-Err.ensures.why)

pub unreachable-requires : goal.unreachable-requires
unreachable-requires c =
    let made = made_from_values c.symbol-symbol.ensures.same c.in_ok-classes.ensures c.deref.ensures.value c.in_ok-all.ensures c.as_slice-leaders.ensures.value c.as_slice-ranks.ensures.value
    c.in_ok-images_of.ensures c.in_ok-images_of-2.ensures c.in_ok-images_of-3.ensures c.in_ok-m01.ensures c.in_ok-m12.ensures in
    let is = c.symbol-symbol.ensures.symbol in
    made_only_large c.args.s.now _ _ _ _ c.in-Err.why is.symbol is.size c.symbol-symbol.ensures.connected made c.in-Err.ensures.why c.in_default.not-Memory c.in_default.not-BranchingTooLarge
