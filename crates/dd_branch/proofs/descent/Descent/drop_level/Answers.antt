use Rattle.std.proofs.Common.{◌≡◌, ◌≤◌, length, sym, ap, ◌∙◌, subst}
use Rattle.dd_branch_bounds.specs.Kept.{with_sides}
use Rattle.dd_branch.specs.Descent.{Descending, GoesBack, descending, shorter, without_last}
use Rattle.dd_branch.proofs.GoingBack.{goes_back_shorter}
use Rattle.dd_branch.proofs.descent.Descent.drop_level.Goals as goal

pub invariant_of-self : goal.invariant_of-self
invariant_of-self c =
    let d = descending c.self.inside.request c.self.inside.stem c.self.inside.classes c.self.inside.levels in
    let some : 1 ≤ length d.levels = subst (λ (e : Descending). 1 ≤ length e.levels) (sym c.self.view_is) c.requires in
    let stem = c.cut.ensures in
    let sides = c.drop_last.ensures.sides c.last-level.result.now c.last-level.ensures in
    let levels = c.drop_last.ensures.before in
    let path : descending d.request c.cut.new.self d.shares.classes c.drop_last.new.self ≡ shorter d =
    (λ i. record { request = d.request; stem = stem i; shares = with_sides d.shares (sides i); levels = levels i }) ∙ sym (ap (λ o. without_last o d) c.last-level.ensures) in
    subst GoesBack (sym path) (goes_back_shorter d some c.self.invariant)
