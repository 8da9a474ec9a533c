use Rattle.std.proofs.Common.{sym, subst}
use Rattle.dd_branch.specs.Descent.{GoesBack, IsDescent, descending, with_paths}
use Rattle.dd_branch.proofs.GoingBack.{goes_back_with_paths}
use Rattle.dd_branch.proofs.descent.Descent.learn.Goals as goal

pub invariant_of-self : goal.invariant_of-self
invariant_of-self c =
    let d = descending c.self.inside.request c.self.inside.stem c.self.inside.classes c.self.inside.levels in
    let now = c.self.invariant.is in
    let kept = rw c.rows.ensures at c.learn.ensures.kept in
    let is : IsDescent (with_paths d c.learn.new.self.sides) = record { valid = now.valid; stem = now.stem; kept = kept; same_request = now.same_request; room = now.room } in
    subst (λ levels. GoesBack (record { request = d.request; stem = d.stem; shares = record { classes = d.shares.classes; sides = c.learn.new.self.sides }; levels = levels })) (sym c.learn.ensures.before)
    (goes_back_with_paths d c.learn.new.self.sides is c.self.invariant)
