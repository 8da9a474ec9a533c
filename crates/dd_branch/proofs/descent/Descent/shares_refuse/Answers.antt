use Rattle.std.proofs.Common.{[], ◌∷◌, ◌++◌, ◌*◌, ◌<◌, length, sym, ap, subst}
use Rattle.dd_model.specs.Wanted.{IsMember}
use Rattle.dd_branch_tables.specs.Stem.{prefix_of, size_of}
use Rattle.dd_front_jobs.specs.Under.{HasNothingUnder}
use Rattle.dd_branch.specs.Descent.{Descending, descending}
use Rattle.dd_branch.proofs.Descents.{none_with_number}
use Rattle.dd_branch.proofs.descent.Descent.shares_refuse.Goals as goal

pub returns-then-number-size : goal.returns-then-number-size
returns-then-number-size c told =
    let d : Descending = descending c.self.inside.request c.self.inside.stem c.self.inside.classes c.self.inside.levels in
    let low : length (prefix_of d.stem) < 3 * size_of d.stem = subst (λ (e : Descending). length (prefix_of e.stem) < 3 * size_of e.stem) (sym c.self.view_is) c.requires in
    subst (λ (e : Descending). HasNothingUnder (IsMember e.request) (size_of e.stem) (prefix_of e.stem ++ c.args.number ∷ [])) c.self.view_is
    (none_with_number d c.rows.result.now (length c.prefix.result.now) c.args.number c.self.invariant.is c.rows.ensures (ap length c.prefix.ensures) low (c.rules_out_number.ensures told))
