use Rattle.std.proofs.Common.{[], ◌∷◌, ◌++◌, subst}
use Rattle.std.specs.Bool.{OnFalse}
use Rattle.dd_invol.specs.Growth.{Growing}
use Rattle.dd_branch_tables.specs.Stem.{Any, prefix_of, size_of}
use Rattle.dd_front_jobs.specs.Under.{HasNothingUnder}
use Rattle.dd_invol.proofs.tables.TablesPrefixSearch.enter.Goals as goal

pub returns-clause-dead : goal.returns-clause-dead
returns-clause-dead c =
    subst (λ (g : Growing). OnFalse c.enter.result (HasNothingUnder Any (size_of g.stem) (prefix_of g.stem ++ c.args.number ∷ []))) c.self.view_is c.enter.ensures.dead
