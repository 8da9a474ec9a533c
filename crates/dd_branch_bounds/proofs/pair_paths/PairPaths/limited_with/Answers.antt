use Rattle.std.proofs.Common.{◌≡◌, ◌⊎◌, sym, ◌∙◌, subst}
use Rattle.dd_model.specs.declared.pair.Pair.TheVariants.{Tile, Vertex}
use Rattle.dd_branch_bounds.specs.Counted.{HasCounted}
use Rattle.dd_branch_bounds.specs.Passing.{Passes}
use Rattle.dd_branch_bounds.specs.Sides.{IsJoin}
use Rattle.dd_branch_bounds.proofs.SideLemmas.{which_pair}
use Rattle.dd_branch_bounds.proofs.pair_paths.PairPaths.limited_with.Goals as goal

pub limited-requires : goal.limited-requires
limited-requires c = subst (λ p. (p ≡ Tile) ⊎ (p ≡ Vertex)) c.requires.same (which_pair c.args.shares.now)

pub returns-in_default-clause-none : goal.returns-in_default-clause-none
returns-in_default-clause-none c P test join kept s wanted is =
    let t = c.args.shares.now in
    let there = subst (λ p. IsJoin (Passes P test) p c.args.x.number c.args.y.number) (sym c.requires.same) join in
    c.in_default.ensures.none s (is.completes.size ∙ sym kept.sized) wanted
    (subst (λ p. HasCounted s p c.census_with-census.result) c.requires.same (c.census_with-census.ensures P test there kept s wanted is))

pub returns-clause-bound : goal.returns-clause-bound
returns-clause-bound c P test join kept s wanted is bound =
    let t = c.args.shares.now in
    let there = subst (λ p. IsJoin (Passes P test) p c.args.x.number c.args.y.number) (sym c.requires.same) join in
    c.in-Some.ensures.bound s (is.completes.size ∙ sym kept.sized) wanted
    (subst (λ p. HasCounted s p c.census_with-census.result) c.requires.same (c.census_with-census.ensures P test there kept s wanted is)) bound
