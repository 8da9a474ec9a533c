use Rattle.std.proofs.Common.{◌∙◌, refl, subst}
use Rattle.dd_catalogue_rounds.specs.Splits.{IsSplit}
use Rattle.dd_catalogue_rounds.proofs.Splits.{ready_split, refined_more, refined_none}
use Rattle.dd_catalogue_rounds.proofs.Weights.{lighter_split}
use Rattle.dd_catalogue_rounds.proofs.parts.split_large.Goals as goal

pub loop-init : goal.loop-init
loop-init g c = (refl, refined_none (g.F.Finder.request c.args.finder.now) c.args.front.now c.args.front.now refl, c.requires.ready)

pub loop-smaller : goal.loop-smaller
loop-smaller g c =
    let q = g.F.Finder.request c.args.finder.now in
    let more = rw c.if-branch.true at c.in_ok-split_first.ensures.split in
    let split = subst (λ r. IsSplit r c.loop.front c.split_first.new.front) c.loop.invariant.0 more in
    lighter_split q c.loop.front c.split_first.new.front c.requires.ready.valid c.loop.invariant.2.jobs c.loop.invariant.2.opens split

pub loop-preserved : goal.loop-preserved
loop-preserved g c =
    let q = g.F.Finder.request c.args.finder.now in
    let more = rw c.if-branch.true at c.in_ok-split_first.ensures.split in
    let split = subst (λ r. IsSplit r c.loop.front c.split_first.new.front) c.loop.invariant.0 more in
    (c.split_first.ensures.request ∙ c.loop.invariant.0, refined_more q c.args.front.now c.loop.front c.split_first.new.front c.loop.invariant.1 split, ready_split q c.loop.front c.split_first.new.front split c.loop.invariant.2)
