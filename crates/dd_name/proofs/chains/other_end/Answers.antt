use Rattle.std.proofs.Common.{◌+◌, ◌*◌, ◌≤◌, sym, subst, arith}
use Rattle.dd_model.specs.Symbol.{IsChamber}
use Rattle.dd_name.proofs.ChainLemmas.{IsWalk, walk_starts, walk_goes_on, walk_ends, walk_is_short, walked_within}
use Rattle.dd_name.proofs.chains.other_end.Goals as goal

pub loop-step-init : goal.loop-step-init
loop-step-init c = walk_starts c.args.symbol.now c.args.pair c.args.flag c.other_index-index.result c.other_index-index.ensures

pub op-image-requires : goal.op-image-requires
op-image-requires c =
    let s = c.args.symbol.now in
    let f = c.args.flag in
    let w = c.loop-step.invariant in
    subst (IsChamber s) (sym w.at)
    (walked_within s c.size-step-end.ensures.symbol.symbol.table.involutions f.index w.other c.loop-step._step f.chamber c.requires.flag.chamber)

pub returns-then-image-chamber-clause-joined : goal.returns-then-image-chamber-clause-joined
returns-then-image-chamber-clause-joined c =
    walk_ends c.args.symbol.now c.size-step-end.ensures.symbol.symbol.table.involutions c.args.pair c.args.flag c.loop-step._step c.loop-step.chamber c.op-image.result
    c.loop-step.came c.loop-step.index c.requires c.loop-step.invariant c.op-image.ensures.image c.if-image-chamber.true

pub loop-step-preserved : goal.loop-step-preserved
loop-step-preserved c =
    let s = c.args.symbol.now in
    let p = c.args.pair in
    let f = c.args.flag in
    let k = c.loop-step._step in
    let image = c.op-image.result in
    subst (λ i. IsWalk s p f (k + 1) image i c.swap.new.y) (sym c.swap.ensures.x_after)
    (subst (IsWalk s p f (k + 1) image c.loop-step.index) (sym c.swap.ensures.y_after)
    (walk_goes_on s p f k c.loop-step.chamber image c.loop-step.came c.loop-step.index c.loop-step.invariant c.op-image.ensures.image c.if-image-chamber.false))

pub unreachable-requires : goal.unreachable-requires
unreachable-requires c =
    let s = c.args.symbol.now in
    let long : 2 * s.size ≤ c.loop-step._step = omega arith in
    walk_is_short s c.size-step-end.ensures.symbol.symbol.table.involutions c.args.pair c.args.flag c.loop-step._step c.loop-step.chamber
    c.loop-step.came c.loop-step.index c.requires long c.loop-step.invariant
