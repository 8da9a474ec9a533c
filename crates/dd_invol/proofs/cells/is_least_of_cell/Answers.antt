use Rattle.std.proofs.Common.{◌+◌, refl, ap, ◌∙◌, arith}
use Rattle.dd_symbol.proofs.CellMarks.{turn_by}
use Rattle.dd_symbol.proofs.LeastWalks.{walk_goes_on, walk_is_back, neighbor_smaller, next_smaller}
use Rattle.dd_symbol.specs.Images.{of_rows}
use Rattle.dd_model.specs.Symbol.{op}
use Rattle.dd_model.proofs.Turns.{period_bound}
use Rattle.dd_invol.proofs.cells.is_least_of_cell.Goals as goal

pub returns-then-neighbor-chamber : goal.returns-then-neighbor-chamber
returns-then-neighbor-chamber c =
    let s = of_rows c.args.size c.args.images.now in
    let p = c.args.pair in
    let x = c.loop-turn.place in
    let beside = c.image_of-neighbor.ensures.image ∙ ap (λ i. op s i x) c.first.ensures in
    ((λ wrong. absurd cc), (λ least. absurd (neighbor_smaller s p c.args.chamber c.loop-turn._turn x c.image_of-neighbor.result x c.loop-turn.invariant beside c.if-neighbor-chamber.true least)))

pub returns-then-place-chamber : goal.returns-then-place-chamber
returns-then-place-chamber c =
    let s = of_rows c.args.size c.args.images.now in
    let p = c.args.pair in
    let x = c.loop-turn.place in
    let turn = turn_by s p x c.image_of-neighbor.result c.image_of-place.result c.first.result c.second.result c.first.ensures c.second.ensures c.image_of-neighbor.ensures.image c.image_of-place.ensures.image in
    ((λ wrong. absurd cc), (λ least. absurd (next_smaller s p c.args.chamber c.loop-turn._turn x c.image_of-neighbor.result c.image_of-place.result c.loop-turn.invariant turn c.if-place-chamber.true least)))

pub returns-then-place-chamber-2 : goal.returns-then-place-chamber-2
returns-then-place-chamber-2 c =
    let s = of_rows c.args.size c.args.images.now in
    let p = c.args.pair in
    let x = c.loop-turn.place in
    let turn = turn_by s p x c.image_of-neighbor.result c.image_of-place.result c.first.result c.second.result c.first.ensures c.second.ensures c.image_of-neighbor.ensures.image c.image_of-place.ensures.image in (
      (λ yes. walk_is_back s c.requires.involutions p c.args.chamber c.loop-turn._turn x c.image_of-neighbor.result c.image_of-place.result
          c.requires.chamber c.loop-turn.invariant turn c.if-neighbor-chamber.false c.if-place-chamber-2.true),
      (λ least. refl),
    )

pub loop-turn-preserved : goal.loop-turn-preserved
loop-turn-preserved c =
    let s = of_rows c.args.size c.args.images.now in
    let p = c.args.pair in
    let x = c.loop-turn.place in
    let turn = turn_by s p x c.image_of-neighbor.result c.image_of-place.result c.first.result c.second.result c.first.ensures c.second.ensures c.image_of-neighbor.ensures.image c.image_of-place.ensures.image in
    walk_goes_on s p c.args.chamber c.loop-turn._turn x c.image_of-neighbor.result c.image_of-place.result c.loop-turn.invariant turn
    c.image_of-place.ensures.chamber c.if-neighbor-chamber.false c.if-place-chamber.false c.if-place-chamber-2.false

pub unreachable-requires : goal.unreachable-requires
unreachable-requires c =
    let s = of_rows c.args.size c.args.images.now in
    let over = c.loop-turn-test.false in
    let bound = period_bound s c.requires.involutions c.args.pair c.args.chamber (c.loop-turn._turn + 1) c.requires.chamber
    c.loop-turn.invariant.unfixed in
    omega arith
