use Rattle.std.proofs.Common.{◌+◌, refl, ap, ◌∙◌, arith}
use Rattle.dd_symbol.proofs.CellMarks.{turn_by}
use Rattle.dd_model.specs.Symbol.{op}
use Rattle.dd_model.proofs.Turns.{period_bound}
use Rattle.dd_symbol.proofs.LeastWalks.{walk_goes_on, walk_is_back, neighbor_smaller, next_smaller}
use Rattle.dd_symbol.proofs.symbol.Symbol.is_least_of_cell.Goals as goal

pub returns-then-neighbor-chamber : goal.returns-then-neighbor-chamber
returns-then-neighbor-chamber c =
    let s = c.args.self.now in
    let p = c.args.pair in
    let x = c.loop-turn.place in
    let beside = c.op-neighbor.ensures.image ∙ ap (λ i. op s i x) c.first.ensures in
    ((λ wrong. absurd cc), (λ least. absurd (neighbor_smaller s p c.args.chamber c.loop-turn._turn x c.op-neighbor.result x c.loop-turn.invariant beside c.if-neighbor-chamber.true least)))

pub returns-then-place-chamber : goal.returns-then-place-chamber
returns-then-place-chamber c =
    let s = c.args.self.now in
    let p = c.args.pair in
    let x = c.loop-turn.place in
    let turn = turn_by s p x c.op-neighbor.result c.op-place.result c.first.result c.second.result c.first.ensures c.second.ensures c.op-neighbor.ensures.image c.op-place.ensures.image in
    ((λ wrong. absurd cc), (λ least. absurd (next_smaller s p c.args.chamber c.loop-turn._turn x c.op-neighbor.result c.op-place.result c.loop-turn.invariant turn c.if-place-chamber.true least)))

pub returns-then-place-chamber-2 : goal.returns-then-place-chamber-2
returns-then-place-chamber-2 c =
    let s = c.args.self.now in
    let p = c.args.pair in
    let x = c.loop-turn.place in
    let turn = turn_by s p x c.op-neighbor.result c.op-place.result c.first.result c.second.result c.first.ensures c.second.ensures c.op-neighbor.ensures.image c.op-place.ensures.image in (
      (λ yes. walk_is_back s c.size-turn-end.ensures.symbol.symbol.table.involutions p c.args.chamber c.loop-turn._turn x c.op-neighbor.result c.op-place.result
          c.requires c.loop-turn.invariant turn c.if-neighbor-chamber.false c.if-place-chamber-2.true),
      (λ least. refl),
    )

pub loop-turn-preserved : goal.loop-turn-preserved
loop-turn-preserved c =
    let s = c.args.self.now in
    let p = c.args.pair in
    let x = c.loop-turn.place in
    let turn = turn_by s p x c.op-neighbor.result c.op-place.result c.first.result c.second.result c.first.ensures c.second.ensures c.op-neighbor.ensures.image c.op-place.ensures.image in
    walk_goes_on s p c.args.chamber c.loop-turn._turn x c.op-neighbor.result c.op-place.result c.loop-turn.invariant turn
    c.op-place.ensures.chamber c.if-neighbor-chamber.false c.if-place-chamber.false c.if-place-chamber-2.false

pub unreachable-requires : goal.unreachable-requires
unreachable-requires c =
    let size = c.size-turn-end.ensures.size in
    let over = c.loop-turn-test.false in
    let bound = period_bound c.args.self.now c.size-turn-end.ensures.symbol.symbol.table.involutions c.args.pair c.args.chamber (c.loop-turn._turn + 1) c.requires
    c.loop-turn.invariant.unfixed in
    omega arith
