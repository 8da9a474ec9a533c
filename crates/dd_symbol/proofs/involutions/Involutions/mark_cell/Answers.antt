use Rattle.std.proofs.Common.{◌+◌, sym, ◌∙◌, arith}
use Rattle.dd_model.proofs.Turns.{period_bound}
use Rattle.dd_model.proofs.CellWalks.{next_place}
use Rattle.dd_symbol.proofs.CellMarks.{marked_more, turn_by, all_met}
use Rattle.dd_symbol.proofs.CellShapes.{unfixed_more}
use Rattle.dd_symbol.proofs.involutions.Involutions.mark_cell.Goals as goal

pub returns-then-place-chamber-clause-cell : goal.returns-then-place-chamber-clause-cell
returns-then-place-chamber-clause-cell g c e there other =
    let s = c.args.self.now in
    let p = c.args.pair in
    let d = c.args.chamber in
    let k = c.loop-turn._turn in
    let x = c.loop-turn.place in
    let i = c.loop-turn.invariant in
    let inv = c.size-turn-end.ensures.three.involutions in
    let turn = turn_by s p x c.op-neighbor.result c.op-place.result c.first.result c.second.result c.first.ensures c.second.ensures c.op-neighbor.ensures.image c.op-place.ensures.image in
    let met = all_met s inv p d k x c.requires.chamber i.place i.unfixed (sym turn.further ∙ c.if-place-chamber.true) e there in
    (marked_more s inv p d k x c.op-neighbor.result c.args.mark c.args.marks.now.items c.loop-turn.marks.items c.requires.chamber i.place turn.beside i.marking).met e met other

pub returns-then-place-chamber-clause-others : goal.returns-then-place-chamber-clause-others
returns-then-place-chamber-clause-others g c e h out other =
    let s = c.args.self.now in
    let p = c.args.pair in
    let x = c.loop-turn.place in
    let i = c.loop-turn.invariant in
    let turn = turn_by s p x c.op-neighbor.result c.op-place.result c.first.result c.second.result c.first.ensures c.second.ensures c.op-neighbor.ensures.image c.op-place.ensures.image in
    (marked_more s c.size-turn-end.ensures.three.involutions p c.args.chamber c.loop-turn._turn x c.op-neighbor.result c.args.mark c.args.marks.now.items c.loop-turn.marks.items
    c.requires.chamber i.place turn.beside i.marking).kept e h out other

pub loop-turn-preserved : goal.loop-turn-preserved
loop-turn-preserved g c =
    let s = c.args.self.now in
    let p = c.args.pair in
    let d = c.args.chamber in
    let k = c.loop-turn._turn in
    let x = c.loop-turn.place in
    let i = c.loop-turn.invariant in
    let turn = turn_by s p x c.op-neighbor.result c.op-place.result c.first.result c.second.result c.first.ensures c.second.ensures c.op-neighbor.ensures.image c.op-place.ensures.image in
    let at = turn.further ∙ next_place s p d k x i.place in
    record {
      place = at;
      chamber = c.op-place.ensures.chamber;
      unfixed = unfixed_more s p d (k + 1) c.op-place.result at c.if-place-chamber.false i.unfixed;
      marking = marked_more s c.size-turn-end.ensures.three.involutions p d k x c.op-neighbor.result c.args.mark c.args.marks.now.items c.loop-turn.marks.items
          c.requires.chamber i.place turn.beside i.marking;
    }

pub unreachable-requires : goal.unreachable-requires
unreachable-requires g c =
    let bound = period_bound c.args.self.now c.size-turn-end.ensures.three.involutions c.args.pair c.args.chamber (c.loop-turn._turn + 1) c.requires.chamber
    c.loop-turn.invariant.unfixed in
    omega arith
