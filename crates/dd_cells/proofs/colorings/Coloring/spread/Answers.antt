use Rattle.std.proofs.Common.{◌≡◌, ◌-◌, false, ◌∙◌, arith}
use Rattle.std.proofs.lemmas.List.{get_or_read}
use Rattle.dd_model.specs.Symbol.{op}
use Rattle.dd_symbol.proofs.WalkLemmas.{next_reached}
use Rattle.dd_cells.specs.Orientation.{color}
use Rattle.dd_cells.specs.Coloring.{IsForced}
use Rattle.dd_cells.proofs.ColoringLemmas.{reached_of_marked, forced_neighbor}
use Rattle.dd_cells.proofs.colorings.Coloring.spread.Goals as goal

pub meet-requires-clause-reached : goal.meet-requires-clause-reached
meet-requires-clause-reached c =
    let s = c.args.symbol.now in
    let walk = c.requires.coloring.walk in
    rw c.op-neighbor.ensures.image
    (next_reached s c.args.chamber c.args.i (reached_of_marked s c.args.self.now.seen.items c.args.self.now.queue.items walk c.args.chamber c.requires.chamber c.requires.marked))

pub meet-requires-clause-forced : goal.meet-requires-clause-forced
meet-requires-clause-forced c =
    let s = c.args.symbol.now in
    let d = c.args.chamber in
    let colors = c.args.self.now.colors.items in
    let old = c.requires.coloring in
    let own : IsForced s d (color colors d) = old.forced d c.requires.chamber c.requires.marked in
    let read = get_or_read colors (d - 1) c.index.result.now (let e = old.colors in let h = c.requires.chamber in omega (arith, h.0, h.1)) c.index.ensures false in
    let moved : op s c.args.i d ≡ d → ⊥ = λ e. c.if-neighbor-chamber.false (c.op-neighbor.ensures.image ∙ e) in
    rw (c.op-neighbor.ensures.image, read) (forced_neighbor s c.args.i d (color colors d) c.requires.chamber moved own)
