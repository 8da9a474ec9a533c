use Rattle.std.proofs.Common.{◌≡◌, ap, sym, ◌∙◌, subst, inl, inr, arith}
use Rattle.dd_model.specs.Symbol.{op, first, second}
use Rattle.dd_symbol.proofs.CellShapes.{shaped, IsKindStep, meets_fixed, meets_none, IsShaping, shaping_more, shape_found, shaping_ends}
use Rattle.dd_symbol.proofs.involutions.Involutions.cell.Goals as goal
use Rattle.dd_symbol.proofs.involutions.Involutions.cell.Goals.{then-neighbor-place, then-neighbor-place-via-then-neighbor-place, then-neighbor-place-via-else-neighbor-place+then-next-neighbor, else-neighbor-place+else-next-neighbor}

pub returns-then-next-chamber : goal.returns-then-next-chamber
returns-then-next-chamber c =
    let s = c.args.self.now in
    let p = c.args.pair in
    let x = c.loop-turn.place in
    let neighbor : c.op-neighbor.result ≡ op s (first p) x = c.op-neighbor.ensures.image ∙ ap (λ i. op s i x) c.first.ensures in
    let next : c.op-next.result ≡ op s (second p) (op s (first p) x) =
    c.op-next.ensures.image ∙ ap (λ i. op s i c.op-neighbor.result) c.second.ensures ∙ ap (op s (second p)) neighbor in
    let kind : IsKindStep s p x c.op-next.result c.loop-turn.kind c.if-neighbor-place.kind = elim c.if-neighbor-place.branch [
      | then-neighbor-place w ↦ meets_fixed (elim w.then-neighbor-place.branch [
        | then-neighbor-place-via-then-neighbor-place w' ↦ inl (sym neighbor ∙ w'.if-neighbor-place.true)
        | then-neighbor-place-via-else-neighbor-place+then-next-neighbor w' ↦ inr (w'.if-next-neighbor.true ∙ neighbor)
      ]) w.kind-is
      | else-neighbor-place+else-next-neighbor w ↦ meets_none (λ e. w.if-neighbor-place.false (neighbor ∙ e)) (λ e. w.if-next-neighbor.false (e ∙ sym neighbor)) w.kind-is
    ] in
    shape_found s c.size-turn-end.ensures.three.involutions p c.args.chamber c.loop-turn.turn x c.loop-turn.least c.op-next.result c.min-least.result c.loop-turn.kind c.if-neighbor-place.kind
    c.requires c.loop-turn.invariant
    (shaped s p x c.loop-turn.least c.op-neighbor.result c.op-next.result c.min.result c.min-least.result c.loop-turn.kind c.if-neighbor-place.kind neighbor next c.min.ensures c.min-least.ensures kind)
    c.if-next-chamber.true

pub loop-turn-preserved : goal.loop-turn-preserved
loop-turn-preserved c =
    let s = c.args.self.now in
    let p = c.args.pair in
    let x = c.loop-turn.place in
    let neighbor : c.op-neighbor.result ≡ op s (first p) x = c.op-neighbor.ensures.image ∙ ap (λ i. op s i x) c.first.ensures in
    let next : c.op-next.result ≡ op s (second p) (op s (first p) x) =
    c.op-next.ensures.image ∙ ap (λ i. op s i c.op-neighbor.result) c.second.ensures ∙ ap (op s (second p)) neighbor in
    let kind : IsKindStep s p x c.op-next.result c.loop-turn.kind c.if-neighbor-place.kind = elim c.if-neighbor-place.branch [
      | then-neighbor-place w ↦ meets_fixed (elim w.then-neighbor-place.branch [
        | then-neighbor-place-via-then-neighbor-place w' ↦ inl (sym neighbor ∙ w'.if-neighbor-place.true)
        | then-neighbor-place-via-else-neighbor-place+then-next-neighbor w' ↦ inr (w'.if-next-neighbor.true ∙ neighbor)
      ]) w.kind-is
      | else-neighbor-place+else-next-neighbor w ↦ meets_none (λ e. w.if-neighbor-place.false (neighbor ∙ e)) (λ e. w.if-next-neighbor.false (e ∙ sym neighbor)) w.kind-is
    ] in
    shaping_more s p c.args.chamber c.loop-turn.turn x c.loop-turn.least c.op-next.result c.min-least.result c.loop-turn.kind c.if-neighbor-place.kind c.loop-turn.invariant
    (shaped s p x c.loop-turn.least c.op-neighbor.result c.op-next.result c.min.result c.min-least.result c.loop-turn.kind c.if-neighbor-place.kind neighbor next c.min.ensures c.min-least.ensures kind)
    c.op-next.ensures.chamber c.if-next-chamber.false

pub unreachable-requires : goal.unreachable-requires
unreachable-requires c =
    let s = c.args.self.now in
    let whole : c.loop-turn.turn ≡ s.size = omega arith in
    shaping_ends s c.size-turn-end.ensures.three.involutions c.args.pair c.args.chamber c.loop-turn.place c.loop-turn.least c.loop-turn.kind c.requires
    (subst (λ k. IsShaping s c.args.pair c.args.chamber k c.loop-turn.place c.loop-turn.least c.loop-turn.kind) whole c.loop-turn.invariant)
