use Rattle.std.proofs.Common.{◌≡◌, ◌+◌, ap, ◌∙◌, subst, arith}
use Rattle.dd_model.specs.Symbol.{Symbol}
use Rattle.dd_model.specs.declared.index.Index.TheVariants.{Zero, One, Two}
use Rattle.dd_covers.specs.Visits.{rank}
use Rattle.dd_covers.specs.Visiting.{IsVisiting}
use Rattle.dd_covers.proofs.VisitingLemmas.{order_found, colors_found, row_inside}
use Rattle.dd_covers.proofs.visits.first_visits.Goals as goal

pub step-requires-clause-visiting : goal.step-requires-clause-visiting
step-requires-clause-visiting c = rw c.symbol-symbol.ensures.same c.loop-k.invariant

pub step-requires-clause-high : goal.step-requires-clause-high
step-requires-clause-high c =
    let v = c.loop-k.visits in
    let size = c.size-k-end.ensures.size ∙ ap (λ (t : Symbol). t.size) c.symbol-symbol.ensures.same in
    row_inside c.args.s.now v.order.items v.number.items v.white.items (c.loop-k.k + 1) c.loop-k.invariant (omega arith)

pub step-requires-in-loop-k-clause-visiting : goal.step-requires-in-loop-k-clause-visiting
step-requires-in-loop-k-clause-visiting c =
    let k = c.loop-k.k + 1 in
    let e : rank Zero k + 1 ≡ rank One k = omega arith in
    let v = c.step.new.self in
    subst (IsVisiting c.symbol-symbol.result.now v.order.items v.number.items v.white.items) e c.in_ok-step.ensures.visiting

pub step-requires-in-loop-k-clause-high : goal.step-requires-in-loop-k-clause-high
step-requires-in-loop-k-clause-high c =
    let v = c.loop-k.visits in
    let size = c.size-k-end.ensures.size ∙ ap (λ (t : Symbol). t.size) c.symbol-symbol.ensures.same in
    let inside = row_inside c.args.s.now v.order.items v.number.items v.white.items (c.loop-k.k + 1) c.loop-k.invariant (omega arith) in
    let longer = c.in_ok-step.ensures.longer in
    omega arith

pub step-requires-in-loop-k-2-clause-visiting : goal.step-requires-in-loop-k-2-clause-visiting
step-requires-in-loop-k-2-clause-visiting c =
    let k = c.loop-k.k + 1 in
    let e : rank One k + 1 ≡ rank Two k = omega arith in
    let v = c.step-in-loop-k.new.self in
    subst (IsVisiting c.symbol-symbol.result.now v.order.items v.number.items v.white.items) e c.in_ok-step-2.ensures.visiting

pub step-requires-in-loop-k-2-clause-high : goal.step-requires-in-loop-k-2-clause-high
step-requires-in-loop-k-2-clause-high c =
    let v = c.loop-k.visits in
    let size = c.size-k-end.ensures.size ∙ ap (λ (t : Symbol). t.size) c.symbol-symbol.ensures.same in
    let inside = row_inside c.args.s.now v.order.items v.number.items v.white.items (c.loop-k.k + 1) c.loop-k.invariant (omega arith) in
    let longer = c.in_ok-step.ensures.longer in
    let again = c.in_ok-step-2.ensures.longer in
    omega arith

pub loop-k-preserved : goal.loop-k-preserved
loop-k-preserved c =
    let k = c.loop-k.k + 1 in
    let e : rank Two k + 1 ≡ rank Zero (k + 1) = omega arith in
    let v = c.step-in-loop-k-2.new.self in
    rw (← c.symbol-symbol.ensures.same)
    (subst (IsVisiting c.symbol-symbol.result.now v.order.items v.number.items v.white.items) e c.in_ok-step-3.ensures.visiting)

pub returns-clause-order : goal.returns-clause-order
returns-clause-order c =
    let s = c.args.s.now in
    let v = c.loop-k.visits in
    let size : c.size-k-end.result ≡ s.size = c.size-k-end.ensures.size ∙ ap (λ (t : Symbol). t.size) c.symbol-symbol.ensures.same in
    let e : c.loop-k.k ≡ s.size = omega arith in
    order_found s v.order.items v.number.items v.white.items (subst (λ k. IsVisiting s v.order.items v.number.items v.white.items (rank Zero (k + 1))) e c.loop-k.invariant)

pub returns-clause-colors : goal.returns-clause-colors
returns-clause-colors c =
    let s = c.args.s.now in
    let v = c.loop-k.visits in
    let size : c.size-k-end.result ≡ s.size = c.size-k-end.ensures.size ∙ ap (λ (t : Symbol). t.size) c.symbol-symbol.ensures.same in
    let e : c.loop-k.k ≡ s.size = omega arith in
    colors_found s v.order.items v.number.items v.white.items (subst (λ k. IsVisiting s v.order.items v.number.items v.white.items (rank Zero (k + 1))) e c.loop-k.invariant)

pub returns-clause-whites : goal.returns-clause-whites
returns-clause-whites c = c.loop-k.invariant.whites
