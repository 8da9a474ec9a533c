use Rattle.std.proofs.Common.{◌≡◌, ◌<◌, Bool, true, false, not, length, get_or, refl, sym, ap, ◌∙◌, subst, ⊎_elim, arith}
use mathlib.Core.Bool.{beq}
use Rattle.std.proofs.lemmas.Bool.{cases_lt}
use Rattle.dd_model.specs.Symbol.{Symbol, IsChamber}
use Rattle.dd_lattice.specs.Nets.{IsNetVertex}
use Rattle.dd_lattice.specs.declared.net_edge.NetEdge.{NetEdge}
use Rattle.dd_lattice.proofs.KindLemmas.{listed_edge}
use Rattle.dd_gram.specs.Spreading.{flag, IsStill, IsNewStep, IsOver}
use Rattle.dd_gram.specs.Tori.{Torus, IsWithNet}
use Rattle.dd_gram.proofs.NumberLemmas.{edges_of, net_edge}
use Rattle.dd_gram.proofs.SpreadLemmas.{new_step, one_more}
use Rattle.dd_gram.proofs.spread.next_step.Goals.{else-is_still-via-then-is_still+else-from-to, else-is_still-via-else-is_still}
use Rattle.dd_gram.proofs.spread.next_step.Goals as goal

differ : (a b : Bool) → not (beq a b) ≡ true → a ≡ b → ⊥
differ true true e same = cc
differ true false e same = cc
differ false true e same = cc
differ false false e same = cc

alike : (a b : Bool) → not (beq a b) ≡ false → a ≡ b
alike true true e = refl
alike true false e = cc
alike false true e = cc
alike false false e = refl

not_both : (b : Bool) → b ≡ true → b ≡ false → ⊥
not_both true yes_ no_ = cc
not_both false yes_ no_ = cc

pub index-edge-requires : goal.index-edge-requires
index-edge-requires c =
    let a = c.torus.inside in
    let inv = c.torus.invariant in
    let low : c.loop-k.k < length a.edges.items = subst (λ es. c.loop-k.k < length es) c.as_slice-edges.ensures.value c.loop-k-test.true in
    let many = edges_of a.symbol.now a.net.now inv.is_net a.edges.items inv.cells in
    omega (arith, a.net.now.edges.ok)

pub is_met-from-requires-clause-low : goal.is_met-from-requires-clause-low
is_met-from-requires-clause-low c =
    let a = c.torus.inside in
    let inv = c.torus.invariant in
    let e = c.index-edge.result.now in
    let low : c.loop-k.k < length a.edges.items = subst (λ es. c.loop-k.k < length es) c.as_slice-edges.ensures.value c.loop-k-test.true in
    let inside = (net_edge a.symbol.now a.net.now inv.is_net a.edges.items inv.cells c.loop-k.k e low).0 in
    let vertex = subst (λ (x : NetEdge). IsNetVertex a.net.now x.from) (sym c.index-edge.ensures) (a.net.now.joined.from c.loop-k.k e inside) in
    vertex.0

pub is_met-from-requires-clause-high : goal.is_met-from-requires-clause-high
is_met-from-requires-clause-high c =
    let a = c.torus.inside in
    let inv = c.torus.invariant in
    let e = c.index-edge.result.now in
    let low : c.loop-k.k < length a.edges.items = subst (λ es. c.loop-k.k < length es) c.as_slice-edges.ensures.value c.loop-k-test.true in
    let inside = (net_edge a.symbol.now a.net.now inv.is_net a.edges.items inv.cells c.loop-k.k e low).0 in
    let vertex = subst (λ (x : NetEdge). IsNetVertex a.net.now x.from) (sym c.index-edge.ensures) (a.net.now.joined.from c.loop-k.k e inside) in
    let high = vertex.1 in
    let many = c.requires in
    let same = ap (λ (z : Torus). z.net.vertices) c.torus.view_is in
    omega arith

pub is_met-to-requires-clause-low : goal.is_met-to-requires-clause-low
is_met-to-requires-clause-low c =
    let a = c.torus.inside in
    let inv = c.torus.invariant in
    let e = c.index-edge.result.now in
    let low : c.loop-k.k < length a.edges.items = subst (λ es. c.loop-k.k < length es) c.as_slice-edges.ensures.value c.loop-k-test.true in
    let inside = (net_edge a.symbol.now a.net.now inv.is_net a.edges.items inv.cells c.loop-k.k e low).0 in
    let vertex = subst (λ (x : NetEdge). IsNetVertex a.net.now x.to) (sym c.index-edge.ensures) (a.net.now.joined.to c.loop-k.k e inside) in
    vertex.0

pub is_met-to-requires-clause-high : goal.is_met-to-requires-clause-high
is_met-to-requires-clause-high c =
    let a = c.torus.inside in
    let inv = c.torus.invariant in
    let e = c.index-edge.result.now in
    let low : c.loop-k.k < length a.edges.items = subst (λ es. c.loop-k.k < length es) c.as_slice-edges.ensures.value c.loop-k-test.true in
    let inside = (net_edge a.symbol.now a.net.now inv.is_net a.edges.items inv.cells c.loop-k.k e low).0 in
    let vertex = subst (λ (x : NetEdge). IsNetVertex a.net.now x.to) (sym c.index-edge.ensures) (a.net.now.joined.to c.loop-k.k e inside) in
    let high = vertex.1 in
    let many = c.requires in
    let same = ap (λ (z : Torus). z.net.vertices) c.torus.view_is in
    omega arith

pub step_over-requires : goal.step_over-requires
step_over-requires c =
    let a = c.torus.inside in
    let low : c.loop-k.k < length a.edges.items = subst (λ es. c.loop-k.k < length es) c.as_slice-edges.ensures.value c.loop-k-test.true in
    subst (λ (t : Symbol). IsChamber t (get_or c.as_slice-edges.result.now c.loop-k.k 0)) (sym c.symbol-symbol.ensures.same)
    (subst (λ es. IsChamber a.symbol.now (get_or es c.loop-k.k 0)) (sym c.as_slice-edges.ensures.value) (listed_edge a.symbol.now a.edges.items c.torus.invariant.cells c.loop-k.k low).0)

pub returns-then-from-to : goal.returns-then-from-to
returns-then-from-to c =
    let a = c.torus.inside in
    let inv = c.torus.invariant in
    let e = c.index-edge.result.now in
    let low : c.loop-k.k < length a.edges.items = subst (λ es. c.loop-k.k < length es) c.as_slice-edges.ensures.value c.loop-k-test.true in
    let t = a.symbol.now in
    let net = a.net.now in
    let step = c.step_over.result in
    let inside = (net_edge t net inv.is_net a.edges.items inv.cells c.loop-k.k e low).0 in
    let from = subst (λ (x : NetEdge). IsNetVertex net x.from) (sym c.index-edge.ensures) (net.joined.from c.loop-k.k e inside) in
    let to = subst (λ (x : NetEdge). IsNetVertex net x.to) (sym c.index-edge.ensures) (net.joined.to c.loop-k.k e inside) in
    let over = subst (λ (s : Symbol). IsOver s e (get_or a.edges.items c.loop-k.k 0) c.is_met-from.result step) c.symbol-symbol.ensures.same
    (subst (λ es. IsOver c.symbol-symbol.result.now e (get_or es c.loop-k.k 0) c.is_met-from.result step) c.as_slice-edges.ensures.value c.step_over.ensures) in
    subst (λ (z : Torus). IsNewStep z.symbol z.net c.args.met.now step) c.torus.view_is
    (new_step t net inv.torus.symbol.table.involutions a.edges.items inv.cells c.args.met.now c.loop-k.k e c.is_met-from.result c.is_met-to.result step low
    (sym c.index-edge.ensures) (c.is_still.ensures.0 c.if-is_still.true) from to c.is_met-from.ensures c.is_met-to.ensures (differ c.is_met-from.result c.is_met-to.result c.if-from-to.true) over)

pub loop-k-preserved : goal.loop-k-preserved
loop-k-preserved c q e low inside still =
    let k = c.loop-k.k in
    let x = c.index-edge.result.now in
    let net = c.args.torus.now.net in
    let met = c.args.met.now in
    let read : x ≡ get_or net.edges.items k x = subst (λ (z : Torus). x ≡ get_or z.net.edges.items k x) c.torus.view_is c.index-edge.ensures in
    ⊎_elim
    (λ less. c.loop-k.invariant q e less inside still)
    (λ rest.
    let at : q ≡ k = omega arith in
    let here : get_or net.edges.items q e ≡ x = one_more net.edges.items q k e x at inside read in
    let own : IsStill x = subst IsStill here still in
    let level : flag met x.from ≡ flag met x.to = elim c.else-is_still.branch [
      | else-is_still-via-then-is_still+else-from-to w ↦ sym c.is_met-from.ensures ∙ alike c.is_met-from.result c.is_met-to.result w.if-from-to.false ∙ c.is_met-to.ensures
      | else-is_still-via-else-is_still w ↦ absurd (not_both c.is_still.result (c.is_still.ensures.1 own) w.if-is_still.false)
    ] in
    subst (λ (z : NetEdge). flag met z.from ≡ flag met z.to) (sym here) level)
    (cases_lt q k)

pub returns : goal.returns
returns c k e inside still =
    let is = subst (λ (z : Torus). IsWithNet z.symbol z.net z.edges) c.torus.view_is c.torus.invariant in
    let o = c.args.torus.now in
    let as_many = edges_of o.symbol o.net is.is_net o.edges is.cells in
    let edges = ap length c.as_slice-edges.ensures.value ∙ ap (λ (z : Torus). length z.edges) c.torus.view_is in
    let end = c.loop-k-test.false in
    c.loop-k.invariant k e (omega arith) inside still
