use Rattle.std.proofs.Common.{◌≡◌, ◌≤◌, ◌<◌, ℤ, length, get_or, nat_abs, w64, to_z, of_z, sym, ap, ◌∙◌, subst, arith}
use Rattle.std.proofs.lemmas.Int.{ints}
use Rattle.dd_model.specs.Symbol.{IsChamber}
use Rattle.dd_lattice.specs.NetOf.{IsNet}
use Rattle.dd_lattice.specs.declared.net_edge.NetEdge.{NetEdge}
use Rattle.dd_lattice.proofs.KindLemmas.{listed_edge}
use Rattle.dd_gram.specs.Shifts.{IsPutAt, AreNumbers}
use Rattle.dd_gram.specs.Tori.{Torus}
use Rattle.dd_gram.proofs.Actions.{small_first, small_second}
use Rattle.dd_gram.proofs.NumberLemmas.{all_set, edges_of, net_edge, passed_first, passed_second, set_more}
use Rattle.dd_gram.proofs.edge_numbers.EdgeNumbers.new.Goals as goal

read : (v z : ℤ) → v ≡ z → nat_abs z ≤ 1 → to_z w64 (of_z w64 v) ≡ z
read v z e small = omega (arith, ints)

read_small : (v z : ℤ) → v ≡ z → nat_abs z ≤ 1 → nat_abs (to_z w64 (of_z w64 v)) ≤ 1
read_small v z e small = omega (arith, ints)

pub index-edge-requires : goal.index-edge-requires
index-edge-requires c =
    let a = c.torus.inside in
    let low : c.loop-k.k < length a.edges.items = subst (λ es. c.loop-k.k < length es) c.as_slice-edges.ensures.value c.loop-k-test.true in
    let many = edges_of a.symbol.now a.net.now c.torus.invariant.is_net a.edges.items c.torus.invariant.cells in
    omega (arith, a.net.now.edges.ok)

pub put-requires-clause-chamber : goal.put-requires-clause-chamber
put-requires-clause-chamber c =
    let a = c.torus.inside in
    let low : c.loop-k.k < length a.edges.items = subst (λ es. c.loop-k.k < length es) c.as_slice-edges.ensures.value c.loop-k-test.true in
    subst (λ es. IsChamber a.symbol.now (get_or es c.loop-k.k 0)) (sym c.as_slice-edges.ensures.value) (listed_edge a.symbol.now a.edges.items c.torus.invariant.cells c.loop-k.k low).0

pub put-requires-clause-small : goal.put-requires-clause-small
put-requires-clause-small c =
    let a = c.torus.inside in
    let t = a.symbol.now in
    let net = a.net.now in
    let inv = c.torus.invariant in
    let k = c.loop-k.k in
    let d = get_or a.edges.items k 0 in
    let low : c.loop-k.k < length a.edges.items = subst (λ es. c.loop-k.k < length es) c.as_slice-edges.ensures.value c.loop-k-test.true in
    let edge = net_edge t net inv.is_net a.edges.items inv.cells k c.index-edge.result.now low in
    read_small c.index-edge.result.now.x (inv.is_net.first d) (ap (λ (e : NetEdge). e.x) c.index-edge.ensures ∙ edge.1) (small_first t inv.torus net inv.is_net d (listed_edge t a.edges.items inv.cells k low).0)

pub put-requires-in-loop-k-clause-chamber : goal.put-requires-in-loop-k-clause-chamber
put-requires-in-loop-k-clause-chamber c =
    let a = c.torus.inside in
    let low : c.loop-k.k < length a.edges.items = subst (λ es. c.loop-k.k < length es) c.as_slice-edges.ensures.value c.loop-k-test.true in
    subst (λ es. IsChamber a.symbol.now (get_or es c.loop-k.k 0)) (sym c.as_slice-edges.ensures.value) (listed_edge a.symbol.now a.edges.items c.torus.invariant.cells c.loop-k.k low).0

pub put-requires-in-loop-k-clause-small : goal.put-requires-in-loop-k-clause-small
put-requires-in-loop-k-clause-small c =
    let a = c.torus.inside in
    let t = a.symbol.now in
    let net = a.net.now in
    let inv = c.torus.invariant in
    let k = c.loop-k.k in
    let d = get_or a.edges.items k 0 in
    let low : c.loop-k.k < length a.edges.items = subst (λ es. c.loop-k.k < length es) c.as_slice-edges.ensures.value c.loop-k-test.true in
    let edge = net_edge t net inv.is_net a.edges.items inv.cells k c.index-edge.result.now low in
    read_small c.index-edge.result.now.y (inv.is_net.second d) (ap (λ (e : NetEdge). e.y) c.index-edge.ensures ∙ edge.2) (small_second t inv.torus net inv.is_net d (listed_edge t a.edges.items inv.cells k low).0)

pub loop-k-preserved : goal.loop-k-preserved
loop-k-preserved c =
    let a = c.torus.inside in
    let t = a.symbol.now in
    let net = a.net.now in
    let torus = c.torus.invariant.torus in
    let edges = a.edges.items in
    let cells = c.torus.invariant.cells in
    let k = c.loop-k.k in
    let d = get_or edges k 0 in
    let low : c.loop-k.k < length a.edges.items = subst (λ es. c.loop-k.k < length es) c.as_slice-edges.ensures.value c.loop-k-test.true in
    let h = (listed_edge t edges cells k low).0 in
    let e = c.index-edge.result.now in
    let put_x : IsPutAt t d (to_z w64 (of_z w64 e.x)) c.loop-k.x.items c.put.new.list.items = subst (λ es. IsPutAt t (get_or es k 0) (to_z w64 (of_z w64 e.x)) c.loop-k.x.items c.put.new.list.items) c.as_slice-edges.ensures.value c.put.ensures in
    let put_y : IsPutAt t d (to_z w64 (of_z w64 e.y)) c.loop-k.y.items c.put-in-loop-k.new.list.items = subst (λ es. IsPutAt t (get_or es k 0) (to_z w64 (of_z w64 e.y)) c.loop-k.y.items c.put-in-loop-k.new.list.items) c.as_slice-edges.ensures.value c.put-in-loop-k.ensures in
    record {
      whole_x = put_x.whole ∙ c.loop-k.invariant.whole_x;
      whole_y = put_y.whole ∙ c.loop-k.invariant.whole_y;
      set_x = λ is.
          let edge = net_edge t net is edges cells k e low in
          let own = read e.x (is.first d) (ap (λ (z : NetEdge). z.x) c.index-edge.ensures ∙ edge.1) (small_first t torus net is d h) in
          set_more t torus.symbol is.first (passed_first t net is) edges cells k (to_z w64 (of_z w64 e.x)) c.loop-k.x.items c.put.new.list.items low (sym own) (c.loop-k.invariant.set_x is) put_x;
      set_y = λ is.
          let edge = net_edge t net is edges cells k e low in
          let own = read e.y (is.second d) (ap (λ (z : NetEdge). z.y) c.index-edge.ensures ∙ edge.2) (small_second t torus net is d h) in
          set_more t torus.symbol is.second (passed_second t net is) edges cells k (to_z w64 (of_z w64 e.y)) c.loop-k.y.items c.put-in-loop-k.new.list.items low (sym own) (c.loop-k.invariant.set_y is) put_y;
    }

pub returns-clause-x : goal.returns-clause-x
returns-clause-x c =
    let a = c.torus.inside in
    let t = a.symbol.now in
    let inv = c.torus.invariant in
    let end = c.loop-k-test.false in
    let edges = ap length c.as_slice-edges.ensures.value in
    subst (λ (z : Torus). (is : IsNet z.symbol z.net) → AreNumbers z.symbol is.first c.loop-k.x.items) c.torus.view_is (λ is. record {
      whole = c.loop-k.invariant.whole_x;
      each = all_set t inv.torus.symbol is.first (passed_first t a.net.now is) a.edges.items inv.cells c.loop-k.k c.loop-k.x.items (omega arith) (c.loop-k.invariant.set_x is);
      small = small_first t inv.torus a.net.now is;
    })

pub returns-clause-y : goal.returns-clause-y
returns-clause-y c =
    let a = c.torus.inside in
    let t = a.symbol.now in
    let inv = c.torus.invariant in
    let end = c.loop-k-test.false in
    let edges = ap length c.as_slice-edges.ensures.value in
    subst (λ (z : Torus). (is : IsNet z.symbol z.net) → AreNumbers z.symbol is.second c.loop-k.y.items) c.torus.view_is (λ is. record {
      whole = c.loop-k.invariant.whole_y;
      each = all_set t inv.torus.symbol is.second (passed_second t a.net.now is) a.edges.items inv.cells c.loop-k.k c.loop-k.y.items (omega arith) (c.loop-k.invariant.set_y is);
      small = small_second t inv.torus a.net.now is;
    })
