use Rattle.std.proofs.Common.{◌≡◌, pos, List, length, get_or, sym, ap, subst, arith}
use Rattle.dd_model.specs.Symbol.{Symbol}
use Rattle.dd_model.specs.Cell.{AreCells}
use Rattle.dd_model.specs.declared.pair.Pair.TheVariants.{Edge}
use Rattle.dd_lattice.specs.declared.net_edge.NetEdge.{NetEdge}
use Rattle.dd_gram.specs.Loops.{HasEdgeWith, IsLoop}
use Rattle.dd_gram.proofs.BasisLemmas.{few_vertices, first_edge, second_edge}
use Rattle.dd_gram.proofs.basis.Basis.new.Goals as goal

pub edge_with-one-requires : goal.edge_with-one-requires
edge_with-one-requires c = subst (λ es. HasEdgeWith es (pos 1) (pos 0)) (sym c.as_slice.ensures.value) (first_edge c.args.t.now c.requires.torus c.args.net.now c.requires.net)

pub edge_with-two-requires : goal.edge_with-two-requires
edge_with-two-requires c = subst (λ es. HasEdgeWith es (pos 0) (pos 1)) (sym c.as_slice-2.ensures.value) (second_edge c.args.t.now c.requires.torus c.args.net.now c.requires.net)

pub invariant_of-torus : goal.invariant_of-torus
invariant_of-torus c = record {
  torus = c.requires.torus;
  is_net = c.requires.net;
  cells = subst (λ (s : Symbol). AreCells s Edge c.in_ok-edges.edges.items) c.symbol.ensures.same c.in_ok-edges.ensures;
}

pub closed_walk-requires : goal.closed_walk-requires
closed_walk-requires c =
    let slice = ap (λ (es : List NetEdge). length es) c.as_slice.ensures.value in
    omega (arith, c.edge_with-one.ensures.inside)

pub closed_walk-requires-2 : goal.closed_walk-requires-2
closed_walk-requires-2 c =
    let slice = ap (λ (es : List NetEdge). length es) c.as_slice-2.ensures.value in
    omega (arith, c.edge_with-two.ensures.inside)

pub returns : goal.returns
returns c =
    let t = c.args.t.now in
    let net = c.args.net.now in
    let vertices = few_vertices t net c.requires.net in
    let size = c.symbol.ensures.symbol.size in
    let none : NetEdge = record { from = 0; to = 0; x = pos 0; y = pos 0 } in
    record {
      x = c.in_ok-new.ensures.x;
      y = c.in_ok-new.ensures.y;
      first = λ is.
          let x : (get_or net.edges.items c.edge_with-one.result none).x ≡ pos 1 = subst (λ es. (get_or es c.edge_with-one.result none).x ≡ pos 1) c.as_slice.ensures.value (c.edge_with-one.ensures.x none) in
          let y : (get_or net.edges.items c.edge_with-one.result none).y ≡ pos 0 = subst (λ es. (get_or es c.edge_with-one.result none).y ≡ pos 0) c.as_slice.ensures.value (c.edge_with-one.ensures.y none) in
          subst (λ n. IsLoop t net is c.in_ok-closed_walk.field-0.items (pos 1) n) y (subst (λ m. IsLoop t net is c.in_ok-closed_walk.field-0.items m (get_or net.edges.items c.edge_with-one.result none).y) x (c.in_ok-closed_walk.ensures.is_loop is none));
      second = λ is.
          let x : (get_or net.edges.items c.edge_with-two.result none).x ≡ pos 0 = subst (λ es. (get_or es c.edge_with-two.result none).x ≡ pos 0) c.as_slice-2.ensures.value (c.edge_with-two.ensures.x none) in
          let y : (get_or net.edges.items c.edge_with-two.result none).y ≡ pos 1 = subst (λ es. (get_or es c.edge_with-two.result none).y ≡ pos 1) c.as_slice-2.ensures.value (c.edge_with-two.ensures.y none) in
          subst (λ n. IsLoop t net is c.in_ok-closed_walk-2.field-0.items (pos 0) n) y (subst (λ m. IsLoop t net is c.in_ok-closed_walk-2.field-0.items m (get_or net.edges.items c.edge_with-two.result none).y) x (c.in_ok-closed_walk-2.ensures.is_loop is none));
      few_first = omega (arith, c.in_ok-closed_walk.ensures.few, vertices, size);
      few_second = omega (arith, c.in_ok-closed_walk-2.ensures.few, vertices, size);
    }
