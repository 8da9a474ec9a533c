use Rattle.std.proofs.Common.{sym, subst, arith}
use Rattle.std.specs.List.{Contains}
use Rattle.dd_lattice.proofs.ListLemmas.{few_vertices, inside_vertex, numbered_more, all_numbered}
use Rattle.dd_lattice.proofs.edge_lists.vertex_numbers.Goals as goal

pub overflow_cast-k : goal.overflow_cast-k
overflow_cast-k c = let few = few_vertices c.args.t.now c.symbol.ensures.symbol c.args.vertices.now c.requires in let low = c.loop-k-test.true in omega arith

pub overflow_add-k : goal.overflow_add-k
overflow_add-k c = let few = few_vertices c.args.t.now c.symbol.ensures.symbol c.args.vertices.now c.requires in let low = c.loop-k-test.true in omega arith

pub write-requires : goal.write-requires
write-requires c = record {
  inside = λ d here.
      let h = inside_vertex c.args.t.now c.symbol.ensures.symbol.symbol.table.involutions c.args.vertices.now c.requires c.loop-k.k c.index-vertices-k.result c.loop-k-test.true d (subst (λ xs. Contains xs d) c.as_slice.ensures here) in
      let whole = c.loop-k.invariant.whole in
      (h.0, omega (arith, h.1));
}

pub loop-k-preserved : goal.loop-k-preserved
loop-k-preserved c =
    let inv = c.symbol.ensures.symbol.symbol.table.involutions in
    let told = c.write.ensures in
    numbered_more c.args.t.now inv c.args.vertices.now c.requires c.loop-k.k c.index-vertices-k.result c.loop-k.numbers.items c.write.new.numbers.items c.loop-k-test.true c.loop-k.invariant told.length
    (λ d here. told.own d (subst (λ xs. Contains xs d) (sym c.as_slice.ensures) here))
    (λ d some off. told.others d some (λ here. off (subst (λ xs. Contains xs d) c.as_slice.ensures here)))

pub returns : goal.returns
returns c =
    let end = c.loop-k-test.false in
    all_numbered c.args.t.now c.symbol.ensures.symbol.symbol.table.involutions c.args.vertices.now c.requires c.loop-k.k c.loop-k.numbers.items (omega arith) c.loop-k.invariant
