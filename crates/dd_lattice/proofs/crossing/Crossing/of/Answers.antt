use Rattle.std.proofs.Common.{ap, ◌∙◌, arith}
use Rattle.std.proofs.lemmas.List.{get_or_default}
use Rattle.dd_lattice.specs.Edges.{is_crossing}
use Rattle.dd_lattice.proofs.KindLemmas.{listed_edge}
use Rattle.dd_lattice.proofs.ListLemmas.{set_more, all_set}
use Rattle.dd_lattice.proofs.crossing.Crossing.of.Goals as goal

pub overflow_sub-edges : goal.overflow_sub-edges
overflow_sub-edges c = (listed_edge c.args.symbol.now c.args.edges.now c.requires.edges c.loop-k.k c.loop-k-test.true).0.0

pub index_mut-requires : goal.index_mut-requires
index_mut-requires c =
    let h = (listed_edge c.args.symbol.now c.args.edges.now c.requires.edges c.loop-k.k c.loop-k-test.true).0 in
    let low = h.0 in
    let high = h.1 in
    let whole = c.loop-k.invariant.whole in
    omega (arith, c.loop-k.flags.ok)

pub loop-k-preserved : goal.loop-k-preserved
loop-k-preserved c =
    let inside = c.loop-k-test.true in
    let many = c.requires.kinds.many in
    set_more c.args.symbol.now c.args.edges.now c.requires.edges c.args.kinds.now c.requires.kinds c.loop-k.k c.loop-k.flags.items c.is_crossing.result inside
    (λ e. c.is_crossing.ensures ∙ ap is_crossing (get_or_default c.args.kinds.now c.loop-k.k _ e (omega arith))) c.loop-k.invariant

pub invariant_of-result-clause-are_crossing : goal.invariant_of-result-clause-are_crossing
invariant_of-result-clause-are_crossing c =
    let end = c.loop-k-test.false in
    all_set c.args.symbol.now c.args.edges.now c.requires.edges c.args.kinds.now c.requires.kinds c.loop-k.k c.loop-k.flags.items (omega arith) c.loop-k.invariant
