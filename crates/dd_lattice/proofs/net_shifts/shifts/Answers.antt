use Rattle.std.proofs.Common.{◌≡◌, ◌<◌, length, map, get_or, sym, ap, ◌∙◌, subst, arith}
use Rattle.std.proofs.lemmas.List.{get_or_read}
use Rattle.dd_model.specs.Symbol.{Symbol}
use Rattle.dd_model.specs.Cell.{AreCells}
use Rattle.dd_model.specs.declared.pair.Pair.TheVariants.{Edge}
use Rattle.dd_cells.specs.declared.cell.Cell.{Cell}
use Rattle.dd_lattice.specs.Lists.{AreVertexNumbers}
use Rattle.dd_lattice.specs.NetOf.{IsEdgeOf}
use Rattle.dd_lattice.specs.Paths.{shift_by}
use Rattle.dd_lattice.specs.Shifts.{IsLeftEdge, AreShifts}
use Rattle.dd_lattice.proofs.KindLemmas.{ascending}
use Rattle.dd_lattice.proofs.ListLemmas.{few_vertices}
use Rattle.dd_lattice.proofs.NetLemmas.{are_joined, sorted, two_left_here, left_here, net_parts}
use Rattle.dd_lattice.proofs.net_shifts.shifts.Goals as goal

pub left_edges-requires-clause-ascending : goal.left_edges-requires-clause-ascending
left_edges-requires-clause-ascending c =
    let cells : AreCells c.args.t.now Edge c.deref-2.result.now = subst (λ (s : Symbol). AreCells s Edge c.deref-2.result.now) c.symbol-symbol.ensures.same (subst (AreCells c.symbol-symbol.result.now Edge) (sym c.deref-2.ensures.value) c.in_ok-edges.ensures) in
    ascending c.deref-2.result.now c.args.t.now cells

pub index-requires : goal.index-requires
index-requires c =
    let t = c.args.t.now in
    let same = c.symbol-symbol.ensures.same in
    let are = sorted _ t _ _ _ _ _ _ same c.deref.ensures.value c.deref-2.ensures.value c.deref-3.ensures.value c.in_ok-edges.ensures c.in_ok-kinds.ensures c.in_ok-left.ensures in
    let two = two_left_here t c.requires _ _ _ are in
    omega (arith, c.in_ok-left.left.ok)

pub closed-requires-clause-left : goal.closed-requires-clause-left
closed-requires-clause-left c =
    let t = c.args.t.now in
    let same = c.symbol-symbol.ensures.same in
    let are = sorted _ t _ _ _ _ _ _ same c.deref.ensures.value c.deref-2.ensures.value c.deref-3.ensures.value c.in_ok-edges.ensures c.in_ok-kinds.ensures c.in_ok-left.ensures in
    let two = two_left_here t c.requires _ _ _ are in
    let left = c.in_ok-left.left.items in
    let over = c.in_ok-crossing.ensures ∙ same in
    subst (λ (s : Symbol). IsLeftEdge s c.index.result.now) (sym over) (left_here t c.requires _ _ left are 0 c.index.result.now (omega arith) (get_or_read left 0 c.index.result.now (omega arith) c.index.ensures 0))

pub index-requires-2 : goal.index-requires-2
index-requires-2 c =
    let t = c.args.t.now in
    let same = c.symbol-symbol.ensures.same in
    let are = sorted _ t _ _ _ _ _ _ same c.deref.ensures.value c.deref-2.ensures.value c.deref-3.ensures.value c.in_ok-edges.ensures c.in_ok-kinds.ensures c.in_ok-left.ensures in
    let two = two_left_here t c.requires _ _ _ are in
    omega (arith, c.in_ok-left.left.ok)

pub closed-requires-2-clause-left : goal.closed-requires-2-clause-left
closed-requires-2-clause-left c =
    let t = c.args.t.now in
    let same = c.symbol-symbol.ensures.same in
    let are = sorted _ t _ _ _ _ _ _ same c.deref.ensures.value c.deref-2.ensures.value c.deref-3.ensures.value c.in_ok-edges.ensures c.in_ok-kinds.ensures c.in_ok-left.ensures in
    let two = two_left_here t c.requires _ _ _ are in
    let left = c.in_ok-left.left.items in
    let over = c.in_ok-crossing.ensures ∙ same in
    subst (λ (s : Symbol). IsLeftEdge s c.index-2.result.now) (sym over) (left_here t c.requires _ _ left are 1 c.index-2.result.now (omega arith) (get_or_read left 1 c.index-2.result.now (omega arith) c.index-2.ensures 0))

pub overflow_cast-result : goal.overflow_cast-result
overflow_cast-result c =
    let few = few_vertices c.args.t.now c.symbol-symbol.ensures.symbol c.in_ok-vertices.vertices.items c.in_ok-vertices.ensures in
    omega (arith, c.len.ensures, c.in_ok-vertices.vertices.ok)

pub invariant_of-result : goal.invariant_of-result
invariant_of-result c =
    let t = c.args.t.now in
    let same = c.symbol-symbol.ensures.same in
    let are = sorted _ t _ _ _ _ _ _ same c.deref.ensures.value c.deref-2.ensures.value c.deref-3.ensures.value c.in_ok-edges.ensures c.in_ok-kinds.ensures c.in_ok-left.ensures in
    let two = two_left_here t c.requires _ _ _ are in
    let left = c.in_ok-left.left.items in
    let over = c.in_ok-crossing.ensures ∙ same in
    record {
      joined = are_joined t c.requires _ _ (
          let read_one = get_or_read left 0 c.index.result.now (omega arith) c.index.ensures 0 in
          let read_two = get_or_read left 1 c.index-2.result.now (omega arith) c.index-2.ensures 0 in
          let x = c.in_ok-closed.field-0.exits.items in
          let y = c.in_ok-closed-2.field-0.exits.items in
          let all = c.in_ok-edges-2.field-0.items in
          let cells = c.in_ok-vertices.vertices.items in
          let numbers : AreVertexNumbers t (map (λ (v : Cell). v.least) cells) c.in_ok-vertex_numbers.field-0.items = subst (λ vs. AreVertexNumbers t (map (λ (v : Cell). v.least) vs) c.in_ok-vertex_numbers.field-0.items) c.deref-6.ensures.value c.in_ok-vertex_numbers.ensures in
          net_parts t c.requires _ _ left are cells c.in_ok-vertices.ensures c.len.result (omega (arith, c.len.ensures, c.in_ok-vertices.vertices.ok)) _ _ read_one read_two x y
          (subst (λ (s : Symbol). AreShifts s c.index.result.now (shift_by s x)) over c.in_ok-closed.ensures.shifts)
          (subst (λ (s : Symbol). AreShifts s c.index-2.result.now (shift_by s y)) over c.in_ok-closed-2.ensures.shifts)
          all (c.in_ok-edges-2.ensures.many ∙ ap length c.deref-7.ensures.value)
          (λ k e inside. subst (λ (s : Symbol). IsEdgeOf s (map (λ (v : Cell). v.least) cells) (shift_by s x) (shift_by s y) (get_or c.in_ok-edges.edges.items k 0) (get_or all k e)) same
          (subst (λ es. IsEdgeOf c.symbol-symbol.result.now (map (λ (v : Cell). v.least) cells) (shift_by c.symbol-symbol.result.now x) (shift_by c.symbol-symbol.result.now y) (get_or es k 0) (get_or all k e)) c.deref-7.ensures.value
          (c.in_ok-edges-2.ensures.each (map (λ (v : Cell). v.least) cells) k e (subst (λ (s : Symbol). AreVertexNumbers s (map (λ (v : Cell). v.least) cells) c.in_ok-vertex_numbers.field-0.items) (sym same) numbers)
          (subst (λ es. k < length es) (sym c.deref-7.ensures.value) inside)))));
    }

pub returns-clause-net : goal.returns-clause-net
returns-clause-net c =
    let t = c.args.t.now in
    let same = c.symbol-symbol.ensures.same in
    let are = sorted _ t _ _ _ _ _ _ same c.deref.ensures.value c.deref-2.ensures.value c.deref-3.ensures.value c.in_ok-edges.ensures c.in_ok-kinds.ensures c.in_ok-left.ensures in
    let two = two_left_here t c.requires _ _ _ are in
    let left = c.in_ok-left.left.items in
    let over = c.in_ok-crossing.ensures ∙ same in
    let read_one = get_or_read left 0 c.index.result.now (omega arith) c.index.ensures 0 in
    let read_two = get_or_read left 1 c.index-2.result.now (omega arith) c.index-2.ensures 0 in
    let x = c.in_ok-closed.field-0.exits.items in
    let y = c.in_ok-closed-2.field-0.exits.items in
    let all = c.in_ok-edges-2.field-0.items in
    let cells = c.in_ok-vertices.vertices.items in
    let numbers : AreVertexNumbers t (map (λ (v : Cell). v.least) cells) c.in_ok-vertex_numbers.field-0.items = subst (λ vs. AreVertexNumbers t (map (λ (v : Cell). v.least) vs) c.in_ok-vertex_numbers.field-0.items) c.deref-6.ensures.value c.in_ok-vertex_numbers.ensures in
    net_parts t c.requires _ _ left are cells c.in_ok-vertices.ensures c.len.result (omega (arith, c.len.ensures, c.in_ok-vertices.vertices.ok)) _ _ read_one read_two x y
    (subst (λ (s : Symbol). AreShifts s c.index.result.now (shift_by s x)) over c.in_ok-closed.ensures.shifts)
    (subst (λ (s : Symbol). AreShifts s c.index-2.result.now (shift_by s y)) over c.in_ok-closed-2.ensures.shifts)
    all (c.in_ok-edges-2.ensures.many ∙ ap length c.deref-7.ensures.value)
    (λ k e inside. subst (λ (s : Symbol). IsEdgeOf s (map (λ (v : Cell). v.least) cells) (shift_by s x) (shift_by s y) (get_or c.in_ok-edges.edges.items k 0) (get_or all k e)) same
    (subst (λ es. IsEdgeOf c.symbol-symbol.result.now (map (λ (v : Cell). v.least) cells) (shift_by c.symbol-symbol.result.now x) (shift_by c.symbol-symbol.result.now y) (get_or es k 0) (get_or all k e)) c.deref-7.ensures.value
    (c.in_ok-edges-2.ensures.each (map (λ (v : Cell). v.least) cells) k e (subst (λ (s : Symbol). AreVertexNumbers s (map (λ (v : Cell). v.least) cells) c.in_ok-vertex_numbers.field-0.items) (sym same) numbers)
    (subst (λ es. k < length es) (sym c.deref-7.ensures.value) inside))))
