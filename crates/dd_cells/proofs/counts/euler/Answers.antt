use Rattle.std.proofs.Common.{◌≡◌, ℕ, SFits, ◌+◌, ◌≤◌, pos, ◌-ℤ◌, length, to_z, of_z, w64, ap, ◌∙◌, arith}
use Rattle.std.proofs.lemmas.Int.{to_z-of_z}
use Rattle.dd_model.specs.declared.index.Index.TheVariants.{Zero, One, Two}
use Rattle.dd_model.specs.declared.pair.Pair.TheVariants.{Tile, Vertex, Edge}
use Rattle.dd_model.proofs.CellLists.{cells_exist}
use Rattle.dd_cells.specs.Euler.{orbits}
use Rattle.dd_cells.proofs.counts.euler.Goals as goal

-- a difference of small numbers fits
difference_fits : (a b : ℕ) → a ≤ 65536 → b ≤ 65536 → SFits w64 (pos a -ℤ pos b)
difference_fits a b la lb = grind arith

pub returns-clause-euler : goal.returns-clause-euler
returns-clause-euler c =
    let s = c.args.s.now in
    let inv = c.symbol-symbol.ensures.symbol.symbol.table.involutions in
    let tiles = cells_exist s inv Tile in
    let vertices = cells_exist s inv Vertex in
    let edges = cells_exist s inv Edge in
    let cells = c.count.result + c.count-2.result + c.count-3.result + c.size.result in
    let sides = c.orbits.result + c.orbits-2.result + c.orbits-3.result in
    let same = c.symbol-symbol.ensures.same in
    let t = c.count.ensures.cells tiles.0 tiles.1 in
    let v = c.count-2.ensures.cells vertices.0 vertices.1 in
    let e = c.count-3.ensures.cells edges.0 edges.1 in
    let n : c.size.result ≡ s.size = c.size.ensures.size ∙ ap (λ x. x.size) same in
    let o0 : c.orbits.result ≡ orbits s Zero = c.orbits.ensures.orbits ∙ ap (λ x. orbits x Zero) same in
    let o1 : c.orbits-2.result ≡ orbits s One = c.orbits-2.ensures.orbits ∙ ap (λ x. orbits x One) same in
    let o2 : c.orbits-3.result ≡ orbits s Two = c.orbits-3.ensures.orbits ∙ ap (λ x. orbits x Two) same in
    let all_cells : cells ≡ length tiles.0 + length vertices.0 + length edges.0 + s.size = omega (arith, t, v, e, n) in
    let all_sides : sides ≡ orbits s Zero + orbits s One + orbits s Two = omega (arith, o0, o1, o2) in
    let from : to_z w64 (of_z w64 c.from.result) ≡ pos cells = to_z-of_z w64 c.from.result (record { sfits = c.from.type_inv }) ∙ c.from.ensures in
    let from2 : to_z w64 (of_z w64 c.from-2.result) ≡ pos sides = to_z-of_z w64 c.from-2.result (record { sfits = c.from-2.type_inv }) ∙ c.from-2.ensures in
    record {
      tiles = tiles.0;
      vertices = vertices.0;
      edges = edges.0;
      are_tiles = tiles.1;
      are_vertices = vertices.1;
      are_edges = edges.1;
      sum = ap (λ z. to_z w64 (of_z w64 (z -ℤ to_z w64 (of_z w64 c.from-2.result)))) from
          ∙ ap (λ z. to_z w64 (of_z w64 (pos cells -ℤ z))) from2
          ∙ to_z-of_z w64 (pos cells -ℤ pos sides) (difference_fits cells sides (omega arith) (omega arith))
          ∙ ap (λ x. pos x -ℤ pos sides) all_cells
          ∙ ap (λ x. pos (length tiles.0 + length vertices.0 + length edges.0 + s.size) -ℤ pos x) all_sides;
    }
