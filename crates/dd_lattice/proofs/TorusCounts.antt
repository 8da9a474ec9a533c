-- A torus has as many edges as vertices and tiles.
use Rattle.std.proofs.Common.{◌≡◌, ℕ, ◌+◌, ◌*◌, pos, ◌-ℤ◌, List, length, refl, sym, ap, ◌∙◌, subst, arith}
use Rattle.std.specs.List.{Contains, sum_by}
use Rattle.dd_model.specs.declared.index.Index.TheVariants.{Zero, One, Two}
use Rattle.dd_model.specs.declared.pair.Pair.{Pair}
use Rattle.dd_model.specs.declared.pair.Pair.TheVariants.{Tile, Vertex, Edge}
use Rattle.dd_model.specs.Symbol.{Symbol, AreInvolutions}
use Rattle.dd_model.specs.Code.{chambers}
use Rattle.dd_model.specs.Cell.{IsLeastOfCell, IsBranching, IsPeriod, AreCells}
use Rattle.dd_model.proofs.CellWalks.{in_cell-refl}
use Rattle.dd_model.proofs.Lists.{each_of, all_from_members}
use Rattle.dd_model.proofs.CountFrom.{length-count_from}
use Rattle.dd_cells.specs.Cells.{IsCellOf}
use Rattle.dd_cells.specs.Euler.{IsEuler, orbits}
use Rattle.dd_cells.specs.Fraction.{Divides}
use Rattle.dd_cells.specs.Surface.{AreAllCells}
use Rattle.dd_cells.specs.declared.cell.Cell.{Cell}
use Rattle.dd_cells.proofs.CellSizes.{cycle_size}
use Rattle.dd_cells.proofs.CellSums.{has_roots, members_at, members_at_are, sum_over_cells, sum_by_same, sum_by_none}
use Rattle.dd_covers.specs.PlaneValues.{all_values}
use Rattle.dd_covers.specs.Torus.{IsTorus}
use Rattle.dd_covers.proofs.EvenLemmas.{free_orbits}
use Rattle.dd_covers.proofs.Mapped.{Contains-from_map}
use Rattle.dd_covers.proofs.PlaneLemmas.{told_value, sum_balance}
use Rattle.dd_covers.proofs.PlaneLists.{want}
use Rattle.dd_covers.proofs.ToldCells.{no_chain, all_told}

module _ (t : Symbol) (torus : IsTorus t) where
  abbrev inv : AreInvolutions t
  inv = torus.symbol.table.involutions

  abbrev cells : Pair → List Cell
  cells p = (all_told t torus.symbol torus.oriented p).cells

  cell_is : (p : Pair) (c : Cell) → Contains (cells p) c → IsCellOf t p c
  cell_is p c here = each_of (IsCellOf t p) (cells p) c (all_told t torus.symbol torus.oriented p).are.each here

  -- every branching value divides 1
  all_are : AreAllCells t 1 cells
  all_are = record {
    are = λ p. (all_told t torus.symbol torus.oriented p).are;
    multiple = λ p. all_from_members (λ (c : Cell). Divides c.v 1) (cells p) (λ c here.
        let cell = cell_is p c here in
        let one = (torus.smooth p).each c.least c.v cell.least.0 cell.branching in
        record { quotient = 1; product = omega arith });
  }

  -- no cell takes anything from the curvature
  nothing_wanted : sum_by (want 1) (all_values cells) ≡ 0
  nothing_wanted =
      sum_by_none (want 1) (all_values cells) (λ v here.
      let from = told_value t cells v here in
      let cell = cell_is from.pair from.cell from.listed in
      ap (want 1) (sym from.value ∙ (torus.smooth from.pair).each from.cell.least from.cell.v cell.least.0 cell.branching))

  -- two turns round an edge, and no fewer, fix a chamber
  edge_period : (l : ℕ) → IsLeastOfCell t Edge l → IsPeriod t Edge l 2
  edge_period l least =
      let told = (all_told t torus.symbol torus.oriented Edge).are in
      let from = Contains-from_map (λ (c : Cell). c.least) (cells Edge) l ((told.least_chambers.members l).1 least) in
      let is = subst (λ d. IsBranching t Edge d from.0.v) from.2 (cell_is Edge from.0 from.1).branching in
      let one = (torus.smooth Edge).each l from.0.v least.0 is in
      let two : from.0.v * is.r ≡ 2 = is.quotient in
      let turns : is.r ≡ 2 = let e = ap (λ v. v * is.r) one in omega arith in
      record {
        positive = omega arith;
        fixed = (torus.symbol.degrees Edge l least.0).turns;
        least = λ k some fixed. let low = is.least_turns.least k l some (in_cell-refl t Edge l) fixed in omega arith;
      }

  module _ (tiles vertices edges : List ℕ) (of_tiles : AreCells t Tile tiles) (of_vertices : AreCells t Vertex vertices) (of_edges : AreCells t Edge edges) where
    -- each edge has four chambers
    four_each : length edges * 4 ≡ t.size
    four_each =
        let roots = (has_roots t inv Edge).are in
        let root = (has_roots t inv Edge).root in
        let sums = sum_over_cells t Edge root (λ d. 1) edges roots of_edges in
        let each = sum_by_same (λ l. sum_by (λ d. 1) (members_at t root l)) 4 edges (λ l here.
        let least = (of_edges.members l).0 here in
        let size = cycle_size t inv Edge l 2 (members_at t root l) least.0 (edge_period l least) (no_chain t torus.symbol torus.oriented Edge l least.0) (members_at_are t inv Edge root roots l least) in
        let ones = sum_by_same (λ d. 1) 1 (members_at t root l) (λ d _. refl) in
        omega arith) in
        let all = sum_by_same (λ d. 1) 1 (chambers t) (λ d _. refl) in
        let many = length-count_from 1 t.size in
        omega arith

    pub torus_balance : length vertices + length tiles ≡ length edges
    torus_balance =
        let e : IsEuler t (pos (length tiles + length vertices + length edges + t.size) -ℤ pos (orbits t Zero + orbits t One + orbits t Two)) =
        record { tiles = tiles; vertices = vertices; edges = edges; are_tiles = of_tiles; are_vertices = of_vertices; are_edges = of_edges; sum = refl } in
        let balance = sum_balance t torus.symbol torus.oriented torus.flat 1 cells all_are (pos (length tiles + length vertices + length edges + t.size) -ℤ pos (orbits t Zero + orbits t One + orbits t Two)) e in
        let none = nothing_wanted in
        let zero_orbits = free_orbits t inv torus.oriented.free Zero in
        let one_orbits = free_orbits t inv torus.oriented.free One in
        let two_orbits = free_orbits t inv torus.oriented.free Two in
        let four = four_each in
        omega arith
