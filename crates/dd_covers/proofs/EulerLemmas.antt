-- The Euler number of a connected symbol is at most 2: the first visits of its chambers make a tree of n - 1 sides, and the sides
-- off the tree join all cells, so that there is at most one cell more than such sides.
use Rattle.std.proofs.Common.{◌≡◌, ℕ, ◌+◌, ◌<◌, ◌≤◌, ℤ, pos, ◌≤ℤ◌, List, ◌++◌, length, map, sym, ap, ◌∙◌, ⊎_elim, arith}
use Rattle.std.proofs.lemmas.List.{length-map, length-append}
use Rattle.std.proofs.lemmas.List.Elements.{Contains-append_cases}
use Rattle.std.proofs.lemmas.Int.{ints}
use Rattle.std.specs.List.{Contains}
use Rattle.std.specs.List.Sorted.{IsStrictlyIncreasing}
use Rattle.dd_model.specs.declared.index.Index.TheVariants.{Zero, One, Two}
use Rattle.dd_model.specs.declared.pair.Pair.{Pair}
use Rattle.dd_model.specs.declared.pair.Pair.TheVariants.{Tile, Vertex, Edge}
use Rattle.dd_model.specs.Symbol.{Symbol, AreInvolutions, IsTable}
use Rattle.dd_model.specs.Connected.{Connected}
use Rattle.dd_model.specs.Cell.{IsLeastOfCell, AreCells}
use Rattle.dd_model.proofs.Lists.{Contains-map}
use Rattle.dd_covers.proofs.Mapped.{Contains-from_map}
use Rattle.dd_model.proofs.CellSearch.{least_of_cell_unique}
use Rattle.dd_cells.specs.Euler.{orbits, IsEuler}
use Rattle.dd_cells.proofs.CellSums.{AreRoots, has_roots}
use Rattle.dd_covers.proofs.Nodes.{root_beside}
use Rattle.dd_covers.specs.CellNumbers.{base, numbered}
use Rattle.dd_covers.proofs.Trees.{Step, IsWhole, whole_tree, many_met}
use Rattle.dd_covers.proofs.Sides.{off_sides, length-all_sides, few_off}
use Rattle.dd_covers.specs.Ends.{one_end, other_end, IsOfCells, IsLevel}
use Rattle.dd_covers.proofs.Levels.{all_level, one_value}
use Rattle.dd_covers.proofs.Labels.{Link, labels, linked, joined_by_links, increasing_append, increasing_map}

-- ## Cells as numbers

rises : (s : Symbol) (p : Pair) (x y : ℕ) → x < y → numbered s p x < numbered s p y
rises s p x y h = omega arith

-- the numbers of all cells
abbrev pub all_cells : Symbol → (Pair → List ℕ) → List ℕ
all_cells s ds = map (numbered s Tile) (ds Tile) ++ map (numbered s Vertex) (ds Vertex) ++ map (numbered s Edge) (ds Edge)

-- a number of a cell of a pair
record IsCellNumber (s : Symbol) (p : Pair) (ds : List ℕ) (v : ℕ) : Type 0 where
  pub least : ℕ
  pub listed : Contains ds least
  pub number : numbered s p least ≡ v

cell_number : (s : Symbol) (p : Pair) (ds : List ℕ) (v : ℕ) → Contains (map (numbered s p) ds) v → IsCellNumber s p ds v
cell_number s p ds v here = let from = Contains-from_map (numbered s p) ds v here in record { least = from.0; listed = from.1; number = from.2 }

module _ (s : Symbol) (inv : AreInvolutions s) (ds : Pair → List ℕ) (cells : (p : Pair) → AreCells s p (ds p)) where
  -- a least chamber is a chamber
  pub listed_least : (p : Pair) (l : ℕ) → Contains (ds p) l → IsLeastOfCell s p l
  listed_least p l here = ((cells p).members l).0 here

  number_high : (p : Pair) (v : ℕ) → IsCellNumber s p (ds p) v → v ≤ base s p + s.size
  number_high p v n = let high = (listed_least p n.least n.listed).0.1 in let e = n.number in omega arith

  number_low : (p : Pair) (v : ℕ) → IsCellNumber s p (ds p) v → base s p < v
  number_low p v n = let low = (listed_least p n.least n.listed).0.0 in let e = n.number in omega arith

  ascending_of : (p : Pair) → IsStrictlyIncreasing (map (numbered s p) (ds p))
  ascending_of p = increasing_map (numbered s p) (rises s p) (ds p) (cells p).ascending

  tiles_before : (x y : ℕ) → Contains (map (numbered s Tile) (ds Tile)) x → Contains (map (numbered s Vertex) (ds Vertex)) y → x < y
  tiles_before x y hx hy =
      let a = number_high Tile x (cell_number s Tile (ds Tile) x hx) in
      let b = number_low Vertex y (cell_number s Vertex (ds Vertex) y hy) in
      omega arith

  edges_last : (x y : ℕ) → Contains (map (numbered s Tile) (ds Tile) ++ map (numbered s Vertex) (ds Vertex)) x → Contains (map (numbered s Edge) (ds Edge)) y → x < y
  edges_last x y hx hy =
      let b = number_low Edge y (cell_number s Edge (ds Edge) y hy) in
      ⊎_elim
      (λ one. let a = number_high Tile x (cell_number s Tile (ds Tile) x one) in omega arith)
      (λ two. let a = number_high Vertex x (cell_number s Vertex (ds Vertex) x two) in omega arith)
      (Contains-append_cases (map (numbered s Tile) (ds Tile)) (map (numbered s Vertex) (ds Vertex)) x hx)

  pub all_ascending : IsStrictlyIncreasing (all_cells s ds)
  all_ascending =
      increasing_append (map (numbered s Tile) (ds Tile) ++ map (numbered s Vertex) (ds Vertex)) (map (numbered s Edge) (ds Edge))
      (increasing_append (map (numbered s Tile) (ds Tile)) (map (numbered s Vertex) (ds Vertex)) (ascending_of Tile) (ascending_of Vertex) tiles_before)
      (ascending_of Edge) edges_last

  length-all : length (all_cells s ds) ≡ length (ds Tile) + length (ds Vertex) + length (ds Edge)
  length-all =
      let outer = length-append (map (numbered s Tile) (ds Tile) ++ map (numbered s Vertex) (ds Vertex)) (map (numbered s Edge) (ds Edge)) in
      let inner = length-append (map (numbered s Tile) (ds Tile)) (map (numbered s Vertex) (ds Vertex)) in
      let a = length-map (ds Tile) (numbered s Tile) in
      let b = length-map (ds Vertex) (numbered s Vertex) in
      let c = length-map (ds Edge) (numbered s Edge) in
      omega arith

  -- ## Cells joined by sides

  module _ (root : Pair → ℕ → ℕ) (roots : (p : Pair) → AreRoots s p (root p)) where
    own_root : (p : Pair) (l : ℕ) → IsLeastOfCell s p l → root p l ≡ l
    own_root p l least =
        sym (least_of_cell_unique s inv p l (root p l) least ((roots p).least l least.0) ((roots p).in_cell l least.0))

    abbrev node : Pair → ℕ → ℕ
    node p d = numbered s p (root p d)

    abbrev link_of : Step → Link
    link_of e = record { from = node (one_end e.index) e.chamber; to = node (other_end e.index) e.chamber }

    module _ (all : Connected s) (some : 1 ≤ s.size) (xs : List Step) (whole : IsWhole s xs) where
      abbrev links : List Link
      links = map link_of (off_sides s xs)

      abbrev value : Pair → ℕ → ℕ
      value p d = labels links (node p d)

      of_cells : IsOfCells s value
      of_cells p i d h holds = ap (λ z. labels links (numbered s p z)) (root_beside s inv p (root p) (roots p) i d h holds)

      off_level : (e : Step) → Contains (off_sides s xs) e → IsLevel value e.index e.chamber
      off_level e here = linked links (link_of e) (Contains-map link_of (off_sides s xs) e here)

      same_of : (p : Pair) (v : ℕ) → Contains (map (numbered s p) (ds p)) v → labels links v ≡ value Tile 1
      same_of p v here =
          let n = cell_number s p (ds p) v here in
          let least = listed_least p n.least n.listed in
          let e : node p n.least ≡ v = ap (numbered s p) (own_root p n.least least) ∙ n.number in
          ap (labels links) (sym e) ∙ one_value s inv value of_cells (all_level s inv value of_cells xs whole.tree off_level) some all p n.least least.0

      same_label : (v : ℕ) → Contains (all_cells s ds) v → labels links v ≡ value Tile 1
      same_label v here =
          ⊎_elim
          (λ front. ⊎_elim (same_of Tile v) (same_of Vertex v) (Contains-append_cases (map (numbered s Tile) (ds Tile)) (map (numbered s Vertex) (ds Vertex)) v front))
          (same_of Edge v)
          (Contains-append_cases (map (numbered s Tile) (ds Tile) ++ map (numbered s Vertex) (ds Vertex)) (map (numbered s Edge) (ds Edge)) v here)

      few_cells : length (ds Tile) + length (ds Vertex) + length (ds Edge) + s.size ≤ orbits s Zero + orbits s One + orbits s Two + 2
      few_cells =
          let joined = joined_by_links links (all_cells s ds) (value Tile 1) all_ascending same_label in
          let cells = length-all in
          let off = length-map (off_sides s xs) link_of in
          let sides = few_off s inv xs whole.tree in
          let all_of = length-all_sides s in
          let chambers = many_met s xs all whole in
          omega arith

-- There are at most two cells and chambers more than sides.
pub cells_and_chambers : (s : Symbol) → IsTable s → Connected s → (ds : Pair → List ℕ) → ((p : Pair) → AreCells s p (ds p))
    → length (ds Tile) + length (ds Vertex) + length (ds Edge) + s.size ≤ orbits s Zero + orbits s One + orbits s Two + 2
cells_and_chambers s table all ds cells =
    let inv = table.involutions in
    let tree = whole_tree s inv table.chambers in
    few_cells s inv ds cells (λ p. (has_roots s inv p).root) (λ p. (has_roots s inv p).are) all table.chambers tree.steps tree.whole

abbrev pub cells_of : (s : Symbol) (number : ℤ) → IsEuler s number → Pair → List ℕ
cells_of s number e Tile = e.tiles
cells_of s number e Vertex = e.vertices
cells_of s number e Edge = e.edges

pub are_cells_of : (s : Symbol) (number : ℤ) (e : IsEuler s number) (p : Pair) → AreCells s p (cells_of s number e p)
are_cells_of s number e Tile = e.are_tiles
are_cells_of s number e Vertex = e.are_vertices
are_cells_of s number e Edge = e.are_edges

pub euler_bound : (s : Symbol) (number : ℤ) → IsTable s → Connected s → IsEuler s number → number ≤ℤ pos 2
euler_bound s number table all e =
    let bound = cells_and_chambers s table all (cells_of s number e) (are_cells_of s number e) in
    let sum = e.sum in
    omega (arith, ints)
