-- The Euler number of an oriented symbol is even: a turn round a tile and then one round a vertex is a turn round an edge, and so
-- the signs of the first two make that of the third.
use Rattle.std.proofs.Common.{◌≡◌, ◌≢◌, ℕ, ◌+◌, ◌-◌, ◌*◌, Bool, true, false, not, cond, ℤ, pos, ◌-ℤ◌, List, length, refl, sym, ap, ◌∙◌, arith}
use Rattle.std.proofs.lemmas.Bool.{ne_eqb}
use Rattle.std.proofs.lemmas.Int.{ints}
use Rattle.std.specs.List.{Contains}
use Rattle.dd_model.specs.declared.index.Index.{Index}
use Rattle.dd_model.specs.declared.index.Index.TheVariants.{Zero, One, Two}
use Rattle.dd_model.specs.declared.pair.Pair.{Pair}
use Rattle.dd_model.specs.declared.pair.Pair.TheVariants.{Tile, Vertex, Edge}
use Rattle.dd_model.specs.Symbol.{Symbol, AreInvolutions, IsChamber, IsTable, op}
use Rattle.dd_model.specs.Code.{chambers}
use Rattle.dd_model.specs.Cell.{AreCells}
use Rattle.dd_model.proofs.CountFrom.{length-count_from}
use Rattle.dd_model.proofs.Turns.{turned_apart}
use Rattle.dd_cells.specs.Euler.{orbits, IsEuler}
use Rattle.dd_cells.specs.Orientation.{IsOriented, color}
use Rattle.dd_cells.specs.Surface.{fixed_chambers}
use Rattle.dd_cells.proofs.CellSums.{has_roots, sum_by_listed, sum_by_both, sum_by_same, sum_by_none, listed_chamber}
use Rattle.dd_cells.proofs.FixedFlags.{one_if, fixed_flag}
use Rattle.dd_cells.proofs.OrbitCounts.{sum_over_images, twice_orbits}
use Rattle.dd_covers.specs.Parity.{IsEvenNumber}
use Rattle.dd_covers.proofs.Congruences.{AreCongruent}
use Rattle.dd_covers.proofs.Crossings.{doubly_listed, opposed, IsRanking, crossing, crossings, crossings_along, crossings_moved}
use Rattle.dd_covers.proofs.CellRanks.{all_whites, listed_white, round, sum_over_round, sum_over_kept, turn_sign}
use Rattle.dd_covers.proofs.EulerLemmas.{cells_of, are_cells_of}

-- an involution that fixes no chamber has half as many orbits
pub free_orbits : (s : Symbol) → AreInvolutions s → ((i : Index) (d : ℕ) → IsChamber s d → op s i d ≢ d) → (i : Index) → 2 * orbits s i ≡ s.size
free_orbits s inv free i =
    let none : fixed_chambers s i ≡ 0 = sum_by_none (fixed_flag s i) (chambers s) (λ d listed. ap one_if (ne_eqb (op s i d) d (free i d (listed_chamber s d listed)))) in
    let twice = twice_orbits s inv i in
    omega arith

module _ (s : Symbol) (inv : AreInvolutions s) (white : ℕ → Bool) (exchanged : (i : Index) (d : ℕ) → IsChamber s d → white (op s i d) ≡ not (white d)) where
  abbrev ws : List ℕ
  ws = all_whites s inv white exchanged

  sign : (ds : Pair → List ℕ) → ((p : Pair) → AreCells s p (ds p)) → (p : Pair)
      → AreCongruent 4 (crossings (λ d. d) (round s inv white exchanged p) ws + 2 * length (ds p)) (2 * length ws)
  sign ds cells p = let roots = has_roots s inv p in turn_sign s inv white exchanged p roots.root roots.are (ds p) (cells p)

  ranking : (p : Pair) → IsRanking ws (round s inv white exchanged p)
  ranking p x y hx hy same =
      turned_apart s inv p 1 x y (listed_white s inv white exchanged x hx).0 (listed_white s inv white exchanged y hy).0 same

  -- a turn round a tile, and then one round a vertex
  round_edge : (d : ℕ) → Contains ws d
      → round s inv white exchanged Edge d ≡ round s inv white exchanged Vertex (round s inv white exchanged Tile d)
  round_edge d here =
      let h = (listed_white s inv white exchanged d here).0 in
      ap (op s Two) (sym ((inv One).involutive (op s Zero d) ((inv Zero).within d h)))

  -- half of the chambers are white
  pub half_white : 2 * length ws ≡ s.size
  half_white =
      let f : ℕ → ℕ = λ d. cond (white d) 1 0 in
      let ones = sum_by_same (λ d. 1) 1 ws (λ d _. refl) in
      let kept = sum_over_kept (λ d. 1) white (chambers s) in
      let beside = sum_over_images s inv Zero f in
      let other = sum_by_listed (λ d. f (op s Zero d)) (λ d. cond (not (white d)) 1 0) (chambers s) (λ d here. ap (λ t. cond t 1 0) (exchanged Zero d (listed_chamber s d here))) in
      let both = sum_by_both f (λ d. cond (not (white d)) 1 0) (chambers s) in
      let all = sum_by_same (λ d. f d + cond (not (white d)) 1 0) 1 (chambers s) (λ d _. one (white d)) in
      let size = length-count_from 1 s.size in
      omega arith
    where
      one : (t : Bool) → cond t 1 0 + cond (not t) 1 0 ≡ 1
      one true = refl
      one false = refl

  pub cells_and_whites : (ds : Pair → List ℕ) → ((p : Pair) → AreCells s p (ds p))
      → (k : ℕ) × (length (ds Tile) + length (ds Vertex) + length (ds Edge) + length ws ≡ 2 * k)
  cells_and_whites ds cells =
      let own : ℕ → ℕ = λ d. d in
      let a = round s inv white exchanged Tile in
      let b = round s inv white exchanged Vertex in
      let e = round s inv white exchanged Edge in
      let via = crossings_along own a e ws (λ x y hx hy same. same) (ranking Tile) (ranking Edge) in
      let after = doubly_listed (crossing a e) (λ x y. crossing own b (a x) (a y)) ws (λ x y hx hy.
      ap (λ z. opposed (a x) (a y) z (e y)) (round_edge x hx) ∙ ap (opposed (a x) (a y) (b (a x))) (round_edge y hy)) in
      let moved = crossings_moved a ws (sum_over_round s inv white exchanged Tile) own b in
      let tiles = sign ds cells Tile in
      let vertices = sign ds cells Vertex in
      let edges = sign ds cells Edge in
      let p = tiles.equal in
      let q = vertices.equal in
      let r = edges.equal in
      let v = via.1 in
      (length ws + length (ds Edge) + tiles.down + vertices.down + edges.up - (edges.down + via.0 + tiles.up + vertices.up), omega arith)

-- The number is that of the cells less that of the whites.
pub even_euler : (s : Symbol) (number : ℤ) → IsTable s → IsOriented s → IsEuler s number → IsEvenNumber number
even_euler s number table oriented e =
    let inv = table.involutions in
    let white = color oriented.colors in
    let cells = cells_and_whites s inv white oriented.exchanged (cells_of s number e) (are_cells_of s number e) in
    let twice = cells.1 in
    let half = half_white s inv white oriented.exchanged in
    let sum = e.sum in
    let zero_orbits = free_orbits s inv oriented.free Zero in
    let one_orbits = free_orbits s inv oriented.free One in
    let two_orbits = free_orbits s inv oriented.free Two in
    record { half = pos cells.0 -ℤ pos (length (all_whites s inv white oriented.exchanged)); twice = omega (arith, ints) }
