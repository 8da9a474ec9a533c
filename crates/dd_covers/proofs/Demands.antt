-- The demands k / v of all cells add to whole rounds.
use Rattle.std.proofs.Common.{◌≡◌, ℕ, ◌+◌, ◌*◌, ◌/◌, ◌≤◌, ℤ, List, [], ◌∷◌, ◌++◌, length, map, refl, ap, ◌∙◌, inl, inr, arith}
use Rattle.std.proofs.lemmas.List.Sums.{sum_by-cons, sum_by-append}
use Rattle.std.specs.List.{sum_by, AllByRecursion}
use Rattle.dd_model.specs.declared.index.Index.TheVariants.{Zero, One, Two}
use Rattle.dd_model.specs.declared.pair.Pair.{Pair}
use Rattle.dd_model.specs.declared.pair.Pair.TheVariants.{Tile, Vertex, Edge}
use Rattle.dd_model.specs.Symbol.{Symbol, IsChamber, IsSymbol}
use Rattle.dd_model.specs.Cell.{IsBranching}
use Rattle.dd_model.specs.Flat.{Flat}
use Rattle.dd_model.proofs.Branching.{branching_exists, branching_unique}
use Rattle.dd_model.proofs.CellSearch.{Decided, decide_chamber}
use Rattle.dd_model.proofs.Lists.{each_of, all_from_members}
use Rattle.dd_cells.specs.Cells.{IsCellOf}
use Rattle.dd_cells.specs.Euler.{orbits, IsEuler}
use Rattle.dd_cells.specs.Fraction.{Divides}
use Rattle.dd_cells.specs.Orientation.{IsOriented}
use Rattle.dd_cells.specs.Surface.{AreAllCells}
use Rattle.dd_cells.specs.declared.cell.Cell.{Cell}
use Rattle.dd_cells.proofs.CellSums.{sum_by_listed, sum_by-map}
use Rattle.dd_covers.specs.PlaneValues.{AreTheCells, value_of, all_values}
use Rattle.dd_covers.proofs.Congruences.{AreCongruent}
use Rattle.dd_covers.proofs.EulerLemmas.{all_cells}
use Rattle.dd_covers.proofs.Nodes.{decoded, decoded_at}
use Rattle.dd_covers.specs.CellNumbers.{numbered}
use Rattle.dd_covers.proofs.PlaneLemmas.{sum_balance}
use Rattle.dd_covers.proofs.PlaneLists.{want}

-- ## One whole, in parts

part_below : (k v : ℕ) → k / v ≤ k
part_below k v = grind arith

sum_of_shares : (k : ℕ) (vs : List ℕ) → sum_by (want k) vs + sum_by (λ v. k / v) vs ≡ length vs * k
sum_of_shares k [] = omega arith
sum_of_shares k (v ∷ vs) =
    let a = sum_by-cons (want k) v vs in
    let b = sum_by-cons (λ w. k / w) v vs in
    let below = part_below k v in
    let rest = sum_of_shares k vs in
    omega arith

-- cells and chambers against sides, with the shares in place of what is wanting
by_shares : (k a b n wanted total : ℕ) → k * a ≡ k * b + wanted → wanted + total ≡ n * k → total + a * k ≡ (n + b) * k
by_shares k a b n wanted total balance sums = omega arith

-- ## The demands

value_at : (s : Symbol) → IsSymbol s → (p : Pair) (l : ℕ) → Decided (IsChamber s l) → ℕ
value_at s is p l (inl h) = (branching_exists s is p l h).0
value_at s is p l (inr out) = 1

module _ (s : Symbol) (is : IsSymbol s) (oriented : IsOriented s) (flat : Flat s) (k : ℕ)
    (multiple : (p : Pair) (d v : ℕ) → IsChamber s d → IsBranching s p d v → Divides v k) where
  value : Pair → ℕ → ℕ
  value p l = value_at s is p l (decide_chamber s l)

  value_is : (p : Pair) (l v : ℕ) → IsChamber s l → IsBranching s p l v → value p l ≡ v
  unfolding value value_at
  value_is p l v h b = case (decide_chamber s l) where
    case : (t : Decided (IsChamber s l)) → value_at s is p l t ≡ v
    case (inl hl) = branching_unique s p l (branching_exists s is p l hl).0 v (branching_exists s is p l hl).1 b
    case (inr out) = absurd (out h)

  pub demand : Pair → ℕ → ℕ
  demand p l = k / value p l

  pub demand_is : (p : Pair) (l v : ℕ) → IsChamber s l → IsBranching s p l v → demand p l ≡ k / v
  unfolding demand
  demand_is p l v h b = ap (λ z. k / z) (value_is p l v h b)

  module _ (cells : Pair → List Cell) (told : AreTheCells s cells) where
    abbrev least_of : Pair → List ℕ
    least_of p = map (λ (c : Cell). c.least) (cells p)

    cells_sum : (p : Pair) (cs : List Cell) → AllByRecursion (IsCellOf s p) cs → sum_by (demand p) (map (λ (c : Cell). c.least) cs) ≡ sum_by (λ v. k / v) (map value_of cs)
    cells_sum p [] all = refl
    cells_sum p (c ∷ cs) all =
        let a = sum_by-cons (demand p) c.least (map (λ (d : Cell). d.least) cs) in
        let b = sum_by-cons (λ v. k / v) c.v (map value_of cs) in
        let here = demand_is p c.least c.v all.0.least.0 all.0.branching in
        let rest = cells_sum p cs all.1 in
        omega arith

    numbers_sum : (p : Pair) → sum_by (decoded s demand) (map (numbered s p) (least_of p)) ≡ sum_by (λ v. k / v) (map value_of (cells p))
    numbers_sum p =
        sum_by-map (decoded s demand) (numbered s p) (least_of p)
        ∙ sum_by_listed (λ l. decoded s demand (numbered s p l)) (demand p) (least_of p)
        (λ l here. decoded_at s demand p l (((told p).least_chambers.members l).0 here).0)
        ∙ cells_sum p (cells p) (told p).each

    all_numbers_sum : sum_by (decoded s demand) (all_cells s least_of) ≡ sum_by (λ v. k / v) (all_values cells)
    all_numbers_sum =
        let b = decoded s demand in
        let f : ℕ → ℕ = λ v. k / v in
        let outer = sum_by-append b (map (numbered s Tile) (least_of Tile) ++ map (numbered s Vertex) (least_of Vertex)) (map (numbered s Edge) (least_of Edge)) in
        let inner = sum_by-append b (map (numbered s Tile) (least_of Tile)) (map (numbered s Vertex) (least_of Vertex)) in
        let outer2 = sum_by-append f (map value_of (cells Tile) ++ map value_of (cells Vertex)) (map value_of (cells Edge)) in
        let inner2 = sum_by-append f (map value_of (cells Tile)) (map value_of (cells Vertex)) in
        let t = numbers_sum Tile in
        let v = numbers_sum Vertex in
        let e = numbers_sum Edge in
        omega arith

    all_are : AreAllCells s k cells
    all_are = record {
      are = told;
      multiple = λ p. all_from_members (λ (c : Cell). Divides c.v k) (cells p) (λ c here.
          let cell = each_of (IsCellOf s p) (cells p) c (told p).each here in
          multiple p c.least c.v cell.least.0 cell.branching);
    }

    pub demands_none : (number : ℤ) → IsEuler s number → AreCongruent k (sum_by (decoded s demand) (all_cells s least_of)) 0
    demands_none number e =
        let a = length e.tiles + length e.vertices + length e.edges + s.size in
        let b = orbits s Zero + orbits s One + orbits s Two in
        let n = length (all_values cells) in
        let equal =
        by_shares k a b n (sum_by (want k) (all_values cells)) (sum_by (λ v. k / v) (all_values cells))
        (sum_balance s is oriented flat k cells all_are number e) (sum_of_shares k (all_values cells)) in
        let same = all_numbers_sum in
        record { up = a; down = n + b; equal = omega arith }
