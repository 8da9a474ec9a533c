-- The curvature bound from both sides: shares of the degrees of a flat symbol, place by place.
use Rattle.std.proofs.Common.{◌≡◌, ℕ, suc, ◌+◌, ◌-◌, ◌*◌, ◌/◌, ◌<◌, ◌≤◌, List, [], ◌∷◌, length, get_or, sym, ap, subst, arith}
use Rattle.std.proofs.lemmas.List.Sums.{sum_by-cons}
use Rattle.std.proofs.Math.Nat.{mul-le-mul_left}
use Rattle.std.specs.List.{sum_by}
use Rattle.dd_model.specs.Symbol.{Symbol, IsSymbol, IsChamber, item}
use Rattle.dd_model.specs.Code.{count_from, chambers}
use Rattle.dd_model.specs.Flat.{all_degrees, reciprocals, Flat}
use Rattle.dd_model.specs.declared.pair.Pair.TheVariants.{Tile, Vertex}
use Rattle.dd_model.proofs.AllDegrees.{all_degrees_positive}
use Rattle.dd_cells.specs.Fraction.{Divides}
use Rattle.dd_cells.proofs.CurvatureLemmas.{tile_divides, vertex_divides}
use Rattle.dd_cells.proofs.ReciprocalSums.{quotient_is}
use Rattle.dd_cells.proofs.CellSums.{chamber_listed}

-- one degree
pub part_below : (D L a m : ℕ) → 1 ≤ m → Divides m D → a * m ≤ L → D * a ≤ D / m * L
part_below D L a m pos divides share =
    let q = divides.quotient in
    let quotient : D / m ≡ q = quotient_is q m D pos divides.product in
    let up : q * (a * m) ≤ q * L = mul-le-mul_left q share in
    let swap : q * (a * m) ≡ q * m * a = grind arith in
    let whole : q * m * a ≡ D * a = ap (λ x. x * a) divides.product in
    subst (λ x. D * a ≤ x * L) (sym quotient) (omega (arith, up, swap, whole))

pub add_below : (D L x y a b : ℕ) → D * a ≤ x * L → D * b ≤ y * L → D * (a + b) ≤ (x + y) * L
add_below D L x y a b hx hy =
    let left : (x + y) * L ≡ x * L + y * L = grind arith in
    let right : D * (a + b) ≡ D * a + D * b = grind arith in
    omega (arith, left, right, hx, hy)

-- the shares of a list of degrees, at chambers from k on
below_parts : (D L : ℕ) (a : ℕ → ℕ) (k : ℕ) (ms : List ℕ) → ((j : ℕ) → j < length ms → D * a (k + j) ≤ D / get_or ms j 0 * L)
    → D * sum_by a (count_from k (length ms)) ≤ sum_by (λ m. D / m) ms * L
below_parts D L a k [] each = let e : D * 0 ≡ 0 = omega arith in omega (arith, e)
below_parts D L a k (m ∷ ms) each =
    let e = sum_by-cons (λ m. D / m) m ms in
    let f = sum_by-cons a k (count_from (k + 1) (length ms)) in
    let here : k + 0 ≡ k = omega arith in
    let first : D * a k ≤ D / m * L = subst (λ i. D * a i ≤ D / m * L) here (each 0 (omega arith)) in
    let rest = below_parts D L a (k + 1) ms (λ j low.
    let next : k + suc j ≡ k + 1 + j = omega arith in
    subst (λ i. D * a i ≤ D / get_or ms j 0 * L) next (each (suc j) (omega arith))) in
    let both = add_below D L (D / m) (sum_by (λ m. D / m) ms) (a k) (sum_by a (count_from (k + 1) (length ms))) first rest in
    subst (λ x. D * sum_by a (count_from k (length (m ∷ ms))) ≤ x * L) (sym e) (subst (λ y. D * y ≤ (D / m + sum_by (λ m. D / m) ms) * L) (sym f) both)

cancel_product : (n D L x a : ℕ) → 1 ≤ D → 2 * x ≡ n * D → D * a ≤ x * L → 2 * a ≤ n * L
cancel_product n D L x a pos flat bound =
    let e : D * (n * L) ≡ n * D * L = grind arith in
    let f : n * D * L ≡ 2 * x * L = ap (λ y. y * L) (sym flat) in
    let g : 2 * x * L ≡ 2 * (x * L) = grind arith in
    let k : D * (2 * a) ≡ 2 * (D * a) = grind arith in
    let both : D * (2 * a) ≤ D * (n * L) = omega (arith, e, f, g, k, bound) in
    cancel_factor D (2 * a) (n * L) pos both
  where
    cancel_factor : (D x y : ℕ) → 1 ≤ D → D * x ≤ D * y → x ≤ y
    cancel_factor D x y pos h = grind arith

-- the degree of each chamber at its place of a list
at_place : (s : Symbol) (ms : List ℕ) (Q : ℕ → ℕ → Type 0) → length ms ≡ s.size → ((d : ℕ) → IsChamber s d → Q d (item ms d)) → (j : ℕ) → j < length ms → Q (1 + j) (get_or ms j 0)
at_place s ms Q len each j low =
    let e : 1 + j - 1 ≡ j = omega arith in
    subst (λ i. Q (1 + j) (get_or ms i 0)) e (each (1 + j) (omega arith, omega arith))

tile_part : (s : Symbol) → IsSymbol s → (L a d : ℕ) → IsChamber s d → a * item s.m01 d ≤ L → all_degrees s * a ≤ all_degrees s / item s.m01 d * L
tile_part s is L a d h share = part_below (all_degrees s) L a (item s.m01 d) (is.degrees Tile d h).positive (tile_divides s is.table d (chamber_listed s d h)) share

vertex_part : (s : Symbol) → IsSymbol s → (L a d : ℕ) → IsChamber s d → a * item s.m12 d ≤ L → all_degrees s * a ≤ all_degrees s / item s.m12 d * L
vertex_part s is L a d h share = part_below (all_degrees s) L a (item s.m12 d) (is.degrees Vertex d h).positive (vertex_divides s is.table d (chamber_listed s d h)) share

-- The mirror of the share bound.
pub small_shares : (s : Symbol) → IsSymbol s → Flat s → (L : ℕ) (a b : ℕ → ℕ)
    → ((d : ℕ) → IsChamber s d → a d * item s.m01 d ≤ L) → ((d : ℕ) → IsChamber s d → b d * item s.m12 d ≤ L)
    → 2 * (sum_by a (chambers s) + sum_by b (chambers s)) ≤ s.size * L
small_shares s is flat L a b ha hb =
    let D = all_degrees s in
    let tiles : D * sum_by a (chambers s) ≤ sum_by (λ m. D / m) s.m01 * L =
    subst (λ n. D * sum_by a (count_from 1 n) ≤ sum_by (λ m. D / m) s.m01 * L) is.table.m01_length
    (below_parts D L a 1 s.m01 (at_place s s.m01 (λ d m. D * a d ≤ D / m * L) is.table.m01_length (λ d h. tile_part s is L (a d) d h (ha d h)))) in
    let vertices : D * sum_by b (chambers s) ≤ sum_by (λ m. D / m) s.m12 * L =
    subst (λ n. D * sum_by b (count_from 1 n) ≤ sum_by (λ m. D / m) s.m12 * L) is.table.m12_length
    (below_parts D L b 1 s.m12 (at_place s s.m12 (λ d m. D * b d ≤ D / m * L) is.table.m12_length (λ d h. vertex_part s is L (b d) d h (hb d h)))) in
    cancel_product s.size D L (reciprocals s) (sum_by a (chambers s) + sum_by b (chambers s)) (all_degrees_positive s is) flat
    (add_below D L (sum_by (λ m. D / m) s.m01) (sum_by (λ m. D / m) s.m12) (sum_by a (chambers s)) (sum_by b (chambers s)) tiles vertices)
