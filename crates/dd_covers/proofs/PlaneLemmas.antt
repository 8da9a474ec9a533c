-- The cells of a connected, oriented, flat symbol: the sum of 1 - 1/v over them is the Euler number, and so 0, 1 or 2.
use Rattle.std.proofs.Common.{◌≡◌, ℕ, ◌+◌, ◌-◌, ◌*◌, ◌/◌, ◌≤◌, ℤ, pos, ◌-ℤ◌, ◌*ℤ◌, true, cond, List, [], ◌∷◌, ◌++◌, length, map, refl, sym, ap, subst, inl, inr, ⊎_elim, arith}
use Rattle.std.proofs.lemmas.Int.{ints}
use Rattle.std.proofs.lemmas.Bool.{cases_eq, cases_lt, le-leb, ltb-true}
use Rattle.std.proofs.lemmas.List.Sums.{sum_by-cons, sum_by-append}
use Rattle.std.proofs.lemmas.List.Elements.{Contains-append_cases}
use Rattle.std.specs.List.{Contains, filter, sum_by}
use Rattle.std.specs.Prelude.{nat_lt}
use Rattle.dd_model.specs.declared.index.Index.TheVariants.{Zero, One, Two}
use Rattle.dd_model.specs.declared.pair.Pair.{Pair}
use Rattle.dd_model.specs.declared.pair.Pair.TheVariants.{Tile, Vertex, Edge}
use Rattle.dd_model.specs.Symbol.{Symbol, AreInvolutions, IsTable, IsSymbol, IsChamber, degree}
use Rattle.dd_model.specs.Connected.{Connected}
use Rattle.dd_model.specs.Flat.{Flat, all_degrees}
use Rattle.dd_model.proofs.AllDegrees.{all_degrees_positive}
use Rattle.dd_model.proofs.CellLists.{cells_exist}
use Rattle.dd_model.proofs.Lists.{each_of, all_from_members, Contains-head, Contains-later}
use Rattle.dd_covers.proofs.Mapped.{Contains-from_map}
use Rattle.dd_symbol.specs.declared.kind.Kind.{Kind}
use Rattle.dd_symbol.specs.declared.kind.Kind.TheVariants.{Cycle, Chain}
use Rattle.dd_symbol.specs.Cells.{IsKindOf}
use Rattle.dd_cells.specs.Cells.{IsCellOf}
use Rattle.dd_cells.specs.Curvature.{IsCurvature}
use Rattle.dd_cells.specs.Euler.{IsEuler, orbits}
use Rattle.dd_cells.specs.Fraction.{Divides, IsQuotient}
use Rattle.dd_cells.specs.Orientation.{IsOriented}
use Rattle.dd_cells.specs.Surface.{sides, defects, AreAllCells}
use Rattle.dd_cells.specs.declared.cell.Cell.{Cell}
use Rattle.dd_cells.specs.declared.fractions.Fraction.{Fraction}
use Rattle.dd_cells.proofs.CellSums.{Contains-from_filter, chamber_listed}
use Rattle.dd_cells.proofs.CurvatureLemmas.{tile_divides, vertex_divides}
use Rattle.dd_cells.proofs.MemberLemmas.{value_positive}
use borrow.Author.Differences.{up, down}
use Rattle.dd_cells.proofs.ReciprocalSums.{quotient_is}
use Rattle.dd_cells.proofs.SurfaceLemmas.{curvature_of_surface}
use Rattle.dd_covers.specs.PlaneValues.{AreTheCells, value_of, all_values, values_above_one, HasPlaneValues}
use Rattle.dd_covers.proofs.PlaneLists.{want, IsWholeSum, plane_values}
use Rattle.dd_covers.proofs.ToldCells.{no_chain}
use Rattle.dd_covers.proofs.EulerLemmas.{cells_and_chambers}

-- ## The curvature is 0

abbrev zero_fraction : Fraction
zero_fraction = record { num = pos 0; den = pos 1 }

flat_curvature : (s : Symbol) → Flat s → IsCurvature s zero_fraction
flat_curvature s flat = record {
  reduced = record {
    positive = omega (arith, ints);
    coprime = λ d none one. let e = one.product in divisor_of_one one.quotient d e;
  };
  value = record { product = omega (arith, ints, flat) };
} where
  divisor_of_one : (q d : ℕ) → q * d ≡ 1 → d ≡ 1
  divisor_of_one q d e = grind arith

-- ## All cells are cycles

all_cycles : (s : Symbol) → IsSymbol s → IsOriented s → (p : Pair) (c : Cell) → IsCellOf s p c → c.kind ≡ Cycle
all_cycles s is oriented p c cell = case c.kind cell.kind where
  case : (k : Kind) → IsKindOf s p c.least k → k ≡ Cycle
  case Cycle kind = refl
  case Chain kind = absurd (no_chain s is oriented p c.least cell.least.0 kind)

-- ## Sums over cells

sum_of_defects : (whole : ℕ) (cells : List Cell) → ((c : Cell) → Contains cells c → c.kind ≡ Cycle) → defects whole cells ≡ 2 * sum_by (want whole) (map value_of cells)
sum_of_defects whole [] cycles = refl
sum_of_defects whole (c ∷ cells) cycles =
    let a = sum_by-cons (λ (d : Cell). sides d.kind * (whole - whole / d.v)) c cells in
    let b = sum_by-cons (want whole) c.v (map value_of cells) in
    let kind = ap (λ k. sides k * want whole c.v) (cycles c (Contains-head c cells)) in
    let rest = sum_of_defects whole cells (λ d later. cycles d (Contains-later c d cells later)) in
    omega arith

-- the sum over all cells, in three parts
sum_of_values : (f : ℕ → ℕ) (cells : Pair → List Cell) → sum_by f (all_values cells) ≡ sum_by f (map value_of (cells Tile)) + sum_by f (map value_of (cells Vertex)) + sum_by f (map value_of (cells Edge))
sum_of_values f cells =
    let outer = sum_by-append f (map value_of (cells Tile) ++ map value_of (cells Vertex)) (map value_of (cells Edge)) in
    let inner = sum_by-append f (map value_of (cells Tile)) (map value_of (cells Vertex)) in
    omega arith

-- values of 1 add nothing
sum_above_one : (whole : ℕ) (vs : List ℕ) → ((v : ℕ) → Contains vs v → 1 ≤ v) → sum_by (want whole) (filter (nat_lt 1) vs) ≡ sum_by (want whole) vs
sum_above_one whole [] low = refl
sum_above_one whole (v ∷ vs) low =
    let split = sum_by-cons (want whole) v vs in
    let own = quotient_is whole 1 whole (omega arith) (omega arith) in
    let rest = sum_above_one whole vs (λ w later. low w (Contains-later v w vs later)) in
    let some = low v (Contains-head v vs) in
    ⊎_elim
    (λ one.
    let none : want whole v ≡ 0 = let at : want whole v ≡ want whole 1 = ap (want whole) one in omega arith in
    let gone : sum_by (want whole) (filter (nat_lt 1) (v ∷ vs)) ≡ sum_by (want whole) (filter (nat_lt 1) vs) =
    ap (λ (w : ℕ). sum_by (want whole) (cond (nat_lt 1 w) (v ∷ filter (nat_lt 1) vs) (filter (nat_lt 1) vs))) one in
    omega arith)
    (λ more.
    let above : nat_lt 1 v ≡ true = le-leb 2 v (omega arith) in
    let kept : sum_by (want whole) (filter (nat_lt 1) (v ∷ vs)) ≡ sum_by (want whole) (v ∷ filter (nat_lt 1) vs) =
    ap (λ t. sum_by (want whole) (cond t (v ∷ filter (nat_lt 1) vs) (filter (nat_lt 1) vs))) above in
    let head = sum_by-cons (want whole) v (filter (nat_lt 1) vs) in
    omega arith)
    (cases_eq v 1)

-- ## The law

-- the sum is that many times the whole by which cells and chambers are more than sides
balanced : (whole : ℕ) (number : ℤ) (a b total : ℕ) → number ≡ pos a -ℤ pos b
    → IsQuotient zero_fraction (number *ℤ pos (2 * whole) -ℤ pos (2 * total)) whole → whole * a ≡ whole * b + total
balanced whole number a b total is value =
    let e = value.product in
    let difference : up number + b ≡ a + down number = omega (arith, ints) in
    let times = ap (λ k. k * (2 * whole)) difference in
    omega (arith, ints)

whole_sum : (whole a b total : ℕ) → 1 ≤ whole → whole * a ≡ whole * b + total → a ≤ b + 2 → IsWholeSum whole total
whole_sum whole a b total some e bound =
    ⊎_elim
    (λ less.
    let rest : a + 1 + (b - a - 1) ≡ b = omega arith in
    let at = ap (λ z. whole * z) rest in
    absurd (omega arith))
    (λ more. ⊎_elim
    (λ none. inl (let exactly : a ≡ b = omega arith in let at = ap (λ z. whole * z) exactly in omega arith))
    (λ above. ⊎_elim
    (λ one. inr (inl (let exactly : a ≡ b + 1 = omega arith in let at = ap (λ z. whole * z) exactly in omega arith)))
    (λ two. inr (inr (let exactly : a ≡ b + 2 = omega arith in let at = ap (λ z. whole * z) exactly in omega arith)))
    (cases_lt a (b + 2)))
    (cases_lt a (b + 1)))
    (cases_lt a b)

abbrev pub told_euler : (s : Symbol) → (ds : Pair → List ℕ) → ℤ
told_euler s ds = pos (length (ds Tile) + length (ds Vertex) + length (ds Edge) + s.size) -ℤ pos (orbits s Zero + orbits s One + orbits s Two)

abbrev pub least_of : (s : Symbol) → AreInvolutions s → Pair → List ℕ
least_of s inv p = (cells_exist s inv p).0

abbrev pub euler_of : (s : Symbol) (inv : AreInvolutions s) → IsEuler s (told_euler s (least_of s inv))
euler_of s inv = record {
  tiles = least_of s inv Tile;
  vertices = least_of s inv Vertex;
  edges = least_of s inv Edge;
  are_tiles = (cells_exist s inv Tile).1;
  are_vertices = (cells_exist s inv Vertex).1;
  are_edges = (cells_exist s inv Edge).1;
  sum = refl;
}

cycle_of : (s : Symbol) → IsSymbol s → IsOriented s → (cells : Pair → List Cell) → AreTheCells s cells → (p : Pair) (c : Cell) → Contains (cells p) c → c.kind ≡ Cycle
cycle_of s is oriented cells told p c here = all_cycles s is oriented p c (each_of (IsCellOf s p) (cells p) c (told p).each here)

-- a value among those of all cells is that of a cell
pub record IsToldValue (s : Symbol) (cells : Pair → List Cell) (v : ℕ) : Type 0 where
  pub pair : Pair
  pub cell : Cell
  pub listed : Contains (cells pair) cell
  pub value : cell.v ≡ v

told_at : (s : Symbol) (cells : Pair → List Cell) (p : Pair) (v : ℕ) → Contains (map value_of (cells p)) v → IsToldValue s cells v
told_at s cells p v here = let from = Contains-from_map value_of (cells p) v here in record { pair = p; cell = from.0; listed = from.1; value = from.2 }

pub told_value : (s : Symbol) (cells : Pair → List Cell) (v : ℕ) → Contains (all_values cells) v → IsToldValue s cells v
told_value s cells v here =
    ⊎_elim
    (λ front. ⊎_elim (told_at s cells Tile v) (told_at s cells Vertex v) (Contains-append_cases (map value_of (cells Tile)) (map value_of (cells Vertex)) v front))
    (told_at s cells Edge v)
    (Contains-append_cases (map value_of (cells Tile) ++ map value_of (cells Vertex)) (map value_of (cells Edge)) v here)

-- branching values are positive, and divide what all of them divide
value_divides : (s : Symbol) → IsSymbol s → (whole : ℕ) (cells : Pair → List Cell) → AreAllCells s whole cells → (v : ℕ) → Contains (all_values cells) v → (1 ≤ v) × Divides v whole
value_divides s is whole cells all v here =
    let from = told_value s cells v here in
    let cell = each_of (IsCellOf s from.pair) (cells from.pair) from.cell (all.are from.pair).each from.listed in
    subst (λ w. (1 ≤ w) × Divides w whole) from.value (
      value_positive s is from.pair from.cell.least from.cell.v cell.least.0 cell.branching,
      each_of (λ (c : Cell). Divides c.v whole) (cells from.pair) from.cell (all.multiple from.pair) from.listed,
    )

-- the sum over all cells is so many wholes as there are cells and chambers more than sides
pub sum_balance : (s : Symbol) → IsSymbol s → IsOriented s → Flat s → (whole : ℕ) (cells : Pair → List Cell) → AreAllCells s whole cells → (number : ℤ) (e : IsEuler s number)
    → whole * (length e.tiles + length e.vertices + length e.edges + s.size) ≡ whole * (orbits s Zero + orbits s One + orbits s Two) + sum_by (want whole) (all_values cells)
sum_balance s is oriented flat whole cells all number e =
    let value = curvature_of_surface s whole cells number zero_fraction is all e (flat_curvature s flat) in
    let at = λ (p : Pair). sum_of_defects whole (cells p) (cycle_of s is oriented cells all.are p) in
    let parts = sum_of_values (want whole) cells in
    let tiles = at Tile in
    let vertices = at Vertex in
    let edges = at Edge in
    let lost : defects whole (cells Tile) + defects whole (cells Vertex) + defects whole (cells Edge) ≡ 2 * sum_by (want whole) (all_values cells) = omega arith in
    balanced whole number (length e.tiles + length e.vertices + length e.edges + s.size) (orbits s Zero + orbits s One + orbits s Two) (sum_by (want whole) (all_values cells)) e.sum
    (subst (λ n. IsQuotient zero_fraction (number *ℤ pos (2 * whole) -ℤ pos n) whole) lost value)

-- ## A whole that all branching values divide

twice_divides : {d n : ℕ} → Divides d n → Divides d (2 * n)
twice_divides by = let e = by.product in record { quotient = 2 * by.quotient; product = omega arith }

-- a degree divides twice the product of all degrees
degree_divides : (s : Symbol) → IsTable s → (p : Pair) (d : ℕ) → IsChamber s d → Divides (degree s p d) (2 * all_degrees s)
degree_divides s table Tile d h = twice_divides (tile_divides s table d (chamber_listed s d h))
degree_divides s table Vertex d h = twice_divides (vertex_divides s table d (chamber_listed s d h))
degree_divides s table Edge d h = record { quotient = all_degrees s; product = omega arith }

value_of_cell_divides : (s : Symbol) → IsTable s → (p : Pair) (c : Cell) → IsCellOf s p c → Divides c.v (2 * all_degrees s)
value_of_cell_divides s table p c cell =
    let by = degree_divides s table p c.least cell.least.0 in
    let b = cell.branching in
    let e = ap (λ z. by.quotient * z) b.quotient in
    let f = by.product in
    record { quotient = by.quotient * b.r; product = omega arith }

all_divide : (s : Symbol) → IsTable s → (cells : Pair → List Cell) → AreTheCells s cells → AreAllCells s (2 * all_degrees s) cells
all_divide s table cells told = record {
  are = told;
  multiple = λ p. all_from_members (λ (c : Cell). Divides c.v (2 * all_degrees s)) (cells p)
      (λ c here. value_of_cell_divides s table p c (each_of (IsCellOf s p) (cells p) c (told p).each here));
}

pub plane_law : (s : Symbol) → IsSymbol s → Connected s → IsOriented s → Flat s → (cells : Pair → List Cell) → AreTheCells s cells → HasPlaneValues (values_above_one cells)
plane_law s is connected oriented flat cells told =
    let inv = is.table.involutions in
    let whole = 2 * all_degrees s in
    let positive = all_degrees_positive s is in
    let some : 1 ≤ whole = omega arith in
    let all = all_divide s is.table cells told in
    let e = euler_of s inv in
    let balance = sum_balance s is oriented flat whole cells all (told_euler s (least_of s inv)) e in
    let bound = cells_and_chambers s is.table connected (least_of s inv) (λ p. (cells_exist s inv p).1) in
    let a = length e.tiles + length e.vertices + length e.edges + s.size in
    let b = orbits s Zero + orbits s One + orbits s Two in
    let same = sum_above_one whole (all_values cells) (λ v here. (value_divides s is whole cells all v here).0) in
    plane_values whole (values_above_one cells) some
    (λ v here.
    let from = Contains-from_filter (nat_lt 1) (all_values cells) v here in
    record { above = ltb-true 1 v from.1; divides = (value_divides s is whole cells all v from.0).1 })
    (subst (IsWholeSum whole) (sym same) (whole_sum whole a b (sum_by (want whole) (all_values cells)) some balance bound))
