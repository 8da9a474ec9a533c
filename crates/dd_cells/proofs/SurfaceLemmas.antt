-- The curvature is twice the Euler number, less the defects of the cells.
use Rattle.std.proofs.Common.{◌≡◌, ℕ, ◌+◌, ◌-◌, ◌*◌, ◌/◌, ◌≤◌, ℤ, pos, ◌-ℤ◌, ◌*ℤ◌, nat_abs, List, [], ◌∷◌, length, map, refl, sym, ap, ◌∙◌, subst, arith}
use Rattle.std.specs.List.{AllByRecursion, sum_by}
use Rattle.std.proofs.lemmas.Int.{ints}
use Rattle.std.proofs.lemmas.List.{length-map}
use Rattle.std.proofs.lemmas.List.Sums.{sum_by-cons}
use borrow.Author.Differences.{up, down}
use Rattle.dd_model.specs.declared.index.Index.TheVariants.{Zero, One, Two}
use Rattle.dd_model.specs.declared.pair.Pair.{Pair}
use Rattle.dd_model.specs.declared.pair.Pair.TheVariants.{Tile, Vertex, Edge}
use Rattle.dd_model.specs.Symbol.{Symbol, IsSymbol, first, second, degree}
use Rattle.dd_model.specs.Code.{chambers}
use Rattle.dd_model.specs.Cell.{AreCells}
use Rattle.dd_model.specs.Flat.{all_degrees, reciprocals}
use Rattle.dd_model.specs.Small.{IsSmallSymbol}
use Rattle.dd_model.proofs.CellLists.{cells_unique}
use Rattle.dd_model.proofs.Transport.{in_cell_within}
use Rattle.dd_model.proofs.AllDegrees.{all_degrees_positive}
use Rattle.dd_model.proofs.CountFrom.{length-count_from}
use Rattle.dd_cells.specs.Cells.{AreMembers, IsCellOf, AreCellsOf}
use Rattle.dd_symbol.specs.Cells.{IsKindOf}
use Rattle.dd_cells.specs.Curvature.{IsCurvature, IsReciprocalSum}
use Rattle.dd_cells.specs.Euler.{orbits, IsEuler}
use Rattle.dd_cells.specs.Fraction.{Divides, IsQuotient}
use Rattle.dd_cells.specs.Surface.{sides, is_chain, defects, chains, fixed_chambers, AreAllCells}
use Rattle.dd_cells.specs.declared.fractions.Fraction.{Fraction}
use Rattle.dd_symbol.specs.declared.kind.Kind.{Kind}
use Rattle.dd_symbol.specs.declared.kind.Kind.TheVariants.{Cycle, Chain}
use Rattle.dd_cells.specs.declared.cell.Cell.{Cell}
use Rattle.dd_cells.proofs.CellSums.{has_roots, members_at, members_at_are, sum_over_cells, sum_by_both, sum_by_same, chamber_listed}
use Rattle.dd_cells.proofs.CurvatureLemmas.{sum_of_both, numbers_of_quotient, quotient_of_numbers}
use Rattle.dd_cells.proofs.FixedFlags.{one_if, fixed_flag, flags, flags_of_chain, flags_of_cycle}
use Rattle.dd_cells.proofs.FractionLemmas.{same_factor, denominator}
use Rattle.dd_cells.proofs.MemberLemmas.{period_from_turns, value_positive}
use Rattle.dd_cells.proofs.OrbitCounts.{twice_orbits}
use Rattle.dd_cells.proofs.ReciprocalSums.{divides_common, chain_sum, cycle_sum, share}

-- ## Cells and lists of cells

each_cell : (P Q : Cell → Type 0) (cells : List Cell) → ((c : Cell) → P c → Q c) → AllByRecursion P cells → AllByRecursion Q cells
each_cell P Q [] to all = tt
each_cell P Q (c ∷ cells) to all = (to c all.0, each_cell P Q cells to all.1)

both_of_each : (P Q : Cell → Type 0) (cells : List Cell) → AllByRecursion P cells → AllByRecursion Q cells → AllByRecursion (λ c. P c × Q c) cells
both_of_each P Q [] p q = tt
both_of_each P Q (c ∷ cells) p q = ((p.0, q.0), both_of_each P Q cells p.1 q.1)

-- a sum over cells, from what each of them adds by its least chamber
sum_of_cells : (a : Cell → ℕ) (g : ℕ → ℕ) (w m : ℕ) (cells : List Cell) → AllByRecursion (λ c. a c * w ≡ m * g c.least) cells
    → sum_by a cells * w ≡ m * sum_by g (map (λ (c : Cell). c.least) cells)
sum_of_cells a g w m [] all = omega arith
sum_of_cells a g w m (c ∷ cells) all =
    let here = all.0 in
    let rest = sum_of_cells a g w m cells all.1 in
    let left = ap (λ n. n * w) (sum_by-cons a c cells) in
    let right = ap (λ n. m * n) (sum_by-cons g c.least (map (λ (d : Cell). d.least) cells)) in
    omega arith

-- ## Reciprocals

sum_of_kind : (s : Symbol) → IsSymbol s → (p : Pair) (common : ℕ) (c : Cell) (members : List ℕ) → IsCellOf s p c → Divides c.v common → AreMembers s p c.least members
    → (k : Kind) → IsKindOf s p c.least k → IsReciprocalSum s p members common (sides k * (common / c.v))
sum_of_kind s is p common c members cell divides are Cycle kind = cycle_sum s is p c.least c.v common members cell.least.0 cell.branching kind are divides
sum_of_kind s is p common c members cell divides are Chain kind = chain_sum s is p c.least c.v common members cell.least.0 cell.branching kind are divides

-- twice 1/v for each cycle and 1/v for each chain, in parts of common
abbrev cell_values : ℕ → List Cell → ℕ
cell_values common cells = sum_by (λ c. sides c.kind * (common / c.v)) cells

reciprocals_of_cells : (s : Symbol) → IsSymbol s → (p : Pair) (common : ℕ) (cells : List Cell) → AreCellsOf s p cells → AllByRecursion (λ c. Divides c.v common) cells
    → IsReciprocalSum s p (chambers s) common (cell_values common cells)
reciprocals_of_cells s is p common cells are multiple = record {
  value = λ whole divides.
      let inv = is.table.involutions in
      let has = has_roots s inv p in
      let g : ℕ → ℕ = λ j. sum_by (share s p whole) (members_at s has.root j) in
      let each = each_cell (λ c. IsCellOf s p c × Divides c.v common) (λ c. sides c.kind * (common / c.v) * whole ≡ common * g c.least) cells
      (λ c both.
      let members = members_at_are s inv p has.root has.are c.least both.0.least in
      (sum_of_kind s is p common c (members_at s has.root c.least) both.0 both.1 members c.kind both.0.kind).value whole
      (λ d listed. divides d (chamber_listed s d (in_cell_within s inv p c.least d both.0.least.0 ((members.each d).0 listed)))))
      (both_of_each (IsCellOf s p) (λ c. Divides c.v common) cells are.each multiple) in
      sum_of_cells (λ c. sides c.kind * (common / c.v)) g whole common cells each
      ∙ ap (λ n. common * n) (sum_over_cells s p has.root (share s p whole) (map (λ (c : Cell). c.least) cells) has.are are.least_chambers);
}

-- the edges, of which the degree is 2
values_of_edges : (s : Symbol) (common sum : ℕ) → IsReciprocalSum s Edge (chambers s) common sum → 2 * sum ≡ common * s.size
values_of_edges s common sum is =
    let size = length-count_from 1 s.size in
    let value = is.value 2 (λ d listed. record { quotient = 1; product = refl }) in
    let ones = sum_by_same (λ d. 2 / degree s Edge d) 1 (chambers s) (λ d listed. refl) in
    let times = ap (λ n. common * n) (ones ∙ ap (λ n. n * 1) size) in
    omega arith

-- ## Fixed chambers

flags_of_kind : (s : Symbol) → IsSymbol s → (p : Pair) (c : Cell) (members : List ℕ) → IsCellOf s p c → AreMembers s p c.least members
    → (k : Kind) → IsKindOf s p c.least k → one_if (is_chain k) * 2 ≡ 1 * sum_by (flags s p) members
flags_of_kind s is p c members cell are Cycle kind = let e = flags_of_cycle s p c.least members kind are in omega arith
flags_of_kind s is p c members cell are Chain kind =
    let inv = is.table.involutions in
    let h = cell.least.0 in
    let e = flags_of_chain s inv p c.least c.r members h (period_from_turns s inv p c.least c.r h cell.turns) kind are in
    omega arith

-- Each chain of a pair has two fixed chambers, and each fixed chamber is in a chain.
pub fixed_of_chains : (s : Symbol) → IsSymbol s → (p : Pair) (cells : List Cell) → AreCellsOf s p cells
    → 2 * chains cells ≡ fixed_chambers s (first p) + fixed_chambers s (second p)
fixed_of_chains s is p cells are =
    let inv = is.table.involutions in
    let has = has_roots s inv p in
    let g : ℕ → ℕ = λ j. sum_by (flags s p) (members_at s has.root j) in
    let each = each_cell (IsCellOf s p) (λ c. one_if (is_chain c.kind) * 2 ≡ 1 * g c.least) cells
    (λ c cell. flags_of_kind s is p c (members_at s has.root c.least) cell (members_at_are s inv p has.root has.are c.least cell.least) c.kind cell.kind)
    are.each in
    let sum = sum_of_cells (λ c. one_if (is_chain c.kind)) g 2 1 cells each in
    let whole = sum_over_cells s p has.root (flags s p) (map (λ (c : Cell). c.least) cells) has.are are.least_chambers in
    let split = sum_by_both (fixed_flag s (first p)) (fixed_flag s (second p)) (chambers s) in
    omega arith

-- ## Defects

defect_of_kind : (common part : ℕ) (k : Kind) → part ≤ common → sides k * (common - part) + sides k * part + common * one_if (is_chain k) ≡ 2 * common
defect_of_kind common part Cycle low = omega arith
defect_of_kind common part Chain low = omega arith

part_small : (common v : ℕ) → common / v ≤ common
part_small common v = grind arith

defects_and_values : (common : ℕ) (cells : List Cell) → defects common cells + cell_values common cells + common * chains cells ≡ 2 * common * length cells
defects_and_values common [] = omega arith
defects_and_values common (c ∷ cells) =
    let rest = defects_and_values common cells in
    let here = defect_of_kind common (common / c.v) c.kind (part_small common c.v) in
    let a = sum_by-cons (λ (d : Cell). sides d.kind * (common - common / d.v)) c cells in
    let b = sum_by-cons (λ (d : Cell). sides d.kind * (common / d.v)) c cells in
    let e = ap (λ n. common * n) (sum_by-cons (λ (d : Cell). one_if (is_chain d.kind)) c cells) in
    omega arith

-- ## The law

-- what the parts of a pair add up to
record IsPairSum (common cells_number defect value chain first_fixed second_fixed : ℕ) : Type 0 where
  pub parts : defect + value + common * chain ≡ 2 * common * cells_number
  pub ends : 2 * chain ≡ first_fixed + second_fixed

pair_sum : (s : Symbol) → IsSymbol s → (p : Pair) (common : ℕ) (cells : List Cell) (least : List ℕ) → AreCellsOf s p cells → AreCells s p least
    → IsPairSum common (length least) (defects common cells) (cell_values common cells) (chains cells) (fixed_chambers s (first p)) (fixed_chambers s (second p))
pair_sum s is p common cells least are cells_are =
    let same = cells_unique s p (map (λ (c : Cell). c.least) cells) least are.least_chambers cells_are in
    let long : length cells ≡ length least = sym (length-map cells (λ (c : Cell). c.least)) ∙ ap length same in
    record {
      parts = defects_and_values common cells ∙ ap (λ n. 2 * common * n) long;
      ends = fixed_of_chains s is p cells are;
    }

-- the cells and the chambers, against the orbits and the defects
balance : (c t v e n o0 o1 o2 f0 f1 f2 dt dv de rt rv re bt bv be : ℕ)
    → IsPairSum c t dt rt bt f0 f1 → IsPairSum c v dv rv bv f1 f2 → IsPairSum c e de re be f0 f2
    → n + f0 ≡ 2 * o0 → n + f1 ≡ 2 * o1 → n + f2 ≡ 2 * o2
    → (t + v + e + n) * (2 * c) + c * n ≡ (o0 + o1 + o2) * (2 * c) + (dt + dv + de) + (rt + rv + re)
balance c t v e n o0 o1 o2 f0 f1 f2 dt dv de rt rv re bt bv be pt pv pe e0 e1 e2 =
    let ends : bt + bv + be ≡ f0 + f1 + f2 = let x = pt.ends in let y = pv.ends in let z = pe.ends in omega arith in
    let fixed : f0 + f1 + f2 + 3 * n ≡ 2 * (o0 + o1 + o2) = omega arith in
    let times : c * (bt + bv + be + 3 * n) ≡ c * (2 * (o0 + o1 + o2)) = ap (λ k. c * k) (ap (λ k. k + 3 * n) ends ∙ fixed) in
    let x = pt.parts in
    let y = pv.parts in
    let z = pe.parts in
    omega arith

-- the curvature in parts of 2 c, from the sums of the reciprocals
in_parts : (u w p c r n e g : ℕ) → 1 ≤ p → u * (2 * p) + n * p * e ≡ r * e + w * (2 * p) → g * p ≡ c * r
    → u * (2 * c) + c * n * e ≡ g * e + w * (2 * c)
in_parts u w p c r n e g some is eg =
    let t1 = ap (λ k. k * c) is in
    let t2 = ap (λ k. k * e) eg in
    same_factor (u * (2 * c) + c * n * e) (g * e + w * (2 * c)) p some (omega arith)

-- the curvature in parts of c
halved : (u w c n e values rest above below : ℕ) → u * (2 * c) + c * n * e ≡ 2 * values * e + w * (2 * c) → 2 * rest ≡ c * n
    → above + c * n ≡ below + (values + rest) → u * c + below * e ≡ above * e + w * c
halved u w c n e values rest above below is half whole =
    let t1 = ap (λ k. k * e) half in
    let t2 = ap (λ k. k * e) whole in
    omega arith

euler_in_parts : (euler : ℤ) (a b m d : ℕ) → euler ≡ pos a -ℤ pos b → euler *ℤ pos m -ℤ pos d ≡ pos (a * m) -ℤ pos (b * m + d)
euler_in_parts euler a b m d is =
    let difference : up euler + b ≡ a + down euler = omega (arith, ints) in
    let times = ap (λ k. k * m) difference in
    omega (arith, ints)

pub curvature_of_surface : (s : Symbol) (common : ℕ) (cells : Pair → List Cell) (euler : ℤ) (x : Fraction) → IsSymbol s → AreAllCells s common cells → IsEuler s euler → IsCurvature s x
    → IsQuotient x (euler *ℤ pos (2 * common) -ℤ pos (defects common (cells Tile) + defects common (cells Vertex) + defects common (cells Edge))) common
curvature_of_surface s common cells euler x is all number curvature =
    let inv = is.table.involutions in
    let reciprocal = λ (p : Pair). reciprocals_of_cells s is p common (cells p) (all.are p) (all.multiple p) in
    let value = λ (p : Pair). cell_values common (cells p) in
    let defect = λ (p : Pair). defects common (cells p) in
    let whole = all_degrees s in
    let e = nat_abs x.den in
    let bottom = denominator x curvature.reduced in
    let all_cells = length number.tiles + length number.vertices + length number.edges + s.size in
    let all_orbits = orbits s Zero + orbits s One + orbits s Two in
    let lost = defect Tile + defect Vertex + defect Edge in
    let bent =
    in_parts (up x.num) (down x.num) whole common (2 * reciprocals s) s.size e (2 * (value Tile + value Vertex)) (all_degrees_positive s is)
    (numbers_of_quotient x (2 * reciprocals s) (s.size * whole) (2 * whole) e bottom curvature.value)
    (sum_of_both s is.table common (value Tile) (value Vertex) (reciprocal Tile) (reciprocal Vertex)) in
    let half = values_of_edges s common (value Edge) (reciprocal Edge) in
    let counted =
    balance common (length number.tiles) (length number.vertices) (length number.edges) s.size (orbits s Zero) (orbits s One) (orbits s Two)
    (fixed_chambers s Zero) (fixed_chambers s One) (fixed_chambers s Two) (defect Tile) (defect Vertex) (defect Edge) (value Tile) (value Vertex) (value Edge)
    (chains (cells Tile)) (chains (cells Vertex)) (chains (cells Edge))
    (pair_sum s is Tile common (cells Tile) number.tiles (all.are Tile) number.are_tiles)
    (pair_sum s is Vertex common (cells Vertex) number.vertices (all.are Vertex) number.are_vertices)
    (pair_sum s is Edge common (cells Edge) number.edges (all.are Edge) number.are_edges)
    (twice_orbits s inv Zero) (twice_orbits s inv One) (twice_orbits s inv Two) in
    subst (λ n. IsQuotient x n common) (sym (euler_in_parts euler all_cells all_orbits (2 * common) lost number.sum))
    (quotient_of_numbers x (all_cells * (2 * common)) (all_orbits * (2 * common) + lost) common e bottom
    (halved (up x.num) (down x.num) common s.size e (value Tile + value Vertex) (value Edge) (all_cells * (2 * common)) (all_orbits * (2 * common) + lost) bent half counted))

-- A small symbol has such a number.
pub multiple_of_small : (s : Symbol) → IsSmallSymbol s → (p : Pair) (cells : List Cell) → AreCellsOf s p cells → AllByRecursion (λ c. Divides c.v 2329089562800) cells
multiple_of_small s small p cells are =
    each_cell (IsCellOf s p) (λ c. Divides c.v 2329089562800) cells
    (λ c cell.
    let h = cell.least.0 in
    divides_common c.v (value_positive s small.symbol p c.least c.v h cell.branching) (small.branching p c.least c.v h cell.branching))
    are.each
