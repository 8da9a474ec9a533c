-- A symbol is flat exactly where its degrees spend the budget.
use Rattle.std.proofs.Common.{◌≡◌, ◌↔◌, ℕ, zero, suc, ◌+◌, ◌-◌, ◌*◌, ◌/◌, ◌<◌, ◌≤◌, List, length, get_or, refl, sym, ap, ◌∙◌, subst, ⊎_elim, arith}
use Rattle.std.specs.Int.{bit_at}
use Rattle.dd_model.specs.declared.allowed.Allowed.{Allowed}
use Rattle.dd_model.specs.declared.pair.Pair.{Pair}
use Rattle.dd_model.specs.declared.pair.Pair.TheVariants.{Tile, Vertex}
use Rattle.dd_model.specs.declared.requests.Request.{Request}
use Rattle.dd_model.specs.Symbol.{Symbol, IsSymbol, IsChamber, degree}
use Rattle.dd_model.specs.Cell.{IsBranching, IsLeastOfCell}
use Rattle.dd_model.specs.Flat.{Flat}
use Rattle.dd_model.specs.Involutions.{HaveSameInvolutions}
use Rattle.dd_model.proofs.CellWalks.{in_cell-sym}
use Rattle.dd_symbol.specs.Cells.{IsShapeOf, IsKindOf}
use Rattle.dd_symbol.specs.declared.kind.Kind.{Kind}
use Rattle.dd_symbol.specs.declared.kind.Kind.TheVariants.{Cycle, Chain}
use Rattle.dd_symbol.specs.declared.shapes.CellShape.{CellShape}
use Rattle.dd_symbol.proofs.SameCells.{shape-same}
use Rattle.dd_cells.specs.Cells.{AreMembers}
use Rattle.dd_cells.specs.Curvature.{IsReciprocalSum}
use Rattle.dd_cells.proofs.CurvatureLemmas.{sum_of_both, flat_by_parts}
use Rattle.dd_cells.proofs.ReciprocalSums.{IsPartialSum, quotient_is, chain_sum, cycle_sum, no_sum, sum_more, sum_same, whole_sum}
use Rattle.dd_branch_degrees.specs.Assignment.{degree_at}
use Rattle.dd_branch_degrees.specs.Budget.{no_place, twelfths, spent}
use Rattle.dd_branch_degrees.specs.Choice.{IsChoice}
use Rattle.dd_branch_degrees.specs.Place.{IsPlaceOf, sides_of}
use Rattle.dd_branch_degrees.specs.LaterBudgets.{AreLaterBudgets}
use Rattle.dd_branch_degrees.specs.declared.places.DegreeSlot.{DegreeSlot}
use Rattle.dd_branch_degrees.specs.declared.later_budgets.LaterBudgets.{LaterBudgets}
use Rattle.dd_branch_degrees.proofs.Choices.{divides_twelve, part_at_most}

-- ## Sums of parts

pub spent_same : (places : List DegreeSlot) (f g : ℕ → ℕ) (k : ℕ) → ((j : ℕ) → j < k → f j ≡ g j) → spent places f 0 k ≡ spent places g 0 k
spent_same places f g zero same = refl
spent_same places f g (suc k) same =
    let before = spent_same places f g k (λ j low. same j (omega (arith, low))) in
    let here = ap (twelfths (get_or places (0 + k) no_place)) (same (0 + k) (omega arith)) in
    omega (arith, before, here)

-- the part of the next place
pub spent_next : (places : List DegreeSlot) (f : ℕ → ℕ) (k : ℕ) → spent places f 0 (suc k) ≡ spent places f 0 k + twelfths (get_or places k no_place) (f k)
spent_next places f k = let e : 0 + k ≡ k = omega arith in ap (λ j. spent places f 0 k + twelfths (get_or places j no_place) (f j)) e

spent_more : (places : List DegreeSlot) (f : ℕ → ℕ) (a b : ℕ) → spent places f 0 (a + b) ≡ spent places f 0 a + spent places f a b
spent_more places f a zero = let e : a + 0 ≡ a = omega arith in let same = ap (spent places f 0) e in omega (arith, same)
spent_more places f a (suc b) =
    let e : a + suc b ≡ suc (a + b) = omega arith in
    let same = ap (spent places f 0) e in
    let before = spent_more places f a b in
    let next = spent_next places f (a + b) in
    omega (arith, same, before, next)

-- the part of a choice
pub part_of_choice : (set : Allowed) (x : DegreeSlot) (m : ℕ) → 1 ≤ x.turns → (c : IsChoice set x.turns m) → twelfths x m ≡ x.sides * (12 / c.value)
part_of_choice set x m some c =
    let quotient : m / x.turns ≡ c.value = quotient_is c.value x.turns m some (sym c.product) in
    ap (λ v. x.sides * (12 / v)) quotient

-- ## One pair

-- what a place tells, of a symbol with the involutions of the table
pub shape_at : (t s : Symbol) → HaveSameInvolutions t s → (p : Pair) (set : Allowed) (first d : ℕ) (x : DegreeSlot) → (place : IsPlaceOf t set p first d x) → IsShapeOf s p d place.shape
shape_at t s same p set first d x place = shape-same t s same p d place.shape place.is_shape

-- the sum over a cell
sum_of_cell : (s : Symbol) → IsSymbol s → (p : Pair) (set : Allowed) (d m r : ℕ) (shape : CellShape) (members : List ℕ) → IsChamber s d → IsShapeOf s p d shape → r ≡ shape.r → m ≡ degree s p d → (c : IsChoice set r m)
    → AreMembers s p d members → IsReciprocalSum s p members 12 (sides_of shape.kind * (12 / c.value))
sum_of_cell s is p set d m r shape members h of_shape turns at c are =
    let b : IsBranching s p d c.value = record { r = shape.r; least_turns = of_shape.turns; quotient = ap (λ k. c.value * k) (sym turns) ∙ sym c.product ∙ at } in
    by_kind shape.kind b of_shape.kind
  where
    by_kind : (kind : Kind) → IsBranching s p d c.value → IsKindOf s p d kind → IsReciprocalSum s p members 12 (sides_of kind * (12 / c.value))
    by_kind Chain b chain = chain_sum s is p d c.value 12 members h b chain are (divides_twelve c.value c.crystallographic)
    by_kind Cycle b cycle = cycle_sum s is p d c.value 12 members h b cycle are (divides_twelve c.value c.crystallographic)

-- the places of a pair, and the degrees that stand there
pub record AreChosen (t s : Symbol) (p : Pair) (set : Allowed) (first : ℕ) (places : List DegreeSlot) : Type 0 where
  pub place : (k j : ℕ) → j ≡ first + k → k < s.size → IsPlaceOf t set p first (k + 1) (get_or places j no_place)
  pub choice : (k j : ℕ) → j ≡ first + k → k < s.size → IsChoice set (get_or places j no_place).turns (degree_at s j)
  pub degree : (k j : ℕ) → j ≡ first + k → k < s.size → degree_at s j ≡ degree s p (k + 1)

partial_sum : (t s : Symbol) → IsSymbol s → HaveSameInvolutions t s → (p : Pair) (set : Allowed) (first : ℕ) (places : List DegreeSlot) → AreChosen t s p set first places
    → (k : ℕ) → k ≤ s.size → IsPartialSum s p 12 k (spent places (degree_at s) first k)
partial_sum t s is same p set first places all zero low = no_sum s p 12
partial_sum t s is same p set first places all (suc k) low =
    let x = get_or places (first + k) no_place in
    let place = all.place k (first + k) refl (omega (arith, low)) in
    let c = all.choice k (first + k) refl (omega (arith, low)) in
    let shape = shape_at t s same p set first (k + 1) x place in
    let some : 1 ≤ x.turns = let a = place.turns in let b = shape.turns.positive in omega (arith, a, b) in
    let part : twelfths x (degree_at s (first + k)) ≡ x.sides * (12 / c.value) = part_of_choice set x (degree_at s (first + k)) some c in
    let before = partial_sum t s is same p set first places all k (omega (arith, low)) in
    let sum = spent places (degree_at s) first k in
    let h : IsChamber s (k + 1) = (omega arith, omega (arith, low)) in
    let more : IsPartialSum s p 12 (k + 1) (sum + twelfths x (degree_at s (first + k))) =
    subst (λ y. IsPartialSum s p 12 (k + 1) (sum + y)) (sym part) (⊎_elim
    (λ here.
    let own : place.shape.least ≡ k + 1 = here.0 in
    let least : IsLeastOfCell s p (k + 1) = subst (IsLeastOfCell s p) own shape.least.is_least in
    let bound = part_at_most (sides_of place.shape.kind) c.value in
    let few = place.bounds.sides in
    let sides = here.1 in
    subst (λ n. IsPartialSum s p 12 (k + 1) (sum + n * (12 / c.value))) (sym sides)
    (sum_more s is.table.involutions p 12 k sum (sides_of place.shape.kind * (12 / c.value)) before least
    (λ members are. sum_of_cell s is p set (k + 1) (degree_at s (first + k)) x.turns place.shape members h shape place.turns (all.degree k (first + k) refl (omega (arith, low))) c are)
    (omega (arith, bound, few, sides))))
    (λ other.
    let none : sum ≡ sum + x.sides * (12 / c.value) = let zero_ : x.sides * (12 / c.value) ≡ 0 = ap (λ n. n * (12 / c.value)) other.1 ∙ omega arith in omega (arith, zero_) in
    subst (IsPartialSum s p 12 (k + 1)) none
    (sum_same s p 12 k sum before (λ least.
    let up = least.1 place.shape.least shape.least.in_cell in
    let down = shape.least.is_least.1 (k + 1) (in_cell-sym s is.table.involutions p (k + 1) place.shape.least h shape.least.in_cell) in
    other.0 (omega (arith, up, down)))))
    place.sides) in
    let e : k + 1 ≡ suc k = omega arith in
    subst (λ n. IsPartialSum s p 12 n (sum + twelfths x (degree_at s (first + k)))) e more

-- ## All degrees

-- the degrees of a symbol at all places
pub record AllAreChosen (q : Request) (t s : Symbol) (places : List DegreeSlot) : Type 0 where
  pub tiles : AreChosen t s Tile q.faces 0 places
  pub vertices : AreChosen t s Vertex q.degrees s.size places

pub flat_if_spent : (q : Request) (t s : Symbol) (places : List DegreeSlot) → IsSymbol s → HaveSameInvolutions t s → AllAreChosen q t s places
    → (spent places (degree_at s) 0 (2 * t.size) ≡ 6 * t.size) ↔ Flat s
flat_if_spent q t s places is same all =
    let n = s.size in
    let inv = is.table.involutions in
    let T = spent places (degree_at s) 0 n in
    let V = spent places (degree_at s) n n in
    let tiles = whole_sum s inv Tile 12 T (partial_sum t s is same Tile q.faces 0 places all.tiles n (omega arith)) in
    let vertices = whole_sum s inv Vertex 12 V (partial_sum t s is same Vertex q.degrees n places all.vertices n (omega arith)) in
    let both = sum_of_both s is.table 12 T V tiles vertices in
    let flat = flat_by_parts s is 12 (2 * (T + V)) (12 * n) (omega arith) both refl in
    let split : spent places (degree_at s) 0 (n + n) ≡ T + V = spent_more places (degree_at s) n n in
    let size = same.size in
    let e : 2 * t.size ≡ n + n = omega (arith, size) in
    let whole : spent places (degree_at s) 0 (2 * t.size) ≡ T + V = ap (spent places (degree_at s) 0) e ∙ split in (
      (λ spends. flat.0 (omega (arith, spends, whole, size))),
      (λ is_flat. let sum = flat.1 is_flat in omega (arith, sum, whole, size)),
    )

-- ## What is left

-- a part that is a share of a place, beyond the least
pub record HasPart (x : DegreeSlot) (part : ℕ) : Type 0 where
  pub share : ℕ
  pub is : part ≡ share + 2 * x.sides
  pub none : x.sides ≡ 0 → share ≡ 0
  pub allowed : 1 ≤ x.sides → bit_at x.shares share ≡ 1

-- each part is one of its place, and no more than the most
pub record AreBounded (places : List DegreeSlot) (f : ℕ → ℕ) : Type 0 where
  pub most : (j : ℕ) → j < length places → twelfths (get_or places j no_place) (f j) ≤ (get_or places j no_place).most
  pub parts : (j : ℕ) → j < length places → HasPart (get_or places j no_place) (twelfths (get_or places j no_place) (f j))

least_part : (x : DegreeSlot) (part : ℕ) → HasPart x part → 2 * x.sides ≤ part
least_part x part has =
    let is = has.is in
    omega (arith, is)

pub spent_at_most : (places : List DegreeSlot) (budgets : LaterBudgets) (f : ℕ → ℕ) → AreLaterBudgets places budgets → AreBounded places f → (d k : ℕ) → k + d ≡ length places
    → spent places f 0 (length places) ≤ spent places f 0 k + get_or budgets.most k 0
spent_at_most places budgets f are bounded zero k end =
    let at : k ≡ length places = omega (arith, end) in
    let same = ap (spent places f 0) at in
    omega (arith, same)
spent_at_most places budgets f are bounded (suc d) k end =
    let rest = spent_at_most places budgets f are bounded d (suc k) (omega (arith, end)) in
    let each = are.each_most k no_place (omega (arith, end)) in
    let one = bounded.most k (omega (arith, end)) in
    let e : suc k ≡ k + 1 = omega arith in
    let same = ap (λ j. get_or budgets.most j 0) e in
    let next = spent_next places f k in
    omega (arith, rest, each, one, same, next)

pub spent_at_least : (places : List DegreeSlot) (budgets : LaterBudgets) (f : ℕ → ℕ) → AreLaterBudgets places budgets → AreBounded places f → (d k : ℕ) → k + d ≡ length places
    → spent places f 0 k + get_or budgets.least k 0 ≤ spent places f 0 (length places)
spent_at_least places budgets f are bounded zero k end =
    let at : k ≡ length places = omega (arith, end) in
    let same = ap (spent places f 0) at in
    let none : get_or budgets.least k 0 ≡ 0 = ap (λ j. get_or budgets.least j 0) at ∙ are.no_least in
    omega (arith, same, none)
spent_at_least places budgets f are bounded (suc d) k end =
    let rest = spent_at_least places budgets f are bounded d (suc k) (omega (arith, end)) in
    let each = are.each_least k no_place (omega (arith, end)) in
    let one = least_part (get_or places k no_place) _ (bounded.parts k (omega (arith, end))) in
    let e : suc k ≡ k + 1 = omega arith in
    let same = ap (λ j. get_or budgets.least j 0) e in
    let next = spent_next places f k in
    omega (arith, rest, each, one, same, next)

-- what is spent beyond the least from a place on is one of the bits
pub spent_as_told : (places : List DegreeSlot) (budgets : LaterBudgets) (f : ℕ → ℕ) → AreLaterBudgets places budgets → AreBounded places f → (d k e p : ℕ) → k + d ≡ length places
    → spent places f 0 k + get_or budgets.least k 0 + e ≡ spent places f 0 (length places) → p + e ≡ 63 → bit_at (get_or budgets.surplus k 0) p ≡ 1
spent_as_told places budgets f are bounded zero k e p end whole mirror =
    let at : k ≡ length places = omega (arith, end) in
    let same = ap (spent places f 0) at in
    let none : p ≡ 63 = omega (arith, same, whole, mirror) in
    ap (λ j. bit_at (get_or budgets.surplus j 0) p) at ∙ ap (bit_at (get_or budgets.surplus (length places) 0)) none ∙ are.no_surplus
spent_as_told places budgets f are bounded (suc d) k e p end whole mirror =
    let x = get_or places k no_place in
    let low = spent_at_least places budgets f are bounded d (suc k) (omega (arith, end)) in
    let rest : ℕ = spent places f 0 (length places) - (spent places f 0 (suc k) + get_or budgets.least (suc k) 0) in
    let part = bounded.parts k (omega (arith, end)) in
    let is = part.is in
    let each = are.each_least k no_place (omega (arith, end)) in
    let same : suc k ≡ k + 1 = omega arith in
    let same_least = ap (λ j. get_or budgets.least j 0) same in
    let next = spent_next places f k in
    let up : rest + part.share ≡ e = omega (arith, low, each, is, same_least, next, whole) in
    let before = spent_as_told places budgets f are bounded d (suc k) rest (p + part.share) (omega (arith, end)) (omega (arith, low)) (omega (arith, up, mirror)) in
    let there : bit_at (get_or budgets.surplus (k + 1) 0) (p + part.share) ≡ 1 = ap (λ j. bit_at (get_or budgets.surplus j 0) (p + part.share)) (sym same) ∙ before in
    are.each_surplus k no_place (omega (arith, end)) part.share (p + part.share) p part.none part.allowed there refl
