-- Two lawful tables as one are lawful.
use Rattle.std.proofs.Common.{◌≡◌, ℕ, zero, suc, ◌+◌, ◌-◌, ◌*◌, ◌≤◌, length, sym, ap, ◌∙◌, subst, arith}
use Rattle.std.proofs.Math.Nat.{mul_comm, mul-add, eq_of_mul-eq-mul_left}
use Rattle.std.proofs.lemmas.Nat.{mul-le}
use Rattle.std.specs.List.{sum_by}
use Rattle.dd_model.specs.declared.index.Index.{Index}
use Rattle.dd_model.specs.declared.index.Index.TheVariants.{Zero, One, Two}
use Rattle.dd_model.specs.declared.pair.Pair.{Pair}
use Rattle.dd_model.specs.declared.pair.Pair.TheVariants.{Tile, Vertex}
use Rattle.dd_model.proofs.Numbers.{positive_product}
use Rattle.dd_template.specs.declared.tables.Degree.{Degree}
use Rattle.dd_template.specs.declared.tables.Degree.TheVariants.{OfTile, OfVertex, Fixed}
use Rattle.dd_template.specs.declared.tables.MultipleOf.{MultipleOf}
use Rattle.dd_template.specs.declared.tables.MultipleOf.TheVariants as kind
use Rattle.dd_template.specs.Table.{Table, IsPart, moves, move, entry}
use Rattle.dd_template.specs.Entries.{entries, Fits, AllFit}
use Rattle.dd_template.specs.Lawful.{IsLawful}
use Rattle.dd_template.specs.Shares.{share, curvature_unit, KeepsCurvature}
use Rattle.dd_opword.specs.Composed.{part_in, times, composed_move, composed_degree, composed}
use Rattle.dd_opword.specs.Together.{IsFixedUpTo, GoTogether}
use Rattle.dd_opword.proofs.ComposedParts.{parts_of_part, length-of_both, entry-composed}
use Rattle.dd_opword.proofs.ComposedTurns.{fits_composed}
use Rattle.dd_opword.proofs.ComposedMoves.{together, undone_composed, commute_composed, joined_composed, used_composed, IsFitting, constant_composed}
use Rattle.dd_opword.proofs.ComposedCurvature.{IsFactor, IsOver, AreOver, alone, sum_over}

-- ## Entries

tiles_fit : (t : Table) → IsLawful t → IsFitting t Tile
tiles_fit t lawful = record { of_entries = tt; constant = lawful.entries.constant_face; fit = lawful.entries.face }

vertices_fit : (t : Table) → IsLawful t → IsFitting t Vertex
vertices_fit t lawful = record { of_entries = tt; constant = lawful.entries.constant_degree; fit = lawful.entries.degree }

all_fit : (outer inner : Table) → GoTogether outer inner → (p : Pair) → IsFitting outer p → AllFit (composed outer inner) p
all_fit outer inner go p fitting z h =
    let all = composed outer inner in
    let lawful = go.outer_lawful in
    let inner_lawful = go.inner_lawful in
    let q = parts_of_part outer inner z lawful.lists.some h in
    let y = q.inner_part in
    let x = q.outer_part in
    let fits = fits_composed outer inner (together outer inner lawful inner_lawful) p y x q.is_inner q.is_outer
    (entry (entries outer p) x) (fitting.fit x q.is_outer) (inner_lawful.entries.face y q.is_inner) (inner_lawful.entries.degree y q.is_inner)
    (go.small p y x q.is_inner q.is_outer) in
    subst (λ w. Fits all p w (entry (entries all p) w)) q.place
    (subst (Fits all p (part_in outer y x)) (sym (entry-composed outer inner p y x fitting.of_entries q.is_inner q.is_outer)) fits)

-- ## Fractions

-- a factor over an entry that fits
is_factor : (inner : Table) (p : Pair) (y c k : ℕ) → c ≤ k → k * inner.parts ≤ 64 → (e : Degree) → Fits inner p y e → IsFixedUpTo 30 (times c e) → IsFactor 64 c e
is_factor inner p y c k few size (OfTile d) fits small = let l = mul-le c d k inner.parts few fits.1.within in (fits.1.positive, omega arith)
is_factor inner p y c k few size (OfVertex d) fits small = let l = mul-le c d k inner.parts few fits.1.within in (fits.1.positive, omega arith)
is_factor inner p y c k few size (Fixed m) fits small = (fits.0, omega arith)

is_over : (outer inner : Table) → GoTogether outer inner → (p : Pair) (y x : ℕ) → IsPart inner y → (e : Degree) → Fits outer p x e
    → IsFixedUpTo 30 (composed_degree inner y e) → IsOver inner y e
is_over outer inner go p y x h (OfTile c) fits small =
    let size = mul_comm outer.parts inner.parts in
    let few = go.few in
    (fits.1.positive, is_factor inner Tile y c outer.parts fits.1.within (omega arith) (entry inner.face y) (go.inner_lawful.entries.face y h) small)
is_over outer inner go p y x h (OfVertex c) fits small =
    let size = mul_comm outer.parts inner.parts in
    let few = go.few in
    (fits.1.positive, is_factor inner Vertex y c outer.parts fits.1.within (omega arith) (entry inner.degree y) (go.inner_lawful.entries.degree y h) small)
is_over outer inner go p y x h (Fixed m) fits small = tt

are_over : (outer inner : Table) → GoTogether outer inner → (p : Pair) → IsFitting outer p → AreOver outer inner p
are_over outer inner go p fitting y x hy hx =
    is_over outer inner go p y x hy (entry (entries outer p) x) (fitting.fit x hx) (go.small p y x hy hx)

-- without the common unit
without_unit : (u s a n m : ℕ) → 1 ≤ u → u * s ≡ u * a + n * (0 * m) → s ≡ a
without_unit u s a n m some e =
    let none : n * (0 * m) ≡ 0 = let z : 0 * m ≡ 0 = omega arith in ap (λ k. n * k) z ∙ omega arith in
    eq_of_mul-eq-mul_left u some s a (omega (arith, e, none))

with_unit : (u s a n m : ℕ) → 1 ≤ u → u * s ≡ u * a + n * (u * m) → s ≡ a + n * m
with_unit u s a n m some e =
    let turn : n * (u * m) ≡ u * (n * m) = grind arith in
    let join : u * (a + n * m) ≡ u * a + u * (n * m) = mul-add u a (n * m) in
    eq_of_mul-eq-mul_left u some s (a + n * m) (e ∙ ap (λ k. u * a + k) turn ∙ sym join)

-- the fractions of degrees that are fixed
fixed_sum : (u a b n k s : ℕ) → 1 ≤ n → 1 ≤ k → 2 * a ≡ (n - 1) * u → 2 * b ≡ (k - 1) * u → s ≡ a + n * b → 2 * s ≡ (n * k - 1) * u
fixed_sum u a b zero k s some more inner outer sum = absurd (omega arith)
fixed_sum u a b (suc n) zero s some more inner outer sum = absurd (omega arith)
fixed_sum u a b (suc n) (suc k) s some more inner outer sum =
    let first : 2 * a ≡ n * u = let e : suc n - 1 ≡ n = omega arith in inner ∙ ap (λ m. m * u) e in
    let second : 2 * b ≡ k * u = let e : suc k - 1 ≡ k = omega arith in outer ∙ ap (λ m. m * u) e in
    let product : suc n * (2 * b) ≡ suc n * (k * u) = ap (λ m. suc n * m) second in
    let size : suc n * suc k - 1 ≡ n + suc n * k = grind arith in
    let doubled : 2 * s ≡ 2 * a + suc n * (2 * b) = ap (λ m. 2 * m) sum ∙ grind arith in
    let whole : n * u + suc n * (k * u) ≡ (n + suc n * k) * u = grind arith in
    doubled ∙ ap (λ m. m + suc n * (2 * b)) first ∙ ap (λ m. n * u + m) product ∙ whole ∙ ap (λ m. m * u) (sym size)

sum_of : (k : MultipleOf) (outer inner : Table) → GoTogether outer inner
    → curvature_unit * (sum_by (share k) (composed outer inner).face + sum_by (share k) (composed outer inner).degree)
    ≡ curvature_unit * (sum_by (share k) inner.face + sum_by (share k) inner.degree)
    + inner.parts * (alone k * (sum_by (share kind.Neither) outer.face + sum_by (share kind.Neither) outer.degree))
sum_of k outer inner go =
    sum_over k outer inner go.outer_lawful go.inner_lawful
    (are_over outer inner go Tile (tiles_fit outer go.outer_lawful)) (are_over outer inner go Vertex (vertices_fit outer go.outer_lawful))

keeps_curvature : (outer inner : Table) → GoTogether outer inner → KeepsCurvature (composed outer inner)
keeps_curvature outer inner go =
    let lawful = go.outer_lawful in
    let inner_lawful = go.inner_lawful in
    let all = composed outer inner in
    let keeps = lawful.entries.curvature in
    let inner_keeps = inner_lawful.entries.curvature in
    let none : MultipleOf → ℕ = λ k. sum_by (share k) inner.face + sum_by (share k) inner.degree in
    let rest = sum_by (share kind.Neither) outer.face + sum_by (share kind.Neither) outer.degree in
    let whole : MultipleOf → ℕ = λ k. sum_by (share k) all.face + sum_by (share k) all.degree in
    let some : 1 ≤ curvature_unit = omega arith in
    record {
      tiles = without_unit curvature_unit (whole kind.Tile) (none kind.Tile) inner.parts rest some (sum_of kind.Tile outer inner go) ∙ inner_keeps.tiles;
      vertices = without_unit curvature_unit (whole kind.Vertex) (none kind.Vertex) inner.parts rest some (sum_of kind.Vertex outer inner go) ∙ inner_keeps.vertices;
      fixed = fixed_sum curvature_unit (none kind.Neither) rest inner.parts outer.parts (whole kind.Neither) inner_lawful.lists.some lawful.lists.some inner_keeps.fixed keeps.fixed
          (with_unit curvature_unit (whole kind.Neither) (none kind.Neither) inner.parts rest some (sum_of kind.Neither outer inner go));
    }

-- ## The table

moves_composed : (outer inner : Table) (i : Index) → length (moves (composed outer inner) i) ≡ inner.parts * outer.parts
moves_composed outer inner Zero = length-of_both outer inner (λ y x. composed_move outer inner y (move outer Zero x))
moves_composed outer inner One = length-of_both outer inner (λ y x. composed_move outer inner y (move outer One x))
moves_composed outer inner Two = length-of_both outer inner (λ y x. composed_move outer inner y (move outer Two x))

-- Two lawful tables that go together are a lawful table.
pub composed_lawful : (outer inner : Table) → GoTogether outer inner → IsLawful (composed outer inner)
composed_lawful outer inner go =
    let lawful = go.outer_lawful in
    let inner_lawful = go.inner_lawful in
    let tiles = tiles_fit outer lawful in
    let vertices = vertices_fit outer lawful in
    record {
      lists = record {
        some = positive_product inner.parts outer.parts inner_lawful.lists.some lawful.lists.some;
        few = go.few;
        moves = moves_composed outer inner;
        face = length-of_both outer inner (λ y x. composed_degree inner y (entry outer.face x));
        degree = length-of_both outer inner (λ y x. composed_degree inner y (entry outer.degree x));
      };
      moves = record {
        undone = undone_composed outer inner lawful.lists.some lawful.moves.undone inner_lawful.moves.undone;
        commuting = commute_composed outer inner lawful inner_lawful;
        joined = joined_composed outer inner lawful inner_lawful;
        used = used_composed outer inner lawful inner_lawful;
      };
      entries = record {
        constant_face = constant_composed outer inner lawful inner_lawful Tile tiles;
        constant_degree = constant_composed outer inner lawful inner_lawful Vertex vertices;
        face = all_fit outer inner go Tile tiles;
        degree = all_fit outer inner go Vertex vertices;
        curvature = keeps_curvature outer inner go;
      };
    }
