-- What a lawful table makes of a symbol has its curvature.
use Rattle.std.proofs.Common.{◌≡◌, ◌↔◌, ℕ, ◌+◌, ◌-◌, ◌*◌, ◌/◌, ◌≤◌, List, length, sym, ap, ◌∙◌, subst, arith}
use Rattle.std.proofs.Math.Nat.{eq_of_mul-eq-mul_right, mul_comm}
use Rattle.std.specs.List.{sum_by}
use Rattle.dd_model.specs.Symbol.{Symbol, IsSymbol, IsChamber, item}
use Rattle.dd_model.specs.Flat.{all_degrees, reciprocals, Flat}
use Rattle.dd_model.specs.declared.pair.Pair.{Pair}
use Rattle.dd_model.specs.declared.pair.Pair.TheVariants.{Tile, Vertex}
use Rattle.dd_model.proofs.AllDegrees.{all_degrees_positive}
use Rattle.dd_template.specs.declared.tables.Degree.{Degree}
use Rattle.dd_template.specs.declared.tables.Degree.TheVariants.{OfTile, OfVertex, Fixed}
use Rattle.dd_template.specs.declared.tables.MultipleOf.TheVariants as kind
use Rattle.dd_template.specs.Table.{Table, IsPart, entry}
use Rattle.dd_template.specs.Made.{chamber_of, degree_of, degree_from, made, made_degrees}
use Rattle.dd_template.specs.Kept.{HaveSameCurvature}
use Rattle.dd_template.specs.Lawful.{IsLawful}
use Rattle.dd_template.specs.Entries.{Fits}
use Rattle.dd_template.specs.Shares.{share, curvature_unit}
use Rattle.dd_template.proofs.WholeLemmas.{whole_divided}
use Rattle.dd_template.proofs.PlaceLemmas.{item-of_parts, chamber_of_within}
use Rattle.dd_template.proofs.MadeSymbols.{made_symbol}
use Rattle.dd_template.proofs.TotalLemmas.{total, total-cong, total-linear, total-scale, total-constant, sum_by-total, sum_by-items, sum_by-blocks}
use Rattle.dd_template.proofs.ProductLemmas.{tile_divides, vertex_divides}

-- ## One part of one chamber

tile_term : (q p w a b u c m all : ℕ) → m * a ≡ p → c * u ≡ w → c * m * q ≡ all → q * (p * w) ≡ all * (a * u + b * 0 + p * 0)
tile_term q p w a b u c m all ep ew ea =
    let ring : q * (m * a * (c * u)) ≡ c * m * q * (a * u + b * 0 + p * 0) = omega arith in
    ap (λ z. q * (z * w)) (sym ep) ∙ ap (λ z. q * (m * a * z)) (sym ew) ∙ ring ∙ ap (λ z. z * (a * u + b * 0 + p * 0)) ea

vertex_term : (q p w a b u c m all : ℕ) → m * b ≡ p → c * u ≡ w → c * m * q ≡ all → q * (p * w) ≡ all * (a * 0 + b * u + p * 0)
vertex_term q p w a b u c m all ep ew ea =
    let ring : q * (m * b * (c * u)) ≡ c * m * q * (a * 0 + b * u + p * 0) = omega arith in
    ap (λ z. q * (z * w)) (sym ep) ∙ ap (λ z. q * (m * b * z)) (sym ew) ∙ ring ∙ ap (λ z. z * (a * 0 + b * u + p * 0)) ea

fixed_term : (q p w a b u m all : ℕ) → m * u ≡ w → m * q ≡ all → q * (p * w) ≡ all * (a * 0 + b * 0 + p * u)
fixed_term q p w a b u m all ew ea =
    let ring : q * (p * (m * u)) ≡ m * q * (a * 0 + b * 0 + p * u) = omega arith in
    ap (λ z. q * (p * z)) (sym ew) ∙ ring ∙ ap (λ z. z * (a * 0 + b * 0 + p * u)) ea

-- the reciprocals of the degrees of a chamber, in parts of the product of all degrees
abbrev of_tile : Symbol → ℕ → ℕ
of_tile s d = all_degrees s / item s.m01 d

abbrev of_vertex : Symbol → ℕ → ℕ
of_vertex s d = all_degrees s / item s.m12 d

-- the reciprocal of the degree that an entry gives
entry_term : (t : Table) (s : Symbol) → IsLawful t → IsSymbol s → (p : Pair) (d x all : ℕ) → IsChamber s d → (e : Degree) → Fits t p x e
    → degree_of s e d * (all / degree_of s e d) ≡ all
    → all / degree_of s e d * (all_degrees s * curvature_unit) ≡ all * (of_tile s d * share kind.Tile e + of_vertex s d * share kind.Vertex e + all_degrees s * share kind.Neither e)
entry_term t s lawful is p d x all h (OfTile c) fits divides =
    let few = lawful.lists.few in
    let within = fits.1.within in
    tile_term (all / (c * item s.m01 d)) (all_degrees s) curvature_unit (of_tile s d) (of_vertex s d) (curvature_unit / c) c (item s.m01 d) all
    (tile_divides s is d h) (whole_divided c fits.1.positive (omega arith)) divides
entry_term t s lawful is p d x all h (OfVertex c) fits divides =
    let few = lawful.lists.few in
    let within = fits.1.within in
    vertex_term (all / (c * item s.m12 d)) (all_degrees s) curvature_unit (of_tile s d) (of_vertex s d) (curvature_unit / c) c (item s.m12 d) all
    (vertex_divides s is d h) (whole_divided c fits.1.positive (omega arith)) divides
entry_term t s lawful is p d x all h (Fixed m) fits divides =
    let few = fits.1 in
    fixed_term (all / m) (all_degrees s) curvature_unit (of_tile s d) (of_vertex s d) (curvature_unit / m) m all (whole_divided m fits.0 (omega arith)) divides

-- ## All parts of all chambers

-- each entry of a list gives such a reciprocal at each chamber
abbrev HaveTerms : Table → Symbol → ℕ → List Degree → Type 0
HaveTerms t s all es = (d x : ℕ) → IsChamber s d → IsPart t x
    → all / degree_from s es d x * (all_degrees s * curvature_unit)
    ≡ all * (of_tile s d * share kind.Tile (entry es x) + of_vertex s d * share kind.Vertex (entry es x) + all_degrees s * share kind.Neither (entry es x))

exchanged : (a b c d e f : ℕ) → a * b + c * d + e * f ≡ b * a + d * c + f * e
exchanged a b c d e f = omega arith

scaled : (f : ℕ → ℕ) (c b n : ℕ) → total f b n * c ≡ total (λ x. f x * c) b n
scaled f c b n =
    mul_comm (total f b n) c ∙ sym (total-scale f c b n) ∙ total-cong (λ x. c * f x) (λ x. f x * c) b n (λ j low high. mul_comm c (f j))

-- over the parts of one chamber
chamber_sum : (t : Table) (s : Symbol) (all : ℕ) (es : List Degree) → length es ≡ t.parts → HaveTerms t s all es → (d : ℕ) → IsChamber s d
    → total (λ x. all / degree_from s es d x) 0 t.parts * (all_degrees s * curvature_unit)
    ≡ all * (sum_by (share kind.Tile) es * of_tile s d + sum_by (share kind.Vertex) es * of_vertex s d + sum_by (share kind.Neither) es * all_degrees s)
chamber_sum t s all es long terms d h =
    let k = t.parts in
    let a = of_tile s d in
    let b = of_vertex s d in
    let p = all_degrees s in
    let tiles = λ (x : ℕ). share kind.Tile (entry es x) in
    let vertices = λ (x : ℕ). share kind.Vertex (entry es x) in
    let others = λ (x : ℕ). share kind.Neither (entry es x) in
    let over_tiles : total tiles 0 k ≡ sum_by (share kind.Tile) es = ap (total tiles 0) (sym long) ∙ sym (sum_by-total (share kind.Tile) es (Fixed 0)) in
    let over_vertices : total vertices 0 k ≡ sum_by (share kind.Vertex) es = ap (total vertices 0) (sym long) ∙ sym (sum_by-total (share kind.Vertex) es (Fixed 0)) in
    let over_others : total others 0 k ≡ sum_by (share kind.Neither) es = ap (total others 0) (sym long) ∙ sym (sum_by-total (share kind.Neither) es (Fixed 0)) in
    scaled (λ x. all / degree_from s es d x) (p * curvature_unit) 0 k
    ∙ total-cong (λ x. all / degree_from s es d x * (p * curvature_unit)) (λ x. all * (a * tiles x + b * vertices x + p * others x)) 0 k (λ j low high. terms d j h (omega arith))
    ∙ total-scale (λ x. a * tiles x + b * vertices x + p * others x) all 0 k
    ∙ ap (λ z. all * z)
    (total-linear tiles vertices others a b p 0 k
    ∙ ap (λ z. a * z + b * total vertices 0 k + p * total others 0 k) over_tiles
    ∙ ap (λ z. a * sum_by (share kind.Tile) es + b * z + p * total others 0 k) over_vertices
    ∙ ap (λ z. a * sum_by (share kind.Tile) es + b * sum_by (share kind.Vertex) es + p * z) over_others
    ∙ exchanged a (sum_by (share kind.Tile) es) b (sum_by (share kind.Vertex) es) p (sum_by (share kind.Neither) es))

-- over all chambers
pair_sum : (t : Table) (s : Symbol) (all : ℕ) (es : List Degree) → IsSymbol s → length es ≡ t.parts → HaveTerms t s all es
    → sum_by (λ m. all / m) (made_degrees t s es) * (all_degrees s * curvature_unit)
    ≡ all * (sum_by (share kind.Tile) es * sum_by (λ m. all_degrees s / m) s.m01 + sum_by (share kind.Vertex) es * sum_by (λ m. all_degrees s / m) s.m12
    + sum_by (share kind.Neither) es * (s.size * all_degrees s))
pair_sum t s all es is long terms =
    let n = s.size in
    let p = all_degrees s in
    let st = sum_by (share kind.Tile) es in
    let sv = sum_by (share kind.Vertex) es in
    let so = sum_by (share kind.Neither) es in
    let part_sum = λ (d : ℕ). total (λ x. all / degree_from s es d x) 0 t.parts in
    let over_tiles : total (of_tile s) 1 n ≡ sum_by (λ m. p / m) s.m01 = ap (total (of_tile s) 1) (sym is.table.m01_length) ∙ sym (sum_by-items (λ m. p / m) s.m01) in
    let over_vertices : total (of_vertex s) 1 n ≡ sum_by (λ m. p / m) s.m12 = ap (total (of_vertex s) 1) (sym is.table.m12_length) ∙ sym (sum_by-items (λ m. p / m) s.m12) in
    ap (λ z. z * (p * curvature_unit)) (sum_by-blocks (λ m. all / m) t.parts (degree_from s es) 1 n)
    ∙ scaled part_sum (p * curvature_unit) 1 n
    ∙ total-cong (λ d. part_sum d * (p * curvature_unit)) (λ d. all * (st * of_tile s d + sv * of_vertex s d + so * p)) 1 n (λ d low high. chamber_sum t s all es long terms d (omega arith, omega arith))
    ∙ total-scale (λ d. st * of_tile s d + sv * of_vertex s d + so * p) all 1 n
    ∙ ap (λ z. all * z)
    (total-linear (of_tile s) (of_vertex s) (λ _. p) st sv so 1 n
    ∙ ap (λ z. st * z + sv * total (of_vertex s) 1 n + so * total (λ _. p) 1 n) over_tiles
    ∙ ap (λ z. st * sum_by (λ m. p / m) s.m01 + sv * z + so * total (λ _. p) 1 n) over_vertices
    ∙ ap (λ z. st * sum_by (λ m. p / m) s.m01 + sv * sum_by (λ m. p / m) s.m12 + so * z) (total-constant p 1 n))

-- ## The curvature

face_terms : (t : Table) (s : Symbol) → IsLawful t → IsSymbol s → HaveTerms t s (all_degrees (made t s)) t.face
face_terms t s lawful is d x h inside =
    let here = item-of_parts t s (degree_from s t.face) d x h inside in
    let divides = tile_divides (made t s) (made_symbol t s lawful is) (chamber_of t d x) (chamber_of_within t s d x h inside) in
    entry_term t s lawful is Tile d x (all_degrees (made t s)) h (entry t.face x) (lawful.entries.face x inside)
    (subst (λ m. m * (all_degrees (made t s) / m) ≡ all_degrees (made t s)) here divides)

degree_terms : (t : Table) (s : Symbol) → IsLawful t → IsSymbol s → HaveTerms t s (all_degrees (made t s)) t.degree
degree_terms t s lawful is d x h inside =
    let here = item-of_parts t s (degree_from s t.degree) d x h inside in
    let divides = vertex_divides (made t s) (made_symbol t s lawful is) (chamber_of t d x) (chamber_of_within t s d x h inside) in
    entry_term t s lawful is Vertex d x (all_degrees (made t s)) h (entry t.degree x) (lawful.entries.degree x inside)
    (subst (λ m. m * (all_degrees (made t s) / m) ≡ all_degrees (made t s)) here divides)

-- the two sums together, with the curvature_unit cancelled
cancelled : (w x y p q a b n k ta tb va vb na nb : ℕ) → 1 ≤ w
    → x * (p * w) ≡ q * (ta * a + va * b + na * (n * p))
    → y * (p * w) ≡ q * (tb * a + vb * b + nb * (n * p))
    → ta + tb ≡ w → va + vb ≡ w → 2 * (na + nb) ≡ k * w
    → 2 * (x + y) * p ≡ q * (2 * (a + b) + n * p * k)
cancelled w x y p q a b n k ta tb va vb na nb pos ex ey et ev en =
    let tiles : q * a * (ta + tb) ≡ q * a * w = ap (λ z. q * a * z) et in
    let vertices : q * b * (va + vb) ≡ q * b * w = ap (λ z. q * b * z) ev in
    let others : q * (n * p) * (2 * (na + nb)) ≡ q * (n * p) * (k * w) = ap (λ z. q * (n * p) * z) en in
    eq_of_mul-eq-mul_right w pos (2 * (x + y) * p) (q * (2 * (a + b) + n * p * k)) (omega arith)

balanced : (x y p q a b n k parts : ℕ) → parts ≡ k + 1 → 2 * (x + y) * p ≡ q * (2 * (a + b) + n * p * k)
    → 2 * (a + b) * q + n * parts * q * p ≡ 2 * (x + y) * p + n * p * q
balanced x y p q a b n k parts e sums =
    let more : n * parts * q * p ≡ n * (k + 1) * q * p = ap (λ z. n * z * q * p) e in
    omega arith

pub made_curvature : (t : Table) (s : Symbol) → IsLawful t → IsSymbol s → HaveSameCurvature s (made t s)
made_curvature t s lawful is =
    let u = made t s in
    let p = all_degrees s in
    let q = all_degrees u in
    let keeps = lawful.entries.curvature in
    let some = lawful.lists.some in
    let x = sum_by (λ m. q / m) u.m01 in
    let y = sum_by (λ m. q / m) u.m12 in
    let a = sum_by (λ m. p / m) s.m01 in
    let b = sum_by (λ m. p / m) s.m12 in
    balanced x y p q a b s.size (t.parts - 1) t.parts (omega arith)
    (cancelled curvature_unit x y p q a b s.size (t.parts - 1)
    (sum_by (share kind.Tile) t.face) (sum_by (share kind.Tile) t.degree)
    (sum_by (share kind.Vertex) t.face) (sum_by (share kind.Vertex) t.degree)
    (sum_by (share kind.Neither) t.face) (sum_by (share kind.Neither) t.degree)
    (omega arith)
    (pair_sum t s q t.face is lawful.lists.face (face_terms t s lawful is))
    (pair_sum t s q t.degree is lawful.lists.degree (degree_terms t s lawful is))
    keeps.tiles keeps.vertices keeps.fixed)

-- ## Flat symbols

flat_there : (a b p q n m : ℕ) → 1 ≤ p → 2 * a * q + m * q * p ≡ 2 * b * p + n * p * q → 2 * a ≡ n * p → 2 * b ≡ m * q
flat_there a b p q n m pos same flat =
    let e : 2 * a * q ≡ n * p * q = ap (λ z. z * q) flat in
    eq_of_mul-eq-mul_right p pos (2 * b) (m * q) (omega arith)

flat_back : (a b p q n m : ℕ) → 1 ≤ q → 2 * a * q + m * q * p ≡ 2 * b * p + n * p * q → 2 * b ≡ m * q → 2 * a ≡ n * p
flat_back a b p q n m pos same flat =
    let e : 2 * b * p ≡ m * q * p = ap (λ z. z * p) flat in
    eq_of_mul-eq-mul_right q pos (2 * a) (n * p) (omega arith)

-- symbols with the same curvature are flat together
pub flat_together : (s u : Symbol) → IsSymbol s → IsSymbol u → HaveSameCurvature s u → Flat s ↔ Flat u
flat_together s u is iu same = (
  flat_there (reciprocals s) (reciprocals u) (all_degrees s) (all_degrees u) s.size u.size (all_degrees_positive s is) same,
  flat_back (reciprocals s) (reciprocals u) (all_degrees s) (all_degrees u) s.size u.size (all_degrees_positive u iu) same,
)

pub made_flat : (t : Table) (s : Symbol) → IsLawful t → IsSymbol s → Flat s ↔ Flat (made t s)
made_flat t s lawful is = flat_together s (made t s) is (made_symbol t s lawful is) (made_curvature t s lawful is)
