-- The fractions of two lawful tables as one add up.
use Rattle.std.proofs.Common.{◌≡◌, ℕ, zero, suc, ◌+◌, ◌*◌, ◌/◌, ◌<◌, ◌≤◌, length, get_or, refl, sym, ap, ◌∙◌, arith}
use Rattle.std.proofs.Math.Nat.{mul_comm, mul_assoc, mul_left_comm, suc-mul, mul-add, eq_of_mul-eq-mul_left}
use Rattle.std.specs.List.{sum_by}
use Rattle.dd_model.specs.declared.pair.Pair.{Pair}
use Rattle.dd_model.specs.declared.pair.Pair.TheVariants.{Tile, Vertex}
use Rattle.dd_template.specs.declared.tables.Degree.{Degree}
use Rattle.dd_template.specs.declared.tables.Degree.TheVariants.{OfTile, OfVertex, Fixed}
use Rattle.dd_template.specs.declared.tables.MultipleOf.{MultipleOf}
use Rattle.dd_template.specs.declared.tables.MultipleOf.TheVariants as kind
use Rattle.dd_template.specs.Table.{Table, IsPart, entry}
use Rattle.dd_template.specs.Entries.{entries}
use Rattle.dd_template.specs.Lawful.{IsLawful}
use Rattle.dd_template.specs.Shares.{share, curvature_unit}
use Rattle.dd_template.proofs.TotalLemmas.{total, total-cong, total-linear, total-scale, total-constant, sum_by-total}
use Rattle.dd_template.proofs.WholeLemmas.{whole_divided}
use Rattle.dd_opword.specs.Composed.{times, composed_degree, of_both, composed_entries, composed}
use Rattle.dd_opword.proofs.ComposedParts.{length-of_both, at-of_both}

-- ## Sums over rows

total-append : (f : ℕ → ℕ) (b m n : ℕ) → total f b (m + n) ≡ total f b m + total f (b + m) n
total-append f b zero n =
    let e : zero + n ≡ n = omega arith in
    let d : b ≡ b + zero = omega arith in
    let last : total f (b + zero) n ≡ total f b zero + total f (b + zero) n = omega arith in
    ap (total f b) e ∙ ap (λ c. total f c n) d ∙ last
total-append f b (suc m) n =
    let e : suc m + n ≡ suc (m + n) = omega arith in
    let d : b + 1 + m ≡ b + suc m = omega arith in
    let rest = total-append f (b + 1) m n ∙ ap (λ c. total f (b + 1) m + total f c n) d in
    ap (total f b) e ∙ omega arith

total-from : (f : ℕ → ℕ) (b c n : ℕ) → total f (b + c) n ≡ total (λ x. f (b + x)) c n
total-from f b c zero = refl
total-from f b c (suc n) =
    let e : b + c + 1 ≡ b + (c + 1) = omega arith in
    ap (λ m. f (b + c) + m) (ap (λ d. total f d n) e ∙ total-from f b (c + 1) n)

-- a sum over n rows of k terms
total-rows : (f : ℕ → ℕ) (k b n : ℕ) → total f (b * k) (n * k) ≡ total (λ y. total (λ x. f (y * k + x)) 0 k) b n
total-rows f k b zero = let e : zero * k ≡ zero = omega arith in ap (total f (b * k)) e
total-rows f k b (suc n) =
    let e : suc n * k ≡ k + n * k = let m = suc-mul n k in omega arith in
    let next : b * k + k ≡ (b + 1) * k = let m = suc-mul b k in let s : b + 1 ≡ suc b = omega arith in sym (ap (λ c. c * k) s ∙ m) in
    let z : b * k ≡ b * k + 0 = omega arith in
    let row : total f (b * k) k ≡ total (λ x. f (b * k + x)) 0 k = ap (λ c. total f c k) z ∙ total-from f (b * k) 0 k in
    let rest : total f (b * k + k) (n * k) ≡ total (λ y. total (λ x. f (y * k + x)) 0 k) (b + 1) n = ap (λ c. total f c (n * k)) next ∙ total-rows f k (b + 1) n in
    ap (total f (b * k)) e ∙ total-append f (b * k) k (n * k) ∙ omega arith

-- ## Fractions

-- the fraction of a product
product_of_fractions : (u c d a b e : ℕ) → 1 ≤ c → 1 ≤ d → c * a ≡ u → d * b ≡ u → c * d * e ≡ u → u * e ≡ b * a
product_of_fractions u c d a b e some more first second both =
    let positive : 1 ≤ c * d = grind arith in
    let left : c * d * (u * e) ≡ u * u = mul_left_comm (c * d) u e ∙ ap (λ m. u * m) both in
    let right : c * d * (b * a) ≡ u * u =
    mul_assoc c d (b * a)
    ∙ ap (λ m. c * m) (sym (mul_assoc d b a) ∙ ap (λ m. m * a) second)
    ∙ mul_left_comm c u a
    ∙ ap (λ m. u * m) first in
    eq_of_mul-eq-mul_left (c * d) positive (u * e) (b * a) (left ∙ sym right)

-- what stands for a fraction of the outer table with no inner one
abbrev pub alone : MultipleOf → ℕ
alone kind.Tile = 0
alone kind.Vertex = 0
alone kind.Neither = curvature_unit

-- a factor that divides the number in whose parts fractions are counted
abbrev pub IsFactor : ℕ → ℕ → Degree → Type 0
IsFactor few c (OfTile d) = (1 ≤ d) × (c * d ≤ few)
IsFactor few c (OfVertex d) = (1 ≤ d) × (c * d ≤ few)
IsFactor few c (Fixed m) = (1 ≤ m) × (c * m ≤ few)

fraction : (c d : ℕ) → 1 ≤ c → 1 ≤ d → c * d ≤ 64 → curvature_unit * (curvature_unit / (c * d)) ≡ curvature_unit / d * (curvature_unit / c)
fraction c d some more few =
    let positive : 1 ≤ c * d = grind arith in
    let one : c ≤ c * d = grind arith in
    let other : d ≤ c * d = grind arith in
    product_of_fractions curvature_unit c d (curvature_unit / c) (curvature_unit / d) (curvature_unit / (c * d)) some more
    (whole_divided c some (omega arith)) (whole_divided d more (omega arith)) (whole_divided (c * d) positive few)

nothing : (u n : ℕ) → u * 0 ≡ 0 * n
nothing u n = omega arith

-- c times an entry has its fraction divided by c
share-times : (k : MultipleOf) (c : ℕ) (e : Degree) → 1 ≤ c → IsFactor 64 c e → curvature_unit * share k (times c e) ≡ share k e * (curvature_unit / c)
share-times kind.Tile c (OfTile d) some f = fraction c d some f.0 f.1
share-times kind.Tile c (OfVertex d) some f = nothing curvature_unit (curvature_unit / c)
share-times kind.Tile c (Fixed m) some f = nothing curvature_unit (curvature_unit / c)
share-times kind.Vertex c (OfTile d) some f = nothing curvature_unit (curvature_unit / c)
share-times kind.Vertex c (OfVertex d) some f = fraction c d some f.0 f.1
share-times kind.Vertex c (Fixed m) some f = nothing curvature_unit (curvature_unit / c)
share-times kind.Neither c (OfTile d) some f = nothing curvature_unit (curvature_unit / c)
share-times kind.Neither c (OfVertex d) some f = nothing curvature_unit (curvature_unit / c)
share-times kind.Neither c (Fixed m) some f = fraction c m some f.0 f.1

-- an entry of the outer table over an inner part whose factors divide
abbrev pub IsOver : Table → ℕ → Degree → Type 0
IsOver inner y (OfTile c) = (1 ≤ c) × IsFactor 64 c (entry inner.face y)
IsOver inner y (OfVertex c) = (1 ≤ c) × IsFactor 64 c (entry inner.degree y)
IsOver inner y (Fixed m) = Unit {0}

-- what is u of a fraction of tiles, v of one of vertices, and w of another
abbrev weighed : ℕ → ℕ → ℕ → Degree → ℕ
weighed u v w e = u * share kind.Tile e + v * share kind.Vertex e + w * share kind.Neither e

weigh : (u v w n m : ℕ) → n ≡ u * m → n ≡ u * m + v * 0 + w * 0
weigh u v w n m e = omega arith

weigh_second : (u v w n m : ℕ) → n ≡ v * m → n ≡ u * 0 + v * m + w * 0
weigh_second u v w n m e = omega arith

weigh_fixed : (k : MultipleOf) (u v m : ℕ) → curvature_unit * share k (Fixed m) ≡ u * 0 + v * 0 + alone k * (curvature_unit / m)
weigh_fixed kind.Tile u v m = omega arith
weigh_fixed kind.Vertex u v m = omega arith
weigh_fixed kind.Neither u v m = omega arith

share-composed : (inner : Table) (k : MultipleOf) (y : ℕ) (e : Degree) → IsOver inner y e
    → curvature_unit * share k (composed_degree inner y e) ≡ weighed (share k (entry inner.face y)) (share k (entry inner.degree y)) (alone k) e
share-composed inner k y (OfTile c) over =
    weigh (share k (entry inner.face y)) (share k (entry inner.degree y)) (alone k) (curvature_unit * share k (times c (entry inner.face y))) (curvature_unit / c)
    (share-times k c (entry inner.face y) over.0 over.1)
share-composed inner k y (OfVertex c) over =
    weigh_second (share k (entry inner.face y)) (share k (entry inner.degree y)) (alone k) (curvature_unit * share k (times c (entry inner.degree y))) (curvature_unit / c)
    (share-times k c (entry inner.degree y) over.0 over.1)
share-composed inner k y (Fixed m) over = weigh_fixed k (share k (entry inner.face y)) (share k (entry inner.degree y)) m

-- ## Sums

-- the fractions of a list of entries
abbrev fractions : MultipleOf → Table → Pair → ℕ
fractions k t p = total (λ x. share k (entry (entries t p) x)) 0 t.parts

fractions-sum : (k : MultipleOf) (t : Table) (p : Pair) → length (entries t p) ≡ t.parts → sum_by (share k) (entries t p) ≡ fractions k t p
fractions-sum k t p long = sum_by-total (share k) (entries t p) (Fixed 0) ∙ ap (total (λ x. share k (entry (entries t p) x)) 0) long

-- the fractions of the entries over an inner part
abbrev fractions_over : MultipleOf → Table → Table → Pair → ℕ → ℕ
fractions_over k outer inner p y = total (λ x. share k (composed_degree inner y (entry (entries outer p) x))) 0 outer.parts

entries_sum : (k : MultipleOf) (outer inner : Table) (p : Pair)
    → sum_by (share k) (composed_entries outer inner p) ≡ total (fractions_over k outer inner p) 0 inner.parts
entries_sum k outer inner p =
    let f : ℕ → ℕ → Degree = λ y x. composed_degree inner y (entry (entries outer p) x) in
    let xs = of_both outer inner f in
    let g : ℕ → ℕ = λ z. share k (get_or xs z (Fixed 0)) in
    let z : 0 ≡ 0 * outer.parts = omega arith in
    sum_by-total (share k) xs (Fixed 0)
    ∙ ap (total g 0) (length-of_both outer inner f)
    ∙ ap (λ b. total g b (inner.parts * outer.parts)) z
    ∙ total-rows g outer.parts 0 inner.parts
    ∙ total-cong (λ y. total (λ x. g (y * outer.parts + x)) 0 outer.parts) (fractions_over k outer inner p) 0 inner.parts
    (λ y low high. total-cong (λ x. g (y * outer.parts + x)) (λ x. share k (f y x)) 0 outer.parts
    (λ x below above. ap (share k) (at-of_both outer inner f (Fixed 0) y x (omega arith) (omega arith))))

-- all entries of a pair are over inner parts whose factors divide
abbrev pub AreOver : Table → Table → Pair → Type 0
AreOver outer inner p = (y x : ℕ) → IsPart inner y → IsPart outer x → IsOver inner y (entry (entries outer p) x)

over_sum : (k : MultipleOf) (outer inner : Table) (p : Pair) → AreOver outer inner p → (y : ℕ) → IsPart inner y
    → curvature_unit * fractions_over k outer inner p y
    ≡ share k (entry inner.face y) * fractions kind.Tile outer p + share k (entry inner.degree y) * fractions kind.Vertex outer p + alone k * fractions kind.Neither outer p
over_sum k outer inner p over y h =
    let es = entries outer p in
    let u = share k (entry inner.face y) in
    let v = share k (entry inner.degree y) in
    sym (total-scale (λ x. share k (composed_degree inner y (entry es x))) curvature_unit 0 outer.parts)
    ∙ total-cong (λ x. curvature_unit * share k (composed_degree inner y (entry es x))) (λ x. weighed u v (alone k) (entry es x)) 0 outer.parts
    (λ x low high. share-composed inner k y (entry es x) (over y x h (omega arith)))
    ∙ total-linear (λ x. share kind.Tile (entry es x)) (λ x. share kind.Vertex (entry es x)) (λ x. share kind.Neither (entry es x)) u v (alone k) 0 outer.parts

-- the two sums over an inner part
add_up : (unit u v w a b c d e f s t : ℕ) → unit * s ≡ u * a + v * b + w * c → unit * t ≡ u * d + v * e + w * f → a + d ≡ unit → b + e ≡ unit
    → unit * (s + t) ≡ unit * u + unit * v + w * (c + f)
add_up unit u v w a b c d e f s t first second tiles vertices =
    let us : u * a + u * d ≡ unit * u = grind arith in
    let vs : v * b + v * e ≡ unit * v = grind arith in
    grind arith

total-sum : (f g : ℕ → ℕ) (b n : ℕ) → total (λ x. f x + g x) b n ≡ total f b n + total g b n
total-sum f g b zero = refl
total-sum f g b (suc n) = let rest = total-sum f g (b + 1) n in omega arith

-- the sum over all parts, without the common unit
pub sum_over : (k : MultipleOf) (outer inner : Table) → IsLawful outer → IsLawful inner → AreOver outer inner Tile → AreOver outer inner Vertex
    → curvature_unit * (sum_by (share k) (composed outer inner).face + sum_by (share k) (composed outer inner).degree)
    ≡ curvature_unit * (sum_by (share k) inner.face + sum_by (share k) inner.degree)
    + inner.parts * (alone k * (sum_by (share kind.Neither) outer.face + sum_by (share kind.Neither) outer.degree))
sum_over k outer inner lawful inner_lawful tiles vertices =
    let unit = curvature_unit in
    let n = inner.parts in
    let lists = lawful.lists in
    let inner_lists = inner_lawful.lists in
    let keeps = lawful.entries.curvature in
    let s = fractions_over k outer inner Tile in
    let t = fractions_over k outer inner Vertex in
    let u : ℕ → ℕ = λ y. share k (entry inner.face y) in
    let v : ℕ → ℕ = λ y. share k (entry inner.degree y) in
    let c = fractions kind.Neither outer Tile in
    let f = fractions kind.Neither outer Vertex in
    let w = alone k * (c + f) in
    let a = fractions-sum kind.Tile outer Tile lists.face in
    let d = fractions-sum kind.Tile outer Vertex lists.degree in
    let b = fractions-sum kind.Vertex outer Tile lists.face in
    let e = fractions-sum kind.Vertex outer Vertex lists.degree in
    let of_tiles : fractions kind.Tile outer Tile + fractions kind.Tile outer Vertex ≡ unit = omega (arith, keeps.tiles) in
    let of_vertices : fractions kind.Vertex outer Tile + fractions kind.Vertex outer Vertex ≡ unit = omega (arith, keeps.vertices) in
    let each : (y : ℕ) → 0 ≤ y → y < 0 + n → unit * (s y + t y) ≡ unit * u y + unit * v y + w * 1 =
    λ y low high.
    let h : IsPart inner y = omega arith in
    let one : w * 1 ≡ w = omega arith in
    add_up unit (u y) (v y) (alone k) (fractions kind.Tile outer Tile) (fractions kind.Vertex outer Tile) c (fractions kind.Tile outer Vertex) (fractions kind.Vertex outer Vertex) f (s y) (t y)
    (over_sum k outer inner Tile tiles y h) (over_sum k outer inner Vertex vertices y h) of_tiles of_vertices
    ∙ ap (λ m. unit * u y + unit * v y + m) (sym one) in
    let whole : unit * (total s 0 n + total t 0 n) ≡ unit * total u 0 n + unit * total v 0 n + w * total (λ _. 1) 0 n =
    ap (λ m. unit * m) (sym (total-sum s t 0 n))
    ∙ sym (total-scale (λ y. s y + t y) unit 0 n)
    ∙ total-cong (λ y. unit * (s y + t y)) (λ y. unit * u y + unit * v y + w * 1) 0 n each
    ∙ total-linear u v (λ _. 1) unit unit w 0 n in
    let ones : total (λ _. 1) 0 n ≡ n = total-constant 1 0 n ∙ omega arith in
    let sums : sum_by (share k) (composed outer inner).face + sum_by (share k) (composed outer inner).degree ≡ total s 0 n + total t 0 n =
    ap (λ m. m + sum_by (share k) (composed outer inner).degree) (entries_sum k outer inner Tile) ∙ ap (λ m. total s 0 n + m) (entries_sum k outer inner Vertex) in
    let inner_face = fractions-sum k inner Tile inner_lists.face in
    let inner_degree = fractions-sum k inner Vertex inner_lists.degree in
    let outer_face = fractions-sum kind.Neither outer Tile lists.face in
    let outer_degree = fractions-sum kind.Neither outer Vertex lists.degree in
    let both : unit * total u 0 n + unit * total v 0 n ≡ unit * (sum_by (share k) inner.face + sum_by (share k) inner.degree) =
    sym (mul-add unit (total u 0 n) (total v 0 n))
    ∙ ap (λ m. unit * (m + total v 0 n)) (sym inner_face)
    ∙ ap (λ m. unit * (sum_by (share k) inner.face + m)) (sym inner_degree) in
    let rest : w * total (λ _. 1) 0 n ≡ n * (alone k * (sum_by (share kind.Neither) outer.face + sum_by (share kind.Neither) outer.degree)) =
    ap (λ m. w * m) ones
    ∙ mul_comm w n
    ∙ ap (λ m. n * (alone k * (m + f))) (sym outer_face)
    ∙ ap (λ m. n * (alone k * (sum_by (share kind.Neither) outer.face + m))) (sym outer_degree) in
    ap (λ m. unit * m) sums ∙ whole ∙ ap (λ m. m + w * total (λ _. 1) 0 n) both ∙ ap (λ m. unit * (sum_by (share k) inner.face + sum_by (share k) inner.degree) + m) rest
