-- What the last table says is a placement.
use Rattle.std.proofs.Common.{◌≡◌, ℕ, zero, suc, ◌+◌, ◌-◌, ◌<◌, ◌≤◌, ℤ, pos, ◌*ℤ◌, List, [], ◌∷◌, ◌++◌, length, get_or, refl, sym, ap, ◌∙◌, subst, below_more, arith}
use Rattle.std.proofs.lemmas.List.{length-append, get_or_append_left, get_or_push}
use Rattle.std.specs.List.{AllByRecursion}
use Rattle.dd_cells.specs.Fraction.{IsReduced}
use Rattle.dd_cells.specs.declared.fractions.Fraction.{Fraction}
use Rattle.dd_lattice.specs.Nets.{IsConnectedNet}
use Rattle.dd_lattice.specs.declared.net.Net.{Net}
use Rattle.dd_lattice.specs.declared.net_edge.NetEdge.{NetEdge}
use Rattle.dd_lattice.proofs.Rings.{at, nat, equal, ◌⊠◌}
use Rattle.dd_draw.proofs.Integers.{cancel}
use Rattle.dd_draw.proofs.FirstSums.{whole_reduced}
use Rattle.dd_draw.proofs.FirstTable.{entry-x, entry-y}
use Rattle.dd_draw.proofs.Pivots.{table, sound, solution, of_vertices, column_of}
use Rattle.dd_draw.proofs.RatioTables.{IsAt, entry_at}
use Rattle.dd_draw.specs.Elimination.{Ratio, entry, first_entry, sum_unlooped, seen_from}
use Rattle.dd_draw.specs.Limit.{IsNarrow, IsWithin, IsNarrowPoint}
use Rattle.dd_draw.specs.Placement.{Point, ArePlaced, IsPlacement, point_of, origin}
use Rattle.dd_draw.specs.Points.{ArePointsTo}
use Rattle.dd_draw.specs.Rows.{number_at}
use Rattle.dd_draw.specs.Tables.{IsTable, row_at}

-- a fraction that is a ratio, which is a over d
over_one : (x : Fraction) (r : Ratio) (a d : ℤ) → IsNarrow x r → IsAt r a d → x.num *ℤ d ≡ a *ℤ x.den
over_one x r a d is has =
    let n = at x.num in let m = at x.den in let ro = at r.over in let ru = at r.under in let k = at a in let e = at d in
    cancel (x.num *ℤ d) (a *ℤ x.den) r.under has.under
    (equal ((n ⊠ e) ⊠ ru) ((n ⊠ ru) ⊠ e) (omega arith) ∙ ap (λ z. z *ℤ d) is.value
    ∙ equal ((ro ⊠ m) ⊠ e) ((ro ⊠ e) ⊠ m) (omega arith) ∙ ap (λ z. z *ℤ x.den) has.value
    ∙ equal ((k ⊠ ru) ⊠ m) ((k ⊠ m) ⊠ ru) (omega arith))

by_vertex : (P : ℕ → Type 0) (n : ℕ) → P 1 → ((i : ℕ) → suc i < n → P (suc (suc i))) → (v : ℕ) → 1 ≤ v → v ≤ n → P v
by_vertex P n first rest zero low high = absurd (omega arith)
by_vertex P n first rest (suc zero) low high = first
by_vertex P n first rest (suc (suc i)) low high = rest i (omega arith)

-- one coordinate, of which the numbers stand in column j, counted from 0
coordinate : (net : Net) (k j : ℕ) (shift : NetEdge → ℤ) (rows : List (List Fraction)) (place : ℕ → Fraction) → IsConnectedNet net → suc k ≡ net.vertices
    → IsTable net k rows → j < net.vertices + 1 → ((i : ℕ) → first_entry net i (suc j) ≡ sum_unlooped (seen_from shift (suc i)) net.edges.items)
    → place 1 ≡ record { num = pos 0; den = pos 1 } → ((i : ℕ) → i < length rows → place (suc (suc i)) ≡ number_at (row_at rows i) j) → ArePlaced net shift place
coordinate net k j shift rows place connected last t inside right start rest = record {
  reduced = by_vertex (λ v. IsReduced (place v)) net.vertices (subst IsReduced (sym start) (whole_reduced (pos 0)))
      (λ i l. let m = t.many in subst IsReduced (sym (rest i (omega arith))) ((t.each i (omega arith)).each j inside).within.reduced);
  denominator = (table net k).scale;
  nonzero = (sound net k connected (omega arith)).scale;
  numerators = of_vertices (column_of (table net k) (suc j));
  over = by_vertex (λ v. (place v).num *ℤ (table net k).scale ≡ of_vertices (column_of (table net k) (suc j)) v *ℤ (place v).den) net.vertices
      (ap (λ x. x.num *ℤ (table net k).scale) start ∙ equal (nat 0 ⊠ at (table net k).scale) (nat 0 ⊠ at (place 1).den) (omega arith))
      (λ i l. let m = t.many in
      subst (λ x. x.num *ℤ (table net k).scale ≡ (table net k).number (suc i) (suc j) *ℤ x.den) (sym (rest i (omega arith)))
      (over_one (number_at (row_at rows i) j) (entry net k (suc i) (suc j)) ((table net k).number (suc i) (suc j)) (table net k).scale
      ((t.each i (omega arith)).each j inside) (entry_at net k (suc i) (suc j) connected (omega arith))));
  balanced = solution net shift (suc j) k connected (sym last) right;
  start = refl;
}

pub placed : (net : Net) (k : ℕ) (rows : List (List Fraction)) (points : List Point) → IsConnectedNet net → suc k ≡ net.vertices → IsTable net k rows
    → ArePointsTo net.vertices (length rows) rows points → IsPlacement net points
placed net k rows points connected last t are = record {
  count = let m = t.many in let n = are.many in omega arith;
  x = coordinate net k (net.vertices - 1) (λ e. e.x) rows (λ v. (point_of points v).x) connected last t (omega arith)
      (λ i. entry-x net i (suc (net.vertices - 1)) (omega arith)) (ap (λ p. p.x) are.start) (λ i l. ap (λ p. p.x) (at_point (suc i)) ∙ are.x i l);
  y = coordinate net k net.vertices (λ e. e.y) rows (λ v. (point_of points v).y) connected last t (omega arith)
      (λ i. entry-y net i (suc net.vertices) refl) (ap (λ p. p.y) are.start) (λ i l. ap (λ p. p.y) (at_point (suc i)) ∙ are.y i l);
}
  where
    at_point : (n : ℕ) → point_of points (suc n) ≡ get_or points n origin
    at_point n = let e : suc n - 1 ≡ n = omega arith in ap (λ m. get_or points m origin) e

zero_within : IsWithin (record { num = pos 0; den = pos 1 })
zero_within = record { reduced = whole_reduced (pos 0); num = omega arith; den = omega arith }

all_narrow : (points : List Point) → ((i : ℕ) → i < length points → IsNarrowPoint (get_or points i origin)) → AllByRecursion IsNarrowPoint points
all_narrow [] each = tt
all_narrow (p ∷ ps) each = (each zero (omega arith), all_narrow ps (λ i low. each (suc i) (omega arith)))

-- the points are of numbers of the table
pub narrow_points : (net : Net) (k : ℕ) (rows : List (List Fraction)) (points : List Point) → IsTable net k rows → ArePointsTo net.vertices (length rows) rows points
    → AllByRecursion IsNarrowPoint points
narrow_points net k rows points t are = all_narrow points at_place
  where
    at_place : (i : ℕ) → i < length points → IsNarrowPoint (get_or points i origin)
    at_place zero low = subst IsNarrowPoint (sym are.start) (record { x = zero_within; y = zero_within })
    at_place (suc i) low =
        let m = are.many in
        let inside : i < length rows = omega arith in
        record {
          x = subst IsWithin (sym (are.x i inside)) ((t.each i inside).each (net.vertices - 1) (omega arith)).within;
          y = subst IsWithin (sym (are.y i inside)) ((t.each i inside).each net.vertices (omega arith)).within;
        }

pub points_more : (vertices n : ℕ) (rows : List (List Fraction)) (xs : List Fraction) (points points' : List Point)
    → points' ≡ points ++ record { x = number_at xs (vertices - 1); y = number_at xs vertices } ∷ [] → row_at rows n ≡ xs → ArePointsTo vertices n rows points
    → ArePointsTo vertices (n + 1) rows points'
points_more vertices n rows xs points points' e row are = subst (ArePointsTo vertices (n + 1) rows) (sym e) (record {
  many = let m = are.many in omega (arith, length-append points (record { x = number_at xs (vertices - 1); y = number_at xs vertices } ∷ []));
  start = get_or_append_left points (record { x = number_at xs (vertices - 1); y = number_at xs vertices } ∷ []) origin zero (let m = are.many in omega arith) ∙ are.start;
  x = below_more (λ i. (get_or (points ++ record { x = number_at xs (vertices - 1); y = number_at xs vertices } ∷ []) (suc i) origin).x ≡ number_at (row_at rows i) (vertices - 1)) n
      (λ i l. ap (λ p. p.x) (early i l) ∙ are.x i l) (ap (λ p. p.x) last ∙ ap (λ ys. number_at ys (vertices - 1)) (sym row));
  y = below_more (λ i. (get_or (points ++ record { x = number_at xs (vertices - 1); y = number_at xs vertices } ∷ []) (suc i) origin).y ≡ number_at (row_at rows i) vertices) n
      (λ i l. ap (λ p. p.y) (early i l) ∙ are.y i l) (ap (λ p. p.y) last ∙ ap (λ ys. number_at ys vertices) (sym row));
})
  where
    early : (i : ℕ) → i < n → get_or (points ++ record { x = number_at xs (vertices - 1); y = number_at xs vertices } ∷ []) (suc i) origin ≡ get_or points (suc i) origin
    early i l = get_or_append_left points (record { x = number_at xs (vertices - 1); y = number_at xs vertices } ∷ []) origin (suc i) (let m = are.many in omega arith)

    last : get_or (points ++ record { x = number_at xs (vertices - 1); y = number_at xs vertices } ∷ []) (suc n) origin
        ≡ record { x = number_at xs (vertices - 1); y = number_at xs vertices }
    last = get_or_push points (record { x = number_at xs (vertices - 1); y = number_at xs vertices }) origin (suc n) (let m = are.many in omega arith)
