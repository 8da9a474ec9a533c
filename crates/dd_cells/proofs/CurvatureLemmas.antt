-- The curvature from the sums of the reciprocals of the degrees.
use Rattle.std.proofs.Common.{◌≡◌, ◌↔◌, ℕ, ◌+◌, ◌-◌, ◌*◌, ◌/◌, ◌≤◌, ℤ, pos, ◌-ℤ◌, ◌*ℤ◌, nat_abs, List, [], ◌∷◌, length, sym, ap, ◌∙◌, ⊎_elim, arith}
use Rattle.std.specs.List.{Contains, sum_by}
use borrow.Author.Differences.{up, down}
use Rattle.std.proofs.lemmas.Int.{ints}
use Rattle.std.proofs.lemmas.List.Elements.{Contains-get_or}
use Rattle.dd_model.specs.declared.pair.Pair.TheVariants.{Tile, Vertex}
use Rattle.dd_model.specs.Symbol.{Symbol, IsTable, IsSymbol, degree, item}
use Rattle.dd_model.specs.Code.{chambers, count_from}
use Rattle.dd_model.specs.Flat.{product, all_degrees, reciprocals, Flat}
use Rattle.dd_model.proofs.Codes.{items_again}
use Rattle.dd_model.proofs.AllDegrees.{all_degrees_positive}
use Rattle.dd_model.proofs.Lists.{Contains-cases}
use Rattle.dd_cells.specs.Curvature.{IsCurvature, IsReciprocalSum}
use Rattle.dd_cells.specs.Fraction.{Divides, IsReduced, IsQuotient}
use Rattle.dd_cells.specs.declared.fractions.Fraction.{Fraction}
use Rattle.dd_cells.proofs.CellSums.{listed_chamber, sum_by-map}
use Rattle.dd_cells.proofs.FractionLemmas.{same_factor, denominator, sizes, fraction_unique}

-- ## Products of degrees

divides_product : (m : ℕ) (xs : List ℕ) → Contains xs m → Divides m (product xs)
divides_product m [] here = let below = here.1 in absurd (omega arith)
divides_product m (x ∷ xs) here =
    ⊎_elim
    (λ e. record { quotient = product xs; product = let t = ap (λ n. n * product xs) e in omega arith })
    (λ later.
    let rest = divides_product m xs later in
    record { quotient = x * rest.quotient; product = let t = ap (λ n. x * n) rest.product in omega arith })
    (Contains-cases x m xs here)

-- the item of a chamber is in the list
item_listed : (xs : List ℕ) (n d : ℕ) → length xs ≡ n → 1 ≤ d → d ≤ n → Contains xs (item xs d)
item_listed xs n d size low high = Contains-get_or xs (d - 1) 0 (omega arith)

divides_left : (d a b : ℕ) → Divides d a → Divides d (a * b)
divides_left d a b h = record { quotient = h.quotient * b; product = let t = ap (λ n. n * b) h.product in omega arith }

divides_right : (d a b : ℕ) → Divides d b → Divides d (a * b)
divides_right d a b h = record { quotient = a * h.quotient; product = let t = ap (λ n. a * n) h.product in omega arith }

pub tile_divides : (s : Symbol) → IsTable s → (d : ℕ) → Contains (chambers s) d → Divides (degree s Tile d) (all_degrees s)
tile_divides s is d listed =
    let h = listed_chamber s d listed in
    divides_left (item s.m01 d) (product s.m01) (product s.m12)
    (divides_product (item s.m01 d) s.m01 (item_listed s.m01 s.size d is.m01_length h.0 h.1))

pub vertex_divides : (s : Symbol) → IsTable s → (d : ℕ) → Contains (chambers s) d → Divides (degree s Vertex d) (all_degrees s)
vertex_divides s is d listed =
    let h = listed_chamber s d listed in
    divides_right (item s.m12 d) (product s.m01) (product s.m12)
    (divides_product (item s.m12 d) s.m12 (item_listed s.m12 s.size d is.m12_length h.0 h.1))

-- ## Sums over the lists of degrees

sum_by_items : (g : ℕ → ℕ) (xs : List ℕ) (n : ℕ) → length xs ≡ n → sum_by (λ d. g (item xs d)) (count_from 1 n) ≡ sum_by g xs
sum_by_items g xs n size = sym (sum_by-map g (item xs) (count_from 1 n)) ∙ ap (sum_by g) (items_again xs n size)

-- The two sums give the sum of both.
pub sum_of_both : (s : Symbol) → IsTable s → (common tiles vertices : ℕ) → IsReciprocalSum s Tile (chambers s) common tiles
    → IsReciprocalSum s Vertex (chambers s) common vertices → 2 * (tiles + vertices) * all_degrees s ≡ common * (2 * reciprocals s)
sum_of_both s is common tiles vertices t v =
    let whole = all_degrees s in
    let g : ℕ → ℕ = λ m. whole / m in
    let et : tiles * whole ≡ common * sum_by g s.m01 = t.value whole (tile_divides s is) ∙ ap (λ n. common * n) (sum_by_items g s.m01 s.size is.m01_length) in
    let ev : vertices * whole ≡ common * sum_by g s.m12 = v.value whole (vertex_divides s is) ∙ ap (λ n. common * n) (sum_by_items g s.m12 s.size is.m12_length) in
    joined tiles vertices whole common (sum_by g s.m01) (sum_by g s.m12) et ev
  where
    joined : (a b w c x y : ℕ) → a * w ≡ c * x → b * w ≡ c * y → 2 * (a + b) * w ≡ c * (2 * (x + y))
    joined a b w c x y ex ey = omega arith

-- ## The curvature

-- the equation of a quotient of a difference, in naturals
pub numbers_of_quotient : (x : Fraction) (g l d e : ℕ) → x.den ≡ pos e → IsQuotient x (pos g -ℤ pos l) d → up x.num * d + l * e ≡ g * e + down x.num * d
numbers_of_quotient x g l d e bottom is =
    let n = pos g -ℤ pos l in
    let product : x.num *ℤ pos d ≡ n *ℤ pos e = is.product ∙ ap (λ z. n *ℤ z) bottom in
    let difference : up n + l ≡ g + down n = omega (arith, ints) in
    let times = ap (λ k. k * e) difference in
    let over : up x.num * d ≡ up n * e = omega (arith, ints) in
    let under : down x.num * d ≡ down n * e = omega (arith, ints) in
    omega arith

pub quotient_of_numbers : (x : Fraction) (g l d e : ℕ) → x.den ≡ pos e → up x.num * d + l * e ≡ g * e + down x.num * d → IsQuotient x (pos g -ℤ pos l) d
quotient_of_numbers x g l d e bottom is =
    let n = pos g -ℤ pos l in
    let difference : up n + l ≡ g + down n = omega (arith, ints) in
    let times = ap (λ k. k * e) difference in
    let product : x.num *ℤ pos d ≡ n *ℤ pos e = omega (arith, ints) in
    record { product = product ∙ ap (λ z. n *ℤ z) (sym bottom) }

-- the same difference over another denominator
rescaled : (u w g l c p r m e : ℕ) → 1 ≤ c → u * (2 * c) + l * e ≡ g * e + w * (2 * c) → g * p ≡ c * r → l * p ≡ c * m
    → u * (2 * p) + m * e ≡ r * e + w * (2 * p)
rescaled u w g l c p r m e some is eg el =
    let t1 = ap (λ k. k * p) is in
    let t2 = ap (λ k. k * e) eg in
    let t3 = ap (λ k. k * e) el in
    same_factor (u * (2 * p) + m * e) (r * e + w * (2 * p)) c some (omega arith)

-- The fraction (gain - loss) / 2 common is the curvature.
pub curvature_by_parts : (s : Symbol) (x : Fraction) (common gain loss : ℕ) → 1 ≤ common → gain * all_degrees s ≡ common * (2 * reciprocals s)
    → loss ≡ common * s.size → IsReduced x → IsQuotient x (pos gain -ℤ pos loss) (2 * common) → IsCurvature s x
curvature_by_parts s x common gain loss some eg el reduced value =
    let e = nat_abs x.den in
    let bottom = denominator x reduced in
    let whole = all_degrees s in
    let n = s.size in
    let lost : loss * whole ≡ common * (n * whole) = let t = ap (λ k. k * whole) el in omega arith in
    record {
      reduced = reduced;
      value = quotient_of_numbers x (2 * reciprocals s) (n * whole) (2 * whole) e bottom
          (rescaled (up x.num) (down x.num) gain loss common whole (2 * reciprocals s) (n * whole) e some
          (numbers_of_quotient x gain loss (2 * common) e bottom value) eg lost);
    }

-- flat, by the two parts of the curvature
pub flat_by_parts : (s : Symbol) → IsSymbol s → (common gain loss : ℕ) → 1 ≤ common → gain * all_degrees s ≡ common * (2 * reciprocals s)
    → loss ≡ common * s.size → (gain ≡ loss) ↔ Flat s
flat_by_parts s is common gain loss some eg el = (
  λ same. same_factor (2 * reciprocals s) (s.size * all_degrees s) common some
      (turned_round common (2 * reciprocals s) (s.size * all_degrees s)
      (sym eg ∙ ap (λ n. n * all_degrees s) (same ∙ el) ∙ regrouped common s.size (all_degrees s))),
  λ flat. same_factor gain loss (all_degrees s) (all_degrees_positive s is)
      (eg ∙ ap (λ n. common * n) flat ∙ sym (regrouped common s.size (all_degrees s)) ∙ ap (λ n. n * all_degrees s) (sym el)),
) where
  regrouped : (a b c : ℕ) → a * b * c ≡ a * (b * c)
  regrouped a b c = omega arith

  turned_round : (c a b : ℕ) → c * a ≡ c * b → a * c ≡ b * c
  turned_round c a b e = omega arith

-- ## Laws

-- A symbol has at most one curvature.
pub curvature_unique : (s : Symbol) (x y : Fraction) → IsSymbol s → IsCurvature s x → IsCurvature s y → x ≡ y
curvature_unique s x y is cx cy =
    let some = all_degrees_positive s is in
    fraction_unique x y (pos (2 * reciprocals s) -ℤ pos (s.size * all_degrees s)) (2 * all_degrees s) (omega arith) cx.reduced cy.reduced cx.value cy.value

-- a whole number of size 0 is 0
pub size_zero : (z : ℤ) → nat_abs z ≡ 0 → z ≡ pos 0
size_zero z e = omega (arith, ints)

no_factor : (a m : ℕ) → 1 ≤ m → a * m ≡ 0 → a ≡ 0
no_factor a m some e = grind arith

-- It is flat exactly where its curvature is 0.
pub flat_by_curvature : (s : Symbol) (x : Fraction) → IsSymbol s → IsCurvature s x → Flat s ↔ (x.num ≡ pos 0)
flat_by_curvature s x is c =
    let n = pos (2 * reciprocals s) -ℤ pos (s.size * all_degrees s) in
    let some = all_degrees_positive s is in
    let size = sizes x n (2 * all_degrees s) c.value in
    let bottom = c.reduced.positive in (
      λ flat.
          let none : nat_abs n ≡ 0 = omega (arith, ints) in
          let over : nat_abs x.num * (2 * all_degrees s) ≡ 0 = size ∙ ap (λ k. k * nat_abs x.den) none ∙ zero_times (nat_abs x.den) in
          size_zero x.num (no_factor (nat_abs x.num) (2 * all_degrees s) (omega arith) over),
      λ zero_num.
          let over : nat_abs x.num ≡ 0 = ap nat_abs zero_num in
          let under : nat_abs n * nat_abs x.den ≡ 0 = sym size ∙ ap (λ k. k * (2 * all_degrees s)) over ∙ zero_times (2 * all_degrees s) in
          let some_den : 1 ≤ nat_abs x.den = omega (arith, ints) in
          let none : nat_abs n ≡ 0 = no_factor (nat_abs n) (nat_abs x.den) some_den under in
          omega (arith, ints),
    )
  where
    zero_times : (k : ℕ) → 0 * k ≡ 0
    zero_times k = omega arith
