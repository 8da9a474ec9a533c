-- Rows that were made are rows of the next table, and where one was not made the first wide place stands.
use Rattle.std.proofs.Common.{◌≢◌, ◌⊎◌, ℕ, suc, ◌+◌, ◌<◌, pos, ◌*ℤ◌, List, length, inl, inr, refl, sym, ap, ◌∙◌, subst, arith}
use Rattle.dd_cells.specs.declared.fractions.Fraction.{Fraction}
use Rattle.dd_lattice.specs.Nets.{IsConnectedNet}
use Rattle.dd_lattice.specs.declared.net.Net.{Net}
use Rattle.dd_lattice.proofs.Rings.{at, nat, equal, ◌⊠◌}
use Rattle.dd_draw.proofs.Integers.{zero_factor}
use Rattle.dd_draw.proofs.Ratios.{IsSame, IsSame-sym, quotient_same, product_same, difference_same, narrow_along, wide_along, same_from_narrow, narrow_not_wide, den_nonzero}
use Rattle.dd_draw.proofs.RatioTables.{entry-own, entry-other, under_nonzero, pivot_entry}
use Rattle.dd_draw.specs.Elimination.{Ratio, entry, taken}
use Rattle.dd_draw.specs.Limit.{IsWide, IsNarrow, ratio_of}
use Rattle.dd_draw.specs.Rows.{AreMade, number_at, quotients, products, remainders}
use Rattle.dd_draw.specs.Tables.{IsRowOf, place_at}
use Rattle.dd_draw.specs.Width.{IsWideAt}

-- a number of a row as a ratio
number_same : (net : Net) (k i j : ℕ) (row : List Fraction) → IsConnectedNet net → k < net.vertices → IsRowOf net k i row → j < net.vertices + 1
    → IsSame (ratio_of (number_at row j)) (entry net k i (suc j))
number_same net k i j row connected low is inside = same_from_narrow (number_at row j) (entry net k i (suc j)) (under_nonzero net k i (suc j) connected low) (is.each j inside)

narrow_nonzero : (x : Fraction) (r : Ratio) → IsNarrow x r → r.over ≢ pos 0 → x.num ≢ pos 0
narrow_nonzero x r is some none =
    some (zero_factor r.over x.den (sym is.value ∙ ap (λ z. z *ℤ r.under) none ∙ equal (nat 0 ⊠ at r.under) (nat 0) (omega arith)) (den_nonzero x is.within))

pub pivot_number : (net : Net) (k : ℕ) (row : List Fraction) → IsConnectedNet net → suc k < net.vertices → IsRowOf net k (suc k) row
    → (number_at row k).num ≢ pos 0
pivot_number net k row connected low is =
    narrow_nonzero (number_at row k) (entry net k (suc k) (suc k)) (is.each k (omega arith)) (pivot_entry net k connected low)

-- ## The row of the step

own_same : (net : Net) (k j : ℕ) (row : List Fraction) → IsConnectedNet net → suc k < net.vertices → IsRowOf net k (suc k) row → j < net.vertices + 1
    → IsSame (quotients row (number_at row k) j) (entry net (suc k) (suc k) (suc j))
own_same net k j row connected low is inside =
    subst (IsSame (quotients row (number_at row k) j)) (sym (entry-own net k (suc j)))
    (quotient_same (ratio_of (number_at row j)) (entry net k (suc k) (suc j)) (ratio_of (number_at row k)) (entry net k (suc k) (suc k))
    (number_same net k (suc k) j row connected (omega arith) is inside) (number_same net k (suc k) k row connected (omega arith) is (omega arith))
    (pivot_number net k row connected low is) (pivot_entry net k connected low))

pub own_row : (net : Net) (k : ℕ) (row new : List Fraction) → IsConnectedNet net → suc k < net.vertices → IsRowOf net k (suc k) row
    → AreMade (quotients row (number_at row k)) (λ j. IsWide (quotients row (number_at row k) j)) (length row) new → IsRowOf net (suc k) (suc k) new
own_row net k row new connected low is made = record {
  many = made.many ∙ is.many;
  each = λ j l. let m = is.many in
      narrow_along (number_at new j) (quotients row (number_at row k) j) (entry net (suc k) (suc k) (suc j)) (own_same net k j row connected low is l) (made.each j (omega arith));
}

-- in a row that stands nothing is too wide, but for what was taken away
pub row_not_wide : (net : Net) (k i j : ℕ) (row : List Fraction) → IsConnectedNet net → k < net.vertices → IsRowOf net k i row → j < net.vertices + 1
    → ¬ IsWide (entry net k i (suc j))
row_not_wide net k i j row connected low is inside =
    narrow_not_wide (number_at row j) (entry net k i (suc j)) (under_nonzero net k i (suc j) connected low) (is.each j inside)

pub own_not_wide : (net : Net) (k j : ℕ) (row : List Fraction) → IsConnectedNet net → suc k < net.vertices → IsRowOf net (suc k) (suc k) row → j < net.vertices + 1
    → ¬ IsWideAt net (place_at (suc k) (suc k) (suc j))
own_not_wide net k j row connected low is inside (inl w) = row_not_wide net (suc k) (suc k) j row connected low is inside w
own_not_wide net k j row connected low is inside (inr w) = w.1 refl

-- ## The other rows

products_same : (net : Net) (k i j : ℕ) (row top : List Fraction) → IsConnectedNet net → suc k < net.vertices → IsRowOf net k i row → IsRowOf net (suc k) (suc k) top
    → j < net.vertices + 1 → IsSame (products (number_at row k) top j) (taken net (suc k) i (suc j))
products_same net k i j row top connected low is above inside =
    product_same (ratio_of (number_at row k)) (entry net k i (suc k)) (ratio_of (number_at top j)) (entry net (suc k) (suc k) (suc j))
    (number_same net k i k row connected (omega arith) is (omega arith)) (number_same net (suc k) (suc k) j top connected low above inside)

remainders_same : (net : Net) (k i j : ℕ) (row top : List Fraction) → IsConnectedNet net → suc k < net.vertices → i ≢ suc k → IsRowOf net k i row
    → IsRowOf net (suc k) (suc k) top → j < net.vertices + 1 → IsSame (remainders row (number_at row k) top j) (entry net (suc k) i (suc j))
remainders_same net k i j row top connected low other is above inside =
    subst (IsSame (remainders row (number_at row k) top j)) (sym (entry-other net k i (suc j) other))
    (difference_same (ratio_of (number_at row j)) (entry net k i (suc j)) (products (number_at row k) top j) (taken net (suc k) i (suc j))
    (number_same net k i j row connected (omega arith) is inside) (products_same net k i j row top connected low is above inside))

-- what is too wide where a number of another row is made
abbrev pub AreWideRemainders : List Fraction → Fraction → List Fraction → ℕ → Type 0
AreWideRemainders row factor top j = IsWide (remainders row factor top j) ⊎ IsWide (products factor top j)

pub other_row : (net : Net) (k i : ℕ) (row top new : List Fraction) → IsConnectedNet net → suc k < net.vertices → i ≢ suc k → IsRowOf net k i row
    → IsRowOf net (suc k) (suc k) top → AreMade (remainders row (number_at row k) top) (AreWideRemainders row (number_at row k) top) (length row) new
    → IsRowOf net (suc k) i new
other_row net k i row top new connected low other is above made = record {
  many = made.many ∙ is.many;
  each = λ j l. let m = is.many in
      narrow_along (number_at new j) (remainders row (number_at row k) top j) (entry net (suc k) i (suc j))
      (remainders_same net k i j row top connected low other is above l) (made.each j (omega arith));
}

pub other_wide : (net : Net) (k i j : ℕ) (row top : List Fraction) → IsConnectedNet net → suc k < net.vertices → i ≢ suc k → IsRowOf net k i row
    → IsRowOf net (suc k) (suc k) top → j < net.vertices + 1 → AreWideRemainders row (number_at row k) top j → IsWideAt net (place_at (suc k) i (suc j))
other_wide net k i j row top connected low other is above inside (inl w) =
    inl (wide_along (remainders row (number_at row k) top j) (entry net (suc k) i (suc j)) (remainders_same net k i j row top connected low other is above inside) w)
other_wide net k i j row top connected low other is above inside (inr w) =
    inr (omega arith, other, wide_along (products (number_at row k) top j) (taken net (suc k) i (suc j)) (products_same net k i j row top connected low is above inside) w)

pub other_not_wide : (net : Net) (k i j : ℕ) (row top : List Fraction) → IsConnectedNet net → suc k < net.vertices → i ≢ suc k → IsRowOf net k i row
    → IsRowOf net (suc k) (suc k) top → j < net.vertices + 1 → ¬ AreWideRemainders row (number_at row k) top j → ¬ IsWideAt net (place_at (suc k) i (suc j))
other_not_wide net k i j row top connected low other is above inside slim (inl w) =
    slim (inl (wide_along (entry net (suc k) i (suc j)) (remainders row (number_at row k) top j)
    (IsSame-sym (remainders row (number_at row k) top j) (entry net (suc k) i (suc j)) (remainders_same net k i j row top connected low other is above inside)) w))
other_not_wide net k i j row top connected low other is above inside slim (inr w) =
    slim (inr (wide_along (taken net (suc k) i (suc j)) (products (number_at row k) top j)
    (IsSame-sym (products (number_at row k) top j) (taken net (suc k) i (suc j)) (products_same net k i j row top connected low is above inside)) w.2))

pub own_wide : (net : Net) (k j : ℕ) (row : List Fraction) → IsConnectedNet net → suc k < net.vertices → IsRowOf net k (suc k) row → j < net.vertices + 1
    → IsWide (quotients row (number_at row k) j) → IsWideAt net (place_at (suc k) (suc k) (suc j))
own_wide net k j row connected low is inside w =
    inl (wide_along (quotients row (number_at row k) j) (entry net (suc k) (suc k) (suc j)) (own_same net k j row connected low is inside) w)

pub own_quotient_not_wide : (net : Net) (k j : ℕ) (row : List Fraction) → IsConnectedNet net → suc k < net.vertices → IsRowOf net k (suc k) row → j < net.vertices + 1
    → ¬ IsWide (quotients row (number_at row k) j) → ¬ IsWideAt net (place_at (suc k) (suc k) (suc j))
own_quotient_not_wide net k j row connected low is inside slim (inl w) =
    slim (wide_along (entry net (suc k) (suc k) (suc j)) (quotients row (number_at row k) j)
    (IsSame-sym (quotients row (number_at row k) j) (entry net (suc k) (suc k) (suc j)) (own_same net k j row connected low is inside)) w)
own_quotient_not_wide net k j row connected low is inside slim (inr w) = w.1 refl
