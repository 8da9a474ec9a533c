-- What is placed of a net, and what is too wide, is told by its vertices and edges.
use Rattle.std.proofs.Common.{◌≡◌, ℕ, zero, suc, ◌+◌, ℤ, pos, ◌-ℤ◌, cond, nat_eq, List, refl, ap, ◌∙◌, subst, inl, inr, ⊎_elim, arith}
use Rattle.dd_cells.specs.declared.fractions.Fraction.{Fraction}
use Rattle.dd_lattice.specs.declared.net.Net.{Net}
use Rattle.dd_lattice.specs.declared.net_edge.NetEdge.{NetEdge}
use Rattle.dd_draw.specs.Elimination.{whole, quotient, product, difference, sum_unlooped, seen_from, ends_at, joins, first_entry, entry, taken}
use Rattle.dd_draw.specs.Limit.{IsWide}
use Rattle.dd_draw.specs.Placement.{Point, pull, ArePlaced, IsPlacement, point_of}
use Rattle.dd_draw.specs.Width.{Place, IsPlaceOf, IsWideAt}

abbrev entry_of : ℕ → List NetEdge → ℕ → ℕ → ℤ
entry_of n es i j =
    cond (nat_eq j n) (sum_unlooped (seen_from (λ e. e.x) (i + 1)) es)
    (cond (nat_eq j (n + 1)) (sum_unlooped (seen_from (λ e. e.y) (i + 1)) es)
    (cond (nat_eq i j) (sum_unlooped (ends_at (i + 1)) es)
    (pos 0 -ℤ sum_unlooped (joins (i + 1) (j + 1)) es)))

module _ (a b : Net) (many : a.vertices ≡ b.vertices) (same : a.edges.items ≡ b.edges.items) where
  first_same : (i j : ℕ) → first_entry a i j ≡ first_entry b i j
  first_same i j = ap (λ n. entry_of n a.edges.items i j) many ∙ ap (λ es. entry_of b.vertices es i j) same

  entry_same : (k i j : ℕ) → entry a k i j ≡ entry b k i j
  unfolding entry
  entry_same zero i j = ap whole (first_same i j)
  entry_same (suc k) i j =
      let over = entry_same k (suc k) j in
      let pivot = entry_same k (suc k) (suc k) in
      let own = entry_same k i j in
      let factor = entry_same k i (suc k) in
      λ p. cond (nat_eq i (suc k)) (quotient (over p) (pivot p)) (difference (own p) (product (factor p) (quotient (over p) (pivot p))))

  taken_same : (k i j : ℕ) → taken a k i j ≡ taken b k i j
  taken_same zero i j = refl
  taken_same (suc k) i j =
      let factor = entry_same k i (suc k) in
      let top = entry_same (suc k) (suc k) j in
      λ p. product (factor p) (top p)

  pub wide_same : (p : Place) → IsWideAt a p → IsWideAt b p
  wide_same p wide =
      ⊎_elim (λ w. inl (subst IsWide (entry_same p.step p.row p.column) w))
      (λ w. inr (w.0, w.1, subst IsWide (taken_same p.step p.row p.column) w.2)) wide

  pub place_same : (p : Place) → IsPlaceOf a p → IsPlaceOf b p
  place_same p is = record {
    step = let l = is.step in omega (arith, l, many);
    some_row = is.some_row;
    row = let l = is.row in omega (arith, l, many);
    some_column = is.some_column;
    column = let l = is.column in omega (arith, l, many);
  }

  placed_same : (shift : NetEdge → ℤ) (at : ℕ → Fraction) → ArePlaced a shift at → ArePlaced b shift at
  placed_same shift at is = record {
    reduced = λ v low high. is.reduced v low (omega (arith, high, many));
    denominator = is.denominator;
    nonzero = is.nonzero;
    numerators = is.numerators;
    over = λ v low high. is.over v low (omega (arith, high, many));
    balanced = λ v low high. subst (λ es. pull shift is.denominator is.numerators es v ≡ pos 0) same (is.balanced v low (omega (arith, high, many)));
    start = is.start;
  }

  pub placement_same : (points : List Point) → IsPlacement a points → IsPlacement b points
  placement_same points is = record {
    count = is.count ∙ many;
    x = placed_same (λ e. e.x) (λ v. (point_of points v).x) is.x;
    y = placed_same (λ e. e.y) (λ v. (point_of points v).y) is.y;
  }
