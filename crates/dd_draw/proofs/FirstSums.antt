-- The entries of the first table, summed edge by edge.
use Rattle.std.proofs.Common.{◌≡◌, ◌≢◌, ℕ, zero, suc, ◌+◌, ◌*◌, ◌<◌, ◌≤◌, ◌^◌, ℤ, pos, SFits, to_z, of_z, ◌+ℤ◌, ◌-ℤ◌, nat_abs, Bool, true, false, cond, nat_eq, List, [], ◌∷◌, ◌++◌, length, take, get_or, inl, refl, sym, ap, ◌∙◌, subst, add-one, arith}
use Rattle.std.specs.Int.{w128}
use Rattle.std.proofs.lemmas.Int.{ints, to_z-of_z, fits_signed_from_abs}
use Rattle.std.proofs.lemmas.Bool.{cond-true, cond-false, eq-eqb, ne_eqb}
use Rattle.std.proofs.lemmas.List.{take_more, take_all}
use Rattle.dd_cells.specs.Fraction.{IsReduced}
use Rattle.dd_lattice.specs.declared.net.Net.{Net}
use Rattle.dd_lattice.specs.declared.net_edge.NetEdge.{NetEdge}
use Rattle.dd_lattice.proofs.Rings.{at, nat, equal, ◌⊞◌}
use Rattle.dd_draw.proofs.LowestTerms.{size_read}
use Rattle.dd_draw.proofs.Ratios.{narrow_not_wide}
use Rattle.dd_draw.specs.Elimination.{sum_unlooped, first_entry, whole, ends_at, joins, seen_from}
use Rattle.dd_draw.specs.FirstTable.{unlooped_share, share_of}
use Rattle.dd_draw.specs.Limit.{IsWide, IsNarrow}

negated_sum : (f : NetEdge → ℤ) (es : List NetEdge) → sum_unlooped (λ e. pos 0 -ℤ f e) es ≡ pos 0 -ℤ sum_unlooped f es
negated_sum f [] = refl
negated_sum f (e ∷ es) = step (nat_eq e.from e.to) (f e) (sum_unlooped f es) (sum_unlooped (λ d. pos 0 -ℤ f d) es) (negated_sum f es)
  where
    step : (b : Bool) (x s t : ℤ) → t ≡ pos 0 -ℤ s → cond b (pos 0) (pos 0 -ℤ x) +ℤ t ≡ pos 0 -ℤ (cond b (pos 0) x +ℤ s)
    step true x s t e = omega (arith, ints)
    step false x s t e = omega (arith, ints)

chosen_sum : (a b c : Bool) (f g h k : NetEdge → ℤ) (es : List NetEdge)
    → sum_unlooped (λ e. cond a (f e) (cond b (g e) (cond c (h e) (pos 0 -ℤ k e)))) es
    ≡ cond a (sum_unlooped f es) (cond b (sum_unlooped g es) (cond c (sum_unlooped h es) (pos 0 -ℤ sum_unlooped k es)))
chosen_sum true b c f g h k es = refl
chosen_sum false true c f g h k es = refl
chosen_sum false false true f g h k es = refl
chosen_sum false false false f g h k es = negated_sum k es

pub entry_is : (net : Net) (i j : ℕ) → sum_unlooped (unlooped_share net.vertices i j) net.edges.items ≡ first_entry net i j
entry_is net i j = chosen_sum (nat_eq j net.vertices) (nat_eq j (net.vertices + 1)) (nat_eq i j) (seen_from (λ e. e.x) (i + 1)) (seen_from (λ e. e.y) (i + 1))
    (ends_at (i + 1)) (joins (i + 1) (j + 1)) net.edges.items

sum_last : (f : NetEdge → ℤ) (es : List NetEdge) (e : NetEdge) → sum_unlooped f (es ++ e ∷ []) ≡ sum_unlooped f es +ℤ cond (nat_eq e.from e.to) (pos 0) (f e)
sum_last f [] e = equal (at (cond (nat_eq e.from e.to) (pos 0) (f e)) ⊞ nat 0) (nat 0 ⊞ at (cond (nat_eq e.from e.to) (pos 0) (f e))) (omega arith)
sum_last f (d ∷ es) e =
    let a = at (cond (nat_eq d.from d.to) (pos 0) (f d)) in
    let b = at (cond (nat_eq e.from e.to) (pos 0) (f e)) in
    ap (λ z. cond (nat_eq d.from d.to) (pos 0) (f d) +ℤ z) (sum_last f es e)
    ∙ equal (a ⊞ (at (sum_unlooped f es) ⊞ b)) ((a ⊞ at (sum_unlooped f es)) ⊞ b) (omega arith)

sum_read_fits : (s x : ℤ) (k : ℕ) → nat_abs s ≤ 2 ^ 63 * k → nat_abs x ≤ 2 ^ 63 → k < 2 ^ 63 → SFits w128 (s +ℤ x)
sum_read_fits s x k p q low = fits_signed_from_abs w128 (s +ℤ x) (omega (arith, ints))

pub share_read : (x : ℤ) → nat_abs x ≤ 2 ^ 63 → to_z w128 (of_z w128 x) ≡ x
share_read x q = to_z-of_z w128 x (fits_signed_from_abs w128 x (omega arith))

turned_is_small : (x : ℤ) → nat_abs x ≤ 2 ^ 63 → nat_abs (pos 0 -ℤ x) ≤ 2 ^ 63
turned_is_small x q = omega (arith, ints)

-- a number with its sign turned
pub turned_fits : (x : ℤ) → nat_abs x ≤ 2 ^ 63 → SFits w128 (pos 0 -ℤ to_z w128 (of_z w128 x))
turned_fits x q =
    subst (λ z. SFits w128 (pos 0 -ℤ z)) (sym (share_read x q)) (let k = turned_is_small x q in fits_signed_from_abs w128 (pos 0 -ℤ x) (omega arith))

pub turned_read : (x : ℤ) → nat_abs x ≤ 2 ^ 63 → to_z w128 (of_z w128 (pos 0 -ℤ to_z w128 (of_z w128 x))) ≡ pos 0 -ℤ x
turned_read x q = ap (λ z. to_z w128 (of_z w128 (pos 0 -ℤ z))) (share_read x q) ∙ share_read (pos 0 -ℤ x) (turned_is_small x q)

pub turned_small : (x : ℤ) → nat_abs x ≤ 2 ^ 63 → nat_abs (to_z w128 (of_z w128 (pos 0 -ℤ to_z w128 (of_z w128 x)))) ≤ 2 ^ 63
turned_small x q = subst (λ z. nat_abs z ≤ 2 ^ 63) (sym (turned_read x q)) (turned_is_small x q)

pub sum_fits : (s x : ℤ) (k : ℕ) → nat_abs s ≤ 2 ^ 63 * k → nat_abs x ≤ 2 ^ 63 → k < 2 ^ 63 → SFits w128 (s +ℤ to_z w128 (of_z w128 x))
sum_fits s x k p q low = subst (λ z. SFits w128 (s +ℤ z)) (sym (share_read x q)) (sum_read_fits s x k p q low)

sum_read : (s x : ℤ) (k : ℕ) → nat_abs s ≤ 2 ^ 63 * k → nat_abs x ≤ 2 ^ 63 → k < 2 ^ 63 → to_z w128 (of_z w128 (s +ℤ to_z w128 (of_z w128 x))) ≡ s +ℤ x
sum_read s x k p q low = ap (λ z. to_z w128 (of_z w128 (s +ℤ z))) (share_read x q) ∙ to_z-of_z w128 (s +ℤ x) (sum_read_fits s x k p q low)

pub sum_more : (f : NetEdge → ℤ) (es : List NetEdge) (s x : ℤ) (k : ℕ) (d : NetEdge) → nat_abs s ≤ 2 ^ 63 * k → nat_abs x ≤ 2 ^ 63 → k < 2 ^ 63
    → k < length es → s ≡ sum_unlooped f (take k es) → x ≡ cond (nat_eq (get_or es k d).from (get_or es k d).to) (pos 0) (f (get_or es k d))
    → to_z w128 (of_z w128 (s +ℤ to_z w128 (of_z w128 x))) ≡ sum_unlooped f (take (k + 1) es)
sum_more f es s x k d p q low inside before here =
    sum_read s x k p q low ∙ (λ i. before i +ℤ here i) ∙ sym (sum_last f (take k es) (get_or es k d)) ∙ ap (sum_unlooped f) (sym (take_more es k d inside))

pub sum_small : (s x : ℤ) (k : ℕ) → nat_abs s ≤ 2 ^ 63 * k → nat_abs x ≤ 2 ^ 63 → k < 2 ^ 63
    → nat_abs (to_z w128 (of_z w128 (s +ℤ to_z w128 (of_z w128 x)))) ≤ 2 ^ 63 * (k + 1)
sum_small s x k p q low = subst (λ z. nat_abs z ≤ 2 ^ 63 * (k + 1)) (sym (sum_read s x k p q low)) (omega (arith, ints))

pub sum_all : (net : Net) (i j k : ℕ) (s : ℤ) (es : List NetEdge) → es ≡ net.edges.items → length es ≤ k
    → s ≡ sum_unlooped (unlooped_share net.vertices i j) (take k es) → s ≡ first_entry net i j
sum_all net i j k s es same all e =
    e ∙ ap (sum_unlooped (unlooped_share net.vertices i j)) (take_all k es all ∙ same) ∙ entry_is net i j

-- ## Whole numbers as fractions

one_divisor : (d k : ℕ) → k * d ≡ 1 → d ≡ 1
one_divisor zero k e = absurd (omega arith)
one_divisor (suc zero) k e = refl
one_divisor (suc (suc d)) zero e = absurd (omega arith)
one_divisor (suc (suc d)) (suc k) e = absurd (omega arith)

pub whole_reduced : (z : ℤ) → IsReduced (record { num = z; den = pos 1 })
whole_reduced z = record { positive = omega (arith, ints); coprime = λ d a b. one_divisor d b.quotient b.product }

pub whole_narrow : (z : ℤ) → nat_abs z ≤ 2 ^ 62 → IsNarrow (record { num = z; den = pos 1 }) (whole z)
whole_narrow z low = record { within = record { reduced = whole_reduced z; num = low; den = omega arith }; value = refl }

pub whole_wide : (z : ℤ) → 2 ^ 62 < nat_abs z → IsWide (whole z)
whole_wide z high = record {
  lowest = record { num = z; den = pos 1 };
  is_lowest = record { reduced = whole_reduced z; value = refl };
  over_limit = inl high;
}

pub whole_not_wide : (z : ℤ) → nat_abs z ≤ 2 ^ 62 → ¬ IsWide (whole z)
whole_not_wide z low = narrow_not_wide (record { num = z; den = pos 1 }) (whole z) (λ e. absurd (omega (arith, ints, e))) (whole_narrow z low)

-- an entry that was found, at its place in the row
pub entry_wide : (net : Net) (i j a : ℕ) (z : ℤ) → SFits w128 z → z ≡ first_entry net i (j + 1) → a ≡ nat_abs (to_z w128 (of_z w128 z)) → 2 ^ 62 < a
    → IsWide (whole (first_entry net i (suc j)))
entry_wide net i j a z fits e size high =
    subst (λ y. IsWide (whole y)) (e ∙ ap (first_entry net i) (add-one j)) (whole_wide z (subst (λ n. 2 ^ 62 < n) (size_read z a fits size) high))

pub entry_narrow : (net : Net) (i j a : ℕ) (z : ℤ) → SFits w128 z → z ≡ first_entry net i (j + 1) → a ≡ nat_abs (to_z w128 (of_z w128 z)) → a ≤ 2 ^ 62
    → IsNarrow (record { num = to_z w128 (of_z w128 z); den = pos 1 }) (whole (first_entry net i (suc j)))
entry_narrow net i j a z fits e size low =
    subst (λ y. IsNarrow (record { num = to_z w128 (of_z w128 z); den = pos 1 }) (whole y)) (e ∙ ap (first_entry net i) (add-one j))
    (subst (λ y. IsNarrow (record { num = y; den = pos 1 }) (whole z)) (sym (to_z-of_z w128 z fits))
    (whole_narrow z (subst (λ n. n ≤ 2 ^ 62) (size_read z a fits size) low)))

pub entry_not_wide : (net : Net) (i j a : ℕ) (z : ℤ) → SFits w128 z → z ≡ first_entry net i (j + 1) → a ≡ nat_abs (to_z w128 (of_z w128 z)) → a ≤ 2 ^ 62
    → ¬ IsWide (whole (first_entry net i (suc j)))
entry_not_wide net i j a z fits e size low =
    subst (λ y. ¬ IsWide (whole y)) (e ∙ ap (first_entry net i) (add-one j)) (whole_not_wide z (subst (λ n. n ≤ 2 ^ 62) (size_read z a fits size) low))

-- ## What one edge gives

module _ (n i j : ℕ) (e : NetEdge) where
  pub looped : e.from ≡ e.to → pos 0 ≡ share_of n i j e
  looped same = sym (cond-true _ _ _ (eq-eqb e.from e.to same))

  module _ (other : e.from ≢ e.to) where
    unlooped : unlooped_share n i j e ≡ share_of n i j e
    unlooped = sym (cond-false _ _ _ (ne_eqb e.from e.to other))

    pub along : j ≡ n → seen_from (λ d. d.x) (i + 1) e ≡ share_of n i j e
    along first = sym (cond-true _ _ _ (eq-eqb j n first)) ∙ unlooped

    module _ (not_first : j ≢ n) where
      later : cond (nat_eq j (n + 1)) (seen_from (λ d. d.y) (i + 1) e) (cond (nat_eq i j) (ends_at (i + 1) e) (pos 0 -ℤ joins (i + 1) (j + 1) e)) ≡ share_of n i j e
      later = sym (cond-false _ _ _ (ne_eqb j n not_first)) ∙ unlooped

      pub across : j ≡ n + 1 → seen_from (λ d. d.y) (i + 1) e ≡ share_of n i j e
      across second = sym (cond-true _ _ _ (eq-eqb j (n + 1) second)) ∙ later

      pub own : j ≢ n + 1 → i ≡ j → ends_at (i + 1) e ≡ share_of n i j e
      own not_second same = sym (cond-true _ _ _ (eq-eqb i j same)) ∙ sym (cond-false _ _ _ (ne_eqb j (n + 1) not_second)) ∙ later

      pub joined : j ≢ n + 1 → i ≢ j → pos 0 -ℤ joins (i + 1) (j + 1) e ≡ share_of n i j e
      joined not_second differ = sym (cond-false _ _ _ (ne_eqb i j differ)) ∙ sym (cond-false _ _ _ (ne_eqb j (n + 1) not_second)) ∙ later
