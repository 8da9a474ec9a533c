-- What follows from the lists of the branching values: which values there are, and that all divide the greatest.
use Rattle.std.proofs.Common.{◌≡◌, ℕ, zero, suc, ◌*◌, ◌≤◌, ◌⊎◌, cond, eqb, List, [], ◌∷◌, ◌++◌, map, refl, sym, ap, subst, inl, inr, ⊎_elim, arith}
use Rattle.std.proofs.lemmas.Bool.{cases_eq, cases_lt, eq-eqb, ne_eqb, le-leb}
use Rattle.std.proofs.lemmas.List.Sums.{sum_by-cons}
use Rattle.std.proofs.lemmas.List.Elements.{Contains-append_left, Contains-append_right}
use Rattle.std.specs.List.{Contains, sum_by}
use Rattle.std.specs.Prelude.{nat_lt}
use Rattle.dd_model.specs.declared.pair.Pair.{Pair}
use Rattle.dd_model.specs.declared.pair.Pair.TheVariants.{Tile, Vertex, Edge}
use Rattle.dd_model.specs.Symbol.{Symbol, IsChamber, IsSymbol}
use Rattle.dd_model.specs.Connected.{Connected}
use Rattle.dd_model.specs.Cell.{IsBranching}
use Rattle.dd_model.specs.Flat.{Flat}
use Rattle.dd_model.proofs.Branching.{branching_unique, branching_same}
use Rattle.dd_model.proofs.CellSearch.{has_least}
use Rattle.dd_model.proofs.Lists.{Contains-none, each_of, Contains-head, Contains-later, Contains-cases, Contains-one, Contains-map}
use Rattle.dd_covers.proofs.Mapped.{Contains-from_map}
use Rattle.dd_cells.specs.Cells.{IsCellOf}
use Rattle.dd_cells.specs.Fraction.{Divides}
use Rattle.dd_cells.specs.Orientation.{IsOriented}
use Rattle.dd_cells.specs.declared.cell.Cell.{Cell}
use Rattle.dd_cells.proofs.CellSums.{Contains-filter, Contains-from_filter}
use Rattle.dd_cells.proofs.MemberLemmas.{value_positive}
use Rattle.dd_covers.specs.PlaneValues.{AreTheCells, value_of, all_values, values_above_one, AreArranged, IsPlaneList, HasPlaneValues, IsCrystal, IsGreatestValue}
use Rattle.dd_covers.proofs.ToldCells.{all_told}
use Rattle.dd_covers.proofs.PlaneLemmas.{plane_law, told_value}

-- ## Lists with the same members

abbrev hit : ℕ → ℕ → ℕ
hit v w = cond (eqb w v) 1 0

hits_from : (v : ℕ) (xs : List ℕ) → Contains xs v → 1 ≤ sum_by (hit v) xs
hits_from v [] here = absurd (Contains-none v here)
hits_from v (x ∷ xs) here =
    let split = sum_by-cons (hit v) x xs in
    ⊎_elim
    (λ at. let one : hit v x ≡ 1 = ap (λ t. cond t 1 0) (eq-eqb x v at) in omega arith)
    (λ later. let rest = hits_from v xs later in omega arith)
    (Contains-cases x v xs here)

member_from_hits : (v : ℕ) (xs : List ℕ) → 1 ≤ sum_by (hit v) xs → Contains xs v
member_from_hits v [] hits = absurd (omega arith)
member_from_hits v (x ∷ xs) hits =
    let split = sum_by-cons (hit v) x xs in
    ⊎_elim
    (λ at. subst (Contains (x ∷ xs)) at (Contains-head x xs))
    (λ other. let none : hit v x ≡ 0 = ap (λ t. cond t 1 0) (ne_eqb x v other) in Contains-later x v xs (member_from_hits v xs (omega arith)))
    (cases_eq x v)

arranged_member : (xs ys : List ℕ) → AreArranged xs ys → (v : ℕ) → Contains xs v → Contains ys v
arranged_member xs ys same v here =
    let hits = hits_from v xs here in
    let e = same (hit v) in
    member_from_hits v ys (omega arith)

-- ## Values of cells

-- the cell of a chamber, among those that are told
record HasTold (s : Symbol) (cells : List Cell) (v : ℕ) : Type 0 where
  pub cell : Cell
  pub listed : Contains cells cell
  pub value : cell.v ≡ v

told_cell : (s : Symbol) → IsSymbol s → (cells : Pair → List Cell) → AreTheCells s cells → (p : Pair) (d v : ℕ) → IsChamber s d → IsBranching s p d v → HasTold s (cells p) v
told_cell s is cells told p d v h branching =
    let l = has_least s is.table.involutions p d h in
    let listed = ((told p).least_chambers.members l.least).1 l.is_least in
    let from = Contains-from_map (λ (c : Cell). c.least) (cells p) l.least listed in
    let cell = each_of (IsCellOf s p) (cells p) from.0 (told p).each from.1 in
    let there = branching_same s is p d l.least v h l.in_cell branching in
    record {
      cell = from.0;
      listed = from.1;
      value = branching_unique s p l.least from.0.v v (subst (λ e. IsBranching s p e from.0.v) from.2 cell.branching) there;
    }

value_listed : (cells : Pair → List Cell) (p : Pair) (v : ℕ) → Contains (map value_of (cells p)) v → Contains (all_values cells) v
value_listed cells Tile v here = Contains-append_left (map value_of (cells Tile) ++ map value_of (cells Vertex)) (map value_of (cells Edge)) v (Contains-append_left (map value_of (cells Tile)) (map value_of (cells Vertex)) v here)
value_listed cells Vertex v here = Contains-append_left (map value_of (cells Tile) ++ map value_of (cells Vertex)) (map value_of (cells Edge)) v (Contains-append_right (map value_of (cells Tile)) (map value_of (cells Vertex)) v here)
value_listed cells Edge v here = Contains-append_right (map value_of (cells Tile) ++ map value_of (cells Vertex)) (map value_of (cells Edge)) v here

pub branching_listed : (s : Symbol) → IsSymbol s → (cells : Pair → List Cell) → AreTheCells s cells → (p : Pair) (d v : ℕ) → IsChamber s d → IsBranching s p d v → Contains (all_values cells) v
branching_listed s is cells told p d v h branching =
    let t = told_cell s is cells told p d v h branching in
    value_listed cells p v (subst (Contains (map value_of (cells p))) t.value (Contains-map value_of (cells p) t.cell t.listed))

-- a branching value is 1 or in the list
in_order : (s : Symbol) → IsSymbol s → (cells : Pair → List Cell) → AreTheCells s cells → (plane : HasPlaneValues (values_above_one cells)) → (p : Pair) (d v : ℕ) → IsChamber s d
    → IsBranching s p d v → (v ≡ 1) ⊎ Contains plane.order v
in_order s is cells told plane p d v h branching =
    let listed = branching_listed s is cells told p d v h branching in
    let some = value_positive s is p d v h branching in
    ⊎_elim
    (λ low. inl (omega arith))
    (λ above. inr (arranged_member (values_above_one cells) plane.order plane.arranged v (Contains-filter (nat_lt 1) (all_values cells) v listed (le-leb 2 v above))))
    (cases_lt v 2)

-- ## The numbers of the lists

-- the greatest of a list, which all of its members divide
record HasMultiple (vs : List ℕ) (m : ℕ) : Type 0 where
  pub listed : (vs ≡ []) ⊎ Contains vs m
  pub divides : (v : ℕ) → Contains vs v → Divides v m
  pub crystal : (v : ℕ) → Contains vs v → IsCrystal v

at_four : (P : ℕ → Type 0) (a b c d : ℕ) → P a → P b → P c → P d → (v : ℕ) → Contains (a ∷ b ∷ c ∷ d ∷ []) v → P v
at_four P a b c d pa pb pc pd v here =
    ⊎_elim (λ e. subst P e pa)
    (λ l. ⊎_elim (λ e. subst P e pb)
    (λ m. ⊎_elim (λ e. subst P e pc) (λ n. subst P (Contains-one d v n) pd) (Contains-cases c v (d ∷ []) m))
    (Contains-cases b v (c ∷ d ∷ []) l))
    (Contains-cases a v (b ∷ c ∷ d ∷ []) here)

divided : (q d m : ℕ) → q * d ≡ m → Divides d m
divided q d m e = record { quotient = q; product = e }

is_2 : IsCrystal 2
is_2 = (1, omega arith, refl)

is_3 : IsCrystal 3
is_3 = (2, omega arith, refl)

is_4 : IsCrystal 4
is_4 = (3, omega arith, refl)

is_6 : IsCrystal 6
is_6 = (4, omega arith, refl)

multiple_of_plane : (vs : List ℕ) → IsPlaneList vs → (m : ℕ) × HasMultiple vs m
multiple_of_plane vs (inl e) = (
  1,
  record {
    listed = inl e;
    divides = λ v here. absurd (Contains-none v (subst (λ xs. Contains xs v) e here));
    crystal = λ v here. absurd (Contains-none v (subst (λ xs. Contains xs v) e here));
  },
)
multiple_of_plane vs (inr (inl e)) = (
  2,
  record {
    listed = inr (subst (λ xs. Contains xs 2) (sym e) (Contains-head 2 (2 ∷ [])));
    divides = λ v here. at_four (λ w. Divides w 2) 2 2 2 2 (divided 1 2 2 refl) (divided 1 2 2 refl) (divided 1 2 2 refl) (divided 1 2 2 refl) v (Contains-later 2 v (2 ∷ 2 ∷ 2 ∷ []) (Contains-later 2 v (2 ∷ 2 ∷ []) (subst (λ xs. Contains xs v) e here)));
    crystal = λ v here. at_four IsCrystal 2 2 2 2 is_2 is_2 is_2 is_2 v (Contains-later 2 v (2 ∷ 2 ∷ 2 ∷ []) (Contains-later 2 v (2 ∷ 2 ∷ []) (subst (λ xs. Contains xs v) e here)));
  },
)
multiple_of_plane vs (inr (inr (inl e))) = (
  6,
  record {
    listed = inr (subst (λ xs. Contains xs 6) (sym e) (2, omega arith, refl));
    divides = λ v here. at_four (λ w. Divides w 6) 2 2 3 6 (divided 3 2 6 refl) (divided 3 2 6 refl) (divided 2 3 6 refl) (divided 1 6 6 refl) v (Contains-later 2 v (2 ∷ 3 ∷ 6 ∷ []) (subst (λ xs. Contains xs v) e here));
    crystal = λ v here. at_four IsCrystal 2 2 3 6 is_2 is_2 is_3 is_6 v (Contains-later 2 v (2 ∷ 3 ∷ 6 ∷ []) (subst (λ xs. Contains xs v) e here));
  },
)
multiple_of_plane vs (inr (inr (inr (inl e)))) = (
  4,
  record {
    listed = inr (subst (λ xs. Contains xs 4) (sym e) (2, omega arith, refl));
    divides = λ v here. at_four (λ w. Divides w 4) 2 2 4 4 (divided 2 2 4 refl) (divided 2 2 4 refl) (divided 1 4 4 refl) (divided 1 4 4 refl) v (Contains-later 2 v (2 ∷ 4 ∷ 4 ∷ []) (subst (λ xs. Contains xs v) e here));
    crystal = λ v here. at_four IsCrystal 2 2 4 4 is_2 is_2 is_4 is_4 v (Contains-later 2 v (2 ∷ 4 ∷ 4 ∷ []) (subst (λ xs. Contains xs v) e here));
  },
)
multiple_of_plane vs (inr (inr (inr (inr (inl e))))) = (
  3,
  record {
    listed = inr (subst (λ xs. Contains xs 3) (sym e) (Contains-head 3 (3 ∷ 3 ∷ [])));
    divides = λ v here. at_four (λ w. Divides w 3) 3 3 3 3 (divided 1 3 3 refl) (divided 1 3 3 refl) (divided 1 3 3 refl) (divided 1 3 3 refl) v (Contains-later 3 v (3 ∷ 3 ∷ 3 ∷ []) (subst (λ xs. Contains xs v) e here));
    crystal = λ v here. at_four IsCrystal 3 3 3 3 is_3 is_3 is_3 is_3 v (Contains-later 3 v (3 ∷ 3 ∷ 3 ∷ []) (subst (λ xs. Contains xs v) e here));
  },
)
multiple_of_plane vs (inr (inr (inr (inr (inr e))))) = (
  2,
  record {
    listed = inr (subst (λ xs. Contains xs 2) (sym e) (Contains-head 2 (2 ∷ 2 ∷ 2 ∷ [])));
    divides = λ v here. at_four (λ w. Divides w 2) 2 2 2 2 (divided 1 2 2 refl) (divided 1 2 2 refl) (divided 1 2 2 refl) (divided 1 2 2 refl) v (subst (λ xs. Contains xs v) e here);
    crystal = λ v here. at_four IsCrystal 2 2 2 2 is_2 is_2 is_2 is_2 v (subst (λ xs. Contains xs v) e here);
  },
)

-- ## Which values there are

crystal_law : (s : Symbol) → IsSymbol s → Connected s → IsOriented s → Flat s → (cells : Pair → List Cell) → AreTheCells s cells
    → (p : Pair) (d v : ℕ) → IsChamber s d → IsBranching s p d v → IsCrystal v
crystal_law s is connected oriented flat cells told p d v h branching =
    let plane = plane_law s is connected oriented flat cells told in
    let m = multiple_of_plane plane.order plane.plane in
    ⊎_elim
    (λ one. subst IsCrystal (sym one) (0, omega arith, refl))
    (λ here. m.1.crystal v here)
    (in_order s is cells told plane p d v h branching)

factor_le : (q d n : ℕ) → q * d ≡ n → 1 ≤ n → d ≤ n
factor_le zero d n e some = absurd (omega arith)
factor_le (suc q) d n e some = omega arith

pub divisor_le : (d n : ℕ) → Divides d n → 1 ≤ n → d ≤ n
divisor_le d n by some = factor_le by.quotient d n by.product some

one_divides : (n : ℕ) → Divides 1 n
one_divides n = divided n 1 n (omega arith)

-- the greatest value is that of the list
greatest_is : (s : Symbol) → IsSymbol s → (cells : Pair → List Cell) → AreTheCells s cells → (plane : HasPlaneValues (values_above_one cells)) → (m k : ℕ)
    → HasMultiple plane.order m → Contains plane.order m → IsGreatestValue s k → k ≡ m
greatest_is s is cells told plane m k has listed great =
    let back : Contains (values_above_one cells) m = arranged_member plane.order (values_above_one cells) (λ f. sym (plane.arranged f)) m listed in
    let from = Contains-from_filter (nat_lt 1) (all_values cells) m back in
    let at = told_value s cells m from.0 in
    let cell = each_of (IsCellOf s at.pair) (cells at.pair) at.cell (told at.pair).each at.listed in
    let some = value_positive s is at.pair at.cell.least at.cell.v cell.least.0 cell.branching in
    let value = at.value in
    let low = great.greatest at.pair at.cell.least at.cell.v cell.least.0 cell.branching in
    ⊎_elim
    (λ one. omega arith)
    (λ here. let high = divisor_le k m (has.divides k here) (omega arith) in omega arith)
    (in_order s is cells told plane great.pair great.chamber k great.is_chamber great.branching)

-- Every branching value divides the greatest.
multiple_law : (s : Symbol) → IsSymbol s → Connected s → IsOriented s → Flat s → (cells : Pair → List Cell) → AreTheCells s cells
    → (k : ℕ) → IsGreatestValue s k → (p : Pair) (d v : ℕ) → IsChamber s d → IsBranching s p d v → Divides v k
multiple_law s is connected oriented flat cells told k great p d v h branching =
    let plane = plane_law s is connected oriented flat cells told in
    let m = multiple_of_plane plane.order plane.plane in
    ⊎_elim
    (λ one. subst (λ w. Divides w k) (sym one) (one_divides k))
    (λ here. ⊎_elim
    (λ none. absurd (Contains-none v (subst (λ xs. Contains xs v) none here)))
    (λ listed. subst (Divides v) (sym (greatest_is s is cells told plane m.0 k m.1 listed great)) (m.1.divides v here))
    m.1.listed)
    (in_order s is cells told plane p d v h branching)

-- ## With no word on how cells are told

pub plane_crystal : (s : Symbol) → IsSymbol s → Connected s → IsOriented s → Flat s → (p : Pair) (d v : ℕ) → IsChamber s d → IsBranching s p d v → IsCrystal v
plane_crystal s is connected oriented flat =
    crystal_law s is connected oriented flat (λ p. (all_told s is oriented p).cells) (λ p. (all_told s is oriented p).are)

pub plane_multiples : (s : Symbol) → IsSymbol s → Connected s → IsOriented s → Flat s → (k : ℕ) → IsGreatestValue s k → (p : Pair) (d v : ℕ) → IsChamber s d → IsBranching s p d v → Divides v k
plane_multiples s is connected oriented flat =
    multiple_law s is connected oriented flat (λ p. (all_told s is oriented p).cells) (λ p. (all_told s is oriented p).are)
