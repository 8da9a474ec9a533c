-- What is told at the least chamber of a cell is told at the others.
use Rattle.std.proofs.Common.{◌≡◌, ℕ, ◌+◌, ◌-◌, ◌*◌, ◌/◌, ◌<◌, ◌≤◌, List, [], ◌∷◌, slice_index_or, sym, ap, ◌∙◌, subst, inr, arith}
use Rattle.dd_model.specs.declared.allowed.Allowed.{Allowed}
use Rattle.dd_model.specs.declared.pair.Pair.{Pair}
use Rattle.dd_model.specs.Symbol.{Symbol, AreInvolutions, IsChamber}
use Rattle.dd_model.proofs.CellWalks.{in_cell-sym}
use Rattle.dd_model.proofs.Words.{act_within}
use Rattle.dd_cells.proofs.ShapesInCell.{shape_beside}
use Rattle.dd_branch_degrees.specs.Place.{AreBounds, IsPlaceOf, IsSmallerInCell}
use Rattle.dd_branch_degrees.specs.declared.places.DegreeSlot.{DegreeSlot}

-- a smaller chamber of a cell is a chamber
pub smaller_chamber : (t : Symbol) → AreInvolutions t → (p : Pair) (d e : ℕ) → IsChamber t d → IsSmallerInCell t p d e → IsChamber t e
smaller_chamber t inv p d e h is = subst (IsChamber t) is.in_cell.leads (act_within t inv is.in_cell.word d h)

bounds_beside : (set : Allowed) (y : DegreeSlot) → y.sides ≡ 0 → y.most ≡ 0 → AreBounds set y
bounds_beside set y none most = record {
  most = λ m choice. subst (λ n. n * (12 / choice.value) ≤ y.most) (sym none) (omega arith);
  sides = omega arith;
  most_small = omega arith;
}

pub place_beside : (t : Symbol) → AreInvolutions t → (set : Allowed) (p : Pair) (first d e : ℕ) (x y : DegreeSlot) → IsChamber t d → IsSmallerInCell t p d e → IsPlaceOf t set p first e x
    → y.root ≡ x.root → y.turns ≡ x.turns → y.sides ≡ 0 → y.most ≡ 0 → IsPlaceOf t set p first d y
place_beside t inv set p first d e x y h is place root turns none most =
    let near = smaller_chamber t inv p d e h is in
    let at = place.is_shape.least in
    let below : place.shape.least ≤ e = at.is_least.1 e (in_cell-sym t inv p e place.shape.least near at.in_cell) in
    let smaller = is.smaller in
    record {
      shape = place.shape;
      is_shape = shape_beside t inv p d e place.shape h is.in_cell place.is_shape;
      root = ap (λ n. n + 1) root ∙ place.root;
      turns = turns ∙ place.turns;
      few = subst (λ n. n ≤ 36) (sym turns) place.few;
      sides = inr ((λ same. absurd (omega arith)), none);
      shares = λ some. absurd (omega (arith, some, none));
      bounds = bounds_beside set y none most;
    }

-- what is told at a smaller chamber, where those of all smaller ones stand from a place on
pub told_before : (t : Symbol) (set : Allowed) (p : Pair) (first d e : ℕ) (places : List DegreeSlot) (x : DegreeSlot) → 1 ≤ e → e < d
    → ((k : ℕ) (y : DegreeSlot) → k + 1 < d → IsPlaceOf t set p first (k + 1) (slice_index_or places (first + k) y)) → IsPlaceOf t set p first e (slice_index_or places (first + e - 1) x)
told_before t set p first d e places x low high all =
    let back : e - 1 + 1 ≡ e = omega arith in
    let at : first + (e - 1) ≡ first + e - 1 = omega arith in
    subst (λ n. IsPlaceOf t set p first n (slice_index_or places (first + e - 1) x)) back
    (subst (λ n. IsPlaceOf t set p first (e - 1 + 1) (slice_index_or places n x)) at (all (e - 1) x (omega arith)))
