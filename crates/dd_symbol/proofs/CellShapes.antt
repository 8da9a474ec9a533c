-- The walk round a cell that finds its least chamber, its kind and the number of its turns.
use Rattle.std.proofs.Common.{◌≡◌, ℕ, ◌+◌, ◌<◌, ◌≤◌, ◌⊎◌, min, refl, sym, ap, ◌∙◌, subst, inl, inr, ⊎_elim, arith}
use Rattle.std.proofs.lemmas.Bool.{cases_lt}
use Rattle.dd_model.specs.declared.pair.Pair.{Pair}
use Rattle.dd_model.specs.Symbol.{Symbol, AreInvolutions, IsChamber, first, second, op}
use Rattle.dd_model.specs.Cell.{InCell, IsChain, IsPeriod, turned}
use Rattle.dd_model.proofs.Turns.{period_bound, IsLeastTurns-from_period, least_turns_unique}
use Rattle.dd_model.proofs.Branching.{turns-along}
use Rattle.dd_model.proofs.Words.{act_within}
use Rattle.dd_model.proofs.CellWalks.{IsMet, met_cases, met_from_in_cell, next_place, period_from_first_return, in_cell-trans, in_cell-turned, in_cell-first, in_cell-sym, has_period}
use Rattle.dd_model.proofs.FreeWalks.{IsFreeWalk, free_walk_goes_on, free_walk_comes_back}
use Rattle.dd_symbol.specs.Cells.{IsLeastFor, IsKindOf, IsShapeOf}
use Rattle.dd_symbol.specs.declared.kind.Kind.{Kind}
use Rattle.dd_symbol.specs.declared.kind.Kind.TheVariants.{Cycle, Chain}

-- ## Turns that do not lead back

-- one more number of turns that does not fix the chamber
pub unfixed_more : (s : Symbol) (p : Pair) (d t place : ℕ) → place ≡ turned s p t d → (place ≡ d → ⊥)
    → ((k : ℕ) → 1 ≤ k → k < t → turned s p k d ≡ d → ⊥) → (k : ℕ) → 1 ≤ k → k < t + 1 → turned s p k d ≡ d → ⊥
unfixed_more s p d t place is moved before k low high fixed =
    ⊎_elim
    (λ earlier. before k low earlier fixed)
    (λ last. let same : k ≡ t = omega arith in moved (is ∙ ap (λ j. turned s p j d) (sym same) ∙ fixed))
    (cases_lt k t)

-- ## The least chamber

-- the least of two numbers
pub least_of_two : (a b m : ℕ) → m ≡ min a b → ((m ≡ a) ⊎ (m ≡ b)) × ((m ≤ a) × (m ≤ b))
least_of_two a b m e = ⊎_elim
    (λ low. (inl (omega arith), (omega arith, omega arith)))
    (λ high. (inr (omega arith), (omega arith, omega arith)))
    (cases_lt a b)

-- a chamber of the cell of d, no greater than what the first k turns meet
pub record IsRootTo (s : Symbol) (p : Pair) (d k e : ℕ) : Type 0 where
  pub in_cell : InCell s p d e
  pub least : (x : ℕ) → IsMet s p d k x → e ≤ x

pub root_more : (s : Symbol) (p : Pair) (d k e x y : ℕ) → IsRootTo s p d k e → x ≡ turned s p k d → y ≡ op s (first p) x
    → (m : ℕ) → (m ≡ e) ⊎ ((m ≡ x) ⊎ (m ≡ y)) → m ≤ e → m ≤ x → m ≤ y → IsRootTo s p d (k + 1) m
root_more s p d k e x y old at beside m which low mid high =
    let there : InCell s p d x = subst (InCell s p d) (sym at) (in_cell-turned s p d k) in
    let near : InCell s p d y = subst (InCell s p d) (sym beside) (in_cell-first s p d x there) in
    record {
      in_cell = ⊎_elim
          (λ is. subst (InCell s p d) (sym is) old.in_cell)
          (λ more. ⊎_elim (λ is. subst (InCell s p d) (sym is) there) (λ is. subst (InCell s p d) (sym is) near) more)
          which;
      least = λ z met. ⊎_elim
          (λ early. let below = old.least z early in omega (arith, below, low))
          (λ more. ⊎_elim
          (λ here. subst (λ n. m ≤ n) (at ∙ here) mid)
          (λ other. subst (λ n. m ≤ n) (beside ∙ ap (op s (first p)) at ∙ other) high)
          more)
          (met_cases s p d k z met);
    }

-- a walk that has come back has met the whole cell
root_of_cell : (s : Symbol) → AreInvolutions s → (p : Pair) (d r e : ℕ) → IsChamber s d → IsPeriod s p d r → IsRootTo s p d r e → IsLeastFor s p d e
root_of_cell s inv p d r e h period root = record {
  in_cell = root.in_cell;
  is_least = (
    subst (IsChamber s) root.in_cell.leads (act_within s inv root.in_cell.word d h),
    λ x there. root.least x (met_from_in_cell s inv p d r x h period (in_cell-trans s p d e x root.in_cell there)),
  );
}

-- ## The kind

-- what is known of the kind after k turns: a chain was found, or no fixed chamber was met
abbrev pub IsKindTo : Symbol → Pair → ℕ → ℕ → ℕ → Kind → Type 0
IsKindTo s p d k place Chain = IsChain s p d
IsKindTo s p d k place Cycle = IsFreeWalk s p d k place

-- After k turns from d the walk stands at a place and has not come back to d.
pub record IsShaping (s : Symbol) (p : Pair) (d k place least : ℕ) (found : Kind) : Type 0 where
  pub at : place ≡ turned s p k d
  pub chamber : IsChamber s place
  pub unfixed : (j : ℕ) → 1 ≤ j → j < k + 1 → turned s p j d ≡ d → ⊥
  pub root : IsRootTo s p d k least
  pub kind : IsKindTo s p d k place found

-- whether one turn more meets a fixed chamber, and what the kind is then
pub data IsKindStep (s : Symbol) (p : Pair) (place next : ℕ) (kind kind' : Kind) : Type 0 where
  meets_fixed : (op s (first p) place ≡ place) ⊎ (next ≡ op s (first p) place) → kind' ≡ Chain → IsKindStep s p place next kind kind'
  meets_none : (op s (first p) place ≡ place → ⊥) → (next ≡ op s (first p) place → ⊥) → kind' ≡ kind → IsKindStep s p place next kind kind'

-- what one turn more finds: the next place, the least of all, and the kind
pub record IsShaped (s : Symbol) (p : Pair) (place least next least' : ℕ) (kind kind' : Kind) : Type 0 where
  pub next_is : next ≡ op s (second p) (op s (first p) place)
  pub which : (least' ≡ least) ⊎ ((least' ≡ place) ⊎ (least' ≡ op s (first p) place))
  pub low : least' ≤ least
  pub low_place : least' ≤ place
  pub low_neighbor : least' ≤ op s (first p) place
  pub kind_is : IsKindStep s p place next kind kind'

pub shaped : (s : Symbol) (p : Pair) (place least neighbor next mid least' : ℕ) (kind kind' : Kind) → neighbor ≡ op s (first p) place → next ≡ op s (second p) (op s (first p) place)
    → mid ≡ min least place → least' ≡ min mid neighbor → IsKindStep s p place next kind kind' → IsShaped s p place least next least' kind kind'
shaped s p place least neighbor next mid least' kind kind' beside is m1 m2 step =
    let one = least_of_two least place mid m1 in
    let two = least_of_two mid neighbor least' m2 in
    let a = one.1.0 in
    let b = one.1.1 in
    let d = two.1.0 in
    record {
      next_is = is;
      which = ⊎_elim
          (λ is_mid. ⊎_elim (λ old. inl (is_mid ∙ old)) (λ here. inr (inl (is_mid ∙ here))) one.0)
          (λ is_neighbor. inr (inr (is_neighbor ∙ beside)))
          two.0;
      low = omega (arith, a, d);
      low_place = omega (arith, b, d);
      low_neighbor = subst (λ n. least' ≤ n) beside two.1.1;
      kind_is = step;
    }

chain_in_turn : (s : Symbol) (p : Pair) (d k place next : ℕ) → place ≡ turned s p k d → next ≡ op s (second p) (op s (first p) place)
    → (op s (first p) place ≡ place) ⊎ (next ≡ op s (first p) place) → IsChain s p d
chain_in_turn s p d k place next at is fixed =
    let there : InCell s p d place = subst (InCell s p d) (sym at) (in_cell-turned s p d k) in
    ⊎_elim
    (λ by_first. record { chamber = place; in_cell = there; fixed = inl by_first })
    (λ by_second. record { chamber = op s (first p) place; in_cell = in_cell-first s p d place there; fixed = inr (sym is ∙ by_second) })
    fixed

root_after : (s : Symbol) (p : Pair) (d k place least next least' : ℕ) (kind kind' : Kind) → IsShaping s p d k place least kind → IsShaped s p place least next least' kind kind'
    → IsRootTo s p d (k + 1) least'
root_after s p d k place least next least' kind kind' old step =
    root_more s p d k least place (op s (first p) place) old.root old.at refl least' step.which step.low step.low_place step.low_neighbor

kind_more : (s : Symbol) (p : Pair) (d k place next : ℕ) (kind kind' : Kind) → place ≡ turned s p k d → IsKindTo s p d k place kind → next ≡ op s (second p) (op s (first p) place)
    → IsChamber s next → (next ≡ d → ⊥) → IsKindStep s p place next kind kind' → IsKindTo s p d (k + 1) next kind'
kind_more s p d k place next kind kind' at old is h moved (meets_fixed fixed e) =
    subst (IsKindTo s p d (k + 1) next) (sym e) (chain_in_turn s p d k place next at is fixed)
kind_more s p d k place next Chain kind' at old is h moved (meets_none a b e) = subst (IsKindTo s p d (k + 1) next) (sym e) old
kind_more s p d k place next Cycle kind' at old is h moved (meets_none a b e) =
    subst (IsKindTo s p d (k + 1) next) (sym e) (free_walk_goes_on s p d k place next old is h a b moved)

kind_end : (s : Symbol) → AreInvolutions s → (p : Pair) (d k place next : ℕ) (kind kind' : Kind) → IsChamber s d → place ≡ turned s p k d → IsKindTo s p d k place kind
    → next ≡ op s (second p) (op s (first p) place) → next ≡ d → IsKindStep s p place next kind kind' → IsKindOf s p d kind'
kind_end s inv p d k place next kind kind' h at old is back (meets_fixed fixed e) =
    subst (IsKindOf s p d) (sym e) (chain_in_turn s p d k place next at is fixed)
kind_end s inv p d k place next Chain kind' h at old is back (meets_none a b e) = subst (IsKindOf s p d) (sym e) old
kind_end s inv p d k place next Cycle kind' h at old is back (meets_none a b e) =
    subst (IsKindOf s p d) (sym e) (free_walk_comes_back s inv p d k place next h old is a b back)

-- the walk goes on
pub shaping_more : (s : Symbol) (p : Pair) (d k place least next least' : ℕ) (kind kind' : Kind) → IsShaping s p d k place least kind → IsShaped s p place least next least' kind kind'
    → IsChamber s next → (next ≡ d → ⊥) → IsShaping s p d (k + 1) next least' kind'
shaping_more s p d k place least next least' kind kind' old step h moved =
    let at : next ≡ turned s p (k + 1) d = step.next_is ∙ next_place s p d k place old.at in
    record {
      at = at;
      chamber = h;
      unfixed = unfixed_more s p d (k + 1) next at moved old.unfixed;
      root = root_after s p d k place least next least' kind kind' old step;
      kind = kind_more s p d k place next kind kind' old.at old.kind step.next_is h moved step.kind_is;
    }

-- the walk is back
pub shape_found : (s : Symbol) → AreInvolutions s → (p : Pair) (d k place least next least' : ℕ) (kind kind' : Kind) → IsChamber s d → IsShaping s p d k place least kind
    → IsShaped s p place least next least' kind kind' → next ≡ d → IsShapeOf s p d (record { least = least'; kind = kind'; r = k + 1 })
shape_found s inv p d k place least next least' kind kind' h old step back =
    let fixed : turned s p (k + 1) d ≡ d = sym (next_place s p d k place old.at) ∙ sym step.next_is ∙ back in
    let period = period_from_first_return s p d (k + 1) (omega arith) fixed old.unfixed in
    record {
      least = root_of_cell s inv p d (k + 1) least' h period (root_after s p d k place least next least' kind kind' old step);
      kind = kind_end s inv p d k place next kind kind' h old.at old.kind step.next_is back step.kind_is;
      turns = IsLeastTurns-from_period s inv p d (k + 1) h period;
    }

-- no walk is longer than there are chambers
pub shaping_ends : (s : Symbol) → AreInvolutions s → (p : Pair) (d place least : ℕ) (kind : Kind) → IsChamber s d → IsShaping s p d s.size place least kind → ⊥
shaping_ends s inv p d place least kind h old = let bound = period_bound s inv p d (s.size + 1) h old.unfixed in omega arith

-- ## Periods

-- a neighbor in the cell has the same one
pub period_across : (s : Symbol) → AreInvolutions s → (p : Pair) (d e r : ℕ) → IsChamber s d → IsChamber s e → InCell s p d e → IsPeriod s p e r → IsPeriod s p d r
period_across s inv p d e r hd he there is =
    let has = has_period s inv p d hd in
    let own = IsLeastTurns-from_period s inv p d has.r hd has.period in
    let carried = turns-along s inv p e d r he (in_cell-sym s inv p d e hd there) (IsLeastTurns-from_period s inv p e r he is) in
    subst (IsPeriod s p d) (least_turns_unique s p d has.r r own carried) has.period
