-- The walk round a cell that ends at a chamber smaller than its first one.
use Rattle.std.proofs.Common.{◌≡◌, ℕ, ◌+◌, ◌<◌, ◌≤◌, sym, ap, ◌∙◌, subst, ⊎_elim, arith}
use Rattle.dd_model.specs.declared.pair.Pair.{Pair}
use Rattle.dd_model.specs.Symbol.{Symbol, AreInvolutions, IsChamber, first, op}
use Rattle.dd_model.specs.Cell.{InCell, IsLeastOfCell, turned}
use Rattle.dd_model.proofs.Words.{act_within}
use Rattle.dd_model.proofs.CellWalks.{IsMet, met_cases, next_place, in_cell-turned, in_cell-first}
use Rattle.dd_symbol.proofs.CellMarks.{IsTurn, all_met}
use Rattle.dd_symbol.proofs.CellShapes.{unfixed_more}

-- After k turns from d the walk stands at a place, has not come back to d, and has met no smaller chamber.
pub record IsWalking (s : Symbol) (p : Pair) (d k place : ℕ) : Type 0 where
  pub at : place ≡ turned s p k d
  pub chamber : IsChamber s place
  pub low : d ≤ place
  pub unfixed : (j : ℕ) → 1 ≤ j → j < k + 1 → turned s p j d ≡ d → ⊥
  pub above : (x : ℕ) → IsMet s p d k x → d ≤ x

-- nothing smaller is met on one turn more
above_more : (s : Symbol) (p : Pair) (d k place neighbor next : ℕ) → IsWalking s p d k place → IsTurn s p place neighbor next → d ≤ neighbor
    → (x : ℕ) → IsMet s p d (k + 1) x → d ≤ x
above_more s p d k place neighbor next w turn low x met = ⊎_elim
    (λ early. w.above x early)
    (λ late. ⊎_elim
    (λ here. subst (λ y. d ≤ y) (w.at ∙ here) w.low)
    (λ beside. subst (λ y. d ≤ y) (turn.beside ∙ ap (op s (first p)) w.at ∙ beside) low)
    late)
    (met_cases s p d k x met)

pub walk_goes_on : (s : Symbol) (p : Pair) (d k place neighbor next : ℕ) → IsWalking s p d k place → IsTurn s p place neighbor next → IsChamber s next
    → d ≤ neighbor → d ≤ next → (next ≡ d → ⊥) → IsWalking s p d (k + 1) next
walk_goes_on s p d k place neighbor next w turn h beside low moved =
    let at = turn.further ∙ next_place s p d k place w.at in
    record {
      at = at;
      chamber = h;
      low = low;
      unfixed = unfixed_more s p d (k + 1) next at moved w.unfixed;
      above = above_more s p d k place neighbor next w turn beside;
    }

pub walk_is_back : (s : Symbol) → AreInvolutions s → (p : Pair) (d k place neighbor next : ℕ) → IsChamber s d → IsWalking s p d k place → IsTurn s p place neighbor next
    → d ≤ neighbor → next ≡ d → IsLeastOfCell s p d
walk_is_back s inv p d k place neighbor next h w turn beside back = (
  h,
  λ e there. above_more s p d k place neighbor next w turn beside e (all_met s inv p d k place h w.at w.unfixed (sym turn.further ∙ back) e there),
)

-- the first neighbor lies in the cell, and so does the next place
pub neighbor_smaller : (s : Symbol) (p : Pair) (d k place neighbor next : ℕ) → IsWalking s p d k place → neighbor ≡ op s (first p) place → neighbor < d → IsLeastOfCell s p d → ⊥
neighbor_smaller s p d k place neighbor next w beside smaller least =
    let there = subst (InCell s p d) (sym w.at) (in_cell-turned s p d k) in
    let below = least.1 neighbor (subst (InCell s p d) (sym beside) (in_cell-first s p d place there)) in
    omega arith

pub next_smaller : (s : Symbol) (p : Pair) (d k place neighbor next : ℕ) → IsWalking s p d k place → IsTurn s p place neighbor next → next < d → IsLeastOfCell s p d → ⊥
next_smaller s p d k place neighbor next w turn smaller least =
    let at = turn.further ∙ next_place s p d k place w.at in
    let below = least.1 next (subst (InCell s p d) (sym at) (in_cell-turned s p d (k + 1))) in
    omega arith

-- chamber 1 is the least of all
pub one_is_least : (s : Symbol) → AreInvolutions s → (p : Pair) (d : ℕ) → IsChamber s d → d ≡ 1 → IsLeastOfCell s p d
one_is_least s inv p d h one = (
  h,
  λ e there. let some = (subst (IsChamber s) there.leads (act_within s inv there.word d h)).0 in omega arith,
)
