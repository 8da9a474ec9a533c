-- The walk through a cell that looks for a fixed chamber.
use Rattle.std.proofs.Common.{◌≡◌, ℕ, zero, suc, ◌+◌, ◌<◌, ◌≤◌, sym, ap, ◌∙◌, subst, ⊎_elim, arith}
use Rattle.std.proofs.lemmas.Bool.{cases_lt}
use Rattle.dd_model.specs.declared.pair.Pair.{Pair}
use Rattle.dd_model.specs.Symbol.{Symbol, AreInvolutions, IsChamber, first, second, op}
use Rattle.dd_model.specs.Cell.{IsChain, turned}
use Rattle.dd_model.proofs.Turns.{turned_within, turned-last}
use Rattle.dd_model.proofs.CellWalks.{next_place, met_from_in_cell, period_from_first_return}

-- After k turns from d the walk stands at a place, has met no fixed chamber, and has not come back to d.
pub record IsFreeWalk (s : Symbol) (p : Pair) (d k place : ℕ) : Type 0 where
  pub at : place ≡ turned s p k d
  pub chamber : IsChamber s place
  pub first_moves : (j : ℕ) → j < k → op s (first p) (turned s p j d) ≡ turned s p j d → ⊥
  pub second_moves : (j : ℕ) → j < k → turned s p (suc j) d ≡ op s (first p) (turned s p j d) → ⊥
  pub unfixed : (j : ℕ) → 1 ≤ j → j < k + 1 → turned s p j d ≡ d → ⊥

-- a turn more meets no fixed chamber
record IsFreeTurn (s : Symbol) (p : Pair) (d k : ℕ) : Type 0 where
  pub first_moves : (j : ℕ) → j < k + 1 → op s (first p) (turned s p j d) ≡ turned s p j d → ⊥
  pub second_moves : (j : ℕ) → j < k + 1 → turned s p (suc j) d ≡ op s (first p) (turned s p j d) → ⊥

free_turn : (s : Symbol) (p : Pair) (d k place next : ℕ) → IsFreeWalk s p d k place → next ≡ op s (second p) (op s (first p) place)
    → (op s (first p) place ≡ place → ⊥) → (next ≡ op s (first p) place → ⊥) → IsFreeTurn s p d k
free_turn s p d k place next w is unfixed_first unfixed_second =
    let i = first p in
    let e : k + 1 ≡ suc k = omega arith in
    let at : next ≡ turned s p (suc k) d = is ∙ next_place s p d k place w.at ∙ ap (λ j. turned s p j d) e in
    record {
      first_moves = λ j below fixed.
          ⊎_elim
          (λ early. w.first_moves j early fixed)
          (λ late.
          let same : j ≡ k = omega arith in
          unfixed_first (ap (op s i) w.at ∙ subst (λ m. op s i (turned s p m d) ≡ turned s p m d) same fixed ∙ sym w.at))
          (cases_lt j k);
      second_moves = λ j below fixed.
          ⊎_elim
          (λ early. w.second_moves j early fixed)
          (λ late.
          let same : j ≡ k = omega arith in
          unfixed_second (at ∙ subst (λ m. turned s p (suc m) d ≡ op s i (turned s p m d)) same fixed ∙ ap (op s i) (sym w.at)))
          (cases_lt j k);
    }

pub free_walk_goes_on : (s : Symbol) (p : Pair) (d k place next : ℕ) → IsFreeWalk s p d k place → next ≡ op s (second p) (op s (first p) place) → IsChamber s next
    → (op s (first p) place ≡ place → ⊥) → (next ≡ op s (first p) place → ⊥) → (next ≡ d → ⊥) → IsFreeWalk s p d (k + 1) next
free_walk_goes_on s p d k place next w is h unfixed_first unfixed_second moved =
    let at : next ≡ turned s p (k + 1) d = is ∙ next_place s p d k place w.at in
    let free = free_turn s p d k place next w is unfixed_first unfixed_second in
    record {
      at = at;
      chamber = h;
      first_moves = free.first_moves;
      second_moves = free.second_moves;
      unfixed = λ j least high fixed.
          ⊎_elim
          (λ early. w.unfixed j least early fixed)
          (λ late. let same : k + 1 ≡ j = omega arith in moved (at ∙ ap (λ i. turned s p i d) same ∙ fixed))
          (cases_lt j (k + 1));
    }

-- In a round that meets no fixed chamber the second involution moves what turns reach.
second_of_place : (s : Symbol) → AreInvolutions s → (p : Pair) (d k j : ℕ) → IsChamber s d → IsFreeTurn s p d k → turned s p (k + 1) d ≡ d → j < k + 1
    → op s (second p) (turned s p j d) ≡ turned s p j d → ⊥
second_of_place s inv p d k (suc j) h free back below fixed =
    let neighbor = op s (first p) (turned s p j d) in
    let hn = (inv (first p)).within (turned s p j d) (turned_within s inv p j d h) in
    let at = turned-last s p j d in
    free.second_moves j (omega arith) (sym fixed ∙ ap (op s (second p)) at ∙ (inv (second p)).involutive neighbor hn)
second_of_place s inv p d k zero h free back below fixed =
    let neighbor = op s (first p) (turned s p k d) in
    let hn = (inv (first p)).within (turned s p k d) (turned_within s inv p k d h) in
    let e : k + 1 ≡ suc k = omega arith in
    let at : d ≡ op s (second p) neighbor = sym back ∙ ap (λ m. turned s p m d) e ∙ turned-last s p k d in
    free.second_moves k (omega arith) (ap (λ m. turned s p m d) (sym e) ∙ back ∙ sym fixed ∙ ap (op s (second p)) at ∙ (inv (second p)).involutive neighbor hn)

-- A walk that comes back has met the whole cell.
pub free_walk_comes_back : (s : Symbol) → AreInvolutions s → (p : Pair) (d k place next : ℕ) → IsChamber s d → IsFreeWalk s p d k place
    → next ≡ op s (second p) (op s (first p) place) → (op s (first p) place ≡ place → ⊥) → (next ≡ op s (first p) place → ⊥) → next ≡ d → IsChain s p d → ⊥
free_walk_comes_back s inv p d k place next h w is unfixed_first unfixed_second back chain =
    let i = first p in
    let fixed : turned s p (k + 1) d ≡ d = sym (next_place s p d k place w.at) ∙ sym is ∙ back in
    let period = period_from_first_return s p d (k + 1) (omega arith) fixed w.unfixed in
    let free = free_turn s p d k place next w is unfixed_first unfixed_second in
    let met = met_from_in_cell s inv p d (k + 1) chain.chamber h period chain.in_cell in
    let at = turned s p met.turns d in
    let hat = turned_within s inv p met.turns d h in
    ⊎_elim
    (λ here. ⊎_elim
    (λ by_first. free.first_moves met.turns met.below (ap (op s i) here ∙ by_first ∙ sym here))
    (λ by_second. second_of_place s inv p d k met.turns h free fixed met.below (ap (op s (second p)) here ∙ by_second ∙ sym here))
    chain.fixed)
    (λ beside. ⊎_elim
    (λ by_first. free.first_moves met.turns met.below (beside ∙ sym by_first ∙ ap (op s i) (sym beside) ∙ (inv i).involutive at hat))
    (λ by_second. free.second_moves met.turns met.below (turned-last s p met.turns d ∙ ap (op s (second p)) beside ∙ by_second ∙ sym beside))
    chain.fixed)
    met.place
