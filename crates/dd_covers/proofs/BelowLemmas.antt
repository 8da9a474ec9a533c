-- Branching values above a morphism: they divide those below.
use Rattle.std.proofs.Common.{◌≡◌, ℕ, ◌*◌, ◌≤◌, List, sym, ap, ◌∙◌, arith}
use Rattle.dd_model.specs.declared.pair.Pair.{Pair}
use Rattle.dd_model.specs.Symbol.{Symbol, AreInvolutions, IsChamber, IsSymbol, item, turn, power, degree}
use Rattle.dd_model.specs.Cell.{IsLeastTurns, IsBranching}
use Rattle.dd_model.specs.Small.{IsSmallSymbol}
use Rattle.dd_model.specs.Isomorphic.{IsMorphism}
use Rattle.dd_model.proofs.Branching.{branching_exists}
use Rattle.dd_model.proofs.Transport.{act-along, degree-along, in_cell-along, in_cell_within}

-- as many turns as fix a chamber above fix one below, so that r below is no greater
turns_below : (t s : Symbol) (f : List ℕ) → AreInvolutions t → IsMorphism t s f → (p : Pair) (e r q : ℕ) → IsChamber t e
    → IsLeastTurns t p e r → IsLeastTurns s p (item f e) q → q ≤ r
turns_below t s f inv m p e r q h above below =
    let inside = in_cell_within t inv p e above.chamber h above.in_cell in
    below.least r (item f above.chamber) above.positive (in_cell-along t s f inv m p e above.chamber h above.in_cell)
    (sym (act-along t s f inv m (power (turn p) r) above.chamber inside) ∙ ap (item f) above.fixed)

smaller_factor : (v r w q m : ℕ) → 1 ≤ q → q ≤ r → v * r ≡ m → w * q ≡ m → v ≤ w
smaller_factor v r w q m some less above below = grind arith

pub branching_below : (t s : Symbol) (f : List ℕ) → AreInvolutions t → IsMorphism t s f → (p : Pair) (e v w : ℕ) → IsChamber t e
    → IsBranching t p e v → IsBranching s p (item f e) w → v ≤ w
branching_below t s f inv m p e v w h above below =
    smaller_factor v above.r w below.r (degree t p e) below.least_turns.positive
    (turns_below t s f inv m p e above.r below.r h above.least_turns below.least_turns)
    above.quotient (below.quotient ∙ degree-along t s f m p e h)

-- a symbol above a small one has branching values of at most 30
pub small_above : (t s : Symbol) (f : List ℕ) → IsSymbol t → IsSmallSymbol s → IsMorphism t s f → t.size ≤ 16384 → IsSmallSymbol t
small_above t s f is small m size = record {
  symbol = is;
  size = size;
  branching = λ p e v h above.
      let there = m.within e h in
      let below = branching_exists s small.symbol p (item f e) there in
      let less = branching_below t s f is.table.involutions m p e v below.0 h above below.1 in
      let bound = small.branching p (item f e) below.0 there below.1 in
      omega arith;
}
