-- Each chamber of a symbol has exactly one branching value for each pair.
use Rattle.std.proofs.Common.{◌≡◌, ℕ, ◌*◌, ◌/◌, ◌≤◌, [], ◌∷◌, refl, sym, ap, ◌∙◌, ⊎_elim, arith}
use Rattle.dd_model.specs.declared.pair.Pair.{Pair}
use Rattle.dd_model.specs.Symbol.{Symbol, AreInvolutions, IsSymbol, IsChamber, Word, degree, op, act}
use Rattle.dd_model.specs.Cell.{IsWordOf, InCell, IsLeastTurns, IsBranching}
use Rattle.dd_model.proofs.CellWalks.{in_cell-sym, in_cell-trans}
use Rattle.dd_model.proofs.Turns.{period_exists, period_divides, IsLeastTurns-from_period, least_turns_unique}
use Rattle.dd_model.proofs.Numbers.{whole_quotient}

pub branching_exists : (s : Symbol) → IsSymbol s → (p : Pair) (d : ℕ) → IsChamber s d → (v : ℕ) × IsBranching s p d v
branching_exists s is p d h =
    let has = is.degrees p d h in
    let r = period_exists s p d (degree s p d) has.positive has.turns in (
      degree s p d / r.0,
      record {
        r = r.0;
        least_turns = IsLeastTurns-from_period s is.table.involutions p d r.0 h r.1;
        quotient = whole_quotient (degree s p d) r.0 r.1.positive (period_divides s p d r.0 (degree s p d) r.1 has.turns);
      },
    )

cancel : (v v' r m : ℕ) → 1 ≤ r → v * r ≡ m → v' * r ≡ m → v ≡ v'
cancel v v' r m pos a b = grind arith

pub branching_unique : (s : Symbol) (p : Pair) (d v v' : ℕ) → IsBranching s p d v → IsBranching s p d v' → v ≡ v'
branching_unique s p d v v' a b =
    let same : b.r ≡ a.r = least_turns_unique s p d b.r a.r b.least_turns a.least_turns in
    cancel v v' a.r (degree s p d) a.least_turns.positive a.quotient (ap (λ x. v' * x) (sym same) ∙ b.quotient)

-- the degree is constant on a cell
pub degree_same : (s : Symbol) → IsSymbol s → (p : Pair) (w : Word) (d : ℕ) → IsChamber s d → IsWordOf p w → degree s p (act s w d) ≡ degree s p d
degree_same s is p [] d h letters = refl
degree_same s is p (i ∷ w) d h letters =
    let has = is.degrees p d h in
    degree_same s is p w (op s i d) ((is.table.involutions i).within d h) letters.1
    ∙ ⊎_elim
    (λ e. ap (λ j. degree s p (op s j d)) e ∙ has.along_first)
    (λ e. ap (λ j. degree s p (op s j d)) e ∙ has.along_second)
    letters.0

pub degree-along_cell : (s : Symbol) → IsSymbol s → (p : Pair) (d e : ℕ) → IsChamber s d → InCell s p d e → degree s p e ≡ degree s p d
degree-along_cell s is p d e h there = ap (degree s p) (sym there.leads) ∙ degree_same s is p there.word d h there.letters

-- chambers of one cell have one least number of turns
pub turns-along : (s : Symbol) → AreInvolutions s → (p : Pair) (d e r : ℕ) → IsChamber s d → InCell s p d e → IsLeastTurns s p d r → IsLeastTurns s p e r
turns-along s inv p d e r h there turns = record {
  positive = turns.positive;
  chamber = turns.chamber;
  in_cell = in_cell-trans s p e d turns.chamber (in_cell-sym s inv p d e h there) turns.in_cell;
  fixed = turns.fixed;
  least = λ k x pos near fixed. turns.least k x pos (in_cell-trans s p d e x there near) fixed;
}

-- The chambers of a cell have one branching value.
pub branching_same : (s : Symbol) → IsSymbol s → (p : Pair) (d e v : ℕ) → IsChamber s d → InCell s p d e → IsBranching s p d v → IsBranching s p e v
branching_same s is p d e v h there b = record {
  r = b.r;
  least_turns = turns-along s is.table.involutions p d e b.r h there b.least_turns;
  quotient = b.quotient ∙ sym (degree_same s is p there.word d h there.letters) ∙ ap (degree s p) there.leads;
}
