-- How the least number of turns of a chamber decides its degree and its branching value.
use Rattle.std.proofs.Common.{◌≡◌, ℕ, ◌+◌, ◌/◌, ◌%◌, ◌≤◌, refl, sym, ap, ◌∙◌, subst, ⊎_elim, arith}
use Rattle.std.proofs.lemmas.Bool.{cases_lt}
use Rattle.dd_model.specs.declared.pair.Pair.{Pair}
use Rattle.dd_model.specs.declared.pair.Pair.TheVariants.{Tile, Vertex, Edge}
use Rattle.dd_model.specs.Symbol.{Symbol, AreInvolutions, IsChamber, HasDegree, first, second, op, degree}
use Rattle.dd_model.specs.Cell.{IsBranching, IsPeriod, InCell, turned}
use Rattle.dd_model.specs.Small.{IsSmallSymbol}
use Rattle.dd_model.proofs.Transport.{HaveLengths, in_cell_within}
use Rattle.dd_model.proofs.Turns.{period_divides, period_turns, IsLeastTurns-from_period, least_turns_unique}
use Rattle.dd_model.proofs.CellWalks.{has_period, in_cell-refl, in_cell-sym, in_cell-trans, in_cell-first, in_cell-second}
use Rattle.dd_model.proofs.CellSearch.{has_least}
use Rattle.dd_symbol.specs.Cells.{IsLeastFor}
use Rattle.dd_symbol.specs.Causes.{PairBefore}
use Rattle.dd_symbol.specs.Conditions.{IsMultiple, IsSmall, HasDegreeOfCell, AreConnected, ArePositive, AreConstant, AreMultiples, AreSmall, OfBoth}
use Rattle.dd_model.proofs.Branching.{turns-along}
use Rattle.dd_model.proofs.Numbers.{whole_quotient, quotient_bound}

-- ## At one chamber

-- the degree is a multiple of the period
pub multiple-from_period : (s : Symbol) → AreInvolutions s → (p : Pair) (d r : ℕ) → IsChamber s d → IsPeriod s p d r → degree s p d % r ≡ 0 → IsMultiple s p d
multiple-from_period s inv p d r h is even r' turns =
    let same : r ≡ r' = least_turns_unique s p d r r' (IsLeastTurns-from_period s inv p d r h is) turns in
    subst (λ x. degree s p d % x ≡ 0) same even

-- the degree divided by the period is the branching value
pub branching-by_period : (s : Symbol) → AreInvolutions s → (p : Pair) (d r : ℕ) → IsChamber s d → IsPeriod s p d r → IsMultiple s p d
    → IsBranching s p d (degree s p d / r)
branching-by_period s inv p d r h is multiple =
    let turns = IsLeastTurns-from_period s inv p d r h is in
    record { r = r; least_turns = turns; quotient = whole_quotient (degree s p d) r is.positive (multiple r turns) }

pub multiple-from_turns : (s : Symbol) → AreInvolutions s → (p : Pair) (d : ℕ) → IsChamber s d → turned s p (degree s p d) d ≡ d → IsMultiple s p d
multiple-from_turns s inv p d h turns =
    let has = has_period s inv p d h in
    multiple-from_period s inv p d has.r h has.period (period_divides s p d has.r (degree s p d) has.period turns)

pub turns-from_multiple : (s : Symbol) → AreInvolutions s → (p : Pair) (d : ℕ) → IsChamber s d → IsMultiple s p d → turned s p (degree s p d) d ≡ d
turns-from_multiple s inv p d h multiple =
    let has = has_period s inv p d h in
    period_turns s p d has.r (degree s p d) has.period (multiple has.r (IsLeastTurns-from_period s inv p d has.r h has.period))

-- ## At the other chambers of a cell

pub multiple-along : (s : Symbol) → AreInvolutions s → (p : Pair) (d l : ℕ) → IsChamber s d → HasDegreeOfCell s p d → IsLeastFor s p d l → IsMultiple s p l → IsMultiple s p d
multiple-along s inv p d l h constant is multiple r turns =
    ap (λ m. m % r) (constant l is) ∙ multiple r (turns-along s inv p d l r h is.in_cell turns)

pub small-along_cell : (s : Symbol) → AreInvolutions s → (p : Pair) (d l : ℕ) → IsChamber s d → HasDegreeOfCell s p d → IsLeastFor s p d l → IsSmall s p l → IsSmall s p d
small-along_cell s inv p d l h constant is small v b =
    small v (record { r = b.r; least_turns = turns-along s inv p d l b.r h is.in_cell b.least_turns; quotient = b.quotient ∙ constant l is })

-- what holds of tiles and vertices holds of a pair that has a degree to be refused
pub of_both : (P Q : Pair → Type 0) (p : Pair) → PairBefore Q p → OfBoth P → P p
of_both P Q Tile before both = both.0
of_both P Q Vertex before both = both.1
of_both P Q Edge before both = absurd before

-- One test more. Where the chamber is not the least of its cell, the test was made there.
pub test_more : (s : Symbol) → AreInvolutions s → (P : ℕ → Type 0) (p : Pair) (k l : ℕ) → ((e : ℕ) → IsChamber s e → e ≤ k → P e) → IsChamber s (k + 1) → IsLeastFor s p (k + 1) l
    → (l ≡ k + 1 → ⊥) → (P l → P (k + 1)) → P (k + 1)
test_more s inv P p k l before h is other along =
    let low = is.is_least.1 (k + 1) (in_cell-sym s inv p (k + 1) l h is.in_cell) in
    along (before l is.is_least.0 (omega arith))

-- one chamber more
pub at_more : (s : Symbol) (P : ℕ → Type 0) (k : ℕ) → ((e : ℕ) → IsChamber s e → e ≤ k → P e) → P (k + 1) → (e : ℕ) → IsChamber s e → e ≤ k + 1 → P e
at_more s P k before now e h high =
    ⊎_elim
    (λ early. before e h (omega arith))
    (λ late. let here : k + 1 ≡ e = omega arith in subst P here now)
    (cases_lt e (k + 1))

-- ## The whole symbol

has_degree : (s : Symbol) → AreInvolutions s → (p : Pair) → ArePositive s p → AreConstant s p → AreMultiples s p → (d : ℕ) → IsChamber s d → HasDegree s p d
has_degree s inv p positive constant multiples d h =
    let l = has_least s inv p d h in
    let own : degree s p d ≡ degree s p l.least = constant d h l.least (record { in_cell = l.in_cell; is_least = l.is_least }) in
    let along : (e : ℕ) → InCell s p d e → degree s p e ≡ degree s p d = λ e there.
    let he = in_cell_within s inv p d e h there in
    constant e he l.least (record { in_cell = in_cell-trans s p e d l.least (in_cell-sym s inv p d e h there) l.in_cell; is_least = l.is_least }) ∙ sym own in
    record {
      positive = positive d h;
      along_first = along (op s (first p) d) (in_cell-first s p d d (in_cell-refl s p d));
      along_second = along (op s (second p) d) (in_cell-second s p d d (in_cell-refl s p d));
      turns = turns-from_multiple s inv p d h (multiples d h);
    }

pub small_symbol : (s : Symbol) → HaveLengths s → 1 ≤ s.size → s.size ≤ 16384 → AreConnected s
    → OfBoth (ArePositive s) → OfBoth (AreConstant s) → OfBoth (AreMultiples s) → OfBoth (AreSmall s) → IsSmallSymbol s
small_symbol s l some size table positive constant multiples small = record {
  symbol = record {
    table = record { chambers = some; lengths = l.lengths; m01_length = l.m01_length; m12_length = l.m12_length; involutions = table.involutions };
    degrees = λ p d h. elim p as (λ q. HasDegree s q d) [
      | Tile ↦ has_degree s table.involutions Tile positive.0 constant.0 multiples.0 d h
      | Vertex ↦ has_degree s table.involutions Vertex positive.1 constant.1 multiples.1 d h
      | Edge ↦ record { positive = omega arith; along_first = refl; along_second = refl; turns = table.commuting d h }
    ];
  };
  size = size;
  branching = λ p d v h. elim p as (λ q. IsBranching s q d v → v ≤ 30) [
    | Tile ↦ small.0 d h v
    | Vertex ↦ small.1 d h v
    | Edge ↦ λ b. quotient_bound v b.r b.least_turns.positive b.quotient
  ];
}
