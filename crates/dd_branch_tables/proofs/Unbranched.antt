-- Symbols whose branching values are all 1: their degrees are determined by their involutions.
use Rattle.std.proofs.Common.{◌≡◌, ℕ, ◌*◌, ◌≤◌, sym, ap, ◌∙◌, subst, arith}
use Rattle.dd_model.specs.declared.pair.Pair.{Pair}
use Rattle.dd_model.specs.declared.pair.Pair.TheVariants.{Tile, Vertex, Edge}
use Rattle.dd_model.specs.Symbol.{Symbol, IsTable, IsSymbol, IsChamber, AreInvolutions, HasDegree, first, second, op, degree}
use Rattle.dd_model.specs.Cell.{InCell, IsPeriod, IsLeastTurns, IsBranching}
use Rattle.dd_model.specs.Small.{IsSmallSymbol}
use Rattle.dd_model.proofs.Branching.{branching_exists, turns-along}
use Rattle.dd_model.proofs.Codes.{same_items}
use Rattle.dd_model.proofs.CellWalks.{in_cell-refl, in_cell-first, in_cell-second}
use Rattle.dd_model.proofs.Turns.{IsLeastTurns-from_period, least_turns_unique}
use Rattle.dd_model.proofs.Numbers.{quotient_bound}
use Rattle.dd_branch_tables.specs.Table.{IsUnbranched}
use Rattle.dd_model.specs.Involutions.{HaveSameInvolutions}
use Rattle.dd_model.proofs.SameInvolutions.{chamber-same, least_turns-same}

-- each degree of a pair is the least number of turns that fixes the chamber
pub record HasPeriods (s : Symbol) (p : Pair) : Type 0 where
  pub each : (d : ℕ) → IsChamber s d → IsPeriod s p d (degree s p d)

-- chambers of one cell have one period
degree-along : (s : Symbol) → AreInvolutions s → (p : Pair) → HasPeriods s p → (d l : ℕ) → IsChamber s d → IsChamber s l → InCell s p d l → degree s p l ≡ degree s p d
degree-along s inv p periods d l hd hl there =
    least_turns_unique s p l (degree s p l) (degree s p d)
    (IsLeastTurns-from_period s inv p l (degree s p l) hl (periods.each l hl))
    (turns-along s inv p d l (degree s p d) hd there (IsLeastTurns-from_period s inv p d (degree s p d) hd (periods.each d hd)))

has_degree : (s : Symbol) → AreInvolutions s → (p : Pair) → HasPeriods s p → (d : ℕ) → IsChamber s d → HasDegree s p d
has_degree s inv p periods d h =
    let is = periods.each d h in
    record {
      positive = is.positive;
      along_first = degree-along s inv p periods d (op s (first p) d) h ((inv (first p)).within d h) (in_cell-first s p d d (in_cell-refl s p d));
      along_second = degree-along s inv p periods d (op s (second p) d) h ((inv (second p)).within d h) (in_cell-second s p d d (in_cell-refl s p d));
      turns = is.fixed;
    }

pub symbol_of_periods : (s : Symbol) → IsTable s → ((d : ℕ) → IsChamber s d → HasDegree s Edge d) → HasPeriods s Tile → HasPeriods s Vertex → IsSymbol s
symbol_of_periods s is commuting tiles vertices = record {
  table = is;
  degrees = λ p d h. elim p as (λ q. HasDegree s q d) [
    | Tile ↦ has_degree s is.involutions Tile tiles d h
    | Vertex ↦ has_degree s is.involutions Vertex vertices d h
    | Edge ↦ commuting d h
  ];
}

one : (v r m : ℕ) → 1 ≤ r → v * r ≡ m → r ≡ m → v ≡ 1
one v r m pos e same = grind arith

pub value_of_periods : (s : Symbol) → AreInvolutions s → (p : Pair) → HasPeriods s p → (d v : ℕ) → IsChamber s d → IsBranching s p d v → v ≡ 1
value_of_periods s inv p periods d v h b =
    let turns = IsLeastTurns-from_period s inv p d (degree s p d) h (periods.each d h) in
    let same : b.r ≡ degree s p d = least_turns_unique s p d b.r (degree s p d) b.least_turns turns in
    one v b.r (degree s p d) b.least_turns.positive b.quotient same

pub unbranched_of_periods : (s : Symbol) → AreInvolutions s → HasPeriods s Tile → HasPeriods s Vertex → IsUnbranched s
unbranched_of_periods s inv tiles vertices = record {
  tiles = λ d v h b. value_of_periods s inv Tile tiles d v h b;
  vertices = λ d v h b. value_of_periods s inv Vertex vertices d v h b;
}

small_value : (v : ℕ) → v ≡ 1 → v ≤ 30
small_value v e = omega arith

pub small_of_periods : (s : Symbol) → IsTable s → ((d : ℕ) → IsChamber s d → HasDegree s Edge d) → HasPeriods s Tile → HasPeriods s Vertex → s.size ≤ 16384 → IsSmallSymbol s
small_of_periods s is commuting tiles vertices few = record {
  symbol = symbol_of_periods s is commuting tiles vertices;
  size = few;
  branching = λ p d v h. elim p as (λ q. IsBranching s q d v → v ≤ 30) [
    | Tile ↦ λ b. small_value v (value_of_periods s is.involutions Tile tiles d v h b)
    | Vertex ↦ λ b. small_value v (value_of_periods s is.involutions Vertex vertices d v h b)
    | Edge ↦ λ b. quotient_bound v b.r b.least_turns.positive b.quotient
  ];
}

-- ## The degrees are determined

turns_of_degree : (s : Symbol) → IsSymbol s → (p : Pair) → ((d v : ℕ) → IsChamber s d → IsBranching s p d v → v ≡ 1) → (d : ℕ) → IsChamber s d → IsLeastTurns s p d (degree s p d)
turns_of_degree s is p ones d h =
    let b = branching_exists s is p d h in
    let e : b.0 ≡ 1 = ones d b.0 h b.1 in
    let product = b.1.quotient in
    let alone : 1 * b.1.r ≡ b.1.r = omega arith in
    let same : b.1.r ≡ degree s p d = sym alone ∙ ap (λ v. v * b.1.r) (sym e) ∙ product in
    subst (IsLeastTurns s p d) same b.1.least_turns

degree_same : (s t : Symbol) → IsSymbol s → IsSymbol t → HaveSameInvolutions s t → (p : Pair) → ((d v : ℕ) → IsChamber s d → IsBranching s p d v → v ≡ 1) → ((d v : ℕ) → IsChamber t d → IsBranching t p d v → v ≡ 1)
    → (d : ℕ) → IsChamber t d → degree s p d ≡ degree t p d
degree_same s t is it same p ones twos d h =
    least_turns_unique t p d (degree s p d) (degree t p d)
    (least_turns-same s t same p d (degree s p d) (turns_of_degree s is p ones d (chamber-same s t same d h)))
    (turns_of_degree t it p twos d h)

-- one symbol of branching values 1 for each table
pub unbranched_unique : (s t : Symbol) → IsSymbol s → IsSymbol t → IsUnbranched s → IsUnbranched t → HaveSameInvolutions s t → s ≡ t
unbranched_unique s t is it us ut same =
    let size = same.size in
    let faces : s.m01 ≡ t.m01 = same_items s.m01 t.m01 t.size (is.table.m01_length ∙ sym size) it.table.m01_length (λ d low high. degree_same s t is it same Tile us.tiles ut.tiles d (low, omega arith)) in
    let degrees : s.m12 ≡ t.m12 = same_items s.m12 t.m12 t.size (is.table.m12_length ∙ sym size) it.table.m12_length (λ d low high. degree_same s t is it same Vertex us.vertices ut.vertices d (low, omega arith)) in
    let s0 = sym same.s0 in
    let s1 = sym same.s1 in
    let s2 = sym same.s2 in
    λ x. record { size = sym size x; s0 = s0 x; s1 = s1 x; s2 = s2 x; m01 = faces x; m12 = degrees x }
