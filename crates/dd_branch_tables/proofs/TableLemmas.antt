-- How a table is read from numbers.
use Rattle.std.proofs.Common.{◌≡◌, ℕ, ◌*◌, ◌≤◌, List, [], length, refl, sym, ap, ◌∙◌, subst, arith}
use Rattle.dd_model.specs.declared.pair.Pair.TheVariants.{Tile, Vertex, Edge}
use Rattle.dd_model.specs.Symbol.{Symbol, IsTable, IsChamber, AreInvolutions, HasDegree, item}
use Rattle.dd_model.specs.Connected.{Connected}
use Rattle.dd_model.specs.Lists.{Begins}
use Rattle.dd_model.specs.Code.{code}
use Rattle.dd_branch_tables.specs.Table.{AreOfTable, HasNoTable, HasTable, IsBareTable, IsTableOf, IsUnbranched, told}
use Rattle.dd_model.specs.Involutions.{HaveSameInvolutions}
use Rattle.dd_branch_tables.proofs.TableFronts.{told_same, told_begins, lengths_told}
use Rattle.dd_model.proofs.SameInvolutions.{chamber-same, involutions-same, connected-same, turned-same, period-same}
use Rattle.dd_branch_tables.proofs.Unbranched.{HasPeriods, unbranched_of_periods, small_of_periods}
use Rattle.dd_symbol.specs.Building.{IsConnectedSymbol}
use Rattle.dd_symbol.specs.Images.{of_rows, with_degrees}
use Rattle.dd_symbol.specs.Conditions.{AreConnected}
use Rattle.dd_model.specs.Small.{IsSmallSymbol}
use Rattle.dd_symbol.specs.Cells.{ArePeriods}

-- numbers that are no rows of involutions begin no code
pub no_table : (n : ℕ) (numbers : List ℕ) → length numbers ≡ 3 * n → (AreInvolutions (of_rows n numbers) → ⊥) → HasNoTable n numbers
no_table n numbers whole none s is connected commuting size begins =
    let same = told_same s n numbers [] [] is size whole begins in
    none (involutions-same s (of_rows n numbers) (record { size = same.size; s0 = same.s0; s1 = same.s1; s2 = same.s2 }) is.involutions)

-- numbers of a table are rows of its involutions
pub rows_of_table : (n : ℕ) (numbers : List ℕ) → n ≤ 36 → length numbers ≡ 3 * n → HasTable n numbers → AreOfTable (of_rows n numbers)
rows_of_table n numbers few whole has =
    let same = told_same has.table n numbers [] [] has.is_table has.size whole has.begins in
    let size = has.size in
    record {
      table = has.table;
      is_table = has.is_table;
      connected = has.connected;
      commuting = has.commuting;
      small = omega (arith, size, few);
      same = record { size = same.size; s0 = same.s0; s1 = same.s1; s2 = same.s2 };
    }

-- ## The symbol that is built

-- the same images with any degrees
rows_same : (n : ℕ) (numbers m01 m12 : List ℕ) → HaveSameInvolutions (of_rows n numbers) (told n numbers m01 m12)
rows_same n numbers m01 m12 = record { size = refl; s0 = refl; s1 = refl; s2 = refl }

-- the lists of least numbers of turns
pub record HaveBothPeriods (n : ℕ) (numbers m01 m12 : List ℕ) : Type 0 where
  pub tiles : ArePeriods (of_rows n numbers) Tile m01
  pub vertices : ArePeriods (of_rows n numbers) Vertex m12

-- involutions with these rows
pub both_periods : (n : ℕ) (numbers m01 m12 : List ℕ) (it : Symbol) → it ≡ of_rows n numbers → ArePeriods it Tile m01 → ArePeriods it Vertex m12 → HaveBothPeriods n numbers m01 m12
both_periods n numbers m01 m12 it same tiles vertices =
    record { tiles = subst (λ s. ArePeriods s Tile m01) same tiles; vertices = subst (λ s. ArePeriods s Vertex m12) same vertices }

told_tiles : (n : ℕ) (numbers m01 m12 : List ℕ) → HaveBothPeriods n numbers m01 m12 → HasPeriods (told n numbers m01 m12) Tile
told_tiles n numbers m01 m12 both = record {
  each = λ d h. period-same (of_rows n numbers) (told n numbers m01 m12) (rows_same n numbers m01 m12) Tile d (item m01 d) (both.tiles.each d h);
}

told_vertices : (n : ℕ) (numbers m01 m12 : List ℕ) → HaveBothPeriods n numbers m01 m12 → HasPeriods (told n numbers m01 m12) Vertex
told_vertices n numbers m01 m12 both = record {
  each = λ d h. period-same (of_rows n numbers) (told n numbers m01 m12) (rows_same n numbers m01 m12) Vertex d (item m12 d) (both.vertices.each d h);
}

pub told_unbranched : (n : ℕ) (numbers m01 m12 : List ℕ) → HaveBothPeriods n numbers m01 m12 → AreInvolutions (told n numbers m01 m12) → IsUnbranched (told n numbers m01 m12)
told_unbranched n numbers m01 m12 both inv =
    unbranched_of_periods (told n numbers m01 m12) inv (told_tiles n numbers m01 m12 both) (told_vertices n numbers m01 m12 both)

pub told_table : (n : ℕ) (numbers m01 m12 : List ℕ) → 1 ≤ n → HaveBothPeriods n numbers m01 m12 → AreInvolutions (told n numbers m01 m12) → IsTable (told n numbers m01 m12)
told_table n numbers m01 m12 some both inv = record {
  chambers = some;
  lengths = lengths_told n numbers m01 m12;
  m01_length = both.tiles.whole;
  m12_length = both.vertices.whole;
  involutions = inv;
}

pub commuting-same : (s t : Symbol) → HaveSameInvolutions s t → ((d : ℕ) → IsChamber s d → HasDegree s Edge d) → (d : ℕ) → IsChamber t d → HasDegree t Edge d
commuting-same s t same commuting d h = record {
  positive = omega arith;
  along_first = refl;
  along_second = refl;
  turns = turned-same s t same Edge 2 d ∙ (commuting d (chamber-same s t same d h)).turns;
}

-- Numbers of a table are accepted.
told_accepted : (s : Symbol) (n : ℕ) (numbers m01 m12 : List ℕ) → n ≤ 36 → length numbers ≡ 3 * n → HaveBothPeriods n numbers m01 m12
    → IsTable s → Connected s → ((d : ℕ) → IsChamber s d → HasDegree s Edge d) → s.size ≡ n → Begins numbers (code s) → IsConnectedSymbol (told n numbers m01 m12)
told_accepted s n numbers m01 m12 few whole both is connected commuting size begins =
    let t = told n numbers m01 m12 in
    let same = told_same s n numbers m01 m12 is size whole begins in
    let inv = involutions-same s t same is.involutions in
    let some = is.chambers in
    let table = told_table n numbers m01 m12 (omega arith) both inv in
    record {
      symbol = small_of_periods t table (commuting-same s t same commuting) (told_tiles n numbers m01 m12 both) (told_vertices n numbers m01 m12 both) (omega arith);
      connected = connected-same s t same connected;
    }

pub none_built : (n : ℕ) (numbers m01 m12 : List ℕ) → n ≤ 36 → length numbers ≡ 3 * n → HaveBothPeriods n numbers m01 m12 → (IsConnectedSymbol (told n numbers m01 m12) → ⊥) → HasNoTable n numbers
none_built n numbers m01 m12 few whole both refused s is connected commuting size begins =
    refused (told_accepted s n numbers m01 m12 few whole both is connected commuting size begins)

-- the least numbers of turns are degrees of a symbol where the rest holds
pub periods_fit : (n : ℕ) (numbers m01 m12 : List ℕ) (it : Symbol) → 1 ≤ n → n ≤ 36 → it ≡ of_rows n numbers → HaveBothPeriods n numbers m01 m12
    → AreConnected (with_degrees it m01 m12) → IsSmallSymbol (with_degrees it m01 m12)
periods_fit n numbers m01 m12 it some few same both =
    subst (λ s. AreConnected (with_degrees s m01 m12) → IsSmallSymbol (with_degrees s m01 m12)) (sym same) (λ are.
    small_of_periods (told n numbers m01 m12) (told_table n numbers m01 m12 some both are.involutions)
    (λ d h. record { positive = omega arith; along_first = refl; along_second = refl; turns = are.commuting d h })
    (told_tiles n numbers m01 m12 both) (told_vertices n numbers m01 m12 both) (omega arith))

-- what was built is bare
pub bare_of_told : (n : ℕ) (numbers m01 m12 : List ℕ) (t : Symbol) → n ≤ 36 → t ≡ told n numbers m01 m12 → IsConnectedSymbol t → HaveBothPeriods n numbers m01 m12 → IsBareTable t
bare_of_told n numbers m01 m12 t few same built both =
    let inv = subst AreInvolutions same built.symbol.symbol.table.involutions in
    let size = ap (λ s. s.size) same in
    record {
      symbol = built.symbol.symbol;
      connected = built.connected;
      unbranched = subst IsUnbranched (sym same) (told_unbranched n numbers m01 m12 both inv);
      small = omega (arith, size, few);
    }

pub table_of_told : (n : ℕ) (numbers m01 m12 : List ℕ) (t : Symbol) → length numbers ≡ 3 * n → t ≡ told n numbers m01 m12 → IsBareTable t → IsTableOf n numbers t
table_of_told n numbers m01 m12 t whole same bare = record {
  bare = bare;
  size = ap (λ s. s.size) same;
  begins = subst (λ s. Begins numbers (code s)) (sym same) (told_begins n numbers m01 m12 whole);
}
