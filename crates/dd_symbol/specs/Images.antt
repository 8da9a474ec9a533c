-- Involutions as they are kept.
use Rattle.std.specs.Prelude.{◌≡◌, ℕ, ◌+◌, ◌*◌, ◌≤◌, List, [], length, map, take, drop, slice_index}
use Rattle.dd_model.specs.declared.index.Index.{Index}
use Rattle.dd_model.specs.Symbol.{Symbol, AreInvolutions, operation}
use Rattle.dd_model.specs.Code.{count_from}
use Rattle.dd_symbol.specs.declared.code_rows.CodeRows.{CodeRows}
use Rattle.dd_model.specs.Small.{most_chambers}

-- the images under one involution in rows of three: every third number from place i on, n of them
unfoldable pub column : List ℕ → ℕ → ℕ → List ℕ
column rows i n = map (λ k. slice_index rows (3 * k + i)) (count_from 0 n)

-- n chambers with these rows of images, and no degrees
abbrev pub of_rows : ℕ → List ℕ → Symbol
of_rows n rows = record { size = n; s0 = column rows 0 n; s1 = column rows 1 n; s2 = column rows 2 n; m01 = []; m12 = [] }

-- the same chambers with these degrees
abbrev pub with_degrees : Symbol → List ℕ → List ℕ → Symbol
with_degrees s m01 m12 = record { size = s.size; s0 = s.s0; s1 = s.s1; s2 = s.s2; m01 = m01; m12 = m12 }

-- n chambers of which these numbers are the code
abbrev pub of_code : ℕ → List ℕ → Symbol
of_code n xs = with_degrees (of_rows n xs) (take n (drop (3 * n) xs)) (drop (3 * n + n) xs)

-- what rows say of a tiling
abbrev pub rows_of : CodeRows → Symbol
rows_of r = of_code r.size r.numbers

-- three involutions of at most 16,384 chambers, an image of each chamber in each list
pub record AreThreeInvolutions (s : Symbol) : Type 0 where
  pub small : s.size ≤ most_chambers
  pub lengths : (i : Index) → length (operation s i) ≡ s.size
  pub involutions : AreInvolutions s
