-- Other numbers for the chambers that give a smaller code.
use Rattle.std.specs.Prelude.{◌≡◌, ◌≢◌, ℕ, ◌+◌, ◌*◌, ◌/◌, ◌%◌, ◌<◌, ◌≤◌, List, length, slice_index}
use Rattle.std.specs.List.{AllByRecursion}
use Rattle.dd_model.specs.Symbol.{Symbol, IsTable, IsChamber, item, op}
use Rattle.dd_model.specs.Isomorphic.{Isomorphic}
use Rattle.dd_model.specs.Code.{code}
use Rattle.dd_branch_tables.specs.Distinct.{AreDistinct}
use Rattle.dd_model.specs.Indices.{index_at}

-- Under the numbers that a list gives to its chambers, in order, the number at place u is e.
pub record Reads (s : Symbol) (order : List ℕ) (u e : ℕ) : Type 0 where
  pub chamber : 1 + u / 3 ≤ length order
  pub positive : 1 ≤ e
  pub image : e ≤ length order
  pub is : op s (index_at (u % 3)) (item order (1 + u / 3)) ≡ item order e

-- Under the numbers that a list gives to its chambers the code is the same up to place t and smaller there.
pub record IsBeatenBy (s : Symbol) (order : List ℕ) (t e : ℕ) : Type 0 where
  pub distinct : AreDistinct order
  pub chambers : AllByRecursion (IsChamber s) order
  pub place : t < 3 * s.size
  pub same : (u : ℕ) → u < t → Reads s order u (slice_index (code s) u)
  pub there : Reads s order t e
  pub smaller : e < slice_index (code s) t

-- Some renumbering has the same numbers before place t, and a smaller one there.
pub record IsUndercut (s : Symbol) (t : ℕ) : Type 0 where
  pub other : Symbol
  pub table : IsTable other
  pub renumbering : Isomorphic s other
  pub place : t < 3 * s.size
  pub same : (u : ℕ) → u < t → slice_index (code other) u ≡ slice_index (code s) u
  pub smaller : slice_index (code other) t < slice_index (code s) t

-- The same of a partial table, in which 0 stands for an image that is not known.
pub record ReadsKnown (partial : Symbol) (order : List ℕ) (u e : ℕ) : Type 0 where
  pub reads : Reads partial order u e
  pub known : op partial (index_at (u % 3)) (item order (1 + u / 3)) ≢ 0

-- different chambers of 1 to n
pub record AreMet (n : ℕ) (order : List ℕ) : Type 0 where
  pub distinct : AreDistinct order
  pub chambers : AllByRecursion (λ d. (1 ≤ d) × (d ≤ n)) order

-- Under the numbers that a list gives to its chambers the partial table reads as the prefix up to place t and smaller there.
pub record BeatsPrefix (partial : Symbol) (prefix order : List ℕ) (t e : ℕ) : Type 0 where
  pub met : AreMet partial.size order
  pub place : t < length prefix
  pub same : (u : ℕ) → u < t → ReadsKnown partial order u (slice_index prefix u)
  pub there : ReadsKnown partial order t e
  pub smaller : e < slice_index prefix t

-- some numbering beats the prefix
pub record IsBeaten (partial : Symbol) (prefix : List ℕ) : Type 0 where
  pub order : List ℕ
  pub place : ℕ
  pub number : ℕ
  pub beats : BeatsPrefix partial prefix order place number

-- a list that begins with another
pub record Extends (xs ys : List ℕ) : Type 0 where
  pub longer : length xs ≤ length ys
  pub same : (i : ℕ) → i < length xs → slice_index ys i ≡ slice_index xs i
