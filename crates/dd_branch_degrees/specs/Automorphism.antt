-- Where the chambers of a table go together.
use Rattle.std.specs.Prelude.{◌≡◌, ℕ, ◌<◌, ◌≤◌, List, length, map, slice_index, slice_index_or}
use Rattle.std.specs.Ordering.{nat_cmp, ordering_then}
use Rattle.std.specs.Cmp.Lexicographic.{slice_cmp}
use Rattle.std.specs.declared.cmp.Ordering.TheVariants.{Greater}
use Rattle.dd_model.specs.declared.index.Index.{Index}
use Rattle.dd_model.specs.Isomorphic.{IsBijection}
use Rattle.dd_model.specs.Symbol.{Symbol, IsChamber, item, op}
use Rattle.dd_branch_degrees.specs.declared.automorphisms.Automorphism.{Automorphism}

-- a list that goes along with the involutions, sends chamber 1 to d, and can be undone
pub record IsAutomorphism (s : Symbol) (d : ℕ) (f : List ℕ) : Type 0 where
  pub bijection : IsBijection s.size f
  pub along : (i : Index) (k : ℕ) → IsChamber s k → item f (op s i k) ≡ op s i (item f k)
  pub first : item f 1 ≡ d

-- the numbers of the chambers to which a list sends each
abbrev pub along_list : List ℕ → List ℕ → List ℕ
along_list f xs = map (item xs) f

-- the degrees are greater than those of the chambers to which a list sends theirs, in the order of the code
abbrev pub IsBehind : List ℕ → List ℕ → List ℕ → Type 0
IsBehind f m01 m12 = ordering_then (slice_cmp nat_cmp m01 (along_list f m01)) (slice_cmp nat_cmp m12 (along_list f m12)) ≡ Greater

-- an automorphism to each of some chambers
pub record AreAutomorphisms (s : Symbol) (ds : List ℕ) (xs : List Automorphism) : Type 0 where
  pub count : length xs ≡ length ds
  pub each : (j : ℕ) (x : Automorphism) → j < length xs → IsAutomorphism s (slice_index ds j) (slice_index_or xs j x).chambers.items

-- a list that sends the chambers 1 to n to such ones
pub record IsWithin (n : ℕ) (f : List ℕ) : Type 0 where
  pub count : length f ≡ n
  pub each : (k : ℕ) → 1 ≤ k → k ≤ n → (1 ≤ item f k) × (item f k ≤ n)
