-- Numberings in which the chambers are first met in the order of their numbers.
use Rattle.std.specs.Prelude.{◌≡◌, ◌≢◌, ℕ, ◌+◌, ◌≤◌, List, [], ◌∷◌, max}
use Rattle.std.specs.List.{flat_map}
use Rattle.std.specs.declared.cmp.Ordering.TheVariants.{Greater}
use Rattle.dd_model.specs.Symbol.{Symbol, IsTable, item}
use Rattle.dd_model.specs.Isomorphic.{IsIsomorphism, Isomorphic}
use Rattle.dd_model.specs.Code.{all_images, images, count_from, code_cmp}

-- Each number is at most one more than the greatest before it, where m stands before the first.
abbrev pub Grows : ℕ → List ℕ → Type 0
Grows m [] = Unit {0}
Grows m (x ∷ xs) = (x ≤ m + 1) × Grows (max m x) xs

-- the images of n chambers from k on
abbrev pub rows : Symbol → ℕ → ℕ → List ℕ
rows s k n = flat_map (images s) (count_from k n)

-- Read in the order of the code, a chamber that is met for the first time has the next number.
abbrev pub IsFirstVisit : Symbol → Type 0
IsFirstVisit s = Grows 1 (all_images s)

-- t is s in the numbers of the first visits from a start chamber
pub record IsNumberedFrom (s : Symbol) (start : ℕ) (t : Symbol) : Type 0 where
  pub table : IsTable t
  pub map : List ℕ
  pub isomorphism : IsIsomorphism s t map
  pub start_first : item map start ≡ 1
  pub first_visit : IsFirstVisit t

-- No renumbering of a table has a smaller code. A symbol that is least is so as a table.
abbrev pub LeastTable : Symbol → Type 0
LeastTable s = (t : Symbol) → IsTable t → Isomorphic s t → code_cmp s t ≢ Greater

-- the renumbering of a table that is least
pub record IsLeastTableForm (s t : Symbol) : Type 0 where
  pub table : IsTable t
  pub renumbering : Isomorphic s t
  pub least : LeastTable t
