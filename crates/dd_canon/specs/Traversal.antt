-- A traversal from a start chamber, as far as it has come, and how its code stands against that of another symbol.
use Rattle.std.specs.Prelude.{◌≡◌, ◌⊎◌, ℕ, ◌+◌, ◌<◌, ◌≤◌, List, ◌++◌, length, max, cond, eqb}
use Rattle.std.specs.List.{sum_by}
use Rattle.std.specs.Ordering.{nat_cmp, ordering_then}
use Rattle.std.specs.Cmp.Lexicographic.{slice_cmp}
use Rattle.std.specs.declared.cmp.Ordering.{Ordering}
use Rattle.dd_model.specs.declared.index.Index.{Index}
use Rattle.dd_model.specs.Symbol.{Symbol, item, op}
use Rattle.dd_model.specs.Isomorphic.{IsIsomorphism}
use Rattle.dd_model.specs.Code.{code_cmp}
use Rattle.dd_model.specs.Partial.{Completes}
use Rattle.dd_model.specs.FirstVisit.{Grows, IsFirstVisit}

-- one for each chamber that has no number
abbrev pub unnumbered : ℕ → ℕ
unnumbered x = cond (eqb x 0) 1 0

-- Some of the chambers 1 to n in the order of their numbers, and the number of each, which is 0 where it has none.
pub record IsVisit (n : ℕ) (order number : List ℕ) : Type 0 where
  pub numbers : length number ≡ n
  pub within : (k : ℕ) → 1 ≤ k → k ≤ length order → (1 ≤ item order k) × (item order k ≤ n)
  pub numbered : (k : ℕ) → 1 ≤ k → k ≤ length order → item number (item order k) ≡ k
  pub ordered : (d : ℕ) → 1 ≤ d → d ≤ n → (item number d ≡ 0) ⊎ ((1 ≤ item number d) × (item number d ≤ length order) × (item order (item number d) ≡ d))
  pub room : sum_by unnumbered number + length order ≡ n

-- Chamber d is met and has number x, which is the next one where it had none.
pub record IsMeeting (order order' number' : List ℕ) (d x : ℕ) : Type 0 where
  pub longer : length order ≤ length order'
  pub kept : (k : ℕ) → 1 ≤ k → k ≤ length order → item order' k ≡ item order k
  pub number : item number' d ≡ x
  pub positive : 1 ≤ x
  pub at : item order' x ≡ d
  pub next : x ≤ length order + 1
  pub top : length order' ≡ max (length order) x

-- t is s in numbers that begin with an order of chambers
pub record IsExtension (s : Symbol) (order : List ℕ) (t : Symbol) (f : List ℕ) : Type 0 where
  pub isomorphism : IsIsomorphism s t f
  pub begins : (k : ℕ) → 1 ≤ k → k ≤ length order → item f (item order k) ≡ k

-- What is left of the code of a symbol in the new numbers is `rest`, and the degrees. The numbers so far are forced by the first chamber.
-- The code before stands to that of b as o says.
pub record IsTraversal (s b : Symbol) (order number : List ℕ) (k : ℕ) (rest : Symbol → List ℕ) (o : Ordering) : Type 0 where
  pub visit : IsVisit s.size order number
  pub begun : 1 ≤ length order
  pub closed : (i : Index) (j : ℕ) → 1 ≤ j → j < k → j ≤ length order → 1 ≤ item number (op s i (item order j))
  pub decides : (t : Symbol) (f : List ℕ) → IsExtension s order t f → Grows (length order) (rest t) → IsFirstVisit t
  pub forced : (t : Symbol) (f : List ℕ) → IsIsomorphism s t f → item f (item order 1) ≡ 1 → IsFirstVisit t → IsExtension s order t f × Grows (length order) (rest t)
  pub verdict : (t : Symbol) (f : List ℕ) → IsExtension s order t f
      → code_cmp t b ≡ ordering_then o (slice_cmp nat_cmp (rest t ++ (t.m01 ++ t.m12)) (rest b ++ (b.m01 ++ b.m12)))

-- a traversal of a partial table: it is that of each completion, compared with the completion's own code
pub record IsPartialTraversal (partial : Symbol) (order number : List ℕ) (k : ℕ) (rest : Symbol → List ℕ) (o : Ordering) : Type 0 where
  pub all : (s : Symbol) → Completes partial s → IsTraversal s s order number k rest o
