-- How the numbering by first visits from a start stands to the code of another symbol.
use Rattle.std.specs.Prelude.{◌≡◌, ◌≢◌, ◌⊎◌, ℕ, ◌+◌, ◌-◌, ◌≤◌, List, map, vec_capacity}
use Rattle.std.specs.Ordering.{nat_cmp, ordering_then}
use Rattle.std.specs.declared.cmp.Ordering.{Ordering}
use Rattle.std.specs.declared.cmp.Ordering.TheVariants.{Greater}
use Rattle.dd_model.specs.declared.index.Index.{Index}
use Rattle.dd_model.specs.declared.pair.Pair.{Pair}
use Rattle.dd_model.specs.Symbol.{Symbol, IsTable, item, op, degree}
use Rattle.dd_model.specs.Connected.{Connected}
use Rattle.dd_model.specs.Small.{IsSmallSymbol}
use Rattle.dd_model.specs.Isomorphic.{IsIsomorphism}
use Rattle.dd_model.specs.Code.{code_cmp, chambers}
use Rattle.dd_model.specs.FirstVisit.{rows, IsNumberedFrom}
use Rattle.dd_canon.specs.Traversal.{IsVisit, IsMeeting, IsTraversal}
use Rattle.dd_symbol.specs.Maps.{AreInverse}
use Rattle.dd_canon.specs.declared.visits.NumberedChambers.{NumberedChambers}

-- the lists of a visit to a connected symbol, with room for all its chambers
pub record IsReady (s : Symbol) (v : NumberedChambers) : Type 0 where
  pub symbol : IsSmallSymbol s
  pub connected : Connected s
  pub visit : IsVisit s.size v.order.items v.number.items
  pub room : s.size ≤ vec_capacity v.order

-- a chamber is met, and its number compared with another one after what stands before it
pub record IsMetAndCompared (image own : ℕ) (so_far : Ordering) (order order' number' : List ℕ) (o : Ordering) : Type 0 where
  pub number : ℕ
  pub meeting : IsMeeting order order' number' image number
  pub verdict : o ≡ ordering_then so_far (nat_cmp number own)

-- the image of chamber k of an order is met, and compared with that of chamber k
abbrev pub IsStep : Symbol → Symbol → Index → ℕ → Ordering → List ℕ → List ℕ → List ℕ → Ordering → Type 0
IsStep s b i k so_far order order' number' o = IsMetAndCompared (op s i (item order k)) (op b i k) so_far order order' number' o

-- the numbering by first visits from the start stands to b as o says
pub record IsStanding (s b : Symbol) (start : ℕ) (o : Ordering) : Type 0 where
  pub stands : (t : Symbol) → IsNumberedFrom s start t → code_cmp t b ≡ o

-- no numbering by first visits from one of the chambers 1 to n is below t
pub record IsBestTo (s : Symbol) (n : ℕ) (t : Symbol) : Type 0 where
  pub best : (d : ℕ) (u : Symbol) → 1 ≤ d → d ≤ n → IsNumberedFrom s d u → code_cmp t u ≢ Greater

-- a traversal from the start that is above b, or one that goes on
abbrev pub IsOngoing : Symbol → Symbol → ℕ → List ℕ → List ℕ → ℕ → (Symbol → List ℕ) → Ordering → Type 0
IsOngoing s b start order number k rest o =
    ((o ≡ Greater) × IsStanding s b start Greater) ⊎ (IsTraversal s b order number k rest o × (item order 1 ≡ start))

-- a traversal in which the images of the chambers before the one with number k have numbers, whatever its code is
pub record IsNumbering (s : Symbol) (k : ℕ) (order number : List ℕ) : Type 0 where
  pub so_far : Ordering
  pub traversal : IsTraversal s s order number k (λ u. rows u k (s.size + 1 - k)) so_far

-- the numbers by first visits from the start, which the order undoes
pub record IsWhole (s : Symbol) (start : ℕ) (order number : List ℕ) : Type 0 where
  pub inverse : AreInverse s.size number order
  pub start_first : item number start ≡ 1
  pub numbered : (t : Symbol) → IsTable t → IsIsomorphism s t number → IsNumberedFrom s start t

-- the degrees of a pair at all chambers
abbrev pub degree_list : Symbol → Pair → List ℕ
degree_list s p = map (degree s p) (chambers s)
