-- The order in which the chambers are first visited from chamber 1, and the sides by which none is.
use Rattle.std.specs.Prelude.{◌≡◌, ◌≢◌, ◌⊎◌, ℕ, ◌+◌, ◌*◌, ◌<◌, ◌≤◌, List}
use Rattle.dd_model.specs.Symbol.{Symbol, IsChamber, item, op}
use Rattle.dd_model.specs.FirstVisit.{IsNumberedFrom}
use Rattle.dd_model.specs.declared.index.Index.{Index}
use Rattle.dd_model.specs.declared.pair.Pair.{Pair}
use Rattle.dd_covers.specs.Ends.{IsOfCells, IsLevel}
use Rattle.dd_model.specs.Indices.{index_number}

-- the number of each chamber in the order of first visits from chamber 1
pub record IsVisitOrder (s : Symbol) (f : List ℕ) : Type 0 where
  pub numbered : Symbol
  pub is : IsNumberedFrom s 1 numbered
  pub map : is.map ≡ f

-- steps, or sides, by a number and then by the involution, as numbers
abbrev pub rank : Index → ℕ → ℕ
rank i d = 3 * d + index_number i

-- by a number, and then by the involution
abbrev pub IsBefore : ℕ → Index → ℕ → Index → Type 0
IsBefore m i n j = (m < n) ⊎ ((m ≡ n) × (index_number i < index_number j))

-- By the step from d by involution i a chamber is first reached: of all steps to it, this is the one from the chamber of the
-- least number, and by the first involution. Chamber 1 is reached by none.
pub record IsFirstStep (s : Symbol) (f : List ℕ) (i : Index) (d : ℕ) : Type 0 where
  pub new : op s i d ≢ 1
  pub first : (j : Index) (e : ℕ) → IsChamber s e → op s j e ≡ op s i d → IsBefore (item f e) j (item f d) i → ⊥

-- by no step along the side of d, told by the least of its chambers, a chamber is first reached
pub record IsFree (s : Symbol) (f : List ℕ) (i : Index) (d : ℕ) : Type 0 where
  pub chamber : IsChamber s d
  pub least : d ≤ op s i d
  pub there : ¬ IsFirstStep s f i d
  pub back : ¬ IsFirstStep s f i (op s i d)

-- Free sides that come before one join its two ends: no value of cells that is equal at the ends of each of them
-- differs at its ends.
abbrev pub AreEndsJoined : Symbol → List ℕ → Index → ℕ → Type 0
AreEndsJoined s f i d = (g : Pair → ℕ → ℕ) → IsOfCells s g
    → ((j : Index) (e : ℕ) → IsFree s f j e → IsBefore e j d i → IsLevel g j e) → IsLevel g i d
