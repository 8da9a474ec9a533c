-- The shifts of the edges of a torus, as each chamber passes its edge.
use Rattle.std.specs.Prelude.{◌≡◌, ℕ, ◌-◌, ◌≤◌, nat_abs, ℤ, pos, ◌-ℤ◌, List, length, slice_index_or}
use Rattle.dd_model.specs.Symbol.{Symbol, IsChamber, item, op}
use Rattle.dd_model.specs.declared.index.Index.TheVariants.{Zero, Two}

-- the number of a chamber
abbrev pub number_at : List ℤ → ℕ → ℤ
number_at list d = slice_index_or list (d - 1) (pos 0)

-- a number of chambers that is opposite along an edge, and equal across it
pub record IsPassed (t : Symbol) (z : ℕ → ℤ) : Type 0 where
  pub back : (d : ℕ) → IsChamber t d → z (op t Zero d) ≡ pos 0 -ℤ z d
  pub across : (d : ℕ) → IsChamber t d → z (op t Two d) ≡ z d

-- the four chambers of an edge have their numbers
pub record AreSetAt (t : Symbol) (z : ℕ → ℤ) (d : ℕ) (list : List ℤ) : Type 0 where
  pub own : number_at list d ≡ z d
  pub across : number_at list (op t Two d) ≡ z (op t Two d)
  pub back : number_at list (op t Zero d) ≡ z (op t Zero d)
  pub beyond : number_at list (op t Zero (op t Two d)) ≡ z (op t Zero (op t Two d))

-- a number was put at the four chambers of an edge: what is right stays right
pub record IsPutAt (t : Symbol) (d : ℕ) (value : ℤ) (old new : List ℤ) : Type 0 where
  pub whole : length new ≡ length old
  pub set : (z : ℕ → ℤ) → IsPassed t z → z d ≡ value → AreSetAt t z d new
  pub kept : (z : ℕ → ℤ) (e : ℕ) → IsPassed t z → z d ≡ value → IsChamber t e → number_at old e ≡ z e → number_at new e ≡ z e

-- the numbers of all chambers
pub record AreNumbers (t : Symbol) (z : ℕ → ℤ) (list : List ℤ) : Type 0 where
  pub whole : length list ≡ t.size
  pub each : (d : ℕ) → IsChamber t d → number_at list d ≡ z d
  pub small : (d : ℕ) → IsChamber t d → nat_abs (z d) ≤ 1

-- a chamber whose image has a number of at most 1 in size
pub record HasSmallImage (list : List ℤ) (map : List ℕ) (d : ℕ) : Type 0 where
  pub low : 1 ≤ d
  pub high : d ≤ length map
  pub image_low : 1 ≤ item map d
  pub image_high : item map d ≤ length list
  pub small : nat_abs (number_at list (item map d)) ≤ 1
