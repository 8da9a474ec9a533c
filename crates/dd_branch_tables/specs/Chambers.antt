-- Sets of chambers, as bits.
use Rattle.std.specs.Prelude.{◌≡◌, ◌≢◌, ℕ, ◌<◌, ◌≤◌}
use Rattle.std.specs.Int.{bit_at}
use Rattle.dd_branch_tables.specs.declared.chamber_set.ChamberSet.{ChamberSet}

-- 1 for a chamber of the set, and else 0
abbrev pub bit_of : ChamberSet → ℕ → ℕ
bit_of set d = bit_at set.bits d

abbrev pub HasNone : ChamberSet → Type 0
HasNone set = set.bits ≡ 0

-- the set of one chamber
pub record HasOnly (set : ChamberSet) (d : ℕ) : Type 0 where
  pub here : bit_of set d ≡ 1
  pub others : (e : ℕ) → e ≢ d → bit_of set e ≡ 0

-- the chambers from 1 to a last one whose bits are set
pub record AreThoseTo (bits last : ℕ) (set : ChamberSet) : Type 0 where
  pub inside : (d : ℕ) → 1 ≤ d → d ≤ last → bit_of set d ≡ 0 → bit_at bits d ≡ 0
  pub past : (d : ℕ) → bit_of set d ≡ 1 → d ≤ last

-- a set with one chamber more
pub record HasMore (old : ChamberSet) (d : ℕ) (new : ChamberSet) : Type 0 where
  pub here : bit_of new d ≡ 1
  pub others : (e : ℕ) → e ≢ d → bit_of new e ≡ bit_of old e

-- the least chamber of a set, and the set without it
pub record IsFirst (old : ChamberSet) (d : ℕ) (new : ChamberSet) : Type 0 where
  pub within : d ≤ 36
  pub here : bit_of old d ≡ 1
  pub least : (e : ℕ) → e < d → bit_of old e ≡ 0
  pub gone : bit_of new d ≡ 0
  pub others : (e : ℕ) → e ≢ d → bit_of new e ≡ bit_of old e
  pub fewer : new.bits < old.bits
