-- What becomes of the ends of paths.
use Rattle.std.specs.Prelude.{◌≡◌, ◌≢◌, ◌⊎◌, ◌↔◌, ℕ, ◌+◌, ◌*◌, ◌/◌, ◌%◌, ◌≤◌, IsTrue}
use Rattle.dd_model.specs.declared.pair.Pair.{Pair}
use Rattle.dd_model.specs.declared.requests.Request.{Request}
use Rattle.dd_model.specs.Symbol.{Symbol}
use Rattle.dd_branch_bounds.specs.Ends.{IsInside, led}
use Rattle.dd_branch_bounds.specs.PathEnd.{PathEnd}
use Rattle.dd_branch_bounds.specs.Shares.{IsAllowed}
use Rattle.dd_branch_bounds.specs.Units.{share_unit}

-- a share that is right for each degree that a request allows, from k on
pub record IsShareFrom (q : Request) (p : Pair) (k v : ℕ) : Type 0 where
  pub right : (m : ℕ) → IsAllowed q p m → k ≤ m → share_unit ≤ v * m
  pub small : v ≤ share_unit

-- an end that is none of the path of x stays as it was
pub record IsElsewhere (old new : ℕ → PathEnd) (x z : ℕ) : Type 0 where
  pub same : new z ≡ old z
  pub not_this : z ≢ x
  pub not_other : z ≢ (old x).other

-- ## Two paths that are joined

-- in all of some tables an involution of the pair joins two paths at x and y
pub record IsLink (C : Symbol → Type 0) (p : Pair) (ends : ℕ → PathEnd) (x y : ℕ) : Type 0 where
  pub first_end : 1 ≤ (ends x).chambers
  pub second_end : 1 ≤ (ends y).chambers
  pub apart : y ≢ x
  pub no_other : y ≢ (ends x).other
  pub side : (s : Symbol) → C s → y % 2 ≡ x % 2
  pub leads : (s : Symbol) → C s → led s p x ≡ y / 2

-- an involution fixes one of the chambers of two paths, or these are all n chambers, and n is odd
abbrev pub AreOfChain : ℕ → (ℕ → PathEnd) → ℕ → ℕ → Type 0
AreOfChain n ends x y = (IsTrue (ends x).is_capped ⊎ IsTrue (ends y).is_capped)
    ⊎ (((ends x).chambers + (ends y).chambers ≡ n) × (n % 2 ≡ 1))

-- k is at most half of the number of chambers of two paths, or all of it where they are of a chain: a cell with these chambers has
-- no smaller degree
abbrev pub HasTurns : ℕ → (ℕ → PathEnd) → ℕ → ℕ → ℕ → Type 0
HasTurns n ends x y k = (k ≤ ((ends x).chambers + (ends y).chambers + 1) / 2)
    ⊎ (AreOfChain n ends x y × (k ≤ (ends x).chambers + (ends y).chambers))

-- what stands at the other end of one of two paths that are joined
pub record IsJoined (old : ℕ → PathEnd) (x y v mate : ℕ) (e : PathEnd) : Type 0 where
  pub chambers : e.chambers ≡ (old x).chambers + (old y).chambers
  pub share : e.share ≡ v
  pub other : e.other ≡ mate
  pub capped : IsTrue e.is_capped ↔ (IsTrue (old x).is_capped ⊎ IsTrue (old y).is_capped)

-- the ends after two paths were joined: the other end of a path is one unless an involution fixes it
abbrev pub AreJoined : (old new : ℕ → PathEnd) (x y v : ℕ) → Type 0
AreJoined old new x y v = (z : ℕ) → 1 ≤ (new z).chambers
    → ((z ≡ (old x).other) × ((IsTrue (old x).is_capped → ⊥) × IsJoined old x y v (old y).other (new z)))
    ⊎ (((z ≡ (old y).other) × ((IsTrue (old y).is_capped → ⊥) × IsJoined old x y v (old x).other (new z)))
    ⊎ (IsElsewhere old new x z × IsElsewhere old new y z))

-- ## A path that ends at a fixed chamber, or is closed

-- in all of some tables an involution of the pair fixes the end of a path
pub record IsFixedEnd (C : Symbol → Type 0) (p : Pair) (ends : ℕ → PathEnd) (x : ℕ) : Type 0 where
  pub is_end : 1 ≤ (ends x).chambers
  pub fixed : (s : Symbol) → C s → led s p x ≡ x / 2

-- what stands at the other end of a path with a fixed end
pub record IsRenewed (old : ℕ → PathEnd) (x v : ℕ) (e : PathEnd) : Type 0 where
  pub chambers : e.chambers ≡ (old x).chambers
  pub share : e.share ≡ v
  pub other : e.other ≡ x
  pub capped : IsTrue e.is_capped

-- the ends after one of them was fixed
abbrev pub AreFixed : (old new : ℕ → PathEnd) (x v : ℕ) → Type 0
AreFixed old new x v = (z : ℕ) → 1 ≤ (new z).chambers
    → ((z ≡ (old x).other) × IsRenewed old x v (new z)) ⊎ IsElsewhere old new x z

-- the ends after a path was closed
abbrev pub AreClosed : (old new : ℕ → PathEnd) (x : ℕ) → Type 0
AreClosed old new x = (z : ℕ) → 1 ≤ (new z).chambers → IsElsewhere old new x z

-- ## Chambers that are paths of their own

-- both flags of a chamber of which nothing is known
pub record IsAlone (n v : ℕ) (ends : ℕ → PathEnd) (x : ℕ) : Type 0 where
  pub inside : IsInside n (x / 2)
  pub chambers : (ends x).chambers ≡ 1
  pub share : (ends x).share ≡ v
  pub not_capped : IsTrue (ends x).is_capped → ⊥
  pub other : (ends x).other / 2 ≡ x / 2
  pub both : (z : ℕ) → z / 2 ≡ x / 2 → (z ≡ x) ⊎ (z ≡ (ends x).other)
