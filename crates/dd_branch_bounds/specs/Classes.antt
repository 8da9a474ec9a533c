-- The classes of paths by their number of chambers and whether an involution is known to fix one of them.
use Rattle.std.specs.Prelude.{◌≡◌, ◌⊎◌, ℕ, ◌+◌, ◌-◌, ◌*◌, ◌/◌, ◌%◌, ◌<◌, ◌≤◌, leb, nat_eq, cond, get_or, List}
use Rattle.dd_model.specs.Wanted.{IsCrystallographic}
use Rattle.dd_model.specs.declared.pair.Pair.{Pair}
use Rattle.dd_model.specs.declared.requests.Request.{Request}
use Rattle.dd_branch_bounds.specs.Shares.{IsAllowed}
use Rattle.dd_branch_bounds.specs.Units.{share_unit}
use Rattle.dd_branch_bounds.specs.Changes.{IsShareFrom}

-- the class of two paths in one: their chambers together, capped where one of them is
abbrev pub joined_class : ℕ → ℕ → ℕ
joined_class a b = cond (leb 128 (a + b)) (a + b - 64) (a + b)

-- A cell with the chambers of a path of a class has no smaller degree, in a table of n chambers: a chain has as many turns as
-- chambers, a cycle half as many. A cell with all chambers is a chain where their number is odd.
abbrev pub turns_of : ℕ → ℕ → ℕ
turns_of n c = cond (leb 64 c) (c % 64) (cond (nat_eq c n) (cond (nat_eq (n % 2) 1) n ((n + 1) / 2)) ((c + 1) / 2))

-- a share that is right for each degree of a cell of so many turns that a request allows
pub record IsWholeShare (q : Request) (p : Pair) (turns v : ℕ) : Type 0 where
  pub right : (b : ℕ) → IsCrystallographic b → IsAllowed q p (b * turns) → share_unit ≤ v * (b * turns)
  pub small : v ≤ share_unit

-- A share that is right for the paths with ends of a class in tables of n chambers. From 129 on a number stands for the whole cells of 1, 2, 3 turns and so
-- on: it is the sum of the classes of two paths with fixed ends that make such a chain.
pub record IsClassShare (q : Request) (p : Pair) (n c v : ℕ) : Type 0 where
  pub with_ends : c < 128 → 1 ≤ c % 64 → IsShareFrom q p (turns_of n c) v
  pub whole : (turns : ℕ) → 1 ≤ turns → turns ≤ 36 → c ≡ 128 + turns → IsWholeShare q p turns v
  pub small : v ≤ share_unit

-- what the chambers of a path of a class have together, or as many of such a whole cell as it has turns: each has its share
pub record IsClassWeight (q : Request) (p : Pair) (n c w : ℕ) : Type 0 where
  pub told : IsClassShare q p n c (w / (c % 64))
  pub whole : w ≡ c % 64 * (w / (c % 64))

-- what they have for each class
pub record AreClassWeights (q : Request) (p : Pair) (n : ℕ) (weights : List ℕ) : Type 0 where
  pub each : (c : ℕ) → c < 192 → IsClassWeight q p n c (get_or weights c 0)

-- the share of each chamber of a path of a class
abbrev pub share_in : List ℕ → ℕ → ℕ
share_in weights c = get_or weights c 0 / (c % 64)

-- what so many chambers have together, where each has the same share
pub record IsWeightOf (P : ℕ → Type 0) (chambers w : ℕ) : Type 0 where
  pub share : ℕ
  pub right : P share
  pub all : w ≡ chambers * share

-- ## Paths without ends

-- a cell with the chambers of a path of a class, and no others, has so many turns
abbrev pub AreClosedTurns : ℕ → ℕ → Type 0
AreClosedTurns c turns = ((64 ≤ c) × (turns ≡ c % 64)) ⊎ ((c < 64) × (2 * turns ≡ c % 64))

-- a share that is right for a cell with the chambers of a path of a class, and no others
pub record IsClosedShare (q : Request) (p : Pair) (c v : ℕ) : Type 0 where
  pub right : (turns : ℕ) → 1 ≤ turns → turns ≤ 36 → AreClosedTurns c turns → IsWholeShare q p turns v
  pub small : v ≤ share_unit

-- the share after an involution has fixed the end of a path of a class, which closes it where the other end is fixed
pub record IsCappedShare (q : Request) (p : Pair) (weights : List ℕ) (c v : ℕ) : Type 0 where
  pub closed : 64 ≤ c → IsClosedShare q p c v
  pub goes_on : c < 64 → v ≡ share_in weights (64 + c % 64)

-- the share after an involution has joined the ends of paths of two classes, which closes them where both other ends are fixed
pub record IsJoinedShare (q : Request) (p : Pair) (weights : List ℕ) (a b v : ℕ) : Type 0 where
  pub closed : 64 ≤ a → 64 ≤ b → IsClosedShare q p (joined_class a b) v
  pub goes_on : (a < 64) ⊎ (b < 64) → v ≡ share_in weights (joined_class a b)
