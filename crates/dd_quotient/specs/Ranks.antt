-- The least chambers of the classes of alike chambers, numbered in ascending order.
use Rattle.std.specs.Prelude.{◌≡◌, ℕ, ◌≤◌, List, length}
use Rattle.dd_model.specs.declared.index.Index.{Index}
use Rattle.dd_model.specs.declared.pair.Pair.{Pair}
use Rattle.dd_model.specs.Symbol.{Symbol, item, op, degree}
use Rattle.dd_model.specs.Isomorphic.{HaveLengths}

-- each class of the chambers 1 to n has a leader, the least chamber in it
pub record HaveLeaders (classes : List ℕ) : Type 0 where
  pub low : (d : ℕ) → 1 ≤ d → d ≤ length classes → 1 ≤ item classes d
  pub high : (d : ℕ) → 1 ≤ d → d ≤ length classes → item classes d ≤ d
  pub own : (d : ℕ) → 1 ≤ d → d ≤ length classes → item classes (item classes d) ≡ item classes d

-- ranks are counted from 1
abbrev pub IsRank : List ℕ → ℕ → Type 0
IsRank leaders e = (1 ≤ e) × (e ≤ length leaders)

-- The leaders among the chambers 1 to k, ascending, and for each of these chambers the rank of the leader of its class.
pub record AreRanks (classes leaders ranks : List ℕ) (k : ℕ) : Type 0 where
  pub whole : length ranks ≡ k
  pub few : length leaders ≤ k
  pub within : (d : ℕ) → 1 ≤ d → d ≤ k → IsRank leaders (item ranks d)
  pub own_class : (d : ℕ) → 1 ≤ d → d ≤ k → item leaders (item ranks d) ≡ item classes d
  pub low : (e : ℕ) → IsRank leaders e → 1 ≤ item leaders e
  pub high : (e : ℕ) → IsRank leaders e → item leaders e ≤ k
  pub own_rank : (e : ℕ) → IsRank leaders e → item ranks (item leaders e) ≡ e
  pub ascending : (e e' : ℕ) → IsRank leaders e → IsRank leaders e' → e ≤ e' → item leaders e ≤ item leaders e'

-- the list holds the values of h at 1 to k
pub record AreValues (h : ℕ → ℕ) (k : ℕ) (xs : List ℕ) : Type 0 where
  pub whole : length xs ≡ k
  pub each : (e : ℕ) → 1 ≤ e → e ≤ k → item xs e ≡ h e

-- the rank of the image of the leader with a rank
abbrev pub image_of : Symbol → List ℕ → List ℕ → Index → ℕ → ℕ
image_of s leaders ranks i e = item ranks (op s i (item leaders e))

-- the degree of the leader with a rank
abbrev pub degree_of : Symbol → List ℕ → Pair → ℕ → ℕ
degree_of s leaders p e = degree s p (item leaders e)

-- m has for each rank the images and the degrees of its leader
pub record IsNumbered (s : Symbol) (leaders ranks : List ℕ) (m : Symbol) : Type 0 where
  pub lengths : HaveLengths m
  pub size : m.size ≡ length leaders
  pub op : (i : Index) (e : ℕ) → IsRank leaders e → op m i e ≡ image_of s leaders ranks i e
  pub degree : (p : Pair) (e : ℕ) → IsRank leaders e → degree m p e ≡ degree_of s leaders p e
