-- Prefixes of codes in which the chambers are numbered in the order of their first visit.
use Rattle.std.specs.Prelude.{◌≡◌, ◌≢◌, ℕ, ◌+◌, ◌*◌, ◌/◌, ◌%◌, ◌<◌, ◌≤◌, max, List, [], ◌∷◌, ◌++◌, length, take, slice_index}
use Rattle.std.specs.List.{Contains}
use Rattle.dd_model.specs.declared.index.Index.{Index}
use Rattle.dd_front_jobs.specs.Places.{place}

-- the number that a prefix has for s_i(d)
abbrev pub image_in : List ℕ → Index → ℕ → ℕ
image_in prefix i d = slice_index prefix (place i d)

-- the prefix has a number for s_i(d)
abbrev pub IsTold : List ℕ → Index → ℕ → Type 0
IsTold prefix i d = (1 ≤ d) × (place i d < length prefix)

-- the greatest of 1 and the numbers of a list
abbrev pub greatest : List ℕ → ℕ
greatest [] = 1
greatest (x ∷ xs) = max x (greatest xs)

-- chambers come in the order of their first visit
pub record IsFirstVisitPrefix (n : ℕ) (prefix : List ℕ) : Type 0 where
  -- Its numbers are 1 to n, and there are at most 3n of them.
  pub within : (t : ℕ) → t < length prefix → (1 ≤ slice_index prefix t) × (slice_index prefix t ≤ n)
  pub short : length prefix ≤ 3 * n
  -- An image of an image that is told is the chamber itself.
  pub involutive : (i : Index) (d : ℕ) → IsTold prefix i d → IsTold prefix i (image_in prefix i d) → image_in prefix i (image_in prefix i d) ≡ d
  -- For one i the numbers at different chambers differ.
  pub distinct : (i : Index) (d e : ℕ) → IsTold prefix i d → IsTold prefix i e → d ≢ e → image_in prefix i d ≢ image_in prefix i e
  -- Each number is at most one more than the greatest of 1 and all numbers before it.
  pub next : (t : ℕ) → t < length prefix → slice_index prefix t ≤ greatest (take t prefix) + 1
  -- The numbers of the first k chambers, where all are told, have the chamber k + 1 among them.
  pub reached : (k : ℕ) → 1 ≤ k → k < n → 3 * k ≤ length prefix → Contains (take (3 * k) prefix) (k + 1)

-- how a new number at place t stands to one at an earlier place u of the same involution
pub record FitsAt (prefix : List ℕ) (k t u : ℕ) : Type 0 where
  pub fresh : slice_index prefix u ≢ k
  pub back : k ≡ 1 + u / 3 → slice_index prefix u ≡ 1 + t / 3
  pub forth : slice_index prefix u ≡ 1 + t / 3 → k ≡ 1 + u / 3

-- the number may come after a prefix
pub record CanFollow (n : ℕ) (prefix : List ℕ) (k : ℕ) : Type 0 where
  pub room : length prefix < 3 * n
  pub positive : 1 ≤ k
  pub small : k ≤ n
  pub next : k ≤ greatest prefix + 1
  pub fits : (u : ℕ) → u < length prefix → u % 3 ≡ length prefix % 3 → FitsAt prefix k (length prefix) u
  pub reached : (m : ℕ) → 1 ≤ m → m < n → length prefix + 1 ≡ 3 * m → Contains (prefix ++ k ∷ []) (m + 1)

-- each chamber but 1 is met among the images of the chambers before it
pub record AreMet (n : ℕ) (numbers : List ℕ) : Type 0 where
  pub met : (k : ℕ) → 1 ≤ k → k < n → k + 1 ≤ greatest (take (3 * k) numbers)
