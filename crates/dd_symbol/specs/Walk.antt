-- What the queue of a walk through the chambers keeps.
use Rattle.std.specs.Prelude.{◌≡◌, ℕ, ◌+◌, ◌-◌, ◌<◌, ◌≤◌, Bool, true, false, cond, List, length, slice_index, slice_index_or}
use Rattle.std.specs.List.{sum_by}
use Rattle.dd_model.specs.Symbol.{Symbol, IsChamber, op}
use Rattle.dd_model.specs.Connected.{IsReached}
use Rattle.dd_model.specs.declared.index.Index.{Index}

-- one for each chamber that is not marked
abbrev pub unseen : Bool → ℕ
unseen b = cond b 0 1

-- the flag of d is set
abbrev pub IsMarked : List Bool → ℕ → Type 0
IsMarked seen d = slice_index_or seen (d - 1) false ≡ true

-- what is queued is reached, what is marked is queued, and there is room for what is not marked
pub record IsWalk (s : Symbol) (seen : List Bool) (queue : List ℕ) : Type 0 where
  pub flags : length seen ≡ s.size
  pub chambers : (k : ℕ) → k < length queue → IsChamber s (slice_index queue k)
  pub reached : (k : ℕ) → k < length queue → IsReached s (slice_index queue k)
  pub queued : (d : ℕ) → IsChamber s d → IsMarked seen d → (k : ℕ) × (k < length queue) × (slice_index queue k ≡ d)
  pub room : sum_by unseen seen + length queue ≡ s.size

-- the images of the first chambers of the queue are marked
abbrev pub IsClosed : Symbol → List Bool → List ℕ → ℕ → Type 0
IsClosed s seen queue at = (k : ℕ) → k < at → (i : Index) → IsMarked seen (op s i (slice_index queue k))

-- marks stay, and the queue grows at its end
pub record Grows (seen : List Bool) (queue : List ℕ) (seen' : List Bool) (queue' : List ℕ) : Type 0 where
  pub marks : (d : ℕ) → IsMarked seen d → IsMarked seen' d
  pub longer : length queue ≤ length queue'
  pub same : (k : ℕ) → k < length queue → slice_index queue' k ≡ slice_index queue k
