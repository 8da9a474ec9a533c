-- Nodes that are joined, part by part. Each node but the head of its part stands below a smaller one.
use Rattle.std.specs.Prelude.{◌≡◌, ℕ, ◌≤◌, ◌<◌, List, length, slice_index}

-- no node stands below a greater one
abbrev pub IsFalling : List ℕ → Type 0
IsFalling above = (n : ℕ) → slice_index above n ≤ n

-- a function of nodes is equal at each node and at the one above it
abbrev pub IsLevel : List ℕ → (ℕ → ℕ) → Type 0
IsLevel above h = (n : ℕ) → n < length above → h (slice_index above n) ≡ h n

-- Two nodes are in one part: no function that is level differs at them.
abbrev pub AreInOnePart : List ℕ → ℕ → ℕ → Type 0
AreInOnePart above a b = (h : ℕ → ℕ) → IsLevel above h → h a ≡ h b

-- both have the same parts
pub record HaveSameParts (old new : List ℕ) : Type 0 where
  pub lengths : length new ≡ length old
  pub to : (h : ℕ → ℕ) → IsLevel old h → IsLevel new h
  pub from : (h : ℕ → ℕ) → IsLevel new h → IsLevel old h

-- the parts of two nodes are one now, and the others are as before
pub record AreJoinedAt (old : List ℕ) (a b : ℕ) (new : List ℕ) : Type 0 where
  pub lengths : length new ≡ length old
  pub to : (h : ℕ → ℕ) → IsLevel old h → h a ≡ h b → IsLevel new h
  pub from : (h : ℕ → ℕ) → IsLevel new h → IsLevel old h
  pub joined : AreInOnePart new a b

-- the parts of the nodes at each of the first n places of two lists are one now, and nothing else is joined
pub record AreJoinedAlong (old ones others : List ℕ) (n : ℕ) (new : List ℕ) : Type 0 where
  pub lengths : length new ≡ length old
  pub to : (h : ℕ → ℕ) → IsLevel old h → ((k : ℕ) → k < n → h (slice_index ones k) ≡ h (slice_index others k)) → IsLevel new h
  pub from : (h : ℕ → ℕ) → IsLevel new h → IsLevel old h
  pub joined : (k : ℕ) → k < n → AreInOnePart new (slice_index ones k) (slice_index others k)
