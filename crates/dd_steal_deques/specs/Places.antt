-- The hands of one rack: each has a deque of its own, and a way into the deque of each other hand.
use Rattle.std.specs.Prelude.{◌≡◌, ℕ, zero, suc, ◌+◌, ◌-◌, ◌<◌, ◌==◌, List, [], ◌∷◌, ◌++◌, Some, map, length, All, slice_get, slice_index_or, if◌then◌else◌}
use Rattle.std.specs.Global.{Global}
use Rattle.atomic_blocks.specs.Lent.{RowsId}

-- which deque it is
abbrev pub Deck : Type 0
Deck = RowsId × Global

-- a way into the deque of the worker with this number
pub record End : Type 0 where
  pub from : ℕ
  pub deck : Deck

-- how many tickets were stolen from the deque of the worker with this number
pub record Theft : Type 0 where
  pub from : ℕ
  pub taken : ℕ

-- one more was stolen from the worker of this number, and as many as before from each other one
pub record StealsFrom (from : ℕ) (old new : List Theft) : Type 0 where
  pub before : List Theft
  pub taken : ℕ
  pub later : List Theft
  pub old_is : old ≡ before ++ record { from = from; taken = taken } ∷ later
  pub new_is : new ≡ before ++ record { from = from; taken = taken + 1 } ∷ later

-- a hand's own deque, how many ways of others lead into it, and the hand's ways
pub record Place : Type 0 where
  pub deck : Deck
  pub passes : ℕ
  pub ends : List End

-- the numbers from 1 to n but x
abbrev pub others : ℕ → ℕ → List ℕ
others x zero = []
others x (suc n) = if suc n == x then others x n else others x n ++ suc n ∷ []

-- it leads into the deque of the number that it says
pub record LeadsInto (decks : List Deck) (e : End) : Type 0 where
  pub counted : 0 < e.from
  pub into : slice_get decks (e.from - 1) ≡ Some e.deck

pub record IsPlaceOf (decks : List Deck) (worker : ℕ) (p : Place) : Type 0 where
  pub passes : p.passes + 1 ≡ length decks
  pub others : map (λ e. e.from) p.ends ≡ others worker (length decks)
  pub into : All (LeadsInto decks) p.ends

-- these are the places of all hands of one rack, in the order of the workers
abbrev pub IsRack : List Place → Type 0
IsRack places = (k : ℕ) (d : Place) → k < length places → IsPlaceOf (map (λ p. p.deck) places) (k + 1) (slice_index_or places k d)
