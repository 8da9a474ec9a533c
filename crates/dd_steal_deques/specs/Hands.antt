-- What a hand counts, and where it stands in a rack.
use Rattle.std.specs.Prelude.{◌≡◌, ℕ, List, map, sum_by, slice_index_or}
use Rattle.crossbeam_deque.specs.Handles.{worker_view}
use Rattle.dd_front.specs.declared.naming.Naming.{Ghosts}
use Rattle.dd_steal_deques.specs.declared.way.Way.{Way}
use Rattle.dd_steal_deques.specs.declared.hand.Hand.{Hand}
use Rattle.dd_steal_deques.specs.Numbers.{HasAll}
use Rattle.dd_steal_deques.specs.Ends.{owner_deque, owner_passes, owner_taken, way_deque, way_taken}
use Rattle.dd_steal_deques.specs.Places.{Deck, End, Place, Theft}

module _ {N : Type 0} {names : Ghosts N} where
  -- how many tickets it pushed, of how many for which there is room
  abbrev pub hand_pushed : Hand N names → ℕ
  hand_pushed h = h.owner.pushed

  abbrev pub hand_room : Hand N names → ℕ
  hand_room h = h.owner.room

  -- how many tickets it popped, and how many it stole
  abbrev pub hand_popped : Hand N names → ℕ
  hand_popped h = owner_taken h.owner

  abbrev pub hand_stolen : Hand N names → ℕ
  hand_stolen h = sum_by way_taken h.ways.items

  abbrev pub way_theft : Way N names → Theft
  way_theft w = record { from = w.from; taken = way_taken w }

  -- how many tickets it stole from each other worker
  abbrev pub hand_thefts : Hand N names → List Theft
  hand_thefts h = map way_theft h.ways.items

  abbrev pub hand_deck : Hand N names → Deck
  hand_deck h = owner_deque h.owner

  -- how many ways of other hands lead into its deque
  abbrev pub hand_passes : Hand N names → ℕ
  hand_passes h = owner_passes h.owner

  abbrev pub HasAllOfHand : Hand N names → Type 0
  HasAllOfHand h = HasAll (worker_view h.owner.own)

  abbrev pub way_end : Way N names → End
  way_end w = record { from = w.from; deck = way_deque w }

  abbrev pub hand_ends : Hand N names → List End
  hand_ends h = map way_end h.ways.items

  abbrev pub hand_place : Hand N names → Place
  hand_place h = record { deck = hand_deck h; passes = hand_passes h; ends = hand_ends h }

  abbrev pub hand_ways : Hand N names → List (Way N names)
  hand_ways h = h.ways.items

  -- a hand but for how many ways of others lead into its deque
  abbrev pub hand_core : Hand N names → Deck × ℕ × ℕ × ℕ × List (Way N names)
  hand_core h = (hand_deck h, hand_room h, hand_pushed h, hand_popped h, hand_ways h)

  abbrev pub passes_at : List (Hand N names) → ℕ → ℕ
  passes_at hands k = slice_index_or (map hand_passes hands) k 0

  pub record IsNew (room : ℕ) (h : Hand N names) : Type 0 where
    pub has_room : hand_room h ≡ room
    pub pushed : hand_pushed h ≡ 0
    pub popped : hand_popped h ≡ 0
    pub stolen : hand_stolen h ≡ 0

  -- no way of another leads into its deque
  abbrev pub HasNoPasses : Hand N names → Type 0
  HasNoPasses h = hand_passes h ≡ 0

  abbrev pub HasPoppedAll : Hand N names → Type 0
  HasPoppedAll h = hand_popped h ≡ hand_pushed h
