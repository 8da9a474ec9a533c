-- Hands that have got their ways, and the rack of all of them.
use Rattle.std.proofs.Common.{◌≡◌, ℕ, ◌+◌, ◌<◌, List, [], length, map, sum_by, All, slice_index_or, subst, sym, ◌∙◌, ap, arith}
use Rattle.std.proofs.lemmas.List.{get_or-map, length-map}
use Rattle.dd_front.specs.declared.naming.Naming.{Ghosts}
use Rattle.dd_steal_deques.specs.declared.hand.Hand.{Hand}
use Rattle.dd_steal_deques.specs.Ends.{way_taken}
use Rattle.dd_steal_deques.specs.Hands.{hand_deck, hand_core, hand_passes, hand_ends, hand_place, passes_at, IsNew}
use Rattle.dd_steal_deques.specs.Places.{Deck, End, LeadsInto, IsPlaceOf, IsRack, others}
use Rattle.dd_steal_deques.proofs.Changed.{map_at, map_map, same_length, item_at}

-- the ways of one hand
pub record AreWays (decks : List Deck) (worker : ℕ) (ends : List End) : Type 0 where
  pub others : map (λ e. e.from) ends ≡ others worker (length decks)
  pub into : All (LeadsInto decks) ends

module _ {N : Type 0} {names : Ghosts N} where
  -- what has the same core is new as well
  new_by_core : (room : ℕ) (x y : Hand N names) → hand_core y ≡ hand_core x → IsNew room x → IsNew room y
  new_by_core room x y same new = record {
    has_room = ap (λ c. c.1) same ∙ new.has_room;
    pushed = ap (λ c. c.2) same ∙ new.pushed;
    popped = ap (λ c. c.3) same ∙ new.popped;
    stolen = ap (λ c. sum_by way_taken c.4) same ∙ new.stolen;
  }

  pub all_new : (room : ℕ) (hands before : List (Hand N names)) → map hand_core hands ≡ map hand_core before → All (IsNew room) before → All (IsNew room) hands
  all_new room hands before same new k d lt =
      let within : k < length before = omega (arith, lt, same_length hand_core hands before same) in
      let p = get_or-map hand_core hands k d (hand_core d) lt in
      let q = get_or-map hand_core before k d (hand_core d) within in
      new_by_core room (slice_index_or before k d) (slice_index_or hands k d) (sym p ∙ ap (λ cs. slice_index_or cs k (hand_core d)) same ∙ q) (new k d within)

  pub decks_of_places : (hands : List (Hand N names)) → map (λ p. p.deck) (map hand_place hands) ≡ map hand_deck hands
  decks_of_places hands = map_map (λ p. p.deck) hand_place hands

  pub linked : (hands : List (Hand N names)) (n : ℕ) → n ≡ length hands → ((k : ℕ) → k < n → passes_at hands k + 1 ≡ n)
      → ((k : ℕ) → k < n → AreWays (map hand_deck hands) (k + 1) (slice_index_or (map hand_ends hands) k [])) → IsRack (map hand_place hands)
  linked hands n whole passes ways k d lt =
      let within : k < length hands = omega (arith, lt, length-map hands hand_place) in
      let h = item_at hands k within in
      let place : slice_index_or (map hand_place hands) k d ≡ hand_place h.0 = map_at hand_place hands k h.0 d within h.1 in
      let row : slice_index_or (map hand_ends hands) k [] ≡ hand_ends h.0 = map_at hand_ends hands k h.0 [] within h.1 in
      let mine = subst (AreWays (map hand_deck hands) (k + 1)) row (ways k (omega (arith, within, whole))) in
      let count = map_at hand_passes hands k h.0 0 within h.1 in
      let is : IsPlaceOf (map hand_deck hands) (k + 1) (hand_place h.0) = record {
        passes = omega (arith, count, passes k (omega (arith, within, whole)), whole, length-map hands hand_deck);
        others = mine.others;
        into = mine.into;
      } in
      subst (λ ds. IsPlaceOf ds (k + 1) (slice_index_or (map hand_place hands) k d)) (sym (decks_of_places hands)) (subst (IsPlaceOf (map hand_deck hands) (k + 1)) (sym place) is)

  -- the ways of a hand of a rack
  pub ways_in_rack : (hands : List (Hand N names)) → IsRack (map hand_place hands) → (k : ℕ) (h : Hand N names) → k < length hands → h ≡ slice_index_or hands k h
      → AreWays (map hand_deck hands) (k + 1) (hand_ends h) × (hand_passes h + 1 ≡ length hands)
  ways_in_rack hands rack k h lt at =
      let place : slice_index_or (map hand_place hands) k (hand_place h) ≡ hand_place h = map_at hand_place hands k h (hand_place h) lt at in
      let whole = rack k (hand_place h) (omega (arith, lt, length-map hands hand_place)) in
      let is : IsPlaceOf (map hand_deck hands) (k + 1) (hand_place h) =
      subst (IsPlaceOf (map hand_deck hands) (k + 1)) place (subst (λ ds. IsPlaceOf ds (k + 1) (slice_index_or (map hand_place hands) k (hand_place h))) (decks_of_places hands) whole) in
      (record { others = is.others; into = is.into }, omega (arith, is.passes, length-map hands hand_deck))
