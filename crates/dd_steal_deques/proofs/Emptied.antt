-- Hands that have popped all that they pushed.
use Rattle.std.proofs.Common.{◌≡◌, ℕ, ◌+◌, ◌<◌, ◌≤◌, ◌⊎◌, inl, inr, List, [], ◌∷◌, length, map, sum_by, All, slice_set, slice_index_or, refl, sym, ◌∙◌, ap, arith}
use Rattle.std.proofs.lemmas.Bool.{cases_lt}
use Rattle.std.proofs.lemmas.List.{get_or-map}
use Rattle.std.proofs.lemmas.List.Sums.{sum_by-cons}
use Rattle.dd_model.proofs.Lists.{map_set_same}
use Rattle.dd_front.specs.declared.naming.Naming.{Ghosts}
use Rattle.dd_steal_deques.specs.declared.hand.Hand.{Hand}
use Rattle.dd_steal_deques.specs.Hands.{hand_pushed, hand_popped, HasPoppedAll}
use Rattle.dd_steal_deques.proofs.Changed.{map_at, same_length, all_head, all_tail}

module _ {N : Type 0} {names : Ghosts N} where
  pub not_empty : (hands before : List (Hand N names)) (i : ℕ) (x : Hand N names) → i < length hands → map hand_pushed hands ≡ map hand_pushed before → map hand_popped hands ≡ map hand_popped before
      → x ≡ slice_index_or hands i x → hand_popped x < hand_pushed x → All HasPoppedAll before → ⊥
  not_empty hands before i x lt pushed popped at more all =
      let within : i < length before = omega (arith, lt, same_length hand_pushed hands before pushed) in
      let a = map_at hand_pushed hands i x 0 lt at in
      let b = map_at hand_popped hands i x 0 lt at in
      let p = get_or-map hand_pushed before i x 0 within in
      let q = get_or-map hand_popped before i x 0 within in
      let u : slice_index_or (map hand_pushed hands) i 0 ≡ slice_index_or (map hand_pushed before) i 0 = ap (λ ys. slice_index_or ys i 0) pushed in
      let v : slice_index_or (map hand_popped hands) i 0 ≡ slice_index_or (map hand_popped before) i 0 = ap (λ ys. slice_index_or ys i 0) popped in
      let even = all i x within in
      absurd (omega (arith, a, b, p, q, u, v, even, more))

  pub emptied_on : (hands : List (Hand N names)) (i : ℕ) (x y : Hand N names) → i < length hands → x ≡ slice_index_or hands i x → hand_popped y ≡ hand_popped x → hand_pushed y ≡ hand_pushed x → hand_popped x ≡ hand_pushed x
      → ((k : ℕ) → k < i → slice_index_or (map hand_popped hands) k 0 ≡ slice_index_or (map hand_pushed hands) k 0)
      → (k : ℕ) → k < i + 1 → slice_index_or (map hand_popped (slice_set hands i y)) k 0 ≡ slice_index_or (map hand_pushed (slice_set hands i y)) k 0
  emptied_on hands i x y lt at popped pushed even before k below =
      let a : slice_index_or (map hand_popped (slice_set hands i y)) k 0 ≡ slice_index_or (map hand_popped hands) k 0 = ap (λ ys. slice_index_or ys k 0) (map_set_same hand_popped hands i x y at popped) in
      let b : slice_index_or (map hand_pushed (slice_set hands i y)) k 0 ≡ slice_index_or (map hand_pushed hands) k 0 = ap (λ ys. slice_index_or ys k 0) (map_set_same hand_pushed hands i x y at pushed) in
      a ∙ here (cases_lt k i) ∙ sym b
    where
      here : (k < i) ⊎ (i ≤ k) → slice_index_or (map hand_popped hands) k 0 ≡ slice_index_or (map hand_pushed hands) k 0
      here (inl earlier) = before k earlier
      here (inr from) = let is : k ≡ i = omega (arith, from, below) in ap (λ j. slice_index_or (map hand_popped hands) j 0) is ∙ map_at hand_popped hands i x 0 lt at ∙ even ∙ sym (map_at hand_pushed hands i x 0 lt at) ∙ ap (λ j. slice_index_or (map hand_pushed hands) j 0) (sym is)

  pub all_emptied : (hands before : List (Hand N names)) → map hand_pushed hands ≡ map hand_pushed before → map hand_popped hands ≡ map hand_popped before
      → ((k : ℕ) → k < length before → slice_index_or (map hand_popped hands) k 0 ≡ slice_index_or (map hand_pushed hands) k 0) → All HasPoppedAll before
  all_emptied hands before pushed popped even k d lt =
      let p = get_or-map hand_pushed before k d 0 lt in
      let q = get_or-map hand_popped before k d 0 lt in
      let u : slice_index_or (map hand_pushed hands) k 0 ≡ slice_index_or (map hand_pushed before) k 0 = ap (λ ys. slice_index_or ys k 0) pushed in
      let v : slice_index_or (map hand_popped hands) k 0 ≡ slice_index_or (map hand_popped before) k 0 = ap (λ ys. slice_index_or ys k 0) popped in
      omega (arith, p, q, u, v, even k lt)

  pub all_sums : (hands : List (Hand N names)) → All HasPoppedAll hands → sum_by hand_popped hands ≡ sum_by hand_pushed hands
  all_sums [] all = refl
  all_sums (h ∷ hands) all =
      let first = all_head HasPoppedAll h hands all in
      let others = all_sums hands (all_tail HasPoppedAll h hands all) in
      omega (arith, sum_by-cons hand_popped h hands, sum_by-cons hand_pushed h hands, first, others)
