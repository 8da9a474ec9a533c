-- Hands of a rack whose ways are joined one hand after another.
use Rattle.std.proofs.Common.{◌≡◌, ℕ, zero, suc, ◌+◌, ◌<◌, List, [], ◌∷◌, length, map, sum_by, drop, slice_set, slice_index_or, subst, refl, sym, ◌∙◌, ap, arith}
use Rattle.std.proofs.Math.Seq.{drop-cons}
use Rattle.std.proofs.lemmas.List.{length-map}
use Rattle.std.proofs.lemmas.List.Sums.{sum_by-cons}
use Rattle.dd_front.specs.declared.naming.Naming.{Ghosts}
use Rattle.dd_steal_deques.specs.declared.hand.Hand.{Hand}
use Rattle.dd_steal_deques.specs.declared.way.Way.{Way}
use Rattle.dd_steal_deques.specs.Ends.{way_taken}
use Rattle.dd_steal_deques.specs.Hands.{hand_deck, hand_place, hand_ways, way_end}
use Rattle.dd_steal_deques.specs.Places.{IsRack}
use Rattle.dd_steal_deques.proofs.Changed.{map_at, item_at}
use Rattle.dd_steal_deques.proofs.Linked.{AreWays, ways_in_rack}

drop_next : {A : Type 0} (xs : List A) (i : ℕ) → drop (suc i) xs ≡ drop 1 (drop i xs)
drop_next [] zero = refl
drop_next [] (suc i) = refl
drop_next (x ∷ xs) zero = refl
drop_next (x ∷ xs) (suc i) = drop_next xs i

-- what is alike from i on is alike from the next on
pub same_next : {A : Type 0} (xs ys : List A) (i : ℕ) → drop i xs ≡ drop i ys → drop (i + 1) xs ≡ drop (i + 1) ys
same_next xs ys i same =
    let next : i + 1 ≡ suc i = omega arith in
    ap (λ j. drop j xs) next ∙ drop_next xs i ∙ ap (drop 1) same ∙ sym (drop_next ys i) ∙ ap (λ j. drop j ys) (sym next)

get_drop : {A : Type 0} (xs : List A) (i : ℕ) (d : A) → slice_index_or (drop i xs) 0 d ≡ slice_index_or xs i d
get_drop [] zero d = refl
get_drop [] (suc i) d = refl
get_drop (x ∷ xs) zero d = refl
get_drop (x ∷ xs) (suc i) d = get_drop xs i d

same_here : {A : Type 0} (xs ys : List A) (i : ℕ) (d : A) → drop i xs ≡ drop i ys → slice_index_or xs i d ≡ slice_index_or ys i d
same_here xs ys i d same = sym (get_drop xs i d) ∙ ap (λ zs. slice_index_or zs 0 d) same ∙ get_drop ys i d

drop_set_suc : {A B : Type 0} (f : A → B) (xs : List A) (i : ℕ) (y : A) → drop (suc i) (map f (slice_set xs i y)) ≡ drop (suc i) (map f xs)
drop_set_suc f [] i y = refl
drop_set_suc f (x ∷ xs) zero y = refl
drop_set_suc f (x ∷ xs) (suc i) y = drop_set_suc f xs i y

-- a change leaves what comes after it
pub drop_set : {A B : Type 0} (f : A → B) (xs : List A) (i : ℕ) (y : A) → drop (i + 1) (map f (slice_set xs i y)) ≡ drop (i + 1) (map f xs)
drop_set f xs i y =
    let next : i + 1 ≡ suc i = omega arith in
    ap (λ j. drop j (map f (slice_set xs i y))) next ∙ drop_set_suc f xs i y ∙ ap (λ j. drop j (map f xs)) (sym next)

module _ {N : Type 0} {names : Ghosts N} where
  abbrev pub rows_taken : List (List (Way N names)) → ℕ
  rows_taken rows = sum_by (sum_by way_taken) rows

  -- the ways of the next hand
  pub next_row : (hands before : List (Hand N names)) (i : ℕ) (x : Hand N names) (ws : List (Way N names)) → i < length before → i < length hands → x ≡ slice_index_or hands i x → ws ≡ hand_ways x
      → drop i (map hand_ways hands) ≡ drop i (map hand_ways before) → slice_index_or (map hand_ways before) i [] ≡ ws
  next_row hands before i x ws lt within at is same = sym (same_here (map hand_ways hands) (map hand_ways before) i [] same) ∙ map_at hand_ways hands i x [] within at ∙ sym is

  pub row_ways : (before : List (Hand N names)) (i : ℕ) (ws : List (Way N names)) → IsRack (map hand_place before) → i < length before → slice_index_or (map hand_ways before) i [] ≡ ws
      → AreWays (map hand_deck before) (i + 1) (map way_end ws)
  row_ways before i ws rack lt row =
      let h = item_at before i lt in
      let same : hand_ways h.0 ≡ ws = sym (map_at hand_ways before i h.0 [] lt h.1) ∙ row in
      subst (λ us. AreWays (map hand_deck before) (i + 1) (map way_end us)) same (ways_in_rack before rack i h.0 lt h.1).0

  pub row_sum : (before : List (Hand N names)) (i : ℕ) (ws : List (Way N names)) → i < length before → slice_index_or (map hand_ways before) i [] ≡ ws
      → rows_taken (drop i (map hand_ways before)) ≡ sum_by way_taken ws + rows_taken (drop (i + 1) (map hand_ways before))
  row_sum before i ws lt row =
      let rows = map hand_ways before in
      let next : suc i ≡ i + 1 = omega arith in
      let split = ap rows_taken (drop-cons rows i [] (omega (arith, lt, length-map before hand_ways))) in
      let sum = sum_by-cons (sum_by way_taken) (slice_index_or rows i []) (drop (suc i) rows) in
      let here : sum_by way_taken (slice_index_or rows i []) ≡ sum_by way_taken ws = ap (sum_by way_taken) row in
      let later : rows_taken (drop (suc i) rows) ≡ rows_taken (drop (i + 1) rows) = ap (λ j. rows_taken (drop j rows)) next in
      omega (arith, split, sum, here, later)
