-- Which series a symbol of a list is in, and where its degrees are.
use Rattle.std.proofs.Common.{◌≡◌, ℕ, zero, suc, ◌+◌, ◌-◌, ◌*◌, ◌≤◌, ◌<◌, Bool, true, false, cond, List, [], ◌∷◌, map, take, drop, length, get_or, refl, sym, ap, ◌∙◌, subst, arith}
use Rattle.std.specs.List.{All, count_by, range_with_len}
use Rattle.std.specs.List.Sorted.{IsPartitionPoint}
use Rattle.std.proofs.Math.Nat.{mul-suc, mul-le-mul_left}
use Rattle.std.proofs.lemmas.Bool.{leb-true, leb-false, le-leb, lt-leb}
use Rattle.std.proofs.lemmas.List.{get_or_default, get_or-take, get_or-drop, length-take-le, length-drop, drop-drop}
use Rattle.std.proofs.lemmas.List.FromFn.{length-map-range_with_len, get_or-map-range_with_len, fill_by_all}
use Rattle.std.proofs.lemmas.List.Sums.{sum_by-cons}
use Rattle.dd_model.specs.Symbol.{Symbol}
use Rattle.dd_model.specs.Small.{IsSmallSymbol}
use Rattle.dd_model.specs.Connected.{Connected}
use Rattle.dd_symbol.specs.Images.{with_degrees}
use Rattle.dd_member_lists.specs.Lists.{with_bytes, alike, AreAlike, no_series, series_at, series_of, begins_by, degrees_in, symbol_of, listed, AreListed}
use Rattle.dd_member_lists.specs.declared.series.Series.{Series}

-- as many pass a test as stand before the first one that does not
pub passed_before : {X : Type 0} (q : X → Bool) (xs : List X) (p : ℕ) → p ≤ length xs
    → IsPartitionPoint (λ y. q y ≡ true) (λ y. q y ≡ false) xs p → count_by q xs ≡ p
passed_before q [] zero low point = refl
passed_before q [] (suc p) low point = absurd (omega arith)
passed_before q (x ∷ xs) zero low point =
    let others = passed_before q xs zero (omega arith) ((λ k d a b. absurd (omega arith)), (λ k d a b. point.1 (suc k) d (omega arith) (omega arith))) in
    let more = sum_by-cons (λ y. cond (q y) 1 0) x xs in
    let fails = ap {B = ℕ} (λ b. cond b 1 0) (point.1 0 x (omega arith) (omega arith)) in
    omega (arith, more, fails, others)
passed_before q (x ∷ xs) (suc p) low point =
    let others = passed_before q xs p (omega arith)
    ((λ k d a b. point.0 (suc k) d (omega arith) (omega arith)), (λ k d a b. point.1 (suc k) d (omega arith) (omega arith))) in
    let more = sum_by-cons (λ y. cond (q y) 1 0) x xs in
    let passes = ap {B = ℕ} (λ b. cond b 1 0) (point.0 0 x (omega arith) (omega arith)) in
    omega (arith, more, passes, others)

pub all_pass : {X : Type 0} (q : X → Bool) (xs : List X) → All (λ y. q y ≡ true) xs → count_by q xs ≡ length xs
all_pass q xs all = passed_before q xs (length xs) (omega arith) ((λ k d a b. all k d b), (λ k d a b. absurd (omega arith)))

-- what holds of each value of a function holds of the list of some of them
pub all_made : {X : Type 0} (P : X → Type 0) (f : ℕ → X) (n : ℕ) → ((k : ℕ) → k < n → P (f k)) → All P (map f (range_with_len 0 n))
all_made P f n each k d h =
    let low : k < n = omega (arith, h, length-map-range_with_len f 0 n) in
    subst P (sym (get_or-map-range_with_len f 0 n k k d low (omega arith))) (each k low)

pub same_made : {X : Type 0} (f g : ℕ → X) (n : ℕ) → ((k : ℕ) → k < n → f k ≡ g k) → map f (range_with_len 0 n) ≡ map g (range_with_len 0 n)
same_made f g zero each = refl
same_made f g (suc n) each =
    fill_by_all g (map f (range_with_len 0 (suc n))) (suc n) (f 0) (length-map-range_with_len f 0 (suc n))
    (λ k low. get_or-map-range_with_len f 0 (suc n) k k (f 0) low (omega arith) ∙ each k low)

-- degrees of a later symbol of the same series
pub degrees_on : (one : Series) (k j : ℕ) → one.first ≤ k → degrees_in one (k + j) ≡ degrees_in one k + 2 * one.table.size * j
degrees_on one k zero low =
    let same : k + 0 ≡ k = omega arith in
    ap (degrees_in one) same ∙ omega arith
degrees_on one k (suc j) low =
    let n = 2 * one.table.size in
    let next : k + suc j - one.first ≡ suc (k + j - one.first) = omega arith in
    let more = ap (λ m. one.degrees + n * m) next in
    let grown = mul-suc n (k + j - one.first) in
    let last = mul-suc n j in
    let before = degrees_on one k j low in
    omega (arith, more, grown, last, before)

-- bytes that are read from a place on
bytes_from : (bytes : List ℕ) (from n : ℕ) (t : Symbol) → with_bytes (drop from bytes) n t ≡ with_bytes bytes (from + n) t
bytes_from bytes from n t =
    let sum : from + (n + t.size) ≡ from + n + t.size = omega arith in
    ap (λ xs. with_degrees t (take t.size xs) (take t.size (drop (n + t.size) (drop from bytes)))) (drop-drop n from bytes)
    ∙ ap (λ xs. with_degrees t (take t.size (drop (from + n) bytes)) (take t.size xs)) (drop-drop (n + t.size) from bytes ∙ ap (λ m. drop m bytes) sum)

-- ## A symbol of those that are alike

module _ (t : Symbol) (bytes : List ℕ) (count k : ℕ) (are : AreAlike t bytes count) (low : k < count) where
  pub own_there : 2 * t.size * k + 2 * t.size ≤ length bytes
  own_there =
      let up = mul-le-mul_left {m = suc k} {n = count} (2 * t.size) (omega arith) in
      let last = mul-suc (2 * t.size) k in
      omega (arith, up, last, are.within)

  own_read : with_degrees t (take t.size (drop (2 * t.size * k) bytes)) (take t.size (drop t.size (drop (2 * t.size * k) bytes)))
      ≡ with_bytes bytes (2 * t.size * k) t
  own_read = ap (λ xs. with_degrees t (take t.size (drop (2 * t.size * k) bytes)) (take t.size xs)) (drop-drop t.size (2 * t.size * k) bytes)

  -- the same, as it is split off
  pub own_parts : (n : ℕ) (own m01 later m12 : List ℕ) → n ≡ t.size → own ≡ drop (2 * n * k) bytes → m01 ≡ take n own → later ≡ drop n own → m12 ≡ take n later
      → with_degrees t m01 m12 ≡ with_bytes bytes (2 * t.size * k) t
  own_parts n own m01 later m12 size is front back next =
      ap (λ xs. with_degrees t xs m12) (front ∙ ap (take n) is)
      ∙ ap (with_degrees t (take n (drop (2 * n * k) bytes))) (next ∙ ap (take n) (back ∙ ap (drop n) is))
      ∙ ap (λ m. with_degrees t (take m (drop (2 * m * k) bytes)) (take m (drop m (drop (2 * m * k) bytes)))) size
      ∙ own_read

  pub own_symbol : (d : Symbol) → get_or (alike t bytes count) k d ≡ with_bytes bytes (2 * t.size * k) t
  own_symbol d = get_or-map-range_with_len (λ j. with_bytes bytes (2 * t.size * j) t) 0 count k k d low (omega arith)

-- how many there are
pub alike_count : (t : Symbol) (bytes : List ℕ) (count k : ℕ) (ss : List Symbol) → alike t bytes count ≡ ss → k < length ss → k < count
alike_count t bytes count k ss was low =
    let made = length-map-range_with_len (λ j. with_bytes bytes (2 * t.size * j) t) 0 count in
    omega (arith, made, ap length was)

-- ## The symbols from a place on that are in its series

module _ (series shown : List Series) (bytes : List ℕ) (count k p : ℕ) (are : AreListed series bytes count) (value : shown ≡ series)
    (within : p ≤ length shown) (point : IsPartitionPoint (λ y. begins_by k y ≡ true) (λ y. begins_by k y ≡ false) shown p) (here : k < count) where
  behind : p ≤ length series
  behind = omega (arith, within, ap length value)

  parted : IsPartitionPoint (λ y. begins_by k y ≡ true) (λ y. begins_by k y ≡ false) series p
  parted = subst (λ xs. IsPartitionPoint (λ y. begins_by k y ≡ true) (λ y. begins_by k y ≡ false) xs p) value point

  counted : count_by (begins_by k) series ≡ p
  counted = passed_before (begins_by k) series p behind parted

  pub some : 1 ≤ p
  some = omega (arith, counted, (are.places k here).some)

  pub apart_here : (seen : List Series) → seen ≡ series → p < length seen → k < (series_at seen p).first
  apart_here seen same low =
      subst (λ xs. p < length xs → k < (series_at xs p).first) (sym same)
      (λ h. leb-false (series_at series p).first k (parted.1 p no_series (omega arith) h)) low

  module _ (one : Series) (is : one ≡ get_or series (p - 1) one) where
    at_one : series_at series (p - 1) ≡ one
    at_one = sym (is ∙ get_or_default series (p - 1) one no_series (omega (arith, behind, some)))

    pub begun : one.first ≤ k
    begun =
        let low = leb-true (series_at series (p - 1)).first k (parted.0 (p - 1) no_series (omega arith) (omega (arith, some))) in
        subst (λ it. it.first ≤ k) at_one low

    own_series : series_of series k ≡ one
    own_series = ap (λ n. series_at series (n - 1)) counted ∙ at_one

    pub from_there : degrees_in one k ≤ length bytes
    from_there =
        let there = subst (λ it. degrees_in it k + 2 * it.table.size ≤ length bytes) own_series (are.places k here).degrees in
        omega (arith, there)

    -- up to where the next series begins, or earlier
    module _ (seen : List Series) (same : seen ≡ series) (end : ℕ) (until : end ≤ count) (apart : p < length seen → end ≤ (series_at seen p).first) where
      ended : (i : ℕ) (d : Series) → p ≤ i → i < length series → end ≤ (get_or series i d).first
      ended i d a b =
          let next = subst (λ xs. p < length xs → end ≤ (series_at xs p).first) same apart (omega arith) in
          let far = are.ascending p i no_series a b in
          let read = ap (λ it. it.first) (get_or_default series i d no_series b) in
          omega (arith, next, far, read)

      -- a later symbol is in the same series
      same_point : (j : ℕ) → k ≤ j → j < end → IsPartitionPoint (λ y. begins_by j y ≡ true) (λ y. begins_by j y ≡ false) series p
      same_point j later before = (
        (λ i d a b. let low = leb-true (get_or series i d).first k (parted.0 i d a b) in le-leb (get_or series i d).first j (omega arith)),
        (λ i d a b. lt-leb (get_or series i d).first j (omega (arith, ended i d a b))),
      )

      same_series : (j : ℕ) → k ≤ j → j < end → series_of series j ≡ one
      same_series j later before =
          ap (λ n. series_at series (n - 1)) (passed_before (begins_by j) series p behind (same_point j later before)) ∙ at_one

      -- the bytes from the degrees of the first one on
      abbrev pub rest : List ℕ
      rest = drop (degrees_in one k) bytes

      same_symbol : (j : ℕ) → k + j < end → with_bytes rest (2 * one.table.size * j) one.table ≡ symbol_of series bytes (k + j)
      same_symbol j low =
          bytes_from bytes (degrees_in one k) (2 * one.table.size * j) one.table
          ∙ ap (λ at. with_bytes bytes at one.table) (sym (degrees_on one k j begun))
          ∙ ap (λ it. with_bytes bytes (degrees_in it (k + j)) it.table) (sym (same_series (k + j) (omega arith) low))

      are_there : (n : ℕ) → 1 ≤ n → k + n ≤ end → degrees_in one k + 2 * one.table.size * n ≤ length bytes
      are_there zero positive low = absurd (omega arith)
      are_there (suc j) positive low =
          let in_one = same_series (k + j) (omega arith) (omega arith) in
          let place = subst (λ it. degrees_in it (k + j) + 2 * it.table.size ≤ length bytes) in_one (are.places (k + j) (omega arith)).degrees in
          let on = degrees_on one k j begun in
          let more = mul-suc (2 * one.table.size) j in
          omega (arith, place, on, more)

      pub are_alike : (n : ℕ) → 1 ≤ n → k + n ≤ end → AreAlike one.table rest n
      are_alike n positive low = record {
        within = let there = are_there n positive low in let left = length-drop (degrees_in one k) bytes in omega arith;
        small = all_made IsSmallSymbol (λ j. with_bytes rest (2 * one.table.size * j) one.table) n
            (λ j h. subst IsSmallSymbol (sym (same_symbol j (omega arith))) (are.places (k + j) (omega arith)).small);
        connected = all_made Connected (λ j. with_bytes rest (2 * one.table.size * j) one.table) n
            (λ j h. subst Connected (sym (same_symbol j (omega arith))) (are.places (k + j) (omega arith)).connected);
      }

      pub symbols_from : (start place stop n : ℕ) → start + place ≡ k → stop ≤ count → end ≤ stop → k + n ≤ end
          → take n (drop place (take (stop - start) (drop start (listed series bytes count)))) ≡ alike one.table rest n
      symbols_from start place stop n sum whole last low =
          let all = listed series bytes count in
          let shown = take (stop - start) (drop start all) in
          let made = length-map-range_with_len (symbol_of series bytes) 0 count in
          let long : length shown ≡ stop - start = length-take-le (stop - start) (drop start all) (omega (arith, made, length-drop start all)) in
          let enough : n ≤ length (drop place shown) = omega (arith, length-drop place shown, long) in
          let d = symbol_of series bytes 0 in
          fill_by_all (λ j. with_bytes rest (2 * one.table.size * j) one.table) (take n (drop place shown)) n d (length-take-le n (drop place shown) enough)
          (λ j h. get_or-take n (drop place shown) j d h
          ∙ get_or-drop place shown j d
          ∙ get_or-take (stop - start) (drop start all) (place + j) d (omega arith)
          ∙ get_or-drop start all (place + j) d
          ∙ get_or-map-range_with_len (symbol_of series bytes) 0 count (start + (place + j)) (k + j) d (omega arith) (omega arith)
          ∙ sym (same_symbol j (omega arith)))

-- how many symbols a list has
pub count_of : (series : List Series) (bytes : List ℕ) (count : ℕ) (ss : List Symbol) → listed series bytes count ≡ ss → length ss ≡ count
count_of series bytes count ss was = ap length (sym was) ∙ length-map-range_with_len (symbol_of series bytes) 0 count

-- a place within a part of a list
pub within_part : {A : Type 0} (xs part : List A) (start stop place : ℕ) → start ≤ stop → stop ≤ length xs → take (stop - start) (drop start xs) ≡ part
    → place < length part → start + place < stop
within_part xs part start stop place order inside is low =
    let long = length-take-le (stop - start) (drop start xs) (omega (arith, length-drop start xs)) in
    omega (arith, long, ap length is)
