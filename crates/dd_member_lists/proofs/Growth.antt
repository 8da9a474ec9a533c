-- A list that has one symbol more tells the same of the old ones.
use Rattle.std.proofs.Common.{◌≡◌, ℕ, ◌+◌, ◌-◌, ◌*◌, ◌≤◌, ◌<◌, cond, List, [], ◌∷◌, ◌++◌, take, drop, length, get_or, refl, sym, ap, ◌∙◌, subst, ⊎_elim, arith}
use Rattle.std.specs.List.{All, count_by}
use Rattle.std.specs.List.Sorted.{IsNonDecreasingBy}
use Rattle.std.proofs.lemmas.Bool.{le-leb, lt-leb, cases_lt}
use Rattle.std.proofs.lemmas.List.{append_assoc, get_or_append_left, get_or_push, take-append-drop, take-append-le, drop-append-le, length-append, length-drop, take_at, take_all, drop_at}
use Rattle.std.proofs.lemmas.List.Elements.{All-push}
use Rattle.std.proofs.lemmas.List.FromFn.{get_or-map-range_with_len, map-range_with_len_more}
use Rattle.std.proofs.lemmas.List.Sorted.{IsNonDecreasingBy-push}
use Rattle.std.proofs.lemmas.List.Sums.{sum_by_push, count_by-le-length}
use Rattle.dd_model.specs.Symbol.{Symbol}
use Rattle.dd_model.specs.Connected.{Connected}
use Rattle.dd_model.specs.Involutions.{HaveSameInvolutions}
use Rattle.dd_model.specs.Small.{IsSmallSymbol}
use Rattle.dd_model.proofs.SameInvolutions.{connected-same, same-sym}
use Rattle.dd_symbol.specs.Images.{with_degrees}
use Rattle.dd_symbol.proofs.TableLemmas.{with_same}
use Rattle.dd_member_lists.specs.Lists.{with_told, with_bytes, no_series, series_at, series_of, begins_by, degrees_in, symbol_of, listed, IsPlace, AreListed, IsLast, HasBegun}
use Rattle.dd_member_lists.specs.declared.series.Series.{Series}
use Rattle.dd_member_lists.proofs.Places.{all_pass, same_made, degrees_on, count_of}

-- ## Old symbols

-- a part of the old bytes
part_kept : (bytes rest : List ℕ) (at n : ℕ) → at + n ≤ length bytes → take n (drop at (bytes ++ rest)) ≡ take n (drop at bytes)
part_kept bytes rest at n within =
    let left = length-drop at bytes in
    ap (take n) (drop-append-le at bytes rest (omega arith)) ∙ take-append-le n (drop at bytes) rest (omega arith)

bytes_kept : (bytes rest : List ℕ) (at : ℕ) (t : Symbol) → at + 2 * t.size ≤ length bytes → with_bytes (bytes ++ rest) at t ≡ with_bytes bytes at t
bytes_kept bytes rest at t within =
    ap (λ ms. with_degrees t ms (take t.size (drop (at + t.size) (bytes ++ rest)))) (part_kept bytes rest at t.size (omega arith))
    ∙ ap (with_degrees t (take t.size (drop at bytes))) (part_kept bytes rest (at + t.size) t.size (omega arith))

symbol_kept : (series more : List Series) (bytes rest : List ℕ) (k : ℕ) → series_of more k ≡ series_of series k → IsPlace series bytes k
    → symbol_of more (bytes ++ rest) k ≡ symbol_of series bytes k
symbol_kept series more bytes rest k same is =
    let one = series_of series k in
    ap (λ it. with_bytes (bytes ++ rest) (degrees_in it k) it.table) same ∙ bytes_kept bytes rest (degrees_in one k) one.table is.degrees

longer_within : (n : ℕ) (bytes rest : List ℕ) → n ≤ length bytes → n ≤ length (bytes ++ rest)
longer_within n bytes rest within = omega (arith, length-append bytes rest)

place_kept : (series more : List Series) (bytes rest : List ℕ) (k : ℕ) → series_of more k ≡ series_of series k → 1 ≤ count_by (begins_by k) more
    → IsPlace series bytes k → IsPlace more (bytes ++ rest) k
place_kept series more bytes rest k same some is =
    let one = series_of series k in
    let kept = symbol_kept series more bytes rest k same is in
    record {
      some = some;
      degrees = subst (λ it. degrees_in it k + 2 * it.table.size ≤ length (bytes ++ rest)) (sym same)
          (longer_within (degrees_in one k + 2 * one.table.size) bytes rest is.degrees);
      small = subst IsSmallSymbol (sym kept) is.small;
      connected = subst Connected (sym kept) is.connected;
    }

-- ## The series that has the next symbol

-- the last series, in which the next symbol is
pub record IsNext (t : Symbol) (series more : List Series) (bytes : List ℕ) (n : ℕ) : Type 0 where
  pub ascending : IsNonDecreasingBy (λ one. one.first) more
  pub begun : All (λ one. one.first < n + 1) more
  pub same : (k : ℕ) → k < n → series_of more k ≡ series_of series k
  pub some : (k : ℕ) → k < n → 1 ≤ count_by (begins_by k) more
  pub last : IsLast t more
  pub ended : degrees_in (series_at more (length more - 1)) n ≡ length bytes

go_on : (t : Symbol) (series : List Series) (bytes : List ℕ) (n : ℕ) → AreListed series bytes n → IsLast t series → IsNext t series series bytes n
go_on t series bytes n are last = record {
  ascending = are.ascending;
  begun = λ k d h. let low = are.begun k d h in omega arith;
  same = λ k h. refl;
  some = λ k h. (are.places k h).some;
  last = last;
  ended = are.ended last.some;
}

module _ (t : Symbol) (series : List Series) (bytes : List ℕ) (n : ℕ) (are : AreListed series bytes n) where
  abbrev new : Series
  new = record { table = t; first = n; degrees = length bytes }

  counts : (k : ℕ) → count_by (begins_by k) (series ++ new ∷ []) ≡ count_by (begins_by k) series + cond (begins_by k new) 1 0
  counts k = sum_by_push (λ it. cond (begins_by k it) 1 0) series new

  count_kept : (k : ℕ) → k < n → count_by (begins_by k) (series ++ new ∷ []) ≡ count_by (begins_by k) series
  count_kept k before =
      let out = ap {B = ℕ} (λ b. cond b 1 0) (lt-leb n k before) in
      omega (arith, counts k, out)

  last_new : series_at (series ++ new ∷ []) (length (series ++ new ∷ []) - 1) ≡ new
  last_new = get_or_push series new no_series (length (series ++ new ∷ []) - 1) (omega (arith, length-append series (new ∷ [])))

  begin_new : IsNext t series (series ++ new ∷ []) bytes n
  begin_new = record {
    ascending = IsNonDecreasingBy-push (λ it. it.first) series new are.ascending
        (λ d some. let low = are.begun (length series - 1) d (omega arith) in omega arith);
    begun = All-push (λ it. it.first < n + 1) series new (λ k d h. let low = are.begun k d h in omega arith) (omega arith);
    same = λ k h.
        let is = are.places k h in
        let within = count_by-le-length (begins_by k) series in
        ap (λ m. series_at (series ++ new ∷ []) (m - 1)) (count_kept k h)
        ∙ get_or_append_left series (new ∷ []) no_series (count_by (begins_by k) series - 1) (omega (arith, is.some));
    some = λ k h. omega (arith, count_kept k h, (are.places k h).some);
    last = record {
      some = omega (arith, length-append series (new ∷ []));
      same = subst (λ it. HaveSameInvolutions t it.table) (sym last_new) (record { size = refl; s0 = refl; s1 = refl; s2 = refl });
    };
    ended = ap (λ it. degrees_in it n) last_new ∙ (let none : n - n ≡ 0 = omega arith in let nothing = ap (λ m. 2 * t.size * m) none in omega (arith, nothing));
  }

pub next_of : (t : Symbol) (series more : List Series) (bytes : List ℕ) (n : ℕ) → AreListed series bytes n → HasBegun t n (length bytes) series more
    → IsNext t series more bytes n
next_of t series more bytes n are begun = ⊎_elim
    (λ old. subst (λ it. IsNext t series it bytes n) (sym old.0) (go_on t series bytes n are old.1))
    (λ added. subst (λ it. IsNext t series it bytes n) (sym added.0) (begin_new t series bytes n are))
    begun

-- ## One symbol more

module _ (t : Symbol) (series more : List Series) (bytes own : List ℕ) (n : ℕ) (are : AreListed series bytes n) (next : IsNext t series more bytes n)
    (small : IsSmallSymbol (with_told t own)) (connected : Connected t) where
  abbrev last : Series
  last = series_at more (length more - 1)

  same : HaveSameInvolutions t last.table
  same = next.last.same

  told : length own ≡ 2 * t.size
  told =
      let tiles = small.symbol.table.m01_length in
      let vertices = small.symbol.table.m12_length in
      omega (arith, ap length (take-append-drop t.size own), length-append (take t.size own) (drop t.size own))

  begins : last.first ≤ n
  begins = let low = next.begun (length more - 1) no_series (let some = next.last.some in omega arith) in omega arith

  all_begin : count_by (begins_by n) more ≡ length more
  all_begin = all_pass (begins_by n) more (λ k d h. let low = next.begun k d h in le-leb (get_or more k d).first n (omega arith))

  in_last : series_of more n ≡ last
  in_last = ap (λ m. series_at more (m - 1)) all_begin

  -- the degrees that were appended, read at the end of the old ones
  told_there : with_bytes (bytes ++ own) (length bytes) last.table ≡ with_told t own
  told_there =
      let size = same.size in
      let m01 = take t.size own in
      let m12 = drop t.size own in
      let tiles = small.symbol.table.m01_length in
      let vertices = small.symbol.table.m12_length in
      let parts : bytes ++ own ≡ bytes ++ (m01 ++ m12) = sym (ap (λ xs. bytes ++ xs) (take-append-drop t.size own)) in
      let front : take last.table.size (drop (length bytes) (bytes ++ own)) ≡ m01 =
      ap (λ bs. take last.table.size (drop (length bytes) bs)) parts ∙ ap (take last.table.size) (drop_at bytes (m01 ++ m12) (length bytes) refl)
      ∙ take_at m01 m12 last.table.size (omega arith) in
      let past = length-append bytes m01 in
      let back : take last.table.size (drop (length bytes + last.table.size) (bytes ++ own)) ≡ m12 =
      ap (λ bs. take last.table.size (drop (length bytes + last.table.size) bs)) (parts ∙ sym (append_assoc bytes m01 m12))
      ∙ ap (take last.table.size) (drop_at (bytes ++ m01) m12 (length bytes + last.table.size) (omega arith)) ∙ take_all last.table.size m12 (omega arith) in
      λ i. record { size = size i; s0 = same.s0 i; s1 = same.s1 i; s2 = same.s2 i; m01 = front i; m12 = back i }

  symbol_put : symbol_of more (bytes ++ own) n ≡ with_told t own
  symbol_put =
      ap (λ it. with_bytes (bytes ++ own) (degrees_in it n) it.table) in_last
      ∙ ap (λ at. with_bytes (bytes ++ own) at last.table) next.ended
      ∙ told_there

  place_put : IsPlace more (bytes ++ own) n
  place_put = record {
    some = omega (arith, all_begin, next.last.some);
    degrees = subst (λ it. degrees_in it n + 2 * it.table.size ≤ length (bytes ++ own)) (sym in_last)
        (omega (arith, next.ended, told, same.size, length-append bytes own));
    small = subst IsSmallSymbol (sym symbol_put) small;
    connected = subst Connected (sym symbol_put) (connected-same t (with_told t own) (with_same t (take t.size own) (drop t.size own)) connected);
  }

  pub listed_after : AreListed more (bytes ++ own) (n + 1)
  listed_after = record {
    ascending = next.ascending;
    begun = next.begun;
    ended = λ some. omega (arith, degrees_on last n 1 begins, next.ended, told, same.size, length-append bytes own);
    few = omega (arith, are.few, told, small.symbol.table.chambers, length-append bytes own);
    places = λ k h. ⊎_elim
        (λ (old : k < n). place_kept series more bytes own k (next.same k old) (next.some k old) (are.places k old))
        (λ (new : n ≤ k). let e : n ≡ k = omega arith in subst (IsPlace more (bytes ++ own)) e place_put)
        (cases_lt k n);
  }

  pub symbols_after : listed more (bytes ++ own) (n + 1) ≡ listed series bytes n ++ with_told t own ∷ []
  symbols_after =
      map-range_with_len_more (symbol_of more (bytes ++ own)) 0 n n (omega arith)
      ∙ ap (λ ss. ss ++ symbol_of more (bytes ++ own) n ∷ [])
      (same_made (symbol_of more (bytes ++ own)) (symbol_of series bytes) n (λ k h. symbol_kept series more bytes own k (next.same k h) (are.places k h)))
      ∙ ap (λ s. listed series bytes n ++ s ∷ []) symbol_put

-- ## The last symbol

module _ (series : List Series) (bytes : List ℕ) (n : ℕ) (ss : List Symbol) (are : AreListed series bytes n)
    (was : listed series bytes n ≡ ss) (some : 1 ≤ length ss) where
  count : length ss ≡ n
  count = count_of series bytes n ss was

  last_is : (s : Symbol) → get_or ss (length ss - 1) s ≡ symbol_of series bytes (n - 1)
  last_is s =
      ap (λ m. get_or ss (m - 1) s) count
      ∙ ap (λ xs. get_or xs (n - 1) s) (sym was)
      ∙ get_or-map-range_with_len (symbol_of series bytes) 0 n (n - 1) (n - 1) s (let e = count in omega (arith, some)) (omega arith)

  pub last_symbol : symbol_of series bytes (n - 1) ≡ get_or ss (length ss - 1) (symbol_of series bytes (n - 1))
  last_symbol = sym (last_is (symbol_of series bytes (n - 1)))

  pub only_last : (s : Symbol) → s ≡ get_or ss (length ss - 1) s → symbol_of series bytes (n - 1) ≡ s
  only_last s e = sym (e ∙ last_is s)

  is_place : IsPlace series bytes (n - 1)
  is_place = are.places (n - 1) (let e = count in omega (arith, some))

  pub is_connected : Connected (symbol_of series bytes (n - 1))
  is_connected = is_place.connected

  -- it is in the last series, which has begun by it
  all_begin_by : count_by (begins_by (n - 1)) series ≡ length series
  all_begin_by = all_pass (begins_by (n - 1)) series (λ k d h. let low = are.begun k d h in le-leb (get_or series k d).first (n - 1) (omega arith))

  pub is_next : IsNext (symbol_of series bytes (n - 1)) series series bytes n
  is_next =
      let one = series_of series (n - 1) in
      let s = symbol_of series bytes (n - 1) in
      let there = ap (λ m. series_at series (m - 1)) all_begin_by in
      go_on s series bytes n are (record {
        some = omega (arith, all_begin_by, is_place.some);
        same = subst (λ it. HaveSameInvolutions s it.table) there (same-sym one.table s (with_same one.table s.m01 s.m12));
      })
