-- What is put into a table and taken out again.
use Rattle.std.proofs.Common.{◌≡◌, ◌≢◌, ℕ, zero, suc, ◌+◌, ◌-◌, ◌*◌, ◌/◌, ◌%◌, ◌^◌, ◌<◌, ◌≤◌, w64, List, [], ◌∷◌, ◌++◌, length, get_or, set, take, map, replicate, length-take-le, refl, sym, ap, ◌∙◌, subst, ⊎_elim, arith}
use Rattle.std.proofs.lemmas.Bool.{cases_lt, cases_eq}
use Rattle.std.proofs.lemmas.List.{ext_get_or, get_or_append_left, get_or_past, length-map, get_or-set_same, get_or-set_other, set-set, set-get_or, get_or-replicate, length-set, length_push, take_at, get_or-take, get_or_push}
use Rattle.std.proofs.lemmas.List.Folds.{sum_by-replicate}
use Rattle.std.proofs.lemmas.List.Sums.{sum_by-set}
use Rattle.std.proofs.lemmas.Nat.Bits.{bit_at-zero, bit_at-lt, bit_at-pow_same, bit_at-pow_other, bit_at_or, bit_at_xor, bit_at_ones, bit_at-trailing_zeros}
use Rattle.std.specs.Int.{bit_at, trailing_zeros}
use Rattle.std.specs.Int.Bits.{bit_xor, xor_assoc, xor_self, xor_zero_r}
use Rattle.std.specs.List.{sum_by}
use Rattle.dd_model.specs.declared.index.Index.{Index}
use Rattle.dd_model.specs.declared.index.Index.TheVariants.{Zero, One, Two}
use Rattle.dd_model.specs.Symbol.{Symbol, op, operation}
use Rattle.dd_model.specs.Code.{count_from}
use Rattle.dd_model.specs.Partial.{Completes}
use Rattle.dd_canon.specs.Traversal.{unnumbered}
use Rattle.dd_canon.proofs.Meetings.{numbered_counts_not}
use Rattle.dd_model.proofs.Lists.{zero_at}
use Rattle.dd_model.proofs.CountFrom.{length-count_from, get_or-map-count_from}
use Rattle.dd_front_jobs.specs.Places.{place, back_of, bits_of}
use Rattle.dd_branch_tables.specs.Rows.{Rows, images_in, partial_from, partial_of, depth_of, cleared, flipped, last_of, popped, unwind, unwound, HasNumberAt, IsReady, Learns, Excludes}
use Rattle.dd_front_jobs.proofs.Places.{index_of_place, chamber_of_place, place_of_place}
use Rattle.dd_model.specs.Indices.{index_at}

same_place : (i : Index) (d : ℕ) → place i (1 + (d - 1)) ≡ place i d
same_place Zero d = omega arith
same_place One d = omega arith
same_place Two d = omega arith

images_at : (numbers : List ℕ) (i : Index) (d : ℕ) → d - 1 < 36 → get_or (images_in numbers i) (d - 1) 0 ≡ get_or numbers (place i d) 0
unfolding images_in
images_at numbers i d low = get_or-map-count_from (λ d. get_or numbers (place i d) 0) 1 36 (d - 1) low ∙ ap (λ t. get_or numbers t 0) (same_place i d)

pub images_past : (numbers : List ℕ) (i : Index) (d : ℕ) → 36 ≤ d - 1 → get_or (images_in numbers i) (d - 1) 0 ≡ 0
unfolding images_in
images_past numbers i d high =
    let size = length-map (count_from 1 36) (λ d. get_or numbers (place i d) 0) in
    let count = length-count_from 1 36 in
    get_or_past (map (λ d. get_or numbers (place i d) 0) (count_from 1 36)) (d - 1) 0 (omega arith)

-- the image of a chamber stands at its place
pub op_partial : (n : ℕ) (numbers : List ℕ) (i : Index) (d : ℕ) → d - 1 < 36 → op (partial_from n numbers) i d ≡ get_or numbers (place i d) 0
op_partial n numbers Zero d low = images_at numbers Zero d low
op_partial n numbers One d low = images_at numbers One d low
op_partial n numbers Two d low = images_at numbers Two d low

pub op_past : (n : ℕ) (numbers : List ℕ) (i : Index) (d : ℕ) → 36 ≤ d - 1 → op (partial_from n numbers) i d ≡ 0
op_past n numbers Zero d high = images_past numbers Zero d high
op_past n numbers One d high = images_past numbers One d high
op_past n numbers Two d high = images_past numbers Two d high

-- an image that is put in holds of the completions that have it
completes_set : (n : ℕ) (numbers : List ℕ) (t e : ℕ) (s : Symbol) → length numbers ≡ 108 → t < 108 → Completes (partial_from n numbers) s → op s (index_at (t % 3)) (1 + t / 3) ≡ e
    → Completes (partial_from n (set numbers t e)) s
completes_set n numbers t e s whole low full is = record {
  table = full.table;
  connected = full.connected;
  size = full.size;
  images = λ i d known. ⊎_elim
      (λ inside.
      let now : op (partial_from n (set numbers t e)) i d ≡ get_or (set numbers t e) (place i d) 0 = op_partial n (set numbers t e) i d inside in
      ⊎_elim
      (λ here.
      let q : t / 3 ≡ d - 1 = ap (λ u. u / 3) (sym here) ∙ chamber_of_place i d in
      let j : index_at (t % 3) ≡ i = ap (λ u. index_at (u % 3)) (sym here) ∙ index_of_place i d in
      let new : get_or (set numbers t e) (place i d) 0 ≡ e = ap (λ u. get_or (set numbers t e) u 0) here ∙ get_or-set_same numbers t e 0 (omega arith) in
      let chamber : 1 + t / 3 - 1 ≡ d - 1 = omega arith in
      let same : op s (index_at (t % 3)) (1 + t / 3) ≡ op s i d = ap (λ k. op s k (1 + t / 3)) j ∙ ap (λ k. get_or (operation s i) k 0) chamber in
      sym same ∙ is ∙ sym (now ∙ new))
      (λ other.
      let old : get_or (set numbers t e) (place i d) 0 ≡ get_or numbers (place i d) 0 = get_or-set_other numbers t (place i d) e 0 other in
      let was : op (partial_from n numbers) i d ≡ op (partial_from n (set numbers t e)) i d = op_partial n numbers i d inside ∙ sym (now ∙ old) in
      full.images i d (λ z. known (sym was ∙ z)) ∙ was)
      (cases_eq (place i d) t))
      (λ past. absurd (known (op_past n (set numbers t e) i d past)))
      (cases_lt (d - 1) 36);
}

unwind_add : (a b : ℕ) (r : Rows) → unwind (a + b) r ≡ unwind b (unwind a r)
unwind_add zero b r = let e : 0 + b ≡ b = omega arith in ap (λ k. unwind k r) e
unwind_add (suc a) b r = let e : suc a + b ≡ suc (a + b) = omega arith in ap (λ k. unwind k r) e ∙ unwind_add a b (popped r)

-- one thing after another
pub learns_both : (P Q R : Symbol → Type 0) (a b c : Rows) → ((s : Symbol) → Completes (partial_of a) s → R s → P s × Q s) → Learns P a b → Learns Q b c → Learns R a c
learns_both P Q R a b c parts one two =
    let up = one.deeper in
    let on = two.deeper in
    let sum : depth_of c - depth_of a ≡ (depth_of c - depth_of b) + (depth_of b - depth_of a) = omega arith in
    record {
      completes = λ s full has. let p = parts s full has in two.completes s (one.completes s full p.0) p.1;
      keeps = λ i d some. let first = one.keeps i d some in two.keeps i d (λ z. some (sym first ∙ z)) ∙ first;
      size = two.size ∙ one.size;
      deeper = omega arith;
      undone =
          ap (λ k. unwind k c) sum ∙ unwind_add (depth_of c - depth_of b) (depth_of b - depth_of a) c
          ∙ ap (unwind (depth_of b - depth_of a)) two.undone ∙ one.undone;
    }

-- what was undone is as before
pub undone_after : (P : Symbol → Type 0) (a b c : Rows) (mark : ℕ) → Learns P a b → mark ≡ depth_of a → c ≡ unwound b mark → c ≡ a
undone_after P a b c mark one e u = u ∙ ap (unwound b) e ∙ one.undone

place_first : (i : Index) (d : ℕ) → place i d % 3 ≡ place i 1
place_first Zero d = omega arith
place_first One d = omega arith
place_first Two d = omega arith

pub place_below : (i : Index) (d : ℕ) → d ≤ 36 → place i d < 108
place_below Zero d high = omega arith
place_below One d high = omega arith
place_below Two d high = omega arith

-- ## Two places that lead to each other

pub back_at : (t e : ℕ) → 1 ≤ e → back_of t e ≡ 3 * (e - 1) + t % 3
back_at t zero some = absurd (omega arith)
back_at t (suc e) some = let d : e ≡ suc e - 1 = omega arith in ap (λ k. 3 * k + t % 3) d

pub back_below : (t e : ℕ) → t < 108 → e ≤ 36 → back_of t e < 108
back_below t zero low few = low
back_below t (suc e) low few = omega arith

-- the place of the way back from an image
pub back_is_place : (i : Index) (d e : ℕ) → 1 ≤ e → back_of (place i d) e ≡ place i e
back_is_place Zero d e some = back_at (place Zero d) e some ∙ omega arith
back_is_place One d e some = back_at (place One d) e some ∙ omega arith
back_is_place Two d e some = back_at (place Two d) e some ∙ omega arith

pair_length : (xs : List ℕ) (t b x y : ℕ) → length (set (set xs t x) b y) ≡ length xs
pair_length xs t b x y = length-set (set xs t x) b y ∙ length-set xs t x

pair_second : (xs : List ℕ) (t b x y : ℕ) → b < length xs → get_or (set (set xs t x) b y) b 0 ≡ y
pair_second xs t b x y low = let same = length-set xs t x in get_or-set_same (set xs t x) b y 0 (omega arith)

pair_first : (xs : List ℕ) (t b x y : ℕ) → t ≢ b → t < length xs → get_or (set (set xs t x) b y) t 0 ≡ x
pair_first xs t b x y apart low = get_or-set_other (set xs t x) b t y 0 apart ∙ get_or-set_same xs t x 0 low

pair_other : (xs : List ℕ) (t b u x y : ℕ) → u ≢ t → u ≢ b → get_or (set (set xs t x) b y) u 0 ≡ get_or xs u 0
pair_other xs t b u x y first second = get_or-set_other (set xs t x) b u y 0 second ∙ get_or-set_other xs t u x 0 first

-- ## Bits of chambers

bits_first : (d e : ℕ) → bit_at (bits_of d e) d ≡ 1
bits_first d e =
    let own = bit_at-pow_same d in
    let other = bit_at-lt (2 ^ e) d in
    bit_at_or (2 ^ d) (2 ^ e) d ∙ omega arith

bits_second : (d e : ℕ) → bit_at (bits_of d e) e ≡ 1
bits_second d e =
    let own = bit_at-pow_same e in
    let other = bit_at-lt (2 ^ d) e in
    bit_at_or (2 ^ d) (2 ^ e) e ∙ omega arith

bits_other : (d e k : ℕ) → k ≢ d → k ≢ e → bit_at (bits_of d e) k ≡ 0
bits_other d e k first second =
    let one = bit_at-pow_other d k first in
    let two = bit_at-pow_other e k second in
    bit_at_or (2 ^ d) (2 ^ e) k ∙ omega arith

pub flipped_twice : (free : List ℕ) (t e : ℕ) → length free ≡ 3 → flipped (flipped free t e) t e ≡ free
flipped_twice free t e three =
    let j = t % 3 in
    let x = get_or free j 0 in
    let m = bits_of (1 + t / 3) e in
    ap (λ y. set (set free j (bit_xor x m)) j (bit_xor y m)) (get_or-set_same free j (bit_xor x m) 0 (omega arith)) ∙ set-set free j (bit_xor x m) (bit_xor (bit_xor x m) m)
    ∙ ap (set free j) (xor_assoc x m m ∙ ap (bit_xor x) (xor_self m) ∙ xor_zero_r x) ∙ set-get_or free j 0

flip_here : (free : List ℕ) (t e u : ℕ) → length free ≡ 3 → u % 3 ≡ t % 3
    → bit_at (get_or (flipped free t e) (u % 3) 0) (1 + u / 3) ≡ (bit_at (get_or free (u % 3) 0) (1 + u / 3) + bit_at (bits_of (1 + t / 3) e) (1 + u / 3)) % 2
flip_here free t e u three same =
    let m = bits_of (1 + t / 3) e in
    let k = 1 + u / 3 in
    ap (λ j. bit_at (get_or (flipped free t e) j 0) k) same ∙ ap (λ x. bit_at x k) (get_or-set_same free (t % 3) (bit_xor (get_or free (t % 3) 0) m) 0 (omega arith))
    ∙ bit_at_xor (get_or free (t % 3) 0) m k ∙ ap (λ j. (bit_at (get_or free j 0) k + bit_at m k) % 2) (sym same)

flip_there : (free : List ℕ) (t e u : ℕ) → u % 3 ≢ t % 3 → get_or (flipped free t e) (u % 3) 0 ≡ get_or free (u % 3) 0
flip_there free t e u apart = get_or-set_other free (t % 3) (u % 3) (bit_xor (get_or free (t % 3) 0) (bits_of (1 + t / 3) e)) 0 apart

-- the bits tell the places without numbers
abbrev pub TellFree : List ℕ → List ℕ → Type 0
TellFree free numbers = (t : ℕ) → t < 108 → bit_at (get_or free (t % 3) 0) (1 + t / 3) ≡ unnumbered (get_or numbers t 0)

-- also after the numbers at two places that lead to each other were both put in, or both taken out
flip_all : (free old new : List ℕ) (t e : ℕ) → length free ≡ 3 → 1 ≤ e → TellFree free old → (let b = back_of t e in unnumbered (get_or old t 0) + unnumbered (get_or new t 0) ≡ 1
    → unnumbered (get_or old b 0) + unnumbered (get_or new b 0) ≡ 1 → ((u : ℕ) → u ≢ t → u ≢ b → get_or new u 0 ≡ get_or old u 0) → TellFree (flipped free t e) new)
flip_all free old new t e three some tell first second others u inside =
    let b = back_of t e in
    let k = 1 + u / 3 in
    let at = back_at t e some in
    let was = tell u inside in
    let bound = bit_at-lt (get_or free (u % 3) 0) k in
    ⊎_elim
    (λ (here : u ≡ t).
    let m : bit_at (bits_of (1 + t / 3) e) k ≡ 1 = ap (λ v. bit_at (bits_of (1 + t / 3) e) (1 + v / 3)) here ∙ bits_first (1 + t / 3) e in
    let same : u % 3 ≡ t % 3 = ap (λ v. v % 3) here in
    let now = flip_here free t e u three same in
    let a : unnumbered (get_or old u 0) ≡ unnumbered (get_or old t 0) = ap (λ v. unnumbered (get_or old v 0)) here in
    let c : unnumbered (get_or new u 0) ≡ unnumbered (get_or new t 0) = ap (λ v. unnumbered (get_or new v 0)) here in
    omega arith)
    (λ (not_first : u ≢ t). ⊎_elim
    (λ (here : u ≡ b).
    let image : k ≡ e = omega arith in
    let m : bit_at (bits_of (1 + t / 3) e) k ≡ 1 = ap (bit_at (bits_of (1 + t / 3) e)) image ∙ bits_second (1 + t / 3) e in
    let same : u % 3 ≡ t % 3 = omega arith in
    let now = flip_here free t e u three same in
    let a : unnumbered (get_or old u 0) ≡ unnumbered (get_or old b 0) = ap (λ v. unnumbered (get_or old v 0)) here in
    let c : unnumbered (get_or new u 0) ≡ unnumbered (get_or new b 0) = ap (λ v. unnumbered (get_or new v 0)) here in
    omega arith)
    (λ (not_second : u ≢ b).
    let number : unnumbered (get_or new u 0) ≡ unnumbered (get_or old u 0) = ap unnumbered (others u not_first not_second) in
    ⊎_elim
    (λ (same : u % 3 ≡ t % 3).
    let m : bit_at (bits_of (1 + t / 3) e) k ≡ 0 = bits_other (1 + t / 3) e k (λ z. not_first (omega arith)) (λ z. not_second (omega arith)) in
    let now = flip_here free t e u three same in
    omega arith)
    (λ (apart : u % 3 ≢ t % 3). ap (λ x. bit_at x k) (flip_there free t e u apart) ∙ was ∙ sym number)
    (cases_eq (u % 3) (t % 3)))
    (cases_eq u b))
    (cases_eq u t)

-- rows with an image more at a place, and its way back, where none was known
pub record IsPut (r r' : Rows) (t b e d : ℕ) : Type 0 where
  pub ready : IsReady r
  pub low : t < 108
  pub some : 1 ≤ e
  pub image : e ≤ r.size
  pub chamber : d ≤ r.size
  pub back : b ≡ back_of t e
  pub from : d ≡ 1 + t / 3
  pub none : get_or r.numbers t 0 ≡ 0
  pub none_back : get_or r.numbers b 0 ≡ 0
  pub size : r'.size ≡ r.size
  pub numbers : r'.numbers ≡ set (set r.numbers t e) b d
  pub free : r'.free ≡ flipped r.free t e
  pub trail : r'.trail ≡ r.trail ++ t ∷ []

put_low : (r r' : Rows) (t b e d : ℕ) → IsPut r r' t b e d → b < 108
put_low r r' t b e d is =
    let small = is.ready.small in
    let image = is.image in
    let below = back_below t e is.low (omega arith) in
    let back = is.back in
    omega arith

-- a place that leads to itself
put_alone : (r r' : Rows) (t b e d : ℕ) → IsPut r r' t b e d → t ≡ b → d ≡ e
put_alone r r' t b e d is same =
    let back = is.back in
    let at = back_at t e is.some in
    let some = is.some in
    let from = is.from in
    omega arith

put_there : (r r' : Rows) (t b e d : ℕ) → IsPut r r' t b e d → get_or r'.numbers t 0 ≡ e
put_there r r' t b e d is =
    let whole = is.ready.whole in
    let low = is.low in
    let below = put_low r r' t b e d is in
    ap (λ xs. get_or xs t 0) is.numbers ∙ ⊎_elim
    (λ (same : t ≡ b). ap (λ u. get_or (set (set r.numbers t e) b d) u 0) same ∙ pair_second r.numbers t b e d (omega arith) ∙ put_alone r r' t b e d is same)
    (λ apart. pair_first r.numbers t b e d apart (omega arith))
    (cases_eq t b)

put_back : (r r' : Rows) (t b e d : ℕ) → IsPut r r' t b e d → get_or r'.numbers b 0 ≡ d
put_back r r' t b e d is =
    let whole = is.ready.whole in
    let below = put_low r r' t b e d is in
    ap (λ xs. get_or xs b 0) is.numbers ∙ pair_second r.numbers t b e d (omega arith)

pub put_else : (r r' : Rows) (t b e d u : ℕ) → IsPut r r' t b e d → u ≢ t → u ≢ b → get_or r'.numbers u 0 ≡ get_or r.numbers u 0
put_else r r' t b e d u is first second = ap (λ xs. get_or xs u 0) is.numbers ∙ pair_other r.numbers t b u e d first second

cleared_put : (r r' : Rows) (t b e d : ℕ) → IsPut r r' t b e d → set (set r'.numbers t 0) b 0 ≡ r.numbers
cleared_put r r' t b e d is =
    let whole = is.ready.whole in
    let low = is.low in
    let below = put_low r r' t b e d is in
    let size : length r'.numbers ≡ length r.numbers = ap length is.numbers ∙ pair_length r.numbers t b e d in
    ext_get_or 0 (set (set r'.numbers t 0) b 0) r.numbers (pair_length r'.numbers t b 0 0 ∙ size) (λ u inside. ⊎_elim
    (λ (here : u ≡ b). ap (λ k. get_or (set (set r'.numbers t 0) b 0) k 0) here ∙ pair_second r'.numbers t b 0 0 (omega arith) ∙ sym (ap (λ k. get_or r.numbers k 0) here ∙ is.none_back))
    (λ (second : u ≢ b). ⊎_elim
    (λ (here : u ≡ t).
    let apart : t ≢ b = λ z. second (here ∙ z) in
    ap (λ k. get_or (set (set r'.numbers t 0) b 0) k 0) here ∙ pair_first r'.numbers t b 0 0 apart (omega arith) ∙ sym (ap (λ k. get_or r.numbers k 0) here ∙ is.none))
    (λ (first : u ≢ t). pair_other r'.numbers t b u 0 0 first second ∙ put_else r r' t b e d u is first second)
    (cases_eq u t))
    (cases_eq u b))

popped_put : (r r' : Rows) (t b e d : ℕ) → IsPut r r' t b e d → popped r' ≡ r
popped_put r r' t b e d is =
    let longer : length r'.trail ≡ length r.trail + 1 = ap length is.trail ∙ length_push r.trail t in
    let last : length r'.trail - 1 ≡ length r.trail = omega arith in
    let there : get_or r'.trail (length r'.trail - 1) 0 ≡ t =
    ap (λ k. get_or r'.trail k 0) last ∙ ap (λ xs. get_or xs (length r.trail) 0) is.trail ∙ get_or_push r.trail t 0 (length r.trail) refl in
    let numbers : cleared r'.numbers (get_or r'.trail (length r'.trail - 1) 0) ≡ r.numbers =
    ap (cleared r'.numbers) there ∙ ap (λ k. set (set r'.numbers t 0) k 0) (ap (back_of t) (put_there r r' t b e d is) ∙ sym is.back) ∙ cleared_put r r' t b e d is in
    let trail : take (length r'.trail - 1) r'.trail ≡ r.trail =
    ap (λ k. take k r'.trail) last ∙ ap (take (length r.trail)) is.trail ∙ take_at r.trail (t ∷ []) (length r.trail) refl in
    let size = is.size in
    let free : flipped r'.free (last_of r') (get_or r'.numbers (last_of r') 0) ≡ r.free =
    ap (λ k. flipped r'.free k (get_or r'.numbers k 0)) there ∙ ap (flipped r'.free t) (put_there r r' t b e d is) ∙ ap (λ f. flipped f t e) is.free ∙ flipped_twice r.free t e is.ready.three in
    λ x. record { size = size x; numbers = numbers x; free = free x; trail = trail x }

-- what holds of the completions that have the image and its way back
abbrev pub HasBoth : (t b e d : ℕ) → Symbol → Type 0
HasBoth t b e d s = HasNumberAt t e s × HasNumberAt b d s

pub put_learns : (r r' : Rows) (t b e d : ℕ) → IsPut r r' t b e d → Learns (HasBoth t b e d) r r'
put_learns r r' t b e d is =
    let longer : length r'.trail ≡ length r.trail + 1 = ap length is.trail ∙ length_push r.trail t in
    let one : depth_of r' - depth_of r ≡ 1 = omega arith in
    let whole = is.ready.whole in
    let below = put_low r r' t b e d is in
    record {
      completes = λ s full has.
          let first = completes_set r.size r.numbers t e s whole is.low full has.0 in
          let both = completes_set r.size (set r.numbers t e) b d s (length-set r.numbers t e ∙ whole) below first has.1 in
          let sized = subst (λ n. Completes (partial_from n (set (set r.numbers t e) b d)) s) (sym is.size) both in
          subst (λ xs. Completes (partial_from r'.size xs) s) (sym is.numbers) sized;
      keeps = λ i d' some. ⊎_elim
          (λ inside.
          let now : op (partial_of r') i d' ≡ get_or r'.numbers (place i d') 0 = op_partial r'.size r'.numbers i d' inside in
          let was : op (partial_of r) i d' ≡ get_or r.numbers (place i d') 0 = op_partial r.size r.numbers i d' inside in
          let first : place i d' ≢ t = λ here. some (was ∙ ap (λ u. get_or r.numbers u 0) here ∙ is.none) in
          let second : place i d' ≢ b = λ here. some (was ∙ ap (λ u. get_or r.numbers u 0) here ∙ is.none_back) in
          now ∙ put_else r r' t b e d (place i d') is first second ∙ sym was)
          (λ past. absurd (some (op_past r.size r.numbers i d' past)))
          (cases_lt (d' - 1) 36);
      size = is.size;
      deeper = omega arith;
      undone = ap (λ k. unwind k r') one ∙ popped_put r r' t b e d is;
    }

put_fewer : (r r' : Rows) (t b e d : ℕ) → IsPut r r' t b e d → sum_by unnumbered r'.numbers + 1 ≤ sum_by unnumbered r.numbers
put_fewer r r' t b e d is =
    let whole = is.ready.whole in
    let low = is.low in
    let from = is.from in
    let below = put_low r r' t b e d is in
    let length_now = length-set r.numbers t e in
    let first = sum_by-set unnumbered r.numbers t e 0 (omega arith) in
    let was : unnumbered (get_or r.numbers t 0) ≡ 1 = ap unnumbered is.none in
    let now = numbered_counts_not e is.some in
    let second = sum_by-set unnumbered (set r.numbers t e) b d 0 (omega arith) in
    let new = numbered_counts_not d (omega arith) in
    let all : sum_by unnumbered r'.numbers ≡ sum_by unnumbered (set (set r.numbers t e) b d) = ap (sum_by unnumbered) is.numbers in
    omega arith

-- there is room for what is put in where nothing was known
pub room_left : (r : Rows) (t : ℕ) → IsReady r → t < 108 → get_or r.numbers t 0 ≡ 0 → length r.trail < 108
room_left r t ready low none =
    let whole = ready.whole in
    let room = ready.room 0 (omega arith) in
    let sums = sum_by-set unnumbered r.numbers t 1 0 (omega arith) in
    let was : unnumbered (get_or r.numbers t 0) ≡ 1 = ap unnumbered none in
    let now : unnumbered 1 ≡ 0 = numbered_counts_not 1 (omega arith) in
    omega arith

put_room : (r r' : Rows) (t b e d : ℕ) → IsPut r r' t b e d → (k : ℕ) → k ≤ length r'.trail → sum_by unnumbered (unwind k r').numbers + (length r'.trail - k) ≤ 108
put_room r r' t b e d is zero within =
    let longer : length r'.trail ≡ length r.trail + 1 = ap length is.trail ∙ length_push r.trail t in
    let fewer = put_fewer r r' t b e d is in
    let room = is.ready.room 0 (omega arith) in
    omega arith
put_room r r' t b e d is (suc k) within =
    let longer : length r'.trail ≡ length r.trail + 1 = ap length is.trail ∙ length_push r.trail t in
    let same : unwind (suc k) r' ≡ unwind k r = ap (unwind k) (popped_put r r' t b e d is) in
    let sums : sum_by unnumbered (unwind (suc k) r').numbers ≡ sum_by unnumbered (unwind k r).numbers = ap (λ x. sum_by unnumbered x.numbers) same in
    let room = is.ready.room k (omega arith) in
    omega arith

put_paired : (r r' : Rows) (t b e d : ℕ) → IsPut r r' t b e d → (u : ℕ) → u < 108 → get_or r'.numbers u 0 ≢ 0 → get_or r'.numbers (back_of u (get_or r'.numbers u 0)) 0 ≡ 1 + u / 3
put_paired r r' t b e d is u inside some =
    let at = back_at t e is.some in
    let some_e = is.some in
    let same = is.back in
    let from = is.from in
    let there = put_there r r' t b e d is in
    let back = put_back r r' t b e d is in
    ⊎_elim
    (λ (here : u ≡ t).
    let v : get_or r'.numbers u 0 ≡ e = ap (λ k. get_or r'.numbers k 0) here ∙ there in
    let w : back_of u (get_or r'.numbers u 0) ≡ b = ap (back_of u) v ∙ ap (λ k. back_of k e) here ∙ sym same in
    ap (λ k. get_or r'.numbers k 0) w ∙ back ∙ from ∙ ap (λ k. 1 + k / 3) (sym here))
    (λ (first : u ≢ t). ⊎_elim
    (λ (here : u ≡ b).
    let v : get_or r'.numbers u 0 ≡ d = ap (λ k. get_or r'.numbers k 0) here ∙ back in
    let way = back_at u d (omega arith) in
    let w : back_of u (get_or r'.numbers u 0) ≡ t = ap (back_of u) v ∙ way ∙ omega arith in
    ap (λ k. get_or r'.numbers k 0) w ∙ there ∙ omega arith)
    (λ (second : u ≢ b).
    let v : get_or r'.numbers u 0 ≡ get_or r.numbers u 0 = put_else r r' t b e d u is first second in
    let old : get_or r.numbers (back_of u (get_or r.numbers u 0)) 0 ≡ 1 + u / 3 = is.ready.paired u inside (λ z. some (v ∙ z)) in
    let w = back_of u (get_or r.numbers u 0) in
    let not_first : w ≢ t = λ z. let none = ap (λ k. get_or r.numbers k 0) z ∙ is.none in omega arith in
    let not_second : w ≢ b = λ z. let none = ap (λ k. get_or r.numbers k 0) z ∙ is.none_back in omega arith in
    ap (λ k. get_or r'.numbers (back_of u k) 0) v ∙ put_else r r' t b e d w is not_first not_second ∙ old)
    (cases_eq u b))
    (cases_eq u t)

put_free : (r r' : Rows) (t b e d : ℕ) → IsPut r r' t b e d → TellFree r'.free r'.numbers
put_free r r' t b e d is =
    let was : unnumbered (get_or r.numbers t 0) ≡ 1 = ap unnumbered is.none in
    let now : unnumbered (get_or r'.numbers t 0) ≡ 0 = ap unnumbered (put_there r r' t b e d is) ∙ numbered_counts_not e is.some in
    let back : back_of t e ≡ b = sym is.back in
    let was_back : unnumbered (get_or r.numbers (back_of t e) 0) ≡ 1 = ap (λ k. unnumbered (get_or r.numbers k 0)) back ∙ ap unnumbered is.none_back in
    let from = is.from in
    let now_back : unnumbered (get_or r'.numbers (back_of t e) 0) ≡ 0 = ap (λ k. unnumbered (get_or r'.numbers k 0)) back ∙ ap unnumbered (put_back r r' t b e d is) ∙ numbered_counts_not d (omega arith) in
    subst (λ f. TellFree f r'.numbers) (sym is.free)
    (flip_all r.free r.numbers r'.numbers t e is.ready.three is.some is.ready.free (omega arith) (omega arith) (λ u first second. put_else r r' t b e d u is first (λ z. second (z ∙ is.back))))

put_known : (r r' : Rows) (t b e d : ℕ) → IsPut r r' t b e d → (k : ℕ) → k < length r'.trail → get_or (unwind k r').numbers (last_of (unwind k r')) 0 ≢ 0
put_known r r' t b e d is zero within =
    let longer : length r'.trail ≡ length r.trail + 1 = ap length is.trail ∙ length_push r.trail t in
    let last : length r'.trail - 1 ≡ length r.trail = omega arith in
    let there : last_of r' ≡ t =
    ap (λ k. get_or r'.trail k 0) last ∙ ap (λ xs. get_or xs (length r.trail) 0) is.trail ∙ get_or_push r.trail t 0 (length r.trail) refl in
    let some = is.some in
    λ z. let is_e = sym (put_there r r' t b e d is) ∙ ap (λ k. get_or r'.numbers k 0) (sym there) ∙ z in omega arith
put_known r r' t b e d is (suc k) within =
    let longer : length r'.trail ≡ length r.trail + 1 = ap length is.trail ∙ length_push r.trail t in
    subst (λ x. get_or x.numbers (last_of x) 0 ≢ 0) (sym (ap (unwind k) (popped_put r r' t b e d is))) (is.ready.known k (omega arith))

pub put_ready : (r r' : Rows) (t b e d : ℕ) → IsPut r r' t b e d → IsReady r'
put_ready r r' t b e d is =
    let ready = is.ready in
    let size = is.size in
    let positive = ready.positive in
    let small = ready.small in
    let whole = ready.whole in
    let low = is.low in
    let some = is.some in
    let image = is.image in
    let chamber = is.chamber in
    let below = put_low r r' t b e d is in
    let there = put_there r r' t b e d is in
    let back = put_back r r' t b e d is in
    let from = is.from in
    let at = back_at t e some in
    let same = is.back in
    record {
      positive = omega arith;
      small = omega arith;
      whole = ap length is.numbers ∙ pair_length r.numbers t b e d ∙ whole;
      within = λ u. ⊎_elim
          (λ (here : u ≡ t). let v = ap (λ k. get_or r'.numbers k 0) here ∙ there in omega arith)
          (λ (first : u ≢ t). ⊎_elim
          (λ (here : u ≡ b). let v = ap (λ k. get_or r'.numbers k 0) here ∙ back in omega arith)
          (λ (second : u ≢ b). let v = put_else r r' t b e d u is first second in let old = ready.within u in omega arith)
          (cases_eq u b))
          (cases_eq u t);
      paired = put_paired r r' t b e d is;
      free = put_free r r' t b e d is;
      three = ap length is.free ∙ length-set r.free (t % 3) (bit_xor (get_or r.free (t % 3) 0) (bits_of (1 + t / 3) e)) ∙ ready.three;
      known = put_known r r' t b e d is;
      inside = λ k before. ⊎_elim
          (λ (early : k < length r.trail).
          let v : get_or r'.trail k 0 ≡ get_or r.trail k 0 = ap (λ xs. get_or xs k 0) is.trail ∙ get_or_append_left r.trail (t ∷ []) 0 k early in
          let old = ready.inside k early in
          omega arith)
          (λ (late : length r.trail ≤ k).
          let longer : length r'.trail ≡ length r.trail + 1 = ap length is.trail ∙ length_push r.trail t in
          let last : length r.trail ≡ k = omega arith in
          let v : get_or r'.trail k 0 ≡ t = ap (λ xs. get_or xs k 0) is.trail ∙ get_or_push r.trail t 0 k last in
          omega arith)
          (cases_lt k (length r.trail));
      room = put_room r r' t b e d is;
    }

-- what is known at a place holds of each completion
pub known_holds : (r : Rows) (t : ℕ) (s : Symbol) → t < 108 → Completes (partial_of r) s → get_or r.numbers t 0 ≢ 0 → op s (index_at (t % 3)) (1 + t / 3) ≡ get_or r.numbers t 0
known_holds r t s low full some =
    let chamber : 1 + t / 3 - 1 < 36 = omega arith in
    let e : op (partial_of r) (index_at (t % 3)) (1 + t / 3) ≡ get_or r.numbers t 0 =
    op_partial r.size r.numbers (index_at (t % 3)) (1 + t / 3) chamber ∙ ap (λ u. get_or r.numbers u 0) (place_of_place t) in
    full.images (index_at (t % 3)) (1 + t / 3) (λ z. some (sym e ∙ z)) ∙ e

-- another image at a place than the one that is known there
pub known_excludes : (r : Rows) (t e : ℕ) → t < 108 → get_or r.numbers t 0 ≢ 0 → get_or r.numbers t 0 ≢ e → Excludes (λ s. op s (index_at (t % 3)) (1 + t / 3) ≡ e) r
known_excludes r t e low some other s full has = other (sym (known_holds r t s low full some) ∙ has)

-- the rows without what was put in last
pub record IsPopped (r r' : Rows) : Type 0 where
  pub size : r'.size ≡ r.size
  pub numbers : r'.numbers ≡ cleared r.numbers (last_of r)
  pub free : r'.free ≡ flipped r.free (last_of r) (get_or r.numbers (last_of r) 0)
  pub trail : r'.trail ≡ take (length r.trail - 1) r.trail

pub popped_is : (r r' : Rows) → IsPopped r r' → r' ≡ popped r
popped_is r r' is =
    let size = is.size in
    let numbers = is.numbers in
    let free = is.free in
    let trail = is.trail in
    λ x. record { size = size x; numbers = numbers x; free = free x; trail = trail x }

popped_at : (r r' : Rows) (u : ℕ) → IsPopped r r' → let t = get_or r.trail (length r.trail - 1) 0 in u ≢ t → u ≢ back_of t (get_or r.numbers t 0) → get_or r'.numbers u 0 ≡ get_or r.numbers u 0
popped_at r r' u is first second =
    let t = get_or r.trail (length r.trail - 1) 0 in
    ap (λ xs. get_or xs u 0) is.numbers ∙ pair_other r.numbers t (back_of t (get_or r.numbers t 0)) u 0 0 first second

pub popped_ready : (r r' : Rows) → IsReady r → 0 < length r.trail → IsPopped r r' → IsReady r'
popped_ready r r' ready some is =
    let t = get_or r.trail (length r.trail - 1) 0 in
    let e = get_or r.numbers t 0 in
    let b = back_of t e in
    let size = is.size in
    let whole = ready.whole in
    let positive = ready.positive in
    let small = ready.small in
    let low : t < 108 = ready.inside (length r.trail - 1) (omega arith) in
    let image = ready.within t in
    let below : b < 108 = back_below t e low (omega arith) in
    let shorter : length r'.trail ≡ length r.trail - 1 = ap length is.trail ∙ length-take-le (length r.trail - 1) r.trail (omega arith) in
    let at_second : get_or r'.numbers b 0 ≡ 0 = ap (λ xs. get_or xs b 0) is.numbers ∙ pair_second r.numbers t b 0 0 (omega arith) in
    let at_first : get_or r'.numbers t 0 ≡ 0 = ⊎_elim
    (λ (same : t ≡ b). ap (λ k. get_or r'.numbers k 0) same ∙ at_second)
    (λ apart. ap (λ xs. get_or xs t 0) is.numbers ∙ pair_first r.numbers t b 0 0 apart (omega arith))
    (cases_eq t b) in
    record {
      positive = omega arith;
      small = omega arith;
      whole = ap length is.numbers ∙ pair_length r.numbers t b 0 0 ∙ whole;
      within = λ u. ⊎_elim
          (λ (here : u ≡ t). let v = ap (λ k. get_or r'.numbers k 0) here ∙ at_first in omega arith)
          (λ (first : u ≢ t). ⊎_elim
          (λ (here : u ≡ b). let v = ap (λ k. get_or r'.numbers k 0) here ∙ at_second in omega arith)
          (λ (second : u ≢ b). let v = popped_at r r' u is first second in let old = ready.within u in omega arith)
          (cases_eq u b))
          (cases_eq u t);
      paired = λ u inside known.
          let first : u ≢ t = λ here. known (ap (λ k. get_or r'.numbers k 0) here ∙ at_first) in
          let second : u ≢ b = λ here. known (ap (λ k. get_or r'.numbers k 0) here ∙ at_second) in
          let v : get_or r'.numbers u 0 ≡ get_or r.numbers u 0 = popped_at r r' u is first second in
          let f = get_or r.numbers u 0 in
          let was : f ≢ 0 = λ z. known (v ∙ z) in
          let positive_f : 1 ≤ f = omega (arith, was) in
          let w = back_of u f in
          let w_is : w ≡ 3 * (f - 1) + u % 3 = back_at u f positive_f in
          let old : get_or r.numbers w 0 ≡ 1 + u / 3 = ready.paired u inside was in
          let not_first : w ≢ t = λ z.
          let e_is : e ≡ 1 + u / 3 = ap (λ k. get_or r.numbers k 0) (sym z) ∙ old in
          let b_is : b ≡ 3 * (e - 1) + t % 3 = back_at t e (omega arith) in
          second (omega arith) in
          let not_second : w ≢ b = λ z.
          ⊎_elim
          (λ (none : e ≡ 0). not_first (z ∙ ap (back_of t) none))
          (λ (known_t : e ≢ 0).
          let b_is : b ≡ 3 * (e - 1) + t % 3 = back_at t e (omega (arith, known_t)) in
          let own : get_or r.numbers b 0 ≡ 1 + t / 3 = ready.paired t low known_t in
          let there : get_or r.numbers w 0 ≡ get_or r.numbers b 0 = ap (λ k. get_or r.numbers k 0) z in
          first (omega arith))
          (cases_eq e 0) in
          ap (λ k. get_or r'.numbers (back_of u k) 0) v ∙ popped_at r r' w is not_first not_second ∙ old;
      free =
          let last_known : e ≢ 0 = ready.known 0 some in
          let positive_e : 1 ≤ e = omega (arith, last_known) in
          let was : unnumbered e ≡ 0 = numbered_counts_not e positive_e in
          let now : unnumbered (get_or r'.numbers t 0) ≡ 1 = ap unnumbered at_first in
          let own : get_or r.numbers b 0 ≡ 1 + t / 3 = ready.paired t low last_known in
          let was_back : unnumbered (get_or r.numbers b 0) ≡ 0 = numbered_counts_not (get_or r.numbers b 0) (omega arith) in
          let now_back : unnumbered (get_or r'.numbers b 0) ≡ 1 = ap unnumbered at_second in
          subst (λ f. TellFree f r'.numbers) (sym is.free)
          (flip_all r.free r.numbers r'.numbers t e ready.three positive_e ready.free (omega arith) (omega arith) (λ u first second. popped_at r r' u is first second));
      three = ap length is.free ∙ length-set r.free (t % 3) (bit_xor (get_or r.free (t % 3) 0) (bits_of (1 + t / 3) e)) ∙ ready.three;
      known = λ k within.
          let same : unwind k r' ≡ unwind (suc k) r = ap (unwind k) (popped_is r r' is) in
          subst (λ x. get_or x.numbers (last_of x) 0 ≢ 0) (sym same) (ready.known (suc k) (omega arith));
      inside = λ k before.
          let v : get_or r'.trail k 0 ≡ get_or r.trail k 0 = ap (λ xs. get_or xs k 0) is.trail ∙ get_or-take (length r.trail - 1) r.trail k 0 (omega arith) in
          let old = ready.inside k (omega arith) in
          omega arith;
      room = λ k within.
          let same : unwind k r' ≡ unwind (suc k) r = ap (unwind k) (popped_is r r' is) in
          let sums : sum_by unnumbered (unwind k r').numbers ≡ sum_by unnumbered (unwind (suc k) r).numbers = ap (λ x. sum_by unnumbered x.numbers) same in
          let room = ready.room (suc k) (omega arith) in
          omega arith;
    }

-- one step of the way back
pub unwound_less : (r r' : Rows) (mark : ℕ) → mark < depth_of r → IsPopped r r' → unwound r' mark ≡ unwound r mark
unwound_less r r' mark low is =
    let some : depth_of r - mark ≡ suc (depth_of r - 1 - mark) = omega arith in
    let shorter : depth_of r' ≡ depth_of r - 1 = ap length is.trail ∙ length-take-le (depth_of r - 1) r.trail (omega arith) in
    ap (λ k. unwind (k - mark) r') shorter ∙ ap (unwind (depth_of r - 1 - mark)) (popped_is r r' is) ∙ sym (ap (λ k. unwind k r) some)

-- so many zeros
abbrev pub zeros : ℕ → List ℕ
zeros m = replicate m 0

-- nothing is known of a table without images
pub nothing_known : (n : ℕ) (i : Index) (d : ℕ) → op (partial_from n (zeros 108)) i d ≡ 0
nothing_known n i d = ⊎_elim
    (λ low. op_partial n (zeros 108) i d low ∙ zero_at 108 (place i d))
    (λ high. op_past n (zeros 108) i d high)
    (cases_lt (d - 1) 36)

empty_room : (r : Rows) (k : ℕ) → r.numbers ≡ zeros 108 → length r.trail ≡ 0 → k ≤ length r.trail → sum_by unnumbered (unwind k r).numbers + (length r.trail - k) ≤ 108
empty_room r zero numbers none within = let sums : sum_by unnumbered r.numbers ≡ 108 = ap (sum_by unnumbered) numbers ∙ sum_by-replicate unnumbered 108 0 in omega arith
empty_room r (suc k) numbers none within = absurd (omega arith)

pub empty_ready : (r : Rows) → 1 ≤ r.size → r.size ≤ 36 → r.numbers ≡ zeros 108 → r.free ≡ replicate 3 (2 ^ 64 - 1) → r.trail ≡ [] → IsReady r
empty_ready r low high numbers free trail =
    let none : length r.trail ≡ 0 = ap length trail in
    record {
      positive = low;
      small = high;
      whole = ap length numbers;
      within = λ t. let e : get_or r.numbers t 0 ≡ 0 = ap (λ xs. get_or xs t 0) numbers ∙ zero_at 108 t in omega arith;
      free = λ t inside.
          let bit : bit_at (get_or r.free (t % 3) 0) (1 + t / 3) ≡ 1 =
          ap (λ f. bit_at (get_or f (t % 3) 0) (1 + t / 3)) free ∙ ap (λ x. bit_at x (1 + t / 3)) (get_or-replicate 3 (t % 3) (2 ^ 64 - 1) 0 (omega arith)) ∙ bit_at_ones 64 (1 + t / 3) (omega arith) in
          bit ∙ sym (ap unnumbered (ap (λ xs. get_or xs t 0) numbers ∙ zero_at 108 t));
      three = ap length free;
      known = λ k within. absurd (omega arith);
      paired = λ t low known. absurd (known (ap (λ xs. get_or xs t 0) numbers ∙ zero_at 108 t));
      inside = λ k below. absurd (omega arith);
      room = λ k within. empty_room r k numbers none within;
    }

pub cleared_by : (numbers : List ℕ) (t b : ℕ) → b ≡ back_of t (get_or numbers t 0) → set (set numbers t 0) b 0 ≡ cleared numbers t
cleared_by numbers t b is = ap (λ k. set (set numbers t 0) k 0) is

pub flipped_by : (free : List ℕ) (t e m : ℕ) → m ≡ bits_of (1 + t / 3) e → set free (t % 3) (bit_xor (get_or free (t % 3) 0) m) ≡ flipped free t e
flipped_by free t e m is = ap (λ k. set free (t % 3) (bit_xor (get_or free (t % 3) 0) k)) is

-- the rows after the last place was taken from the trail and cleared
pub popped_from : (r r' : Rows) (t : ℕ) → r'.size ≡ r.size → r'.numbers ≡ cleared r.numbers t → r'.free ≡ flipped r.free t (get_or r.numbers t 0) → r.trail ≡ r'.trail ++ t ∷ []
    → IsPopped r r'
popped_from r r' t size numbers free trail =
    let longer : length r.trail ≡ length r'.trail + 1 = ap length trail ∙ length_push r'.trail t in
    let last : length r.trail - 1 ≡ length r'.trail = omega arith in
    let there : get_or r.trail (length r.trail - 1) 0 ≡ t =
    ap (λ k. get_or r.trail k 0) last ∙ ap (λ xs. get_or xs (length r'.trail) 0) trail ∙ get_or_push r'.trail t 0 (length r'.trail) refl in
    record {
      size = size;
      numbers = numbers ∙ ap (cleared r.numbers) (sym there);
      free = free ∙ ap (λ k. flipped r.free k (get_or r.numbers k 0)) (sym there);
      trail = sym (ap (λ k. take k r.trail) last ∙ ap (take (length r'.trail)) trail ∙ take_at r'.trail (t ∷ []) (length r'.trail) refl);
    }

-- what stands at a place is known
pub told_at : (r : Rows) (t e : ℕ) → t < 108 → get_or r.numbers t 0 ≡ e → op (partial_of r) (index_at (t % 3)) (1 + t / 3) ≡ e
told_at r t e low is =
    let chamber : 1 + t / 3 - 1 < 36 = omega arith in
    op_partial r.size r.numbers (index_at (t % 3)) (1 + t / 3) chamber ∙ ap (λ u. get_or r.numbers u 0) (place_of_place t) ∙ is

pub put_told : (r r' : Rows) (t b e d : ℕ) → IsPut r r' t b e d → op (partial_of r') (index_at (t % 3)) (1 + t / 3) ≡ e
put_told r r' t b e d is = told_at r' t e is.low (put_there r r' t b e d is)

-- ## Chambers without images

none_below : (g k : ℕ) → g < 2 ^ 64 → k < trailing_zeros w64 g → bit_at g k ≡ 0
none_below g k small low = ⊎_elim
    (λ (none : g ≡ 0). ap (λ x. bit_at x k) none ∙ bit_at-zero k)
    (λ (some : g ≢ 0). (bit_at-trailing_zeros w64 g (omega (arith, some)) small).2 k low)
    (cases_eq g 0)

-- a chamber whose bit is not set has its image
pub no_bit_has_image : (r : Rows) (i : Index) (d : ℕ) → IsReady r → 1 ≤ d → d ≤ 36 → bit_at (get_or r.free (place i 1) 0) d ≡ 0 → op (partial_of r) i d ≢ 0
no_bit_has_image r i d ready low high zero_bit none =
    let at : place i d % 3 ≡ place i 1 = place_first i d in
    let chamber : 1 + place i d / 3 ≡ d = (let row = chamber_of_place i d in omega arith) in
    let tell = ready.free (place i d) (place_below i d high) in
    let bit : bit_at (get_or r.free (place i d % 3) 0) (1 + place i d / 3) ≡ 0 = ap (λ j. bit_at (get_or r.free j 0) (1 + place i d / 3)) at ∙ ap (bit_at (get_or r.free (place i 1) 0)) chamber ∙ zero_bit in
    let number : get_or r.numbers (place i d) 0 ≡ 0 = sym (op_partial r.size r.numbers i d (omega arith)) ∙ none in
    let counted : unnumbered (get_or r.numbers (place i d) 0) ≡ 1 = ap unnumbered number in
    absurd (omega arith)

-- an image leads back
pub leads_back : (r : Rows) (i : Index) (d c : ℕ) → IsReady r → 1 ≤ d → d ≤ 36 → 1 ≤ c → c ≤ 36 → op (partial_of r) i d ≡ c → op (partial_of r) i c ≡ d
leads_back r i d c ready low high some few is =
    let number : get_or r.numbers (place i d) 0 ≡ c = sym (op_partial r.size r.numbers i d (omega arith)) ∙ is in
    let led = ready.paired (place i d) (place_below i d high) (λ z. let none = sym number ∙ z in omega arith) in
    let way : back_of (place i d) (get_or r.numbers (place i d) 0) ≡ place i c = ap (back_of (place i d)) number ∙ back_is_place i d c some in
    let row = chamber_of_place i d in
    op_partial r.size r.numbers i c (omega arith) ∙ ap (λ k. get_or r.numbers k 0) (sym way) ∙ led ∙ omega arith
