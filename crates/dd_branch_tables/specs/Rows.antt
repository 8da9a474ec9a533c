-- A table that is filled in place, and what was put into it, in order.
use Rattle.std.specs.Prelude.{◌≡◌, ◌≢◌, ℕ, zero, suc, ◌+◌, ◌-◌, ◌/◌, ◌%◌, ◌<◌, ◌≤◌, List, [], length, map, take, slice_index, slice_set, bit_xor}
use Rattle.std.specs.Int.{bit_at}
use Rattle.std.specs.List.{sum_by}
use Rattle.dd_model.specs.declared.index.Index.{Index}
use Rattle.dd_model.specs.declared.index.Index.TheVariants.{Zero, One, Two}
use Rattle.dd_model.specs.declared.pair.Pair.TheVariants.{Edge}
use Rattle.dd_model.specs.Symbol.{Symbol, IsChamber, HasDegree, op}
use Rattle.dd_model.specs.Code.{count_from}
use Rattle.dd_model.specs.Partial.{Completes}
use Rattle.dd_canon.specs.Traversal.{unnumbered}
use Rattle.dd_front_jobs.specs.Places.{place, back_of, bits_of}
use Rattle.dd_model.specs.Indices.{index_at}

-- What is known of three involutions of a number of chambers: the images in the order of codes, where 0 is an image that is not
-- known, for each involution the chambers without images as bits, and one of each two places that were filled at once, in order.
pub record Rows : Type 0 where
  pub size : ℕ
  pub numbers : List ℕ
  pub free : List ℕ
  pub trail : List ℕ

-- the images of 36 chambers under an involution, in a list of images in the order of codes
unfoldable pub images_in : List ℕ → Index → List ℕ
images_in numbers i = map (λ d. slice_index numbers (place i d)) (count_from 1 36)

-- The partial table of a size whose images are in a list in the order of codes. 0 stands where nothing is known.
abbrev pub partial_from : ℕ → List ℕ → Symbol
partial_from n numbers = record { size = n; s0 = images_in numbers Zero; s1 = images_in numbers One; s2 = images_in numbers Two; m01 = []; m12 = [] }

-- the symbol has the number at a place of its code
abbrev pub HasNumberAt : ℕ → ℕ → Symbol → Type 0
HasNumberAt place number s = op s (index_at (place % 3)) (1 + place / 3) ≡ number

-- what the rows say
abbrev pub partial_of : Rows → Symbol
partial_of r = partial_from r.size r.numbers

-- how much was put in
abbrev pub depth_of : Rows → ℕ
depth_of r = length r.trail

-- the numbers without those at a place and at the one to which its image leads
abbrev pub cleared : List ℕ → ℕ → List ℕ
cleared numbers t = slice_set (slice_set numbers t 0) (back_of t (slice_index numbers t)) 0

-- the bits of the chambers without images, with those of a place and of its image the other way round
abbrev pub flipped : List ℕ → ℕ → ℕ → List ℕ
flipped free t e = slice_set free (t % 3) (bit_xor (slice_index free (t % 3)) (bits_of (1 + t / 3) e))

-- the place that was filled last
abbrev pub last_of : Rows → ℕ
last_of r = slice_index r.trail (length r.trail - 1)

-- the rows without what was put in last
abbrev pub popped : Rows → Rows
popped r = record {
  size = r.size;
  numbers = cleared r.numbers (last_of r);
  free = flipped r.free (last_of r) (slice_index r.numbers (last_of r));
  trail = take (length r.trail - 1) r.trail;
}

-- the rows without what was put in last, k times over
abbrev pub unwind : ℕ → Rows → Rows
unwind zero r = r
unwind (suc k) r = unwind k (popped r)

-- the rows with no more than so much put in
abbrev pub unwound : Rows → ℕ → Rows
unwound r mark = unwind (depth_of r - mark) r

-- Images are chambers that lead back, and the chambers without images are told by bits. What was put in last is known, and no
-- more was put in than there are places, now and at each step of the way back.
pub record IsReady (r : Rows) : Type 0 where
  pub positive : 1 ≤ r.size
  pub small : r.size ≤ 36
  pub whole : length r.numbers ≡ 108
  pub within : (t : ℕ) → slice_index r.numbers t ≤ r.size
  pub paired : (t : ℕ) → t < 108 → slice_index r.numbers t ≢ 0 → slice_index r.numbers (back_of t (slice_index r.numbers t)) ≡ 1 + t / 3
  pub free : (t : ℕ) → t < 108 → bit_at (slice_index r.free (t % 3)) (1 + t / 3) ≡ unnumbered (slice_index r.numbers t)
  pub three : length r.free ≡ 3
  pub known : (k : ℕ) → k < length r.trail → slice_index (unwind k r).numbers (last_of (unwind k r)) ≢ 0
  pub inside : (k : ℕ) → k < length r.trail → slice_index r.trail k < 108
  pub room : (k : ℕ) → k ≤ length r.trail → sum_by unnumbered (unwind k r).numbers + (length r.trail - k) ≤ 108

-- What was put in holds of each completion with the property P, leaves what was known, and can be taken out again.
pub record Learns (P : Symbol → Type 0) (old new : Rows) : Type 0 where
  pub completes : (s : Symbol) → Completes (partial_of old) s → P s → Completes (partial_of new) s
  pub keeps : (i : Index) (d : ℕ) → op (partial_of old) i d ≢ 0 → op (partial_of new) i d ≡ op (partial_of old) i d
  pub size : new.size ≡ old.size
  pub deeper : depth_of old ≤ depth_of new
  pub undone : unwound new (depth_of old) ≡ old

-- No completion has the property P.
abbrev pub Excludes : (Symbol → Type 0) → Rows → Type 0
Excludes P r = (s : Symbol) → Completes (partial_of r) s → P s → ⊥

-- s0 s2 s0 s2 moves no chamber
abbrev pub Commutes : Symbol → Type 0
Commutes s = (d : ℕ) → IsChamber s d → HasDegree s Edge d
