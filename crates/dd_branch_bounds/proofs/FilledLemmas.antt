-- What was put into a table is known.
use Rattle.std.proofs.Common.{◌≡◌, ◌≢◌, ℕ, zero, suc, ◌+◌, ◌-◌, ◌/◌, ◌%◌, ◌<◌, List, length, length-drop, get_or, take, drop, refl, sym, ap, ◌∙◌, subst, ⊎_elim, arith}
use Rattle.std.proofs.lemmas.List.{get_or-take, get_or-drop, length-take-le}
use Rattle.dd_model.specs.Partial.{Completes}
use Rattle.dd_model.specs.Symbol.{Symbol, op}
use Rattle.dd_branch_tables.specs.Rows.{Rows, partial_of, last_of, popped, unwind, HasNumberAt, IsReady}
use Rattle.dd_branch_tables.proofs.RowsLemmas.{told_at}
use Rattle.dd_branch_bounds.specs.Kept.{IsImage}
use Rattle.dd_branch_bounds.specs.declared.link.Link.{Link}
use Rattle.dd_branch_bounds.proofs.ShareGrowth.{cleared_or_same}
use Rattle.dd_model.specs.Indices.{index_at}

-- what was put in last, some steps back
last_back : (k j : ℕ) (r : Rows) → j + k + 1 ≡ length r.trail → last_of (unwind k r) ≡ get_or r.trail j 0
last_back zero j r at = let e : length r.trail - 1 ≡ j = omega (arith, at) in ap (λ n. get_or r.trail n 0) e
last_back (suc k) j r at =
    let n = length r.trail - 1 in
    let long : length (take n r.trail) ≡ n = length-take-le n r.trail (omega (arith)) in
    last_back k j (popped r) (omega (arith, at, long)) ∙ get_or-take n r.trail j 0 (omega (arith, at))

-- a number that is known some steps back is known
known_back : (k t : ℕ) (r : Rows) → get_or (unwind k r).numbers t 0 ≢ 0 → get_or r.numbers t 0 ≢ 0
known_back zero t r some none = some none
known_back (suc k) t r some none = ⊎_elim
    (λ same. known_back k t (popped r) some (same ∙ none))
    (λ cleared. known_back k t (popped r) some cleared)
    (cleared_or_same r.numbers (last_of r) t)

-- the number at a place that was filled is known
filled_known : (r : Rows) → IsReady r → (j : ℕ) → j < length r.trail → get_or r.numbers (get_or r.trail j 0) 0 ≢ 0
filled_known r ready j low =
    let k = length r.trail - 1 - j in
    known_back k (get_or r.trail j 0) r
    (subst (λ t. get_or (unwind k r).numbers t 0 ≢ 0) (last_back k j r (omega (arith, low))) (ready.known k (omega (arith, low))))

-- each completion has a number that is known
number_of_all : (r : Rows) (t n : ℕ) → t < 108 → get_or r.numbers t 0 ≢ 0 → HasNumberAt t n (partial_of r) → (s : Symbol) → Completes (partial_of r) s → HasNumberAt t n s
number_of_all r t n low some told s full =
    let here = told_at r t (get_or r.numbers t 0) low refl in
    full.images (index_at (t % 3)) (1 + t / 3) (λ none. some (sym here ∙ none)) ∙ told

-- each completion has a number that was put in after a mark
pub filled_number : (r : Rows) → IsReady r → (mark k n : ℕ) (places : List ℕ) → places ≡ drop mark r.trail → k < length places → HasNumberAt (get_or places k 0) n (partial_of r)
    → (s : Symbol) → Completes (partial_of r) s → HasNumberAt (get_or places k 0) n s
filled_number r ready mark k n places is low told =
    let size : length places ≡ length r.trail - mark = ap length is ∙ length-drop mark r.trail in
    let below : mark + k < length r.trail = omega (arith, low, size) in
    let same : get_or places k 0 ≡ get_or r.trail (mark + k) 0 = ap (λ xs. get_or xs k 0) is ∙ get_or-drop mark r.trail k 0 in
    number_of_all r (get_or places k 0) n (subst (λ t. t < 108) (sym same) (ready.inside (mark + k) below))
    (subst (λ t. get_or r.numbers t 0 ≢ 0) (sym same) (filled_known r ready (mark + k) below)) told

-- the image of such a number
pub filled_image : (r : Rows) → IsReady r → (mark k n : ℕ) (places : List ℕ) → places ≡ drop mark r.trail → k < length places → HasNumberAt (get_or places k 0) n (partial_of r)
    → (link : Link) → link.index ≡ index_at (get_or places k 0 % 3) → link.chamber ≡ 1 + get_or places k 0 / 3 → link.image ≡ n → IsImage (Completes (partial_of r)) link
filled_image r ready mark k n places is low told link index chamber image s full =
    ap (λ i. op s i link.chamber) index ∙ ap (op s (index_at (get_or places k 0 % 3))) chamber
    ∙ filled_number r ready mark k n places is low told s full ∙ sym image
