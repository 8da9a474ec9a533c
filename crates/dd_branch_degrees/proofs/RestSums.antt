-- Sums over the places from each one on, made from the last place to the first.
use Rattle.std.proofs.Common.{◌≡◌, ℕ, ◌+◌, ◌-◌, ◌*◌, ◌<◌, ◌≤◌, List, length, get_or, set, replicate, sym, ap, ◌∙◌, subst, ⊎_elim, arith}
use Rattle.std.proofs.lemmas.Bool.{cases_lt}
use Rattle.std.proofs.lemmas.List.{get_or-set_same, get_or-set_other, get_or_default, get_or-replicate}
use Rattle.std.specs.Int.{bit_at}
use Rattle.dd_branch_degrees.specs.LaterBudgets.{HasSurplusWith}
use Rattle.dd_branch_degrees.specs.declared.places.DegreeSlot.{DegreeSlot}

pub none_yet : (n : ℕ) → n ≤ 72 → get_or {A = ℕ} (replicate 73 0) n 0 ≡ 0
none_yet n few = get_or-replicate {A = ℕ} 73 n 0 0 (omega (arith, few))

-- each place from k on adds its share
abbrev pub AddFrom : (DegreeSlot → ℕ) → List DegreeSlot → List ℕ → ℕ → Type 0
AddFrom f places sums k = (j : ℕ) (x : DegreeSlot) → k ≤ j → j < length places → get_or sums j 0 ≡ get_or sums (j + 1) 0 + f (get_or places j x)

-- the sums with one more place in front
abbrev pub with_place : List ℕ → ℕ → ℕ → List ℕ
with_place sums k y = set sums (k - 1) (get_or sums (k - 1 + 1) 0 + y)

pub one_more : (f : DegreeSlot → ℕ) (places : List DegreeSlot) (d : DegreeSlot) (sums : List ℕ) (k y : ℕ) → y ≡ f (get_or places (k - 1) d) → 0 < k → k ≤ length places → length places < length sums
    → AddFrom f places sums k → AddFrom f places (with_place sums k y) (k - 1)
one_more f places d sums k y is some inside room before j x low high =
    let sum = get_or sums (k - 1 + 1) 0 + y in
    let next : get_or (set sums (k - 1) sum) (j + 1) 0 ≡ get_or sums (j + 1) 0 = get_or-set_other sums (k - 1) (j + 1) sum 0 (λ e. omega (arith, e, low)) in
    ⊎_elim
    (λ early.
    let at : j ≡ k - 1 = omega (arith, early, low) in
    let here : get_or (set sums (k - 1) sum) j 0 ≡ sum = ap (λ i. get_or (set sums (k - 1) sum) i 0) at ∙ get_or-set_same sums (k - 1) sum 0 (omega (arith, some, inside, room)) in
    let step : get_or sums (j + 1) 0 ≡ get_or sums (k - 1 + 1) 0 = ap (λ i. get_or sums (i + 1) 0) at in
    let share : f (get_or places j x) ≡ y = ap f (get_or_default places j x d high ∙ ap (λ i. get_or places i d) at) ∙ sym is in
    omega (arith, here, next, step, share))
    (λ late.
    let here : get_or (set sums (k - 1) sum) j 0 ≡ get_or sums j 0 = get_or-set_other sums (k - 1) j sum 0 (λ e. omega (arith, e, late, some)) in
    let old = before j x late high in
    omega (arith, here, next, old))
    (cases_lt j k)

pub end_kept : (f : DegreeSlot → ℕ) (places : List DegreeSlot) (d : DegreeSlot) (sums : List ℕ) (k y : ℕ) → y ≡ f (get_or places (k - 1) d) → 0 < k → k ≤ length places → get_or sums (length places) 0 ≡ 0
    → get_or (with_place sums k y) (length places) 0 ≡ 0
end_kept f places d sums k y is some inside before =
    get_or-set_other sums (k - 1) (length places) (get_or sums (k - 1 + 1) 0 + y) 0 (λ e. omega (arith, e, some, inside)) ∙ before

pub still_small : (f : DegreeSlot → ℕ) (places : List DegreeSlot) (d : DegreeSlot) (sums : List ℕ) (k y : ℕ) → y ≡ f (get_or places (k - 1) d) → 0 < k → k ≤ length places → length places < length sums
    → ((j : ℕ) (x : DegreeSlot) → j < length places → f (get_or places j x) ≤ 24) → get_or sums k 0 ≤ (length places - k) * 24
    → get_or (with_place sums k y) (k - 1) 0 ≤ (length places - (k - 1)) * 24
still_small f places d sums k y is some inside room each before =
    let sum = get_or sums (k - 1 + 1) 0 + y in
    let here : get_or (set sums (k - 1) sum) (k - 1) 0 ≡ sum = get_or-set_same sums (k - 1) sum 0 (omega (arith, some, inside, room)) in
    let back : k - 1 + 1 ≡ k = omega (arith, some) in
    let same : get_or sums (k - 1 + 1) 0 ≡ get_or sums k 0 = ap (λ i. get_or sums i 0) back in
    let one = each (k - 1) d (omega (arith, some, inside)) in
    omega (arith, here, same, one, is, before, some, inside)

-- ## What there may be beyond the least

pub still_none : (places : List DegreeSlot) (bits : List ℕ) (k y : ℕ) → 0 < k → k ≤ length places → bit_at (get_or bits (length places) 0) 63 ≡ 1 → bit_at (get_or (set bits (k - 1) y) (length places) 0) 63 ≡ 1
still_none places bits k y some inside before = ap (λ n. bit_at n 63) (get_or-set_other bits (k - 1) (length places) y 0 (λ e. omega (arith, e, some, inside))) ∙ before

-- the bits with those of one more place in front
pub surplus_more : (places : List DegreeSlot) (d : DegreeSlot) (bits : List ℕ) (k y : ℕ) → 0 < k → k ≤ length places → length places < length bits → HasSurplusWith (get_or places (k - 1) d) (get_or bits (k - 1 + 1) 0) y
    → ((j : ℕ) (x : DegreeSlot) → k ≤ j → j < length places → HasSurplusWith (get_or places j x) (get_or bits (j + 1) 0) (get_or bits j 0))
    → (j : ℕ) (x : DegreeSlot) → k - 1 ≤ j → j < length places → HasSurplusWith (get_or places j x) (get_or (set bits (k - 1) y) (j + 1) 0) (get_or (set bits (k - 1) y) j 0)
surplus_more places d bits k y some inside room here before j x low high =
    let next : get_or (set bits (k - 1) y) (j + 1) 0 ≡ get_or bits (j + 1) 0 = get_or-set_other bits (k - 1) (j + 1) y 0 (λ e. omega (arith, e, low)) in
    ⊎_elim
    (λ early.
    let at : k - 1 ≡ j = omega (arith, early, low) in
    let own : get_or (set bits (k - 1) y) j 0 ≡ y = ap (λ i. get_or (set bits (k - 1) y) i 0) (sym at) ∙ get_or-set_same bits (k - 1) y 0 (omega (arith, some, inside, room)) in
    let later : get_or (set bits (k - 1) y) (j + 1) 0 ≡ get_or bits (k - 1 + 1) 0 = next ∙ ap (λ i. get_or bits (i + 1) 0) (sym at) in
    let place : get_or places j x ≡ get_or places (k - 1) d = get_or_default places j x d high ∙ ap (λ i. get_or places i d) (sym at) in
    subst (λ p. HasSurplusWith p (get_or (set bits (k - 1) y) (j + 1) 0) (get_or (set bits (k - 1) y) j 0)) (sym place)
    (subst (λ n. HasSurplusWith (get_or places (k - 1) d) n (get_or (set bits (k - 1) y) j 0)) (sym later)
    (subst (HasSurplusWith (get_or places (k - 1) d) (get_or bits (k - 1 + 1) 0)) (sym own) here)))
    (λ late.
    let own : get_or (set bits (k - 1) y) j 0 ≡ get_or bits j 0 = get_or-set_other bits (k - 1) j y 0 (λ e. omega (arith, e, late, some)) in
    subst (λ n. HasSurplusWith (get_or places j x) n (get_or (set bits (k - 1) y) j 0)) (sym next)
    (subst (HasSurplusWith (get_or places j x) (get_or bits (j + 1) 0)) (sym own) (before j x late high)))
    (cases_lt j k)
