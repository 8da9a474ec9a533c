-- The rows of the first table say that the vertices are balanced.
use Rattle.std.proofs.Common.{◌≡◌, ◌≢◌, ℕ, suc, ◌+◌, ◌<◌, ◌≤◌, ℤ, pos, ◌+ℤ◌, ◌-ℤ◌, ◌*ℤ◌, Bool, true, false, cond, nat_eq, eqb, List, [], ◌∷◌, refl, sym, ap, ◌∙◌, ⊎_elim, add-one, arith}
use Rattle.std.specs.List.{AllByRecursion}
use Rattle.std.proofs.lemmas.Int.{ints}
use Rattle.std.proofs.lemmas.Bool.{cases_eq, eq-eqb, ne_eqb}
use Rattle.dd_lattice.specs.declared.net.Net.{Net}
use Rattle.dd_lattice.specs.declared.net_edge.NetEdge.{NetEdge}
use Rattle.dd_lattice.proofs.Rings.{at, nat, equal, ◌⊞◌, ◌⊟◌, ◌⊠◌}
use Rattle.dd_draw.proofs.Totals.{total, total-same, total-sum, total-zero, total_at, total_combined, if_same-same, if_same-other}
use Rattle.dd_draw.proofs.Pulls.{IsInside}
use Rattle.dd_draw.specs.Placement.{if_same, pull}
use Rattle.dd_draw.specs.Elimination.{sum_unlooped, ends_at, joins, seen_from, first_entry}

-- ## Rows, loops being left in

-- What an edge gives to row v and column w. A loop gives nothing.
abbrev pub edge_row : NetEdge → ℕ → ℕ → ℤ
edge_row e v w =
    if_same e.from v (if_same v w (pos 1) -ℤ if_same e.to w (pos 1)) +ℤ if_same e.to v (if_same v w (pos 1) -ℤ if_same e.from w (pos 1))

abbrev pub row : List NetEdge → ℕ → ℕ → ℤ
row [] v w = pos 0
row (e ∷ es) v w = edge_row e v w +ℤ row es v w

-- the part of an edge in its vertex's own column, by whether it is a loop, begins there and ends there
own_edge : (c a b : Bool) (d : ℤ) → (a ≡ true → b ≡ true → c ≡ true) → (a ≡ true → c ≡ true → b ≡ true) → (b ≡ true → c ≡ true → a ≡ true) → d ≡ pos 1
    → cond c (pos 0) (cond a (pos 1) (pos 0) +ℤ cond b (pos 1) (pos 0))
    ≡ cond a (d -ℤ cond b (pos 1) (pos 0)) (pos 0) +ℤ cond b (d -ℤ cond a (pos 1) (pos 0)) (pos 0)
own_edge true true true d h k l e = omega (arith, ints)
own_edge true true false d h k l e = let wrong = k refl refl in absurd (cc)
own_edge true false true d h k l e = let wrong = l refl refl in absurd (cc)
own_edge true false false d h k l e = refl
own_edge false true true d h k l e = let wrong = h refl refl in absurd (cc)
own_edge false true false d h k l e = omega (arith, ints)
own_edge false false true d h k l e = omega (arith, ints)
own_edge false false false d h k l e = refl

-- the part of an edge in another column: it is between the two vertices, or it is not
other_edge : (c a b x y : Bool) (d : ℤ) → (a ≡ true → c ≡ true → x ≡ false) → (b ≡ true → c ≡ true → y ≡ false) → d ≡ pos 0
    → pos 0 -ℤ cond c (pos 0) (cond a (cond x (pos 1) (pos 0)) (pos 0) +ℤ cond b (cond y (pos 1) (pos 0)) (pos 0))
    ≡ cond a (d -ℤ cond x (pos 1) (pos 0)) (pos 0) +ℤ cond b (d -ℤ cond y (pos 1) (pos 0)) (pos 0)
other_edge true a b x y d h k e = looped a b x y d h k e
  where
    looped : (a b x y : Bool) (d : ℤ) → (a ≡ true → true ≡ true → x ≡ false) → (b ≡ true → true ≡ true → y ≡ false) → d ≡ pos 0
        → pos 0 -ℤ pos 0 ≡ cond a (d -ℤ cond x (pos 1) (pos 0)) (pos 0) +ℤ cond b (d -ℤ cond y (pos 1) (pos 0)) (pos 0)
    looped true true x y d h k e =
        let p = h refl refl in let q = k refl refl in
        let u : cond x (pos 1) (pos 0) ≡ pos 0 = ap (λ t. cond t (pos 1) (pos 0)) p in
        let v : cond y (pos 1) (pos 0) ≡ pos 0 = ap (λ t. cond t (pos 1) (pos 0)) q in
        omega (arith, ints)
    looped true false x y d h k e =
        let p = h refl refl in
        let u : cond x (pos 1) (pos 0) ≡ pos 0 = ap (λ t. cond t (pos 1) (pos 0)) p in
        omega (arith, ints)
    looped false true x y d h k e =
        let q = k refl refl in
        let v : cond y (pos 1) (pos 0) ≡ pos 0 = ap (λ t. cond t (pos 1) (pos 0)) q in
        omega (arith, ints)
    looped false false x y d h k e = refl
other_edge false true true x y d h k e = omega (arith, ints)
other_edge false true false x y d h k e = omega (arith, ints)
other_edge false false true x y d h k e = omega (arith, ints)
other_edge false false false x y d h k e = refl

tells : (a b : ℕ) → eqb a b ≡ true → a ≡ b
tells a b e = ⊎_elim (λ s. s) (λ n. let f = ne_eqb a b n in absurd (cc)) (cases_eq a b)

own_sum : (es : List NetEdge) (v : ℕ) → sum_unlooped (ends_at v) es ≡ row es v v
own_sum [] v = refl
own_sum (e ∷ es) v =
    let rest = own_sum es v in
    let first = own_edge (eqb e.from e.to) (eqb e.from v) (eqb e.to v) (if_same v v (pos 1))
    (λ p q. eq-eqb e.from e.to (tells e.from v p ∙ sym (tells e.to v q)))
    (λ p q. eq-eqb e.to v (sym (tells e.from e.to q) ∙ tells e.from v p))
    (λ p q. eq-eqb e.from v (tells e.from e.to q ∙ tells e.to v p))
    (if_same-same v v (pos 1) refl) in
    (λ i. first i +ℤ rest i)

other_sum : (es : List NetEdge) (v w : ℕ) → v ≢ w → pos 0 -ℤ sum_unlooped (joins v w) es ≡ row es v w
other_sum [] v w n = refl
other_sum (e ∷ es) v w n =
    let rest = other_sum es v w n in
    let first = other_edge (eqb e.from e.to) (eqb e.from v) (eqb e.to v) (eqb e.to w) (eqb e.from w) (if_same v w (pos 1))
    (λ p q. ne_eqb e.to w (λ s. n (sym (tells e.from v p) ∙ tells e.from e.to q ∙ s)))
    (λ p q. ne_eqb e.from w (λ s. n (sym (tells e.to v p) ∙ sym (tells e.from e.to q) ∙ s)))
    (if_same-other v w (pos 1) n) in
    parted (cond (nat_eq e.from e.to) (pos 0) (joins v w e)) (sum_unlooped (joins v w) es) (edge_row e v w) (row es v w) first rest
  where
    parted : (a b c d : ℤ) → pos 0 -ℤ a ≡ c → pos 0 -ℤ b ≡ d → pos 0 -ℤ (a +ℤ b) ≡ c +ℤ d
    parted a b c d p q = omega (arith, ints)

-- ## Entries

pub entry-x : (net : Net) (i j : ℕ) → j ≡ net.vertices → first_entry net i j ≡ sum_unlooped (seen_from (λ e. e.x) (suc i)) net.edges.items
entry-x net i j e =
    let n = i + 1 in
    ap (λ b. cond b (sum_unlooped (seen_from (λ d. d.x) n) net.edges.items) (cond (nat_eq j (net.vertices + 1)) (sum_unlooped (seen_from (λ d. d.y) n) net.edges.items)
    (cond (nat_eq i j) (sum_unlooped (ends_at n) net.edges.items) (pos 0 -ℤ sum_unlooped (joins n (j + 1)) net.edges.items)))) (eq-eqb j net.vertices e)
    ∙ ap (λ m. sum_unlooped (seen_from (λ d. d.x) m) net.edges.items) (add-one i)

pub entry-y : (net : Net) (i j : ℕ) → j ≡ suc net.vertices → first_entry net i j ≡ sum_unlooped (seen_from (λ e. e.y) (suc i)) net.edges.items
entry-y net i j e =
    let n = i + 1 in
    ap (λ b. cond b (sum_unlooped (seen_from (λ d. d.x) n) net.edges.items) (cond (nat_eq j (net.vertices + 1)) (sum_unlooped (seen_from (λ d. d.y) n) net.edges.items)
    (cond (nat_eq i j) (sum_unlooped (ends_at n) net.edges.items) (pos 0 -ℤ sum_unlooped (joins n (j + 1)) net.edges.items)))) (ne_eqb j net.vertices (omega arith))
    ∙ ap (λ b. cond b (sum_unlooped (seen_from (λ d. d.y) n) net.edges.items)
    (cond (nat_eq i j) (sum_unlooped (ends_at n) net.edges.items) (pos 0 -ℤ sum_unlooped (joins n (j + 1)) net.edges.items))) (eq-eqb j (net.vertices + 1) (omega arith))
    ∙ ap (λ m. sum_unlooped (seen_from (λ d. d.y) m) net.edges.items) (add-one i)

pub entry-row : (net : Net) (i j : ℕ) → j < net.vertices → first_entry net i j ≡ row net.edges.items (suc i) (suc j)
entry-row net i j low =
    let es = net.edges.items in
    let n = i + 1 in
    ap (λ b. cond b (sum_unlooped (seen_from (λ d. d.x) n) es) (cond (nat_eq j (net.vertices + 1)) (sum_unlooped (seen_from (λ d. d.y) n) es)
    (cond (nat_eq i j) (sum_unlooped (ends_at n) es) (pos 0 -ℤ sum_unlooped (joins n (j + 1)) es)))) (ne_eqb j net.vertices (omega arith))
    ∙ ap (λ b. cond b (sum_unlooped (seen_from (λ d. d.y) n) es)
    (cond (nat_eq i j) (sum_unlooped (ends_at n) es) (pos 0 -ℤ sum_unlooped (joins n (j + 1)) es))) (ne_eqb j (net.vertices + 1) (omega arith))
    ∙ ⊎_elim
    (λ same. ap (λ b. cond b (sum_unlooped (ends_at n) es) (pos 0 -ℤ sum_unlooped (joins n (j + 1)) es)) (eq-eqb i j same)
    ∙ own_sum es n ∙ (let e = add-one i in let f : suc i ≡ suc j = ap suc same in ap (λ m. row es m m) e ∙ ap (λ m. row es (suc i) m) f))
    (λ other. ap (λ b. cond b (sum_unlooped (ends_at n) es) (pos 0 -ℤ sum_unlooped (joins n (j + 1)) es)) (ne_eqb i j other)
    ∙ other_sum es n (j + 1) (λ e. other (omega arith)) ∙ ap (λ m. row es m (j + 1)) (add-one i) ∙ ap (λ m. row es (suc i) m) (add-one j))
    (cases_eq i j)

-- ## A row, of numbers

picked : (xs : ℕ → ℤ) (w n : ℕ) → 1 ≤ w → w ≤ n → total (λ k. xs (suc k) *ℤ if_same w (suc k) (pos 1)) n ≡ xs w
picked xs w n low high = total_at xs (λ v. pos 1) w n low high ∙ equal (at (xs w) ⊠ nat 1) (at (xs w)) (omega arith)

pair_total : (xs : ℕ → ℤ) (a b n : ℕ) → 1 ≤ a → a ≤ n → 1 ≤ b → b ≤ n
    → total (λ k. (if_same a (suc k) (pos 1) -ℤ if_same b (suc k) (pos 1)) *ℤ xs (suc k)) n ≡ xs a -ℤ xs b
pair_total xs a b n la ha lb hb =
    let f : ℕ → ℤ = λ k. (if_same a (suc k) (pos 1) -ℤ if_same b (suc k) (pos 1)) *ℤ xs (suc k) in
    let g : ℕ → ℤ = λ k. xs (suc k) *ℤ if_same a (suc k) (pos 1) in
    let h : ℕ → ℤ = λ k. xs (suc k) *ℤ if_same b (suc k) (pos 1) in
    let both = total_combined f g h (pos 1) (pos 1) (pos 1) n (λ k l.
    let x = at (xs (suc k)) in let p = at (if_same a (suc k) (pos 1)) in let q = at (if_same b (suc k) (pos 1)) in
    equal (nat 1 ⊠ ((p ⊟ q) ⊠ x)) ((nat 1 ⊠ (x ⊠ p)) ⊟ (nat 1 ⊠ (x ⊠ q))) (omega arith)) in
    equal (at (total f n)) (nat 1 ⊠ at (total f n)) (omega arith) ∙ both
    ∙ equal ((nat 1 ⊠ at (total g n)) ⊟ (nat 1 ⊠ at (total h n))) (at (total g n) ⊟ at (total h n)) (omega arith)
    ∙ ap (λ z. z -ℤ total h n) (picked xs a n la ha) ∙ ap (λ z. xs a -ℤ z) (picked xs b n lb hb)

cond_total : (a b : Bool) (f g xs : ℕ → ℤ) (x y : ℤ) (n : ℕ) → total (λ k. f k *ℤ xs k) n ≡ x → total (λ k. g k *ℤ xs k) n ≡ y
    → total (λ k. (cond a (f k) (pos 0) +ℤ cond b (g k) (pos 0)) *ℤ xs k) n ≡ cond a x (pos 0) +ℤ cond b y (pos 0)
cond_total true true f g xs x y n p q =
    total-same (λ k. (f k +ℤ g k) *ℤ xs k) (λ k. f k *ℤ xs k +ℤ g k *ℤ xs k) n
    (λ k l. equal ((at (f k) ⊞ at (g k)) ⊠ at (xs k)) ((at (f k) ⊠ at (xs k)) ⊞ (at (g k) ⊠ at (xs k))) (omega arith))
    ∙ total-sum (λ k. f k *ℤ xs k) (λ k. g k *ℤ xs k) n ∙ (λ i. p i +ℤ q i)
cond_total true false f g xs x y n p q =
    total-same (λ k. (f k +ℤ pos 0) *ℤ xs k) (λ k. f k *ℤ xs k) n
    (λ k l. equal ((at (f k) ⊞ nat 0) ⊠ at (xs k)) (at (f k) ⊠ at (xs k)) (omega arith))
    ∙ p ∙ equal (at x) (at x ⊞ nat 0) (omega arith)
cond_total false true f g xs x y n p q =
    total-same (λ k. (pos 0 +ℤ g k) *ℤ xs k) (λ k. g k *ℤ xs k) n
    (λ k l. equal ((nat 0 ⊞ at (g k)) ⊠ at (xs k)) (at (g k) ⊠ at (xs k)) (omega arith))
    ∙ q ∙ equal (at y) (nat 0 ⊞ at y) (omega arith)
cond_total false false f g xs x y n p q =
    total-zero (λ k. (pos 0 +ℤ pos 0) *ℤ xs k) n (λ k l. equal ((nat 0 ⊞ nat 0) ⊠ at (xs k)) (nat 0) (omega arith))

edge_total : (e : NetEdge) (xs : ℕ → ℤ) (v n : ℕ) → IsInside n e → 1 ≤ v → v ≤ n
    → total (λ k. edge_row e v (suc k) *ℤ xs (suc k)) n ≡ if_same e.from v (xs v -ℤ xs e.to) +ℤ if_same e.to v (xs v -ℤ xs e.from)
edge_total e xs v n inside low high =
    cond_total (eqb e.from v) (eqb e.to v) (λ k. if_same v (suc k) (pos 1) -ℤ if_same e.to (suc k) (pos 1))
    (λ k. if_same v (suc k) (pos 1) -ℤ if_same e.from (suc k) (pos 1)) (λ k. xs (suc k)) (xs v -ℤ xs e.to) (xs v -ℤ xs e.from) n
    (pair_total xs v e.to n low high inside.to_low inside.to) (pair_total xs v e.from n low high inside.from_low inside.from)

-- what an edge gives to the sum over the ends at a vertex, by whether it begins there and ends there
edge_pull : (a b : Bool) (x y w q s : ℤ)
    → cond a ((y +ℤ q *ℤ s) -ℤ x) (pos 0) +ℤ cond b ((w -ℤ q *ℤ s) -ℤ x) (pos 0)
    ≡ q *ℤ (cond a s (pos 0) -ℤ cond b s (pos 0)) -ℤ (cond a (x -ℤ y) (pos 0) +ℤ cond b (x -ℤ w) (pos 0))
edge_pull true true x y w q s =
    equal (((at y ⊞ (at q ⊠ at s)) ⊟ at x) ⊞ ((at w ⊟ (at q ⊠ at s)) ⊟ at x)) ((at q ⊠ (at s ⊟ at s)) ⊟ ((at x ⊟ at y) ⊞ (at x ⊟ at w))) (omega arith)
edge_pull true false x y w q s =
    equal (((at y ⊞ (at q ⊠ at s)) ⊟ at x) ⊞ nat 0) ((at q ⊠ (at s ⊟ nat 0)) ⊟ ((at x ⊟ at y) ⊞ nat 0)) (omega arith)
edge_pull false true x y w q s =
    equal (nat 0 ⊞ ((at w ⊟ (at q ⊠ at s)) ⊟ at x)) ((at q ⊠ (nat 0 ⊟ at s)) ⊟ (nat 0 ⊞ (at x ⊟ at w))) (omega arith)
edge_pull false false x y w q s = equal (nat 0 ⊞ nat 0) ((at q ⊠ (nat 0 ⊟ nat 0)) ⊟ (nat 0 ⊞ nat 0)) (omega arith)

-- as seen from a vertex the shifts of a loop at its two ends add to nothing
seen_loop : (e : NetEdge) (shift : NetEdge → ℤ) (v : ℕ) → seen_from shift v e ≡ cond (nat_eq e.from e.to) (pos 0) (seen_from shift v e)
seen_loop e shift v =
    ⊎_elim
    (λ same. ap (λ u. if_same e.from v (shift e) -ℤ if_same u v (shift e)) (sym same)
    ∙ equal (at (if_same e.from v (shift e)) ⊟ at (if_same e.from v (shift e))) (nat 0) (omega arith)
    ∙ sym (ap (λ b. cond b (pos 0) (seen_from shift v e)) (eq-eqb e.from e.to same)))
    (λ other. sym (ap (λ b. cond b (pos 0) (seen_from shift v e)) (ne_eqb e.from e.to other)))
    (cases_eq e.from e.to)

pub pull_is : (shift : NetEdge → ℤ) (q : ℤ) (xs : ℕ → ℤ) (es : List NetEdge) (v n : ℕ) → AllByRecursion (IsInside n) es → 1 ≤ v → v ≤ n
    → pull shift q xs es v ≡ q *ℤ sum_unlooped (seen_from shift v) es -ℤ total (λ k. row es v (suc k) *ℤ xs (suc k)) n
pull_is shift q xs [] v n inside low high =
    let none = total-zero (λ k. pos 0 *ℤ xs (suc k)) n (λ k l. equal (nat 0 ⊠ at (xs (suc k))) (nat 0) (omega arith)) in
    equal (nat 0) ((at q ⊠ nat 0) ⊟ nat 0) (omega arith) ∙ ap (λ z. q *ℤ pos 0 -ℤ z) (sym none)
pull_is shift q xs (e ∷ es) v n inside low high =
    let s = sum_unlooped (seen_from shift v) es in
    let r = total (λ k. row es v (suc k) *ℤ xs (suc k)) n in
    let d = if_same e.from v (xs v -ℤ xs e.to) +ℤ if_same e.to v (xs v -ℤ xs e.from) in
    let first = edge_pull (eqb e.from v) (eqb e.to v) (xs v) (xs e.to) (xs e.from) q (shift e)
    ∙ ap (λ z. q *ℤ z -ℤ d) (seen_loop e shift v) in
    let seen = cond (nat_eq e.from e.to) (pos 0) (seen_from shift v e) in
    let whole : total (λ k. (edge_row e v (suc k) +ℤ row es v (suc k)) *ℤ xs (suc k)) n ≡ d +ℤ r =
    total-same (λ k. (edge_row e v (suc k) +ℤ row es v (suc k)) *ℤ xs (suc k)) (λ k. edge_row e v (suc k) *ℤ xs (suc k) +ℤ row es v (suc k) *ℤ xs (suc k)) n
    (λ k l. let a = at (edge_row e v (suc k)) in let b = at (row es v (suc k)) in let x = at (xs (suc k)) in
    equal ((a ⊞ b) ⊠ x) ((a ⊠ x) ⊞ (b ⊠ x)) (omega arith))
    ∙ total-sum (λ k. edge_row e v (suc k) *ℤ xs (suc k)) (λ k. row es v (suc k) *ℤ xs (suc k)) n
    ∙ ap (λ z. z +ℤ r) (edge_total e xs v n inside.0 low high) in
    (λ i. first i +ℤ pull_is shift q xs es v n inside.1 low high i)
    ∙ equal (((at q ⊠ at seen) ⊟ at d) ⊞ ((at q ⊠ at s) ⊟ at r)) ((at q ⊠ (at seen ⊞ at s)) ⊟ (at d ⊞ at r)) (omega arith)
    ∙ ap (λ z. q *ℤ (seen +ℤ s) -ℤ z) (sym whole)
