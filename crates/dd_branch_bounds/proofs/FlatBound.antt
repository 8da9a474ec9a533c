-- The curvature bound: where the shares of all chambers are too small, no symbol with such degrees is flat.
use Rattle.std.proofs.Common.{◌≡◌, ℕ, suc, ◌+◌, ◌-◌, ◌*◌, ◌/◌, ◌<◌, ◌≤◌, List, [], ◌∷◌, length, get_or, map, sym, ap, subst, arith}
use Rattle.std.proofs.lemmas.List.Sums.{sum_by-cons, sum-map}
use Rattle.std.specs.List.{sum_by, sum}
use Rattle.dd_model.specs.Symbol.{Symbol, IsSymbol, IsChamber, item}
use Rattle.dd_model.specs.Code.{count_from, chambers}
use Rattle.dd_model.specs.Flat.{all_degrees, Flat}
use Rattle.std.proofs.Math.Nat.{mul-le-mul_left, mul-le-mul_right}
use Rattle.dd_model.proofs.AllDegrees.{all_degrees_positive}

-- each share is at least L divided by the degree at its place
abbrev AreAbove : ℕ → List ℕ → List ℕ → Type 0
AreAbove L [] [] = Unit {0}
AreAbove L [] (m ∷ ms) = ⊥
AreAbove L (a ∷ shares) [] = ⊥
AreAbove L (a ∷ shares) (m ∷ ms) = (L ≤ a * m) × AreAbove L shares ms

floor : (P m : ℕ) → P / m * m ≤ P
floor P m = grind arith

-- one degree
pub part : (P L a m : ℕ) → L ≤ a * m → P / m * L ≤ P * a
part P L a m share =
    let up : P / m * L ≤ P / m * (a * m) = mul-le-mul_left (P / m) share in
    let swap : P / m * (a * m) ≡ P / m * m * a = grind arith in
    let down : P / m * m * a ≤ P * a = mul-le-mul_right a (floor P m) in
    omega (arith, up, swap, down)

pub add_parts : (P L x y a b : ℕ) → x * L ≤ P * a → y * L ≤ P * b → (x + y) * L ≤ P * (a + b)
add_parts P L x y a b hx hy =
    let left : (x + y) * L ≡ x * L + y * L = grind arith in
    let right : P * (a + b) ≡ P * a + P * b = grind arith in
    omega (arith, left, right, hx, hy)

-- the reciprocals of a list of degrees are at most its shares
pub parts : (P L : ℕ) (cs ms : List ℕ) → AreAbove L cs ms → sum_by (λ m. P / m) ms * L ≤ P * sum cs
parts P L [] [] h = let e : 0 * L ≡ 0 = omega arith in omega (arith, e)
parts P L [] (m ∷ ms) h = absurd h
parts P L (a ∷ cs) [] h = absurd h
parts P L (a ∷ cs) (m ∷ ms) h =
    let e = sum_by-cons (λ m. P / m) m ms in
    let f = sum_by-cons (λ (x : ℕ). x) a cs in
    let rest = parts P L cs ms h.1 in
    let both = add_parts P L (P / m) (sum_by (λ m. P / m) ms) a (sum cs) (part P L a m h.0) rest in
    subst (λ x. x * L ≤ P * sum (a ∷ cs)) (sym e) (subst (λ y. (P / m + sum_by (λ m. P / m) ms) * L ≤ P * y) (sym f) both)

cancel_product : (n P L x a : ℕ) → 1 ≤ P → 2 * x ≡ n * P → x * L ≤ P * a → n * L ≤ 2 * a
cancel_product n P L x a pos flat bound =
    let e : P * (n * L) ≡ n * P * L = grind arith in
    let f : n * P * L ≡ 2 * x * L = ap (λ y. y * L) (sym flat) in
    let g : 2 * x * L ≡ 2 * (x * L) = grind arith in
    let k : P * (2 * a) ≡ 2 * (P * a) = grind arith in
    let both : P * (n * L) ≤ P * (2 * a) = omega (arith, e, f, g, k, bound) in
    cancel_factor P (n * L) (2 * a) pos both
  where
    cancel_factor : (P x y : ℕ) → 1 ≤ P → P * x ≤ P * y → x ≤ y
    cancel_factor P x y pos h = grind arith

-- The product form: A and B bound the reciprocals of the tile degrees and of the vertex degrees.
pub flat_bound : (s : Symbol) → Flat s → 1 ≤ all_degrees s → (L A B : ℕ)
    → sum_by (λ m. all_degrees s / m) s.m01 * L ≤ all_degrees s * A → sum_by (λ m. all_degrees s / m) s.m12 * L ≤ all_degrees s * B
    → s.size * L ≤ 2 * (A + B)
flat_bound s flat pos L A B ha hb =
    let P = all_degrees s in
    let x = sum_by (λ m. P / m) s.m01 in
    let y = sum_by (λ m. P / m) s.m12 in
    cancel_product s.size P L (x + y) (A + B) pos flat (add_parts P L x y A B ha hb)

-- a fact of each chamber, at a place of a list
pub at_place : (Q : ℕ → ℕ → Type 0) (xs : List ℕ) (n : ℕ) → length xs ≡ n → ((d : ℕ) → 1 ≤ d → d ≤ n → Q d (item xs d)) → (j : ℕ) → j < length xs → Q (1 + j) (get_or xs j 0)
at_place Q xs n len each j low =
    let e : 1 + j - 1 ≡ j = omega arith in
    subst (λ i. Q (1 + j) (get_or xs i 0)) e (each (1 + j) (omega arith) (omega arith))

-- The share bound, with lists of shares.
pub share_bound : (s : Symbol) → IsSymbol s → Flat s → (L : ℕ) (cs bs : List ℕ) → AreAbove L cs s.m01 → AreAbove L bs s.m12 → s.size * L ≤ 2 * (sum cs + sum bs)
share_bound s is flat L cs bs ha hb =
    flat_bound s flat (all_degrees_positive s is) L (sum cs) (sum bs) (parts (all_degrees s) L cs s.m01 ha) (parts (all_degrees s) L bs s.m12 hb)

shares_from : (a : ℕ → ℕ) (L k : ℕ) (ms : List ℕ) → ((j : ℕ) → j < length ms → L ≤ a (k + j) * get_or ms j 0) → AreAbove L (map a (count_from k (length ms))) ms
shares_from a L k [] each = tt
shares_from a L k (m ∷ ms) each =
    let e : k + 0 ≡ k = omega arith in (
      subst (λ i. L ≤ a i * m) e (each 0 (omega arith)),
      shares_from a L (k + 1) ms (λ j low.
          let f : k + suc j ≡ k + 1 + j = omega arith in
          subst (λ i. L ≤ a i * get_or ms j 0) f (each (suc j) (omega arith))),
    )

-- The share bound, with a share of each chamber.
pub share_bound_at : (s : Symbol) → IsSymbol s → Flat s → (L : ℕ) (a b : ℕ → ℕ)
    → ((d : ℕ) → IsChamber s d → L ≤ a d * item s.m01 d) → ((d : ℕ) → IsChamber s d → L ≤ b d * item s.m12 d)
    → s.size * L ≤ 2 * (sum_by a (chambers s) + sum_by b (chambers s))
share_bound_at s is flat L a b ha hb =
    let cs = map a (chambers s) in
    let bs = map b (chambers s) in
    let sa : AreAbove L cs s.m01 = subst (λ n. AreAbove L (map a (count_from 1 n)) s.m01) is.table.m01_length
    (shares_from a L 1 s.m01 (at_place (λ d m. L ≤ a d * m) s.m01 s.size is.table.m01_length (λ d low high. ha d (low, high)))) in
    let sb : AreAbove L bs s.m12 = subst (λ n. AreAbove L (map b (count_from 1 n)) s.m12) is.table.m12_length
    (shares_from b L 1 s.m12 (at_place (λ d m. L ≤ b d * m) s.m12 s.size is.table.m12_length (λ d low high. hb d (low, high)))) in
    let bound = share_bound s is flat L cs bs sa sb in
    let ea : sum cs ≡ sum_by a (chambers s) = sum-map a (chambers s) in
    let eb : sum bs ≡ sum_by b (chambers s) = sum-map b (chambers s) in
    omega (arith, bound, ea, eb)
