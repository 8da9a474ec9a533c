-- Sheets above a flat symbol are flat.
use Rattle.std.proofs.Common.{◌≡◌, ℕ, zero, suc, ◌+◌, ◌*◌, ◌/◌, ◌≤◌, List, [], ◌∷◌, ◌++◌, refl, sym, ap, ◌∙◌, ⊎_elim, arith}
use Rattle.std.proofs.lemmas.List.Sums.{sum_by-cons, sum_by-append}
use Rattle.std.specs.List.{Contains, flat_map, sum_by}
use Rattle.dd_model.specs.declared.index.Index.{Index}
use Rattle.dd_model.specs.Symbol.{Symbol, IsSymbol}
use Rattle.dd_model.specs.Code.{count_from}
use Rattle.dd_model.specs.Flat.{Flat, product, all_degrees, reciprocals}
use Rattle.dd_model.proofs.AllDegrees.{all_degrees_positive}
use Rattle.dd_model.proofs.Lists.{Contains-head, Contains-later, Contains-cases}
use Rattle.dd_cells.proofs.ReciprocalSums.{quotient_is}
use Rattle.dd_covers.specs.Sheets.{alike, sheets_of}

-- a power by recursion
abbrev raised : ℕ → ℕ → ℕ
raised n zero = 1
raised n (suc k) = n * raised n k

product-append : (xs ys : List ℕ) → product (xs ++ ys) ≡ product xs * product ys
product-append [] ys = omega arith
product-append (x ∷ xs) ys = let rest = ap (λ z. x * z) (product-append xs ys) in omega arith

product-sheets : (xs : List ℕ) (j k : ℕ) → product (flat_map (alike xs) (count_from j k)) ≡ raised (product xs) k
product-sheets xs j zero = refl
product-sheets xs j (suc k) = product-append xs (flat_map (alike xs) (count_from (j + 1) k)) ∙ ap (λ z. product xs * z) (product-sheets xs (j + 1) k)

sum-sheets : (f : ℕ → ℕ) (xs : List ℕ) (j k : ℕ) → sum_by f (flat_map (alike xs) (count_from j k)) ≡ k * sum_by f xs
sum-sheets f xs j zero = omega arith
sum-sheets f xs j (suc k) =
    let split = sum_by-append f xs (flat_map (alike xs) (count_from (j + 1) k)) in
    let rest = sum-sheets f xs (j + 1) k in
    omega arith

raised_product : (a b k : ℕ) → raised (a * b) k ≡ raised a k * raised b k
raised_product a b zero = refl
raised_product a b (suc k) = let rest = ap (λ z. a * b * z) (raised_product a b k) in omega arith

-- a member divides the product
member_divides : (xs : List ℕ) (m : ℕ) → Contains xs m → (q : ℕ) × (q * m ≡ product xs)
member_divides [] m here = let below = here.1 in absurd (omega arith)
member_divides (x ∷ xs) m here =
    ⊎_elim
    (λ e. (product xs, (let p = ap (λ z. product xs * z) (sym e) in omega arith)))
    (λ later. let rest = member_divides xs m later in let p = ap (λ z. x * z) rest.1 in (x * rest.0, omega arith))
    (Contains-cases x m xs here)

-- what is one m-th of the whole, of as many wholes
one_part : (whole k m q : ℕ) → 1 ≤ m → q * m ≡ whole → (whole * k) / m ≡ k * (whole / m)
one_part whole k m q some e =
    let p = ap (λ z. k * z) e in
    let one : whole / m ≡ q = quotient_is q m whole some e in
    quotient_is (k * q) m (whole * k) some (omega arith) ∙ ap (λ z. k * z) (sym one)

sum_of_parts : (whole k : ℕ) (xs : List ℕ) → ((m : ℕ) → Contains xs m → 1 ≤ m) → ((m : ℕ) → Contains xs m → (q : ℕ) × (q * m ≡ whole))
    → sum_by (λ m. (whole * k) / m) xs ≡ k * sum_by (λ m. whole / m) xs
sum_of_parts whole k [] some parts = omega arith
sum_of_parts whole k (x ∷ xs) some parts =
    let head = Contains-head x xs in
    let here = one_part whole k x (parts x head).0 (some x head) (parts x head).1 in
    let rest = sum_of_parts whole k xs (λ m later. some m (Contains-later x m xs later)) (λ m later. parts m (Contains-later x m xs later)) in
    let a = sum_by-cons (λ m. (whole * k) / m) x xs in
    let b = ap (λ z. k * z) (sum_by-cons (λ m. whole / m) x xs) in
    omega arith

balanced : (k power whole n twice : ℕ) → 2 * twice ≡ n * whole → 2 * (k * (power * twice)) ≡ k * n * (whole * power)
balanced k power whole n twice e = let p = ap (λ z. k * power * z) e in omega arith

positive_member : (xs : List ℕ) → 1 ≤ product xs → (m : ℕ) → Contains xs m → 1 ≤ m
positive_member xs some zero here = let q = member_divides xs 0 here in let e = q.1 in absurd (omega arith)
positive_member xs some (suc m) here = omega arith

pub flat-sheets : (s : Symbol) → IsSymbol s → Flat s → (k : ℕ) (x : Index → ℕ → ℕ) → 1 ≤ k → Flat (sheets_of s k x)
flat-sheets s is flat zero x some = absurd (omega arith)
flat-sheets s is flat (suc k) x some =
    let t = sheets_of s (suc k) x in
    let whole = all_degrees s in
    let power = raised whole k in
    let positive = all_degrees_positive s is in
    let all : all_degrees t ≡ whole * power =
    ap (λ z. z * product t.m12) (product-sheets s.m01 0 (suc k)) ∙ ap (λ z. raised (product s.m01) (suc k) * z) (product-sheets s.m12 0 (suc k))
    ∙ sym (raised_product (product s.m01) (product s.m12) (suc k)) in
    let low01 : 1 ≤ product s.m01 = factor_one (product s.m01) (product s.m12) positive in
    let low12 : 1 ≤ product s.m12 = factor_two (product s.m01) (product s.m12) positive in
    let part01 : (m : ℕ) → Contains s.m01 m → (q : ℕ) × (q * m ≡ whole) = λ m here.
    let q = member_divides s.m01 m here in let p = ap (λ z. product s.m12 * z) q.1 in (product s.m12 * q.0, omega arith) in
    let part12 : (m : ℕ) → Contains s.m12 m → (q : ℕ) × (q * m ≡ whole) = λ m here.
    let q = member_divides s.m12 m here in let p = ap (λ z. product s.m01 * z) q.1 in (product s.m01 * q.0, omega arith) in
    let sum01 : sum_by (λ m. all_degrees t / m) t.m01 ≡ suc k * (power * sum_by (λ m. whole / m) s.m01) =
    ap (λ z. sum_by (λ m. z / m) t.m01) all ∙ sum-sheets (λ m. (whole * power) / m) s.m01 0 (suc k)
    ∙ ap (λ z. suc k * z) (sum_of_parts whole power s.m01 (positive_member s.m01 low01) part01) in
    let sum12 : sum_by (λ m. all_degrees t / m) t.m12 ≡ suc k * (power * sum_by (λ m. whole / m) s.m12) =
    ap (λ z. sum_by (λ m. z / m) t.m12) all ∙ sum-sheets (λ m. (whole * power) / m) s.m12 0 (suc k)
    ∙ ap (λ z. suc k * z) (sum_of_parts whole power s.m12 (positive_member s.m12 low12) part12) in
    let both : reciprocals t ≡ suc k * (power * reciprocals s) = omega arith in
    ap (λ z. 2 * z) both ∙ balanced (suc k) power whole s.size (reciprocals s) flat ∙ ap (λ z. suc k * s.size * z) (sym all) where
      factor_one : (a b : ℕ) → 1 ≤ a * b → 1 ≤ a
      factor_one a b h = grind arith

      factor_two : (a b : ℕ) → 1 ≤ a * b → 1 ≤ b
      factor_two a b h = grind arith
