-- Sums over the numbers from one on, and over lists of parts.
use Rattle.std.proofs.Common.{◌≡◌, ℕ, zero, suc, ◌+◌, ◌-◌, ◌*◌, ◌<◌, ◌≤◌, List, [], ◌∷◌, map, length, get_or, refl, sym, ap, ◌∙◌, arith}
use Rattle.std.proofs.lemmas.List.Sums.{sum_by-cons, sum_by-append}
use Rattle.std.specs.List.{sum_by}
use Rattle.dd_model.specs.Symbol.{item}
use Rattle.dd_model.specs.Code.{count_from}
use Rattle.dd_template.proofs.PlaceLemmas.{block, blocks}

-- the sum of n terms from b on
abbrev pub total : (ℕ → ℕ) → ℕ → ℕ → ℕ
total f b zero = 0
total f b (suc n) = f b + total f (b + 1) n

pub total-cong : (f g : ℕ → ℕ) (b n : ℕ) → ((j : ℕ) → b ≤ j → j < b + n → f j ≡ g j) → total f b n ≡ total g b n
total-cong f g b zero same = refl
total-cong f g b (suc n) same =
    let here = same b (omega arith) (omega arith) in
    let rest = total-cong f g (b + 1) n (λ j low high. same j (omega arith) (omega arith)) in
    omega arith

pub total-linear : (f g h : ℕ → ℕ) (u v w b n : ℕ) → total (λ x. u * f x + v * g x + w * h x) b n ≡ u * total f b n + v * total g b n + w * total h b n
total-linear f g h u v w b zero = omega arith
total-linear f g h u v w b (suc n) =
    let rest = total-linear f g h u v w (b + 1) n in
    omega arith

pub total-scale : (f : ℕ → ℕ) (c b n : ℕ) → total (λ x. c * f x) b n ≡ c * total f b n
total-scale f c b zero = omega arith
total-scale f c b (suc n) = let rest = total-scale f c (b + 1) n in omega arith

pub total-constant : (c b n : ℕ) → total (λ _. c) b n ≡ n * c
total-constant c b zero = omega arith
total-constant c b (suc n) = let rest = total-constant c (b + 1) n in omega arith

total-shift : (f : ℕ → ℕ) (b n : ℕ) → total f (b + 1) n ≡ total (λ x. f (x + 1)) b n
total-shift f b zero = refl
total-shift f b (suc n) = ap (λ m. f (b + 1) + m) (total-shift f (b + 1) n)

-- a sum over a list
pub sum_by-total : {A : Type 0} (g : A → ℕ) (xs : List A) (e : A) → sum_by g xs ≡ total (λ x. g (get_or xs x e)) 0 (length xs)
sum_by-total g [] e = refl
sum_by-total g (y ∷ ys) e =
    let first : 0 + 1 ≡ 1 = omega arith in
    let shifted : total (λ x. g (get_or (y ∷ ys) x e)) (0 + 1) (length ys) ≡ total (λ x. g (get_or ys x e)) 0 (length ys) =
    total-shift (λ x. g (get_or (y ∷ ys) x e)) 0 (length ys)
    ∙ total-cong (λ x. g (get_or (y ∷ ys) (x + 1) e)) (λ x. g (get_or ys x e)) 0 (length ys) (λ j low high. let next : j + 1 ≡ suc j = omega arith in ap (λ k. g (get_or (y ∷ ys) k e)) next) in
    sum_by-cons g y ys ∙ ap (λ m. g y + m) (sum_by-total g ys e ∙ sym shifted)

-- a sum over the items of the chambers
pub sum_by-items : (g : ℕ → ℕ) (xs : List ℕ) → sum_by g xs ≡ total (λ d. g (item xs d)) 1 (length xs)
sum_by-items g xs =
    let first : 0 + 1 ≡ 1 = omega arith in
    sum_by-total g xs 0
    ∙ total-cong (λ x. g (get_or xs x 0)) (λ x. g (item xs (x + 1))) 0 (length xs) (λ j low high. let place : j ≡ j + 1 - 1 = omega arith in ap (λ k. g (get_or xs k 0)) place)
    ∙ sym (total-shift (λ d. g (item xs d)) 0 (length xs))
    ∙ ap (λ b. total (λ d. g (item xs d)) b (length xs)) first

sum_by-block : (g : ℕ → ℕ) (h : ℕ → ℕ) (b n : ℕ) → sum_by g (map h (count_from b n)) ≡ total (λ x. g (h x)) b n
sum_by-block g h b zero = refl
sum_by-block g h b (suc n) = sum_by-cons g (h b) (map h (count_from (b + 1) n)) ∙ ap (λ m. g (h b) + m) (sum_by-block g h (b + 1) n)

-- a sum over the parts of chambers
pub sum_by-blocks : (g : ℕ → ℕ) (k : ℕ) (f : ℕ → ℕ → ℕ) (b n : ℕ) → sum_by g (blocks k f b n) ≡ total (λ d. total (λ x. g (f d x)) 0 k) b n
sum_by-blocks g k f b zero = refl
sum_by-blocks g k f b (suc n) =
    let here = sum_by-block g (f b) 0 k in
    let rest = sum_by-blocks g k f (b + 1) n in
    sum_by-append g (block k f b) (blocks k f (b + 1) n) ∙ omega arith
