-- Comparing lists piece by piece.
use Rattle.std.proofs.Common.{◌≡◌, ◌≢◌, ℕ, suc, true, false, ◌+◌, ◌-◌, ◌<◌, List, ◌∷◌, length, get_or, drop, drop-cons, refl, sym, ap, ◌∙◌, arith}
use Rattle.std.specs.Ordering.{nat_cmp, ordering_then, is_lt, is_gt, is_eq, is_ne}
use Rattle.std.specs.Cmp.Lexicographic.{slice_cmp}
use Rattle.std.specs.declared.cmp.Ordering.{Ordering}
use Rattle.std.specs.declared.cmp.Ordering.TheVariants.{Less, Equal, Greater}
use Rattle.dd_model.specs.Symbol.{item}

-- one item more of two lists, of which the first's is x and the second's is y
pub drop_step : (xs ys : List ℕ) (k x y : ℕ) → k < length xs → k < length ys → item xs (k + 1) ≡ x → item ys (k + 1) ≡ y
    → slice_cmp nat_cmp (drop k xs) (drop k ys) ≡ ordering_then (nat_cmp x y) (slice_cmp nat_cmp (drop (k + 1) xs) (drop (k + 1) ys))
drop_step xs ys k x y hx hy is it =
    let back : k + 1 - 1 ≡ k = omega arith in
    let next : suc k ≡ k + 1 = omega arith in
    let here : get_or xs k 0 ≡ x = sym (ap (λ j. get_or xs j 0) back) ∙ is in
    let there : get_or ys k 0 ≡ y = sym (ap (λ j. get_or ys j 0) back) ∙ it in
    ap (λ zs. slice_cmp nat_cmp zs (drop k ys)) (drop-cons xs k 0 hx)
    ∙ ap (slice_cmp nat_cmp (get_or xs k 0 ∷ drop (suc k) xs)) (drop-cons ys k 0 hy)
    ∙ ap (λ j. ordering_then (nat_cmp (get_or xs k 0) (get_or ys k 0)) (slice_cmp nat_cmp (drop j xs) (drop j ys))) next
    ∙ ap (λ z. ordering_then (nat_cmp z (get_or ys k 0)) (slice_cmp nat_cmp (drop (k + 1) xs) (drop (k + 1) ys))) here
    ∙ ap (λ z. ordering_then (nat_cmp x z) (slice_cmp nat_cmp (drop (k + 1) xs) (drop (k + 1) ys))) there

pub then_second : (a b : Ordering) → is_ne a ≡ false → ordering_then a b ≡ b
then_second Less b e = cc
then_second Equal b e = refl
then_second Greater b e = cc

pub greater_of : (o : Ordering) → is_gt o ≡ true → o ≡ Greater
greater_of Less e = cc
greater_of Equal e = cc
greater_of Greater e = refl

pub less_of : (o : Ordering) → is_lt o ≡ true → o ≡ Less
less_of Less e = refl
less_of Equal e = cc
less_of Greater e = cc

pub less_not_greater : (o : Ordering) → is_lt o ≡ true → o ≢ Greater
less_not_greater Less e g = cc
less_not_greater Equal e g = cc
less_not_greater Greater e g = cc

pub equal_not_greater : (o : Ordering) → o ≡ Equal → o ≢ Greater
equal_not_greater o e g = cc

pub equal_from : (o : Ordering) → is_eq o ≡ true → o ≡ Equal
equal_from Less e = cc
equal_from Equal e = refl
equal_from Greater e = cc

pub not_equal_of : (o : Ordering) → is_ne o ≡ true → o ≢ Equal
not_equal_of o ne same = let e : is_ne o ≡ false = ap is_ne same in cc

pub tied : (o : Ordering) → is_gt o ≡ false → is_lt o ≡ false → o ≡ Equal
tied Less not_gt not_lt = cc
tied Equal not_gt not_lt = refl
tied Greater not_gt not_lt = cc
