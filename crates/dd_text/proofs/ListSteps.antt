-- Lists of numbers, cut at one of them.
use Rattle.std.proofs.Common.{◌≡◌, ℕ, zero, suc, ◌+◌, ◌<◌, List, [], ◌∷◌, ◌++◌, length, get_or, take, drop, refl, ap, ◌∙◌, arith}
use Rattle.dd_model.specs.declared.tokens.Numeral.{Numeral}
use Rattle.dd_text.specs.ToldImages.{numbers_of}

pub cut_at : (xs : List Numeral) (i : ℕ) (d : Numeral) → i < length xs → xs ≡ take i xs ++ get_or xs i d ∷ drop (suc i) xs
cut_at [] i d h = absurd (omega arith)
cut_at (x ∷ xs) zero d h = refl
cut_at (x ∷ xs) (suc i) d h = ap (λ zs. x ∷ zs) (cut_at xs i d (omega arith))

more_suc : (xs : List Numeral) (i : ℕ) (d : Numeral) → i < length xs → numbers_of (take (suc i) xs) ≡ numbers_of (take i xs) ++ (get_or xs i d).value ∷ []
more_suc [] i d h = absurd (omega arith)
more_suc (x ∷ xs) zero d h = refl
more_suc (x ∷ xs) (suc i) d h = ap (λ zs. x.value ∷ zs) (more_suc xs i d (omega arith))

pub one_more : (xs : List Numeral) (i : ℕ) (d : Numeral) → i < length xs → numbers_of (take (i + 1) xs) ≡ numbers_of (take i xs) ++ (get_or xs i d).value ∷ []
one_more xs i d h = let e : i + 1 ≡ suc i = omega arith in ap (λ k. numbers_of (take k xs)) e ∙ more_suc xs i d h

pub all_of : (xs : List Numeral) (i : ℕ) → length xs ≡ i → take i xs ≡ xs
all_of [] zero h = refl
all_of [] (suc i) h = absurd (omega arith)
all_of (x ∷ xs) zero h = absurd (omega arith)
all_of (x ∷ xs) (suc i) h = ap (λ zs. x ∷ zs) (all_of xs i (omega arith))
