-- Words in arrays.
use Rattle.std.proofs.Common.{◌≡◌, ℕ, zero, suc, ◌<◌, ◌≤◌, ◌+◌, List, ◌∷◌, length, get_or, set, refl, ap, ◌∙◌, arith}
use Rattle.std.proofs.lemmas.List.{get_or-set_same, get_or-set_other}
use Rattle.dd_model.specs.declared.index.Index.{Index}
use Rattle.dd_model.specs.declared.index.Index.TheVariants.{Zero}
use Rattle.dd_template.specs.Letters.{backwards}

-- a letter behind does not change the word before
backwards-set : (xs : List Index) (n : ℕ) (i : Index) (m : ℕ) → m ≤ n → backwards (set xs n i) m ≡ backwards xs m
backwards-set xs n i zero h = refl
backwards-set xs n i (suc m) h =
    let apart : m ≡ n → ⊥ = λ e. absurd (omega arith) in
    let rest = backwards-set xs n i m (omega arith) in
    ap (λ x. x ∷ backwards (set xs n i) m) (get_or-set_other xs n m i Zero apart) ∙ ap (λ w. get_or xs m Zero ∷ w) rest

pub backwards-push : (xs : List Index) (n : ℕ) (i : Index) → n < length xs → backwards (set xs n i) (n + 1) ≡ i ∷ backwards xs n
backwards-push xs n i h =
    let step : backwards (set xs n i) (n + 1) ≡ backwards (set xs n i) (suc n) = let e : n + 1 ≡ suc n = omega arith in ap (backwards (set xs n i)) e in
    let rest = backwards-set xs n i n (omega arith) in
    step ∙ (ap (λ x. x ∷ backwards (set xs n i) n) (get_or-set_same xs n i Zero h) ∙ ap (λ w. i ∷ w) rest)
