-- Lists of sheets, as they are pushed.
use Rattle.std.proofs.Common.{◌≡◌, ℕ, ◌+◌, List, [], ◌∷◌, ◌++◌, map, sym, ap, ◌∙◌, arith}
use Rattle.std.proofs.lemmas.List.{append_assoc, append-nil}
use Rattle.std.proofs.lemmas.Grind.{flat_map-append}
use Rattle.std.specs.List.{flat_map}
use Rattle.dd_model.specs.Code.{count_from}
use Rattle.dd_model.proofs.CountFrom.{count_from-more, map-count_from-more}
use Rattle.dd_covers.specs.Sheets.{all_sheets}

-- one value more
pub pushed_more : (f : ℕ → ℕ) (j v : ℕ) (old xs new : List ℕ) → xs ≡ old ++ map f (count_from 1 j) → new ≡ xs ++ v ∷ [] → v ≡ f (j + 1)
    → new ≡ old ++ map f (count_from 1 (j + 1))
pushed_more f j v old xs new before push value =
    push ∙ ap (λ ys. ys ++ v ∷ []) before ∙ append_assoc old (map f (count_from 1 j)) (v ∷ [])
    ∙ ap (λ u. old ++ (map f (count_from 1 j) ++ u ∷ [])) value ∙ ap (λ ys. old ++ ys) (sym (map-count_from-more f j))

-- one chamber more
pub chamber_more : (j v : ℕ) (old xs new : List ℕ) → xs ≡ old ++ count_from 1 j → new ≡ xs ++ v ∷ [] → v ≡ j + 1 → new ≡ old ++ count_from 1 (j + 1)
chamber_more j v old xs new before push value =
    let e : v ≡ 1 + j = omega arith in
    push ∙ ap (λ ys. ys ++ v ∷ []) before ∙ append_assoc old (count_from 1 j) (v ∷ [])
    ∙ ap (λ u. old ++ (count_from 1 j ++ u ∷ [])) e ∙ ap (λ ys. old ++ ys) (sym (count_from-more 1 j))

-- one sheet more
pub sheet_more : (k : ℕ) (f : ℕ → List ℕ) (xs new : List ℕ) → xs ≡ all_sheets k f → new ≡ xs ++ f k → new ≡ all_sheets (k + 1) f
sheet_more k f xs new before push =
    let none : 0 + k ≡ k = omega arith in
    push ∙ ap (λ ys. ys ++ f k) before
    ∙ sym (ap (flat_map f) (count_from-more 0 k) ∙ flat_map-append f (count_from 0 k) ((0 + k) ∷ []) ∙ ap (λ ys. all_sheets k f ++ ys) (append-nil (f (0 + k)) ∙ ap f none))
