-- Ascending lists of symbols of which one begins with the other.
use Rattle.std.proofs.Common.{◌≡◌, ◌⊎◌, zero, suc, List, [], ◌∷◌, ◌++◌, refl, sym, ap, ◌∙◌, subst, inl, inr, ⊎_elim, arith}
use Rattle.std.proofs.lemmas.List.Elements.{Contains-append_right, Contains-append_left, Contains-append_cases, Contains-push}
use Rattle.std.specs.List.{AllByRecursion, Contains}
use Rattle.dd_model.specs.Symbol.{Symbol}
use Rattle.dd_model.specs.Code.{IsBelow}
use Rattle.dd_model.specs.Wanted.{IsAscending}
use Rattle.dd_model.proofs.Lists.{Contains-none, each_of}
use Rattle.dd_model.proofs.Orders.{not_below_itself, not_below_both}

-- An ascending list that has the members of another, and besides only symbols that come after all of these, begins with it.
pub begins_with : (ss ts : List Symbol) → IsAscending ss → IsAscending ts → ((s : Symbol) → Contains ss s → Contains ts s)
    → ((t : Symbol) → Contains ts t → Contains ss t ⊎ AllByRecursion (λ m. IsBelow m t) ss) → (rest : List Symbol) × (ts ≡ ss ++ rest)
begins_with [] ts hs ht inside after = (ts, refl)
begins_with (s ∷ ss) [] hs ht inside after = absurd (Contains-none s (inside s (Contains-append_left (s ∷ []) ss s (Contains-push [] s))))
begins_with (s ∷ ss) (t ∷ ts) hs ht inside after =
    let same : t ≡ s = heads in
    let tail = begins_with ss ts hs.1 ht.1 inner later in
    (tail.0, ap (λ x. x ∷ ts) same ∙ ap (λ xs. s ∷ xs) tail.1)
  where
    own : Contains (s ∷ ss) s
    own = Contains-append_left (s ∷ []) ss s (Contains-push [] s)

    first_of : {A : Type 0} (a b : A) → Contains (a ∷ []) b → a ≡ b
    first_of a b (zero, low, e) = e
    first_of a b (suc i, low, e) = absurd (omega arith)

    heads : t ≡ s
    heads =
        ⊎_elim
        (λ here. first_of t s here)
        (λ further.
        let t_below : IsBelow t s = each_of (IsBelow t) ts s ht.0 further in
        ⊎_elim
        (λ among. ⊎_elim
        (λ first. sym (first_of s t first))
        (λ past. absurd (not_below_both s t (each_of (IsBelow s) ss t hs.0 past) t_below))
        (Contains-append_cases (s ∷ []) ss t among))
        (λ above. absurd (not_below_both s t above.0 t_below))
        (after t (Contains-append_left (t ∷ []) ts t (Contains-push [] t))))
        (Contains-append_cases (t ∷ []) ts s (inside s own))

    inner : (x : Symbol) → Contains ss x → Contains ts x
    inner x there =
        ⊎_elim
        (λ first. absurd (not_below_itself s (subst (IsBelow s) (sym (first_of t x first) ∙ heads) (each_of (IsBelow s) ss x hs.0 there))))
        (λ past. past)
        (Contains-append_cases (t ∷ []) ts x (inside x (Contains-append_right (s ∷ []) ss x there)))

    later : (x : Symbol) → Contains ts x → Contains ss x ⊎ AllByRecursion (λ m. IsBelow m x) ss
    later x there =
        ⊎_elim
        (λ among. ⊎_elim
        (λ first. absurd (not_below_itself s (subst (λ z. IsBelow z s) heads (subst (IsBelow t) (sym (first_of s x first)) (each_of (IsBelow t) ts x ht.0 there)))))
        (λ past. inl past)
        (Contains-append_cases (s ∷ []) ss x among))
        (λ above. inr above.1)
        (after x (Contains-append_right (t ∷ []) ts x there))
