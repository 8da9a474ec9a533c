-- Two ascending lists with the same members are equal.
use Rattle.std.proofs.Common.{◌≡◌, ◌⊎◌, inl, inr, zero, suc, List, [], ◌∷◌, refl, sym, ap, ◌∙◌, subst, arith}
use Rattle.std.specs.List.{AllByRecursion, Contains}
use Rattle.dd_model.specs.Symbol.{Symbol}
use Rattle.dd_model.specs.Code.{IsBelow}
use Rattle.dd_model.specs.Wanted.{IsAscending, IsCatalogue}
use Rattle.dd_model.specs.declared.requests.Request.{Request}
use Rattle.dd_model.proofs.Lists.{Contains-none, Contains-head, Contains-later}
use Rattle.dd_model.proofs.Orders.{not_below_itself, not_below_both}

below_member : (s : Symbol) (ss : List Symbol) → AllByRecursion (IsBelow s) ss → (t : Symbol) → Contains ss t → IsBelow s t
below_member s [] h t (k, low, e) = absurd (omega (arith, low))
below_member s (u ∷ ss) h t (zero, low, e) = subst (IsBelow s) e h.0
below_member s (u ∷ ss) h t (suc k, low, e) = below_member s ss h.1 t (k, omega (arith, low), e)

-- the first of a list is below each other member
first_or_below : (s : Symbol) (ss : List Symbol) → AllByRecursion (IsBelow s) ss → (t : Symbol) → Contains (s ∷ ss) t → (s ≡ t) ⊎ IsBelow s t
first_or_below s ss h t (zero, low, e) = inl e
first_or_below s ss h t (suc k, low, e) = inr (below_member s ss h t (k, omega (arith, low), e))

same_first : (s t : Symbol) → (s ≡ t) ⊎ IsBelow s t → (t ≡ s) ⊎ IsBelow t s → s ≡ t
same_first s t (inl e) b = e
same_first s t (inr a) (inl e) = sym e
same_first s t (inr a) (inr b) = absurd (not_below_both s t a b)

-- a member after the first stands after the first in a list with the same first
later_member : (s : Symbol) (ss ts : List Symbol) → AllByRecursion (IsBelow s) ss → (t : Symbol) → Contains ss t → Contains (s ∷ ts) t → Contains ts t
later_member s ss ts below t there (zero, low, e) = absurd (not_below_itself s (subst (IsBelow s) (sym e) (below_member s ss below t there)))
later_member s ss ts below t there (suc k, low, e) = (k, omega (arith, low), e)

abbrev Includes : List Symbol → List Symbol → Type 0
Includes ss ts = (t : Symbol) → Contains ss t → Contains ts t

same_list : (ss ts : List Symbol) → IsAscending ss → IsAscending ts → Includes ss ts → Includes ts ss → ss ≡ ts
same_list [] [] a b there back = refl
same_list [] (t ∷ ts) a b there back = absurd (Contains-none t (back t (Contains-head t ts)))
same_list (s ∷ ss) [] a b there back = absurd (Contains-none s (there s (Contains-head s ss)))
same_list (s ∷ ss) (t ∷ ts) a b there back =
    let first : s ≡ t = same_first s t
    (first_or_below s ss a.0 t (back t (Contains-head t ts)))
    (first_or_below t ts b.0 s (there s (Contains-head s ss))) in
    let there_s : Includes (s ∷ ss) (s ∷ ts) = subst (λ x. Includes (s ∷ ss) (x ∷ ts)) (sym first) there in
    let back_s : Includes (s ∷ ts) (s ∷ ss) = subst (λ x. Includes (x ∷ ts) (s ∷ ss)) (sym first) back in
    let below_s : AllByRecursion (IsBelow s) ts = subst (λ x. AllByRecursion (IsBelow x) ts) (sym first) b.0 in
    let rest : ss ≡ ts = same_list ss ts a.1 b.1
    (λ x h. later_member s ss ts a.0 x h (there_s x (Contains-later s x ss h)))
    (λ x h. later_member s ts ss below_s x h (back_s x (Contains-later s x ts h))) in
    ap (λ x. x ∷ ss) first ∙ ap (λ xs. t ∷ xs) rest

pub catalogue_unique : (q : Request) (ss ts : List Symbol) → IsCatalogue q ss → IsCatalogue q ts → ss ≡ ts
catalogue_unique q ss ts a b = same_list ss ts a.ascending b.ascending
    (λ t h. (b.members t).1 ((a.members t).0 h))
    (λ t h. (a.members t).1 ((b.members t).0 h))
