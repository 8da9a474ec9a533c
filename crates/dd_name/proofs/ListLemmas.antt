-- Members of lists.
use Rattle.std.proofs.Common.{◌≡◌, List, [], ◌∷◌, ◌++◌, sym, ap, ◌∙◌, subst, ⊎_elim}
use Rattle.std.specs.List.{Contains, AllByRecursion, flat_map}
use Rattle.std.proofs.lemmas.List.{append_assoc, append-nil}
use Rattle.std.proofs.lemmas.List.Elements.{Contains-push_cases, Contains-append_cases}
use Rattle.dd_name.specs.Rounds.{AreDistinct}
use Rattle.dd_model.proofs.Lists.{Contains-head, Contains-later, Contains-none}

-- one more that is none of those
pub distinct-push : {A : Type 0} (xs : List A) (y : A) → AreDistinct xs → (Contains xs y → ⊥) → AreDistinct (xs ++ y ∷ [])
distinct-push [] y distinct other = (Contains-none y, tt)
distinct-push (x ∷ xs) y distinct other = (
  λ later. ⊎_elim distinct.0 (λ same. other (subst (Contains (x ∷ xs)) (sym same) (Contains-head x xs))) (Contains-push_cases xs y x later),
  distinct-push xs y distinct.1 (λ there. other (Contains-later x y xs there)),
)

pub distinct-append : {A : Type 0} (xs ys : List A) → AreDistinct xs → AreDistinct ys → ((y : A) → Contains xs y → Contains ys y → ⊥) → AreDistinct (xs ++ ys)
distinct-append [] ys a b apart = b
distinct-append (x ∷ xs) ys a b apart = (
  λ later. ⊎_elim a.0 (λ there. apart x (Contains-head x xs) there) (Contains-append_cases xs ys x later),
  distinct-append xs ys a.1 b (λ y here there. apart y (Contains-later x y xs here) there),
)

-- the images of all members but one more
pub flat_map-push : {A B : Type 0} (f : A → List B) (xs : List A) (y : A) → flat_map f (xs ++ y ∷ []) ≡ flat_map f xs ++ f y
flat_map-push f [] y = append-nil (f y)
flat_map-push f (x ∷ xs) y = ap (λ zs. f x ++ zs) (flat_map-push f xs y) ∙ sym (append_assoc (f x) (flat_map f xs) (f y))

pub all-push : {A : Type 0} (P : A → Type 0) (xs : List A) (y : A) → AllByRecursion P xs → P y → AllByRecursion P (xs ++ y ∷ [])
all-push P [] y all one = (one, tt)
all-push P (x ∷ xs) y all one = (all.0, all-push P xs y all.1 one)
