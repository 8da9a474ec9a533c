-- Lists of different numbers are no longer than there are values.
use Rattle.std.proofs.lemmas.Bool.{or_cases}
use Rattle.std.proofs.Common.{◌≡◌, ℕ, suc, ◌<◌, ◌≤◌, eqb, true, false, List, [], ◌∷◌, length, get_or, refl, sym, ap, ◌∙◌, subst, ⊎_elim, arith}
use Rattle.std.proofs.lemmas.Map.Steps.{length-le_from_distinct_below}
use Rattle.std.specs.List.{IsDistinct, AllByRecursion, list_any}
use borrow.Author.Tests.{eqb-true}
use Rattle.dd_branch_tables.specs.Distinct.{AreDistinct}

-- x is the value of a function at a place below m
pub record Hits (f : ℕ → ℕ) (m x : ℕ) : Type 0 where
  pub place : ℕ
  pub below : place < m
  pub there : f place ≡ x

abbrev places_of : (f : ℕ → ℕ) (m : ℕ) (xs : List ℕ) → AllByRecursion (Hits f m) xs → List ℕ
places_of f m [] h = []
places_of f m (x ∷ xs) h = h.0.place ∷ places_of f m xs h.1

length-places_of : (f : ℕ → ℕ) (m : ℕ) (xs : List ℕ) (h : AllByRecursion (Hits f m) xs) → length (places_of f m xs h) ≡ length xs
length-places_of f m [] h = refl
length-places_of f m (x ∷ xs) h = ap suc (length-places_of f m xs h.1)

other_places : (f : ℕ → ℕ) (m x k : ℕ) → f k ≡ x → (xs : List ℕ) (h : AllByRecursion (Hits f m) xs) → AllByRecursion (λ y. x ≡ y → ⊥) xs
    → AllByRecursion (λ q. eqb k q ≡ false) (places_of f m xs h)
other_places f m x k here [] h apart = tt
other_places f m x k here (y ∷ ys) h apart =
    let no : k ≡ h.0.place → ⊥ = λ e. apart.0 (sym here ∙ ap f e ∙ h.0.there) in
    (grind (arith, no), other_places f m x k here ys h.1 apart.1)

distinct_places : (f : ℕ → ℕ) (m : ℕ) (xs : List ℕ) (h : AllByRecursion (Hits f m) xs) → AreDistinct xs → IsDistinct eqb (places_of f m xs h)
unfolding IsDistinct
distinct_places f m [] h d = tt
distinct_places f m (x ∷ xs) h d = (other_places f m x h.0.place h.0.there xs h.1 d.0, distinct_places f m xs h.1 d.1)

places_below : (f : ℕ → ℕ) (m : ℕ) (xs : List ℕ) (h : AllByRecursion (Hits f m) xs) (q : ℕ) → list_any (eqb q) (places_of f m xs h) ≡ true → q < m
places_below f m [] h q e = cc
places_below f m (x ∷ xs) h q e =
    ⊎_elim
    (λ here. let same : q ≡ h.0.place = eqb-true q h.0.place here in subst (λ j. j < m) (sym same) h.0.below)
    (λ later. places_below f m xs h.1 q later)
    (or_cases (eqb q h.0.place) (list_any (eqb q) (places_of f m xs h.1)) e)

-- different values of a function at places below m are at most m
pub distinct_values : (f : ℕ → ℕ) (m : ℕ) (xs : List ℕ) → AreDistinct xs → AllByRecursion (Hits f m) xs → length xs ≤ m
distinct_values f m xs d h =
    let bound = length-le_from_distinct_below (places_of f m xs h) m (distinct_places f m xs h d) (places_below f m xs h) in
    let size = length-places_of f m xs h in
    omega arith

pub all_map : (P Q : ℕ → Type 0) → ((x : ℕ) → P x → Q x) → (xs : List ℕ) → AllByRecursion P xs → AllByRecursion Q xs
all_map P Q step [] h = tt
all_map P Q step (x ∷ xs) h = (step x h.0, all_map P Q step xs h.1)

-- what holds at each place holds of all
pub all_from : (P : ℕ → Type 0) (xs : List ℕ) → ((j : ℕ) → j < length xs → P (get_or xs j 0)) → AllByRecursion P xs
all_from P [] each = tt
all_from P (x ∷ xs) each = (each 0 (omega arith), all_from P xs (λ j low. each (suc j) (omega arith)))

-- what is different at any two places
pub distinct_from : (xs : List ℕ) → ((i j : ℕ) → i < j → j < length xs → get_or xs i 0 ≡ get_or xs j 0 → ⊥) → AreDistinct xs
distinct_from [] apart = tt
distinct_from (x ∷ xs) apart = (all_from (λ y. x ≡ y → ⊥) xs (λ j low same. apart 0 (suc j) (omega arith) (omega arith) same), distinct_from xs (λ i j less low same. apart (suc i) (suc j) (omega arith) (omega arith) same))
