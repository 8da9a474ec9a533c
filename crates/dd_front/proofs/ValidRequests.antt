-- A request that is known to be valid has a number in each of its sets.
use Rattle.std.proofs.Common.{◌⊎◌, inl, inr, ⊎_elim, ℕ, zero, suc, Bool, true, false, IsTrue, List, [], ◌∷◌, slice_index_or, refl}
use Rattle.std.proofs.Props.{props}
use Rattle.std.proofs.Math.Logic.{∥∥₁_elim, ∥∥₁_map}
use Rattle.dd_model.specs.Request.{IsValid, HasNumber}
use Rattle.dd_model.specs.declared.allowed.Allowed.{Allowed}
use Rattle.dd_model.specs.declared.requests.Request.{Request}

some_or_none : (xs : List Bool) → ((m : ℕ) × IsTrue (slice_index_or xs m false)) ⊎ ((m : ℕ) → IsTrue (slice_index_or xs m false) → ⊥)
some_or_none [] = inr none
  where
    none : (m : ℕ) → IsTrue (slice_index_or [] m false) → ⊥
    none zero h = cc
    none (suc m) h = cc
some_or_none (true ∷ xs) = inl (0, refl)
some_or_none (false ∷ xs) =
    ⊎_elim (λ some. inl (suc some.0, some.1)) (λ none. inr (later none)) (some_or_none xs)
  where
    later : ((m : ℕ) → IsTrue (slice_index_or xs m false) → ⊥) → (m : ℕ) → IsTrue (slice_index_or (false ∷ xs) m false) → ⊥
    later none zero h = cc
    later none (suc m) h = none m h

number_of : (a : Allowed) → ∥ HasNumber a ∥₁ → HasNumber a
number_of a known = ⊎_elim (λ some. some) (λ none. absurd (∥∥₁_elim known (λ x y. absurd x) (λ some. none some.0 some.1))) (some_or_none a.table)

pub valid_of : (q : Request) → ∥ IsValid q ∥₁ → IsValid q
valid_of q known = record {
  chambers = ∥∥₁_elim known (hlevel props) (λ valid. valid.chambers);
  tiles = ∥∥₁_elim known (hlevel props) (λ valid. valid.tiles);
  vertices = ∥∥₁_elim known (hlevel props) (λ valid. valid.vertices);
  faces = number_of q.faces (∥∥₁_map known (λ valid. valid.faces));
  degrees = number_of q.degrees (∥∥₁_map known (λ valid. valid.degrees));
}
