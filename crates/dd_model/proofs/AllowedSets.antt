-- Two sets with the same numbers are equal.
use mathlib.Core.HLevel.{is_prop→PathP}
use Rattle.std.proofs.Common.{◌≡◌, ℕ, ◌↔◌, Bool, true, false, IsTrue, length, slice_index_or, refl, sym, ◌∙◌, subst}
use Rattle.std.proofs.Math.Bool.{Bool-set}
use Rattle.std.proofs.Math.Nat.{ℕ_set}
use Rattle.std.proofs.lemmas.List.{ext_get_or}
use Rattle.dd_model.specs.declared.allowed.Allowed.{Allowed}
use Rattle.dd_model.specs.Allowed.{IsIn, IsFrom}

same_truth : (x y : Bool) → (IsTrue x ↔ IsTrue y) → x ≡ y
same_truth true true h = refl
same_truth true false h = sym (h.0 refl)
same_truth false true h = h.1 refl
same_truth false false h = refl

same_table : (a b : Allowed) → ((m : ℕ) → IsIn a m ↔ IsIn b m) → a.table ≡ b.table
same_table a b same =
    ext_get_or false a.table b.table (a.whole ∙ sym b.whole) (λ m _. same_truth (slice_index_or a.table m false) (slice_index_or b.table m false) (same m))

pub same_sets : (a b : Allowed) → ((m : ℕ) → IsIn a m ↔ IsIn b m) → a ≡ b
same_sets a b same =
    let e = same_table a b same in
    λ i. record {
      table = e i;
      whole = is_prop→PathP (λ j. length (e j) ≡ 217) (λ j. hlevel ℕ_set) a.whole b.whole i;
      no_zero = is_prop→PathP (λ j. slice_index_or (e j) 0 false ≡ false) (λ j. hlevel Bool-set) a.no_zero b.no_zero i;
    }

pub same_from_sets : (f g : ℕ) (a b : Allowed) → f ≡ g → IsFrom f a → IsFrom g b → a ≡ b
same_from_sets f g a b e p q =
    let p2 : IsFrom g a = subst (λ k. IsFrom k a) e p in
    same_sets a b (λ m. (λ h. (q m).1 ((p2 m).0 h), λ h. (p2 m).1 ((q m).0 h)))
