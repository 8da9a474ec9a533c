-- A table that is filled knows what it knew before.
use Rattle.std.proofs.Common.{◌≡◌, ◌≢◌, ℕ, zero, suc, ◌-◌, ◌⊎◌, List, [], ◌∷◌, get_or, set, refl, sym, ◌∙◌, subst, inl, inr, ⊎_elim}
use Rattle.std.proofs.lemmas.Bool.{cases_lt}
use Rattle.dd_model.specs.declared.index.Index.{Index}
use Rattle.dd_model.specs.Symbol.{Symbol, op}
use Rattle.dd_model.specs.Partial.{Completes}
use Rattle.dd_front_jobs.specs.Places.{place, back_of}
use Rattle.dd_branch_tables.specs.Rows.{Rows, partial_of, depth_of, cleared, last_of, popped, unwind, unwound}
use Rattle.dd_branch_tables.proofs.RowsLemmas.{op_partial, op_past}

-- a list with a place set to zero
zero_or_same : (xs : List ℕ) (t u : ℕ) → (get_or (set xs t 0) u 0 ≡ get_or xs u 0) ⊎ (get_or (set xs t 0) u 0 ≡ 0)
zero_or_same [] t u = inl refl
zero_or_same (x ∷ xs) zero zero = inr refl
zero_or_same (x ∷ xs) zero (suc u) = inl refl
zero_or_same (x ∷ xs) (suc t) zero = inl refl
zero_or_same (x ∷ xs) (suc t) (suc u) = zero_or_same xs t u

-- the same with two places
pub cleared_or_same : (xs : List ℕ) (t u : ℕ) → (get_or (cleared xs t) u 0 ≡ get_or xs u 0) ⊎ (get_or (cleared xs t) u 0 ≡ 0)
cleared_or_same xs t u = ⊎_elim
    (λ second. ⊎_elim (λ first. inl (second ∙ first)) (λ none. inr (second ∙ none)) (zero_or_same xs t u))
    (λ none. inr none)
    (zero_or_same (set xs t 0) (back_of t (get_or xs t 0)) u)

known_before : (r : Rows) (i : Index) (d : ℕ) → op (partial_of (popped r)) i d ≢ 0 → op (partial_of r) i d ≡ op (partial_of (popped r)) i d
known_before r i d some = ⊎_elim
    (λ low.
    let now = op_partial r.size r.numbers i d low in
    let before : op (partial_of (popped r)) i d ≡ get_or (cleared r.numbers (last_of r)) (place i d) 0 = op_partial r.size (cleared r.numbers (last_of r)) i d low in
    ⊎_elim (λ same. now ∙ sym same ∙ sym before) (λ none. absurd (some (before ∙ none))) (cleared_or_same r.numbers (last_of r) (place i d)))
    (λ high. absurd (some (op_past r.size (cleared r.numbers (last_of r)) i d high)))
    (cases_lt (d - 1) 36)

completes_popped : (r : Rows) (s : Symbol) → Completes (partial_of r) s → Completes (partial_of (popped r)) s
completes_popped r s full = record {
  table = full.table;
  connected = full.connected;
  size = full.size;
  images = λ i d some. let same = known_before r i d some in full.images i d (λ none. some (sym same ∙ none)) ∙ same;
}

completes_unwind : (k : ℕ) (r : Rows) (s : Symbol) → Completes (partial_of r) s → Completes (partial_of (unwind k r)) s
completes_unwind zero r s full = full
completes_unwind (suc k) r s full = completes_unwind k (popped r) s (completes_popped r s full)

-- What completes a table completes each one that it was filled from.
pub completes_shorter : (old new : Rows) → unwound new (depth_of old) ≡ old → (s : Symbol) → Completes (partial_of new) s → Completes (partial_of old) s
completes_shorter old new undone s full = subst (λ r. Completes (partial_of r) s) undone (completes_unwind (depth_of new - depth_of old) new s full)
