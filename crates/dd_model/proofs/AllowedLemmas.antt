-- Tables of truth values.
use Rattle.std.proofs.Common.{◌≡◌, ◌⊎◌, ℕ, zero, suc, ◌+◌, ◌<◌, ◌≤◌, Bool, true, false, IsTrue, List, length, slice_index_or, replicate, refl, inl, inr, ⊎_elim, arith}
use Rattle.std.proofs.lemmas.Bool.{cases_lt}
use Rattle.std.proofs.lemmas.List.{get_or_past}
use Rattle.dd_model.specs.Allowed.{IsIn}
use Rattle.dd_model.specs.declared.allowed.Allowed.{Allowed}

pub none_in : (n m : ℕ) → IsTrue (slice_index_or (replicate n false) m false) → ⊥
none_in zero m h = cc
none_in (suc n) zero h = cc
none_in (suc n) (suc m) h = none_in n m h

-- true from f on, below m
pub record IsSetFrom (f m : ℕ) (table : List Bool) : Type 0 where
  pub whole : length table ≡ 217
  pub below : (k : ℕ) → k < f → slice_index_or table k false ≡ false
  pub within : (k : ℕ) → f ≤ k → k < m → slice_index_or table k false ≡ true
  pub above : (k : ℕ) → m ≤ k → slice_index_or table k false ≡ false

none_at : (n m : ℕ) → slice_index_or (replicate n false) m false ≡ false
none_at zero m = refl
none_at (suc n) zero = refl
none_at (suc n) (suc m) = none_at n m

impossible : (f k : ℕ) → f ≤ k → k < f → ⊥
impossible f k low high = omega arith

pub set_from_none : (f : ℕ) → IsSetFrom f f (replicate 217 false)
set_from_none f = record { whole = refl; below = λ k h. none_at 217 k; within = λ k low high. absurd (impossible f k low high); above = λ k h. none_at 217 k }

-- no set has a number over 216
pub in_small : (a : Allowed) (m : ℕ) → IsIn a m → m ≤ 216
in_small a m is = ⊎_elim
    (λ (low : m < 217). omega arith)
    (λ (past : 217 ≤ m). let none : slice_index_or a.table m false ≡ false = get_or_past a.table m false (let whole = a.whole in omega arith) in absurd cc)
    (cases_lt m 217)

-- a range of numbers, of which the one after its last is told
pub up_to : {P Q : Type 0} (low high last m : ℕ) → last ≡ high + 1 → (P → Q ⊎ ((low ≤ m) × (m < last))) → P → Q ⊎ ((low ≤ m) × (m ≤ high))
up_to low high last m e f p = elim (f p) [ inl q ↦ inl q | inr r ↦ let below = r.1 in inr (r.0, omega arith) ]

pub from_up_to : {P Q : Type 0} (low high last m : ℕ) → last ≡ high + 1 → (Q ⊎ ((low ≤ m) × (m < last)) → P) → Q ⊎ ((low ≤ m) × (m ≤ high)) → P
from_up_to low high last m e f s = f (elim s [ inl q ↦ inl q | inr r ↦ let below = r.1 in inr (r.0, omega arith) ])
