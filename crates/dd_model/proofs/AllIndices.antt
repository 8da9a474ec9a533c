-- The three involutions by number, and as a list: what holds at each place of it holds of each.
use Rattle.std.proofs.Common.{◌≡◌, ℕ, zero, suc, ◌+◌, ◌<◌, [], ◌∷◌, slice_index_or, refl, sym, ap, ◌∙◌, subst, ⊎_elim, arith}
use Rattle.std.proofs.lemmas.Bool.{cases_lt}
use Rattle.dd_model.specs.declared.index.Index.{Index}
use Rattle.dd_model.specs.declared.index.Index.TheVariants.{Zero, One, Two}
use Rattle.dd_model.specs.Indices.{index_number, index_at}

pub index_low : (i : Index) → index_number i < 3
index_low Zero = omega arith
index_low One = omega arith
index_low Two = omega arith

pub index_at_number : (i : Index) → index_at (index_number i) ≡ i
index_at_number Zero = refl
index_at_number One = refl
index_at_number Two = refl

pub number_at : (n : ℕ) → n < 3 → index_number (index_at n) ≡ n
number_at zero h = refl
number_at (suc zero) h = refl
number_at (suc (suc zero)) h = refl
number_at (suc (suc (suc n))) h = absurd (omega arith)

pub index_same : (i j : Index) → index_number i ≡ index_number j → i ≡ j
index_same i j e = sym (index_at_number i) ∙ ap index_at e ∙ index_at_number j

-- the involution at a place of the list
abbrev pub index_at_place : ℕ → Index
index_at_place k = slice_index_or (Zero ∷ One ∷ Two ∷ []) k Zero

pub none_at_places : (P : Index → Type 0) (k : ℕ) → k < 0 → P (index_at_place k)
none_at_places P k h = absurd (omega arith)

-- one place more
pub more_places : (P : Index → Type 0) (n : ℕ) → ((k : ℕ) → k < n → P (index_at_place k)) → P (index_at_place n) → (k : ℕ) → k < n + 1 → P (index_at_place k)
more_places P n before here k h =
    ⊎_elim (λ early. before k early) (λ last. let e : n ≡ k = omega arith in subst (λ j. P (index_at_place j)) e here) (cases_lt k n)

pub each_index : (P : Index → Type 0) → ((k : ℕ) → k < 3 → P (index_at_place k)) → (i : Index) → P i
each_index P all Zero = all 0 (omega arith)
each_index P all One = all 1 (omega arith)
each_index P all Two = all 2 (omega arith)
