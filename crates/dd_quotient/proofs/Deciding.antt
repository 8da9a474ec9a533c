-- Facts that are decided: numbers and lists, several facts at once, and all chambers up to a last one.
use Rattle.std.proofs.Common.{◌≡◌, ℕ, zero, suc, ◌≤◌, Bool, true, false, IsTrue, List, [], ◌∷◌, refl, subst, inl, inr, ⊎_elim, arith}
use Rattle.std.proofs.lemmas.Bool.{cases_eq, cases_lt}
use Rattle.std.proofs.lemmas.Slice.Eq.{bytes_eq-Decides}
use Rattle.std.specs.List.{Contains}
use Rattle.std.specs.Str.{bytes_eq}
use Rattle.dd_model.specs.declared.index.Index.{Index}
use Rattle.dd_model.specs.declared.index.Index.TheVariants.{Zero, One, Two}
use Rattle.dd_model.specs.declared.pair.Pair.{Pair}
use Rattle.dd_model.specs.declared.pair.Pair.TheVariants.{Tile, Vertex, Edge}
use Rattle.dd_model.proofs.CellSearch.{Decided}
use Rattle.dd_model.proofs.Lists.{Contains-none, Contains-head, Contains-later, Contains-cases}

-- Q needs P, and is decided where P holds.
pub decide_after : {P Q : Type 0} → Decided P → (P → Decided Q) → (Q → P) → Decided Q
decide_after (inl holds) next needs = next holds
decide_after (inr fails) next needs = inr (λ h. fails (needs h))

-- a fact that follows from another one and gives it back
pub decide_same : {P Q : Type 0} → Decided P → (P → Q) → (Q → P) → Decided Q
decide_same p to from = decide_after p (λ h. inl (to h)) from

pub decide_at_most : (m n : ℕ) → Decided (m ≤ n)
decide_at_most m n = ⊎_elim (λ above. inr (λ h. absurd (omega arith))) (λ below. inl below) (cases_lt n m)

pub decide_truth : (b : Bool) → Decided (IsTrue b)
decide_truth true = inl refl
decide_truth false = inr (λ h. cc)

pub decide_lists : (xs ys : List ℕ) → Decided (xs ≡ ys)
decide_lists xs ys =
    let test = bytes_eq-Decides xs ys in
    decide_same (decide_truth (bytes_eq xs ys)) test.0 test.1

pub decide_contains : (xs : List ℕ) (x : ℕ) → Decided (Contains xs x)
decide_contains [] x = inr (Contains-none x)
decide_contains (y ∷ xs) x =
    ⊎_elim
    (λ first. inl (subst (Contains (y ∷ xs)) first (Contains-head y xs)))
    (λ other. decide_same (decide_contains xs x) (Contains-later y x xs) (λ there. ⊎_elim (λ first. absurd (other first)) (λ later. later) (Contains-cases y x xs there)))
    (cases_eq y x)

pub decide_each_index : (P : Index → Type 0) → ((i : Index) → Decided (P i)) → Decided ((i : Index) → P i)
decide_each_index P decide =
    decide_after (decide Zero) (λ a. decide_after (decide One) (λ b.
    decide_same (decide Two) (λ c i. elim i as (λ j. P j) [ Zero ↦ a | One ↦ b | Two ↦ c ])
    (λ all. all Two)) (λ all. all One)) (λ all. all Zero)

pub decide_each_pair : (P : Pair → Type 0) → ((p : Pair) → Decided (P p)) → Decided ((p : Pair) → P p)
decide_each_pair P decide =
    decide_after (decide Tile) (λ a. decide_after (decide Vertex) (λ b.
    decide_same (decide Edge) (λ c p. elim p as (λ q. P q) [ Tile ↦ a | Vertex ↦ b | Edge ↦ c ])
    (λ all. all Edge)) (λ all. all Vertex)) (λ all. all Tile)

-- what is decided at each of 1 to n is decided of all of them
pub decide_each : (P : ℕ → Type 0) (n : ℕ) → ((d : ℕ) → (1 ≤ d) × (d ≤ n) → Decided (P d)) → Decided ((d : ℕ) → (1 ≤ d) × (d ≤ n) → P d)
decide_each P zero decide = inl (λ d h. let low = h.0 in let high = h.1 in absurd (omega arith))
decide_each P (suc n) decide =
    let early : (d : ℕ) → (1 ≤ d) × (d ≤ n) → (1 ≤ d) × (d ≤ suc n) = λ d h. (h.0, let high = h.1 in omega arith) in
    let last : (1 ≤ suc n) × (suc n ≤ suc n) = (omega arith, omega arith) in
    decide_after (decide_each P n (λ d h. decide d (early d h))) (λ before.
    decide_same (decide (suc n) last) (λ here d h.
    ⊎_elim
    (λ below. before d (h.0, omega arith))
    (λ above. let e : suc n ≡ d = let high = h.1 in omega arith in subst P e here)
    (cases_lt d (suc n)))
    (λ all. all (suc n) last))
    (λ all d h. all d (early d h))
