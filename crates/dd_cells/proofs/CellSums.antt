-- A sum over all chambers is the sum over the cells of the sums over their chambers.
use Rattle.std.proofs.Common.{◌≡◌, ℕ, ◌+◌, ◌*◌, Bool, true, false, cond, eqb, List, [], ◌∷◌, length, map, refl, sym, ap, ◌∙◌, subst, inl, inr, ⊎_elim, arith}
use Rattle.std.proofs.lemmas.List.Kept.{IsStrictlyIncreasing-filter}
use Rattle.std.proofs.lemmas.List.Sums.{sum_by-cons}
use Rattle.std.specs.List.{Contains, filter, sum_by}
use Rattle.std.specs.List.Sorted.{IsStrictlyIncreasing}
use borrow.Author.Tests.{eqb-true}
use Rattle.dd_model.specs.declared.pair.Pair.{Pair}
use Rattle.dd_model.specs.Symbol.{Symbol, AreInvolutions, IsChamber}
use Rattle.dd_model.specs.Code.{chambers}
use Rattle.dd_model.specs.Cell.{InCell, IsLeastOfCell, AreCells}
use Rattle.dd_model.proofs.CellLists.{increasing-head, increasing-tail}
use Rattle.dd_model.proofs.CellSearch.{Decided, has_least, least_of_cell_unique, decide_chamber}
use Rattle.dd_model.proofs.CellWalks.{in_cell-sym, in_cell-trans}
use Rattle.dd_model.proofs.Transport.{in_cell_within}
use Rattle.dd_model.proofs.CountFrom.{within_count, count_contains, increasing-count_from}
use Rattle.dd_model.proofs.Lists.{Contains-head, Contains-later, Contains-cases}
use Rattle.dd_cells.specs.Cells.{AreMembers}

-- ## Sums over lists

pub sum_by_equal : (f g : ℕ → ℕ) → ((x : ℕ) → f x ≡ g x) → (xs : List ℕ) → sum_by f xs ≡ sum_by g xs
sum_by_equal f g same xs = ap (λ (h : ℕ → ℕ). sum_by h xs) (λ i x. same x i)

pub sum_by_listed : (f g : ℕ → ℕ) (xs : List ℕ) → ((x : ℕ) → Contains xs x → f x ≡ g x) → sum_by f xs ≡ sum_by g xs
sum_by_listed f g [] same = refl
sum_by_listed f g (x ∷ xs) same =
    let a = sum_by-cons f x xs in
    let b = sum_by-cons g x xs in
    let here = same x (Contains-head x xs) in
    let rest = sum_by_listed f g xs (λ y later. same y (Contains-later x y xs later)) in
    omega arith

pub sum_by_both : (f g : ℕ → ℕ) (xs : List ℕ) → sum_by (λ x. f x + g x) xs ≡ sum_by f xs + sum_by g xs
sum_by_both f g [] = refl
sum_by_both f g (x ∷ xs) =
    let a = sum_by-cons f x xs in
    let b = sum_by-cons g x xs in
    let c = sum_by-cons (λ y. f y + g y) x xs in
    let rest = sum_by_both f g xs in
    omega arith

-- terms that are all v
pub sum_by_same : (f : ℕ → ℕ) (v : ℕ) (xs : List ℕ) → ((x : ℕ) → Contains xs x → f x ≡ v) → sum_by f xs ≡ length xs * v
sum_by_same f v [] same = omega arith
sum_by_same f v (x ∷ xs) same =
    let a = sum_by-cons f x xs in
    let here = same x (Contains-head x xs) in
    let rest = sum_by_same f v xs (λ y later. same y (Contains-later x y xs later)) in
    omega arith

pub sum_by_none : (f : ℕ → ℕ) (xs : List ℕ) → ((x : ℕ) → Contains xs x → f x ≡ 0) → sum_by f xs ≡ 0
sum_by_none f xs none = let e = sum_by_same f 0 xs none in omega arith

pub sum_by-map : (g h : ℕ → ℕ) (xs : List ℕ) → sum_by g (map h xs) ≡ sum_by (λ x. g (h x)) xs
sum_by-map g h [] = refl
sum_by-map g h (x ∷ xs) =
    sum_by-cons g (h x) (map h xs) ∙ ap (λ n. g (h x) + n) (sum_by-map g h xs) ∙ sym (sum_by-cons (λ y. g (h y)) x xs)

-- ## Filters

sum_by-filter : (g : ℕ → ℕ) (p : ℕ → Bool) (x : ℕ) (xs : List ℕ) → sum_by g (filter p (x ∷ xs)) ≡ cond (p x) (g x) 0 + sum_by g (filter p xs)
sum_by-filter g p x xs =
    elim (p x) as (λ b. sum_by g (cond b (x ∷ filter p xs) (filter p xs)) ≡ cond b (g x) 0 + sum_by g (filter p xs)) [
      | true ↦ sum_by-cons g x (filter p xs)
      | false ↦ omega arith
    ]

pub Contains-filter : (p : ℕ → Bool) (xs : List ℕ) (y : ℕ) → Contains xs y → p y ≡ true → Contains (filter p xs) y
Contains-filter p [] y here pass = here
Contains-filter p (x ∷ xs) y here pass =
    elim (p x) as (λ b. p x ≡ b → Contains (cond b (x ∷ filter p xs) (filter p xs)) y) [
      | true ↦ λ _.
          ⊎_elim
          (λ e. subst (λ z. Contains (x ∷ filter p xs) z) e (Contains-head x (filter p xs)))
          (λ later. Contains-later x y (filter p xs) (Contains-filter p xs y later pass))
          (Contains-cases x y xs here)
      | false ↦ λ fail.
          ⊎_elim
          (λ e. let same = ap p e in absurd (cc))
          (λ later. Contains-filter p xs y later pass)
          (Contains-cases x y xs here)
    ]
    refl

pub Contains-from_filter : (p : ℕ → Bool) (xs : List ℕ) (y : ℕ) → Contains (filter p xs) y → Contains xs y × (p y ≡ true)
Contains-from_filter p [] y here = let below = here.1 in absurd (omega arith)
Contains-from_filter p (x ∷ xs) y here =
    elim (p x) as (λ b. p x ≡ b → Contains (cond b (x ∷ filter p xs) (filter p xs)) y → Contains (x ∷ xs) y × (p y ≡ true)) [
      | true ↦ λ pass listed.
          ⊎_elim
          (λ e. (subst (λ z. Contains (x ∷ xs) z) e (Contains-head x xs), sym (ap p e) ∙ pass))
          (λ later. let rest = Contains-from_filter p xs y later in (Contains-later x y xs rest.0, rest.1))
          (Contains-cases x y (filter p xs) listed)
      | false ↦ λ no listed. let rest = Contains-from_filter p xs y listed in (Contains-later x y xs rest.0, rest.1)
    ]
    refl here

-- ## A sum in parts

-- one member of an ascending list is r
single : (r v : ℕ) (ds : List ℕ) → IsStrictlyIncreasing ds → Contains ds r → sum_by (λ j. cond (eqb r j) v 0) ds ≡ v
single r v [] up here = let below = here.1 in absurd (omega arith)
single r v (j ∷ ds) up here =
    let split = sum_by-cons (λ i. cond (eqb r i) v 0) j ds in
    ⊎_elim
    (λ e.
    let yes : cond (eqb r j) v 0 ≡ v = grind arith in
    let rest = sum_by_none (λ i. cond (eqb r i) v 0) ds (λ i later. let above = increasing-head j i ds up later in grind arith) in
    omega arith)
    (λ later.
    let above = increasing-head j r ds up later in
    let no : cond (eqb r j) v 0 ≡ 0 = grind arith in
    let rest = single r v ds (increasing-tail j ds up) later in
    omega arith)
    (Contains-cases j r ds here)

-- A sum over a list is the sum of its parts, one for each value that a function has on it.
pub sum_by_parts : (root g : ℕ → ℕ) (xs ds : List ℕ) → IsStrictlyIncreasing ds → ((x : ℕ) → Contains xs x → Contains ds (root x))
    → sum_by (λ j. sum_by g (filter (λ x. eqb (root x) j) xs)) ds ≡ sum_by g xs
sum_by_parts root g [] ds up roots = sum_by_none (λ j. sum_by g []) ds (λ j here. refl)
sum_by_parts root g (x ∷ xs) ds up roots =
    let part : ℕ → ℕ = λ j. sum_by g (filter (λ y. eqb (root y) j) xs) in
    let head : ℕ → ℕ = λ j. cond (eqb (root x) j) (g x) 0 in
    sum_by_equal (λ j. sum_by g (filter (λ y. eqb (root y) j) (x ∷ xs))) (λ j. head j + part j) (λ j. sum_by-filter g (λ y. eqb (root y) j) x xs) ds
    ∙ sum_by_both head part ds
    ∙ ap (λ n. n + sum_by part ds) (single (root x) (g x) ds up (roots x (Contains-head x xs)))
    ∙ ap (λ n. g x + n) (sum_by_parts root g xs ds up (λ y later. roots y (Contains-later x y xs later)))
    ∙ sym (sum_by-cons g x xs)

-- ## The least chamber of each cell

-- the function takes each chamber to the least of its cell
pub record AreRoots (s : Symbol) (p : Pair) (root : ℕ → ℕ) : Type 0 where
  pub in_cell : (d : ℕ) → IsChamber s d → InCell s p d (root d)
  pub least : (d : ℕ) → IsChamber s d → IsLeastOfCell s p (root d)

pub record HasRoots (s : Symbol) (p : Pair) : Type 0 where
  pub root : ℕ → ℕ
  pub are : AreRoots s p root

abbrev root_at : (s : Symbol) → AreInvolutions s → (p : Pair) (d : ℕ) → Decided (IsChamber s d) → ℕ
root_at s inv p d (inl h) = (has_least s inv p d h).least
root_at s inv p d (inr out) = 0

root_in_cell : (s : Symbol) (inv : AreInvolutions s) (p : Pair) (d : ℕ) (v : Decided (IsChamber s d)) → IsChamber s d → InCell s p d (root_at s inv p d v)
root_in_cell s inv p d (inl h) _ = (has_least s inv p d h).in_cell
root_in_cell s inv p d (inr out) h = absurd (out h)

root_least : (s : Symbol) (inv : AreInvolutions s) (p : Pair) (d : ℕ) (v : Decided (IsChamber s d)) → IsChamber s d → IsLeastOfCell s p (root_at s inv p d v)
root_least s inv p d (inl h) _ = (has_least s inv p d h).is_least
root_least s inv p d (inr out) h = absurd (out h)

pub has_roots : (s : Symbol) → AreInvolutions s → (p : Pair) → HasRoots s p
has_roots s inv p = record {
  root = λ d. root_at s inv p d (decide_chamber s d);
  are = record {
    in_cell = λ d h. root_in_cell s inv p d (decide_chamber s d) h;
    least = λ d h. root_least s inv p d (decide_chamber s d) h;
  };
}

-- the chambers of which the least of their cell is j
abbrev pub members_at : Symbol → (ℕ → ℕ) → ℕ → List ℕ
members_at s root j = filter (λ d. eqb (root d) j) (chambers s)

pub chamber_listed : (s : Symbol) (d : ℕ) → IsChamber s d → Contains (chambers s) d
chamber_listed s d h = count_contains 1 s.size d h.0 (let high = h.1 in omega arith)

pub listed_chamber : (s : Symbol) (d : ℕ) → Contains (chambers s) d → IsChamber s d
listed_chamber s d listed = let w = within_count 1 s.size d listed in (w.0, omega (arith, w.1))

pub members_at_are : (s : Symbol) → AreInvolutions s → (p : Pair) (root : ℕ → ℕ) → AreRoots s p root → (j : ℕ) → IsLeastOfCell s p j → AreMembers s p j (members_at s root j)
members_at_are s inv p root roots j least = record {
  ascending = IsStrictlyIncreasing-filter (λ d. eqb (root d) j) (chambers s) (increasing-count_from 1 s.size);
  each = λ e. (
    λ listed.
        let from = Contains-from_filter (λ d. eqb (root d) j) (chambers s) e listed in
        let h = listed_chamber s e from.0 in
        in_cell-sym s inv p e j h (subst (InCell s p e) (eqb-true (root e) j from.1) (roots.in_cell e h)),
    λ there.
        let h = in_cell_within s inv p j e least.0 there in
        let near = in_cell-trans s p j e (root e) there (roots.in_cell e h) in
        let same : j ≡ root e = least_of_cell_unique s inv p j (root e) least (roots.least e h) near in
        Contains-filter (λ d. eqb (root d) j) (chambers s) e (chamber_listed s e h) (grind arith),
  );
}

-- The sum over all chambers is the sum over the cells.
pub sum_over_cells : (s : Symbol) (p : Pair) (root g : ℕ → ℕ) (ds : List ℕ) → AreRoots s p root → AreCells s p ds
    → sum_by (λ j. sum_by g (members_at s root j)) ds ≡ sum_by g (chambers s)
sum_over_cells s p root g ds roots cells =
    sum_by_parts root g (chambers s) ds cells.ascending (λ d listed. (cells.members (root d)).1 (roots.least d (listed_chamber s d listed)))
