-- Two lists are compared by partners of their members: in length, and in sum and product.
use Rattle.std.proofs.Common.{◌≡◌, ℕ, suc, ◌+◌, ◌*◌, ◌<◌, map, get_or, ◌≤◌, List, [], ◌∷◌, length, refl, sym, ap, ◌∙◌, subst, ⊎_elim, arith}
use Rattle.std.proofs.Math.Nat.{mul_left_comm}
use Rattle.std.proofs.lemmas.List.{get_or_default}
use Rattle.std.proofs.lemmas.List.Sums.{sum_by-cons}
use Rattle.std.specs.List.{Contains, sum_by}
use Rattle.std.specs.List.Sorted.{IsStrictlyIncreasing}
use Rattle.dd_model.specs.Flat.{product}
use Rattle.dd_model.proofs.CellLists.{increasing-head, increasing-tail}
use Rattle.dd_model.proofs.Lists.{Contains-head, Contains-later, Contains-cases}

-- ys without one y
record Without (ys : List ℕ) (y : ℕ) : Type 0 where
  pub rest : List ℕ
  pub shorter : length ys ≡ suc (length rest)
  pub sum : (g h : ℕ → ℕ) → sum_by g (map h ys) ≡ g (h y) + sum_by g (map h rest)
  pub product : (h : ℕ → ℕ) → product (map h ys) ≡ h y * product (map h rest)
  pub keeps : (z : ℕ) → Contains ys z → (y ≡ z → ⊥) → Contains rest z

without : (ys : List ℕ) (y : ℕ) → Contains ys y → Without ys y
without [] y here = let below = here.1 in absurd (omega arith)
without (x ∷ xs) y here =
    ⊎_elim
    (λ e. record {
      rest = xs;
      shorter = refl;
      sum = λ g h. sum_by-cons g (h x) (map h xs) ∙ ap (λ z. g (h z) + sum_by g (map h xs)) e;
      product = λ h. ap (λ z. h z * product (map h xs)) e;
      keeps = λ z there other. ⊎_elim (λ at. absurd (other (sym e ∙ at))) (λ later. later) (Contains-cases x z xs there);
    })
    (λ later.
    let w = without xs y later in
    record {
      rest = x ∷ w.rest;
      shorter = ap suc w.shorter;
      sum = λ g h.
          let a = sum_by-cons g (h x) (map h xs) in
          let b = w.sum g h in
          let c = sum_by-cons g (h x) (map h w.rest) in
          omega arith;
      product = λ h. ap (λ n. h x * n) (w.product h) ∙ mul_left_comm (h x) (h y) (product (map h w.rest));
      keeps = λ z there other. ⊎_elim
          (λ at. subst (λ v. Contains (x ∷ w.rest) v) at (Contains-head x w.rest))
          (λ behind. Contains-later x z w.rest (w.keeps z behind other))
          (Contains-cases x z xs there);
    })
    (Contains-cases x y xs here)

-- Where each member of an ascending list has a partner in a second list, and no two have the same, the second list is no shorter.
pub length-le_from_partners : (R : ℕ → ℕ → Type 0) (xs ys : List ℕ) → IsStrictlyIncreasing xs
    → ((x : ℕ) → Contains xs x → (y : ℕ) × Contains ys y × R x y)
    → ((x x' y : ℕ) → Contains xs x → Contains xs x' → R x y → R x' y → x ≡ x') → length xs ≤ length ys
length-le_from_partners R [] ys up partner apart = omega arith
length-le_from_partners R (x ∷ xs) ys up partner apart =
    let head = Contains-head x xs in
    let own = partner x head in
    let w = without ys own.0 own.1 in
    let shorter = w.shorter in
    let rest : length xs ≤ length w.rest =
    length-le_from_partners R xs w.rest (increasing-tail x xs up)
    (λ x' later.
    let other = partner x' (Contains-later x x' xs later) in (
      other.0,
      w.keeps other.0 other.1 (λ same.
          let e = apart x x' other.0 head (Contains-later x x' xs later) (subst (R x) same own.2) other.2 in
          let below = increasing-head x x' xs up later in
          absurd (omega arith)),
      other.2,
    ))
    (λ a b y la lb. apart a b y (Contains-later x a xs la) (Contains-later x b xs lb)) in
    omega arith

-- no two members are equal
abbrev pub AreApart : List ℕ → Type 0
AreApart xs = (i j : ℕ) → i < j → j < length xs → get_or xs i 0 ≡ get_or xs j 0 → ⊥

apart_tail : (x : ℕ) (xs : List ℕ) → AreApart (x ∷ xs) → AreApart xs
apart_tail x xs apart i j low high same = apart (suc i) (suc j) (omega arith) (omega arith) same

apart_head : (x z : ℕ) (xs : List ℕ) → AreApart (x ∷ xs) → Contains xs z → x ≡ z → ⊥
apart_head x z xs apart (k, h, e) same =
    apart 0 (suc k) (omega arith) (omega arith) (same ∙ sym e ∙ get_or_default xs k z 0 h)

-- a sum and a product over one list
pub record SameTotals (g h : ℕ → ℕ) (xs ys : List ℕ) : Type 0 where
  pub sum : sum_by g (map h xs) ≡ sum_by g (map h ys)
  pub product : product (map h xs) ≡ product (map h ys)

-- Lists of one length with the same members, of which the first has no two equal, have one sum and one product.
pub same_totals : (g h : ℕ → ℕ) (xs ys : List ℕ) → AreApart xs → ((z : ℕ) → Contains xs z → Contains ys z) → length xs ≡ length ys → SameTotals g h xs ys
same_totals g h [] [] apart within same = record { sum = refl; product = refl }
same_totals g h [] (y ∷ ys) apart within same = absurd (omega arith)
same_totals g h (x ∷ xs) ys apart within same =
    let w = without ys x (within x (Contains-head x xs)) in
    let shorter = w.shorter in
    let rest =
    same_totals g h xs w.rest (apart_tail x xs apart)
    (λ z later. w.keeps z (within z (Contains-later x z xs later)) (apart_head x z xs apart later))
    (omega arith) in
    record {
      sum = sum_by-cons g (h x) (map h xs) ∙ ap (λ n. g (h x) + n) rest.sum ∙ sym (w.sum g h);
      product = ap (λ n. h x * n) rest.product ∙ sym (w.product h);
    }
