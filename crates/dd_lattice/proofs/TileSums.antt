-- Sums over the walk round a tile. A chamber stands in it once, by itself or beside the walk.
use Rattle.std.proofs.Common.{◌≡◌, ◌≢◌, ℕ, zero, suc, ◌+◌, ◌<◌, ◌⊎◌, Bool, true, false, not, cond, eqb, ℤ, pos, ◌-ℤ◌, refl, sym, ap, ◌∙◌, subst, ⊎_elim, arith}
use Rattle.std.proofs.lemmas.Bool.{cases_eq, eq-eqb, ne_eqb}
use Rattle.std.proofs.lemmas.Int.{ints}
use Rattle.dd_model.specs.declared.index.Index.{Index}
use Rattle.dd_model.specs.declared.index.Index.TheVariants.{Zero, One}
use Rattle.dd_model.specs.declared.pair.Pair.TheVariants.{Tile}
use Rattle.dd_model.specs.Symbol.{Symbol, AreInvolutions, IsChamber, op}
use Rattle.dd_model.specs.Cell.{InCell, IsPeriod, turned}
use Rattle.dd_model.proofs.CellSearch.{least_of_cell_unique}
use Rattle.dd_model.proofs.CellWalks.{met_from_in_cell, in_cell-first, in_cell-sym, in_cell-trans, in_cell-turned}
use Rattle.dd_model.proofs.Turns.{turned_within, turned-last}
use Rattle.dd_cells.proofs.CellSums.{AreRoots}
use Rattle.dd_cells.proofs.ChainLemmas.{turns_unique}
use Rattle.dd_lattice.specs.Shifts.{sum_round}

-- 1 where two numbers are equal
abbrev pub one : ℕ → ℕ → ℕ
one a b = cond (eqb a b) 1 0

pub one_at : (a b : ℕ) → a ≡ b → one a b ≡ 1
one_at a b e = ap (λ t. cond t 1 0) (eq-eqb a b e)

pub one_off : (a b : ℕ) → a ≢ b → one a b ≡ 0
one_off a b off = ap (λ t. cond t 1 0) (ne_eqb a b off)

pub one_same : (a b c d : ℕ) → (a ≡ b → c ≡ d) → (c ≡ d → a ≡ b) → one a b ≡ one c d
one_same a b c d to from =
    ⊎_elim
    (λ e. one_at a b e ∙ sym (one_at c d (to e)))
    (λ off. one_off a b off ∙ sym (one_off c d (λ e. off (from e))))
    (cases_eq a b)

-- the sum over the first n chambers of the walk round the tile of d
abbrev pub total : Symbol → (ℕ → ℕ) → ℕ → ℕ → ℕ
total t f d zero = 0
total t f d (suc n) = total t f d n + f (turned t Tile n d)

pub total_same : (t : Symbol) (f g : ℕ → ℕ) (d n : ℕ) → ((j : ℕ) → f (turned t Tile j d) ≡ g (turned t Tile j d)) → total t f d n ≡ total t g d n
total_same t f g d zero same = refl
total_same t f g d (suc n) same = ap (λ z. z + f (turned t Tile n d)) (total_same t f g d n same) ∙ ap (λ z. total t g d n + z) (same n)

pub total_both : (t : Symbol) (f g : ℕ → ℕ) (d n : ℕ) → total t (λ c. f c + g c) d n ≡ total t f d n + total t g d n
total_both t f g d zero = refl
total_both t f g d (suc n) = let rest = total_both t f g d n in omega arith

pub total_none : (t : Symbol) (f : ℕ → ℕ) (d n : ℕ) → ((j : ℕ) → j < n → f (turned t Tile j d) ≡ 0) → total t f d n ≡ 0
total_none t f d zero none = refl
total_none t f d (suc n) none = let rest = total_none t f d n (λ j low. none j (omega arith)) in let last = none n (omega arith) in omega arith

total_one : (t : Symbol) (f : ℕ → ℕ) (d n m : ℕ) → m < n → f (turned t Tile m d) ≡ 1 → ((j : ℕ) → j < n → j ≢ m → f (turned t Tile j d) ≡ 0) → total t f d n ≡ 1
total_one t f d zero m low at others = absurd (omega arith)
total_one t f d (suc n) m low at others =
    ⊎_elim
    (λ e.
    let own : f (turned t Tile n d) ≡ 1 = subst (λ k. f (turned t Tile k d) ≡ 1) (sym e) at in
    let rest = total_none t f d n (λ j less. others j (omega arith) (λ same. absurd (omega arith))) in
    omega arith)
    (λ off.
    let rest = total_one t f d n m (omega arith) at (λ j less. others j (omega arith)) in
    let last = others n (omega arith) off in
    omega arith)
    (cases_eq n m)

-- a sum of differences is a difference of sums
pub sum_as : (t : Symbol) (x : ℕ → ℤ) (f g : ℕ → ℕ) (d n : ℕ) → ((j : ℕ) → x (turned t Tile j d) ≡ pos (f (turned t Tile j d)) -ℤ pos (g (turned t Tile j d)))
    → sum_round t x d n ≡ pos (total t f d n) -ℤ pos (total t g d n)
sum_as t x f g d zero same = omega (arith, ints)
sum_as t x f g d (suc n) same = let rest = sum_as t x f g d n same in let last = same n in omega (arith, ints)

module _ (t : Symbol) (inv : AreInvolutions t) (color : ℕ → Bool) (exchanged : (i : Index) (d : ℕ) → IsChamber t d → color (op t i d) ≡ not (color d)) (root : ℕ → ℕ) (roots : AreRoots t Tile root) where
  not_own : (b : Bool) → not b ≢ b
  not_own true e = cc
  not_own false e = cc

  not_not : (b : Bool) → not (not b) ≡ b
  not_not true = refl
  not_not false = refl

  -- the walk keeps the color
  pub turned_color : (d : ℕ) → IsChamber t d → (j : ℕ) → color (turned t Tile j d) ≡ color d
  turned_color d h zero = refl
  turned_color d h (suc j) =
      let at = turned t Tile j d in
      let ht = turned_within t inv Tile j d h in
      ap color (turned-last t Tile j d) ∙ exchanged One (op t Zero at) ((inv Zero).within at ht) ∙ ap not (exchanged Zero at ht) ∙ not_not (color at) ∙ turned_color d h j

  root_same : (d e : ℕ) → IsChamber t d → IsChamber t e → InCell t Tile d e → root d ≡ root e
  root_same d e hd he near =
      least_of_cell_unique t inv Tile (root d) (root e) (roots.least d hd) (roots.least e he)
      (in_cell-trans t Tile (root d) e (root e) (in_cell-trans t Tile (root d) d e (in_cell-sym t inv Tile d (root d) hd (roots.in_cell d hd)) near) (roots.in_cell e he))

  module _ (d e r : ℕ) (hd : IsChamber t d) (he : IsChamber t e) (period : IsPeriod t Tile d r) where
    abbrev hits : ℕ → ℕ
    hits c = one c e + one (op t Zero c) e

    here : (j : ℕ) → IsChamber t (turned t Tile j d)
    here j = turned_within t inv Tile j d hd

    -- the chambers beside the walk have the other color
    beside_apart : (j k : ℕ) → op t Zero (turned t Tile j d) ≢ turned t Tile k d
    beside_apart j k same = not_own (color d) (ap not (sym (turned_color d hd j)) ∙ sym (exchanged Zero (turned t Tile j d) (here j)) ∙ ap color same ∙ turned_color d hd k)

    hit_once : (m : ℕ) → m < r → (turned t Tile m d ≡ e) ⊎ (op t Zero (turned t Tile m d) ≡ e) → total t hits d r ≡ 1
    hit_once m low place =
        ⊎_elim
        (λ at. total_one t hits d r m low
        (let a = one_at (turned t Tile m d) e at in let b = one_off (op t Zero (turned t Tile m d)) e (λ same. beside_apart m m (same ∙ sym at)) in omega arith)
        (λ j less off.
        let a = one_off (turned t Tile j d) e (λ same. off (turns_unique t inv Tile d r j m hd period less low (same ∙ sym at))) in
        let b = one_off (op t Zero (turned t Tile j d)) e (λ same. beside_apart j m (same ∙ sym at)) in
        omega arith))
        (λ at. total_one t hits d r m low
        (let a = one_off (turned t Tile m d) e (λ same. beside_apart m m (at ∙ sym same)) in let b = one_at (op t Zero (turned t Tile m d)) e at in omega arith)
        (λ j less off.
        let a = one_off (turned t Tile j d) e (λ same. beside_apart m j (at ∙ sym same)) in
        let b = one_off (op t Zero (turned t Tile j d)) e (λ same.
        off (turns_unique t inv Tile d r j m hd period less low (sym ((inv Zero).involutive (turned t Tile j d) (here j)) ∙ ap (op t Zero) (same ∙ sym at) ∙ (inv Zero).involutive (turned t Tile m d) (here m)))) in
        omega arith))
        place

    pub hits_total : total t hits d r ≡ one (root d) (root e)
    hits_total =
        ⊎_elim
        (λ same.
        let near = in_cell-trans t Tile d (root d) e (roots.in_cell d hd) (subst (λ z. InCell t Tile z e) (sym same) (in_cell-sym t inv Tile e (root e) he (roots.in_cell e he))) in
        let met = met_from_in_cell t inv Tile d r e hd period near in
        hit_once met.turns met.below met.place ∙ sym (one_at (root d) (root e) same))
        (λ differ. total_none t hits d r (λ j low.
        let a = one_off (turned t Tile j d) e (λ at. differ (root_same d e hd he (subst (InCell t Tile d) at (in_cell-turned t Tile d j)))) in
        let b = one_off (op t Zero (turned t Tile j d)) e (λ at. differ (root_same d e hd he (subst (InCell t Tile d) at (in_cell-first t Tile d (turned t Tile j d) (in_cell-turned t Tile d j))))) in
        omega arith) ∙ sym (one_off (root d) (root e) differ))
        (cases_eq (root d) (root e))
