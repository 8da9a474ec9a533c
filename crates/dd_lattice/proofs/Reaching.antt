-- Steps round tiles and across crossing edges lead to all chambers of one color.
use Rattle.std.proofs.Common.{◌≡◌, ℕ, ◌+◌, ◌<◌, ◌⊎◌, zero, suc, Bool, true, false, not, List, length, get_or, refl, sym, ap, ◌∙◌, subst, inl, inr, ⊎_elim, arith}
use Rattle.std.proofs.lemmas.Bool.{cases_lt, cases_eq}
use Rattle.std.proofs.lemmas.List.{get_or_default}
use Rattle.dd_model.specs.declared.index.Index.TheVariants.{Zero, One, Two}
use Rattle.dd_model.specs.declared.pair.Pair.TheVariants.{Tile, Edge}
use Rattle.dd_model.specs.Symbol.{Symbol, AreInvolutions, IsChamber, op}
use Rattle.dd_model.specs.Cell.{AreCells}
use Rattle.dd_model.proofs.CellWalks.{in_cell-first, in_cell-refl, in_cell-second}
use Rattle.dd_cells.proofs.CellSums.{has_roots}
use Rattle.dd_cells.specs.Orientation.{color}
use Rattle.dd_covers.specs.Torus.{IsTorus}
use Rattle.dd_symbol.proofs.CellMarks.{least_for_unique}
use Rattle.dd_lattice.specs.Edges.{IsOfCells, IsTreeEdge, IsKindOf, AreKindsOf, is_crossing}
use Rattle.dd_lattice.specs.Steps.{across, IsCrossingAt, IsLedTo, IsReached, IsWholeTree}
use Rattle.dd_lattice.specs.declared.kinds.EdgeKind.{EdgeKind}
use Rattle.dd_lattice.specs.declared.kinds.EdgeKind.TheVariants.{Crossing, Left}
use Rattle.dd_lattice.specs.declared.step.Step.{Step}
use Rattle.dd_lattice.proofs.Around.{commute}
use Rattle.dd_lattice.proofs.ClosedPaths.{reached_color}
use Rattle.dd_lattice.proofs.Dual.{all_tiles}
use Rattle.dd_lattice.proofs.KindCounts.{level_by_chosen}
use Rattle.dd_lattice.proofs.KindLemmas.{listed_edge}
use Rattle.dd_lattice.proofs.PathLemmas.{across_back, across_cell, crossing_in_cell}
use Rattle.dd_lattice.proofs.TreeCounts.{crossing_chosen, crossing_not_chosen}

-- ## Whether a chamber is reached

abbrev none : Step
none = record { from = 0; to = 0; crosses = false }

led_or_not : (steps : List Step) (k d : ℕ) → IsLedTo steps k d ⊎ (IsLedTo steps k d → ⊥)
led_or_not steps zero d = inr (λ led. let low = led.early in absurd (omega arith))
led_or_not steps (suc k) d =
    ⊎_elim
    (λ led. let low = led.early in inl (record { place = led.place; early = omega arith; inside = led.inside; leads = led.leads }))
    (λ off.
    let later = λ (out : (k < length steps) → (get_or steps k none).to ≡ d → ⊥). (λ (led : IsLedTo steps (suc k) d).
    let low = led.early in
    ⊎_elim
    (λ less. off (record { place = led.place; early = less; inside = led.inside; leads = led.leads }))
    (λ rest. let at : led.place ≡ k = omega arith in let inside = led.inside in out (omega arith) (ap (λ n. (get_or steps n none).to) (sym at) ∙ led.leads none))
    (cases_lt led.place k)) in
    ⊎_elim
    (λ inside. ⊎_elim
    (λ same. inl (record { place = k; early = omega arith; inside = inside; leads = λ e. ap (λ (x : Step). x.to) (get_or_default steps k e none inside) ∙ same }))
    (λ differ. inr (later (λ low. differ)))
    (cases_eq (get_or steps k none).to d))
    (λ past. inr (later (λ low. absurd (omega arith))))
    (cases_lt k (length steps)))
    (led_or_not steps k d)

reached_or_not : (first : ℕ) (steps : List Step) (k d : ℕ) → IsReached first steps k d ⊎ (IsReached first steps k d → ⊥)
reached_or_not first steps k d =
    ⊎_elim
    (λ own. inl (inl own))
    (λ off. ⊎_elim (λ led. inl (inr led)) (λ none_. inr (λ reached. ⊎_elim off none_ reached)) (led_or_not steps k d))
    (cases_eq d first)

abbrev told : {A B : Type 0} → A ⊎ B → ℕ
told (inl a) = 1
told (inr b) = 0

told_at : (A : Type 0) (x : A ⊎ (A → ⊥)) → A → told x ≡ 1
told_at A (inl a) h = refl
told_at A (inr out) h = absurd (out h)

told_off : (A : Type 0) (x : A ⊎ (A → ⊥)) → (A → ⊥) → told x ≡ 0
told_off A (inl a) off = absurd (off a)
told_off A (inr out) off = refl

module _ (t : Symbol) (torus : IsTorus t) (first : ℕ) (steps : List Step) (whole : IsWholeTree t first steps) where
  abbrev inv : AreInvolutions t
  inv = torus.symbol.table.involutions

  abbrev R : ℕ → Type 0
  R d = IsReached first steps (length steps) d

  abbrev f : ℕ → ℕ
  f d = told (reached_or_not first steps (length steps) d)

  f_at : (d : ℕ) → R d → f d ≡ 1
  f_at d reached = told_at (R d) (reached_or_not first steps (length steps) d) reached

  f_off : (d : ℕ) → (R d → ⊥) → f d ≡ 0
  f_off d off = told_off (R d) (reached_or_not first steps (length steps) d) off

  f_same : (a b : ℕ) → (R a → R b) → (R b → R a) → f a ≡ f b
  f_same a b to from =
      ⊎_elim
      (λ reached. f_at a reached ∙ sym (f_at b (to reached)))
      (λ off. f_off a off ∙ sym (f_off b (λ reached. off (from reached))))
      (reached_or_not first steps (length steps) a)

  -- a chamber of the tile's edge is reached, or the one beside it
  abbrev g : ℕ → ℕ
  g d = f d + f (op t Zero d)

  turned_over : (a b : ℕ) → a + b ≡ b + a
  turned_over a b = omega arith

  g_zero : (d : ℕ) → IsChamber t d → g (op t Zero d) ≡ g d
  g_zero d h = ap (λ z. f (op t Zero d) + f z) ((inv Zero).involutive d h) ∙ turned_over (f (op t Zero d)) (f d)

  g_one : (d : ℕ) → IsChamber t d → g (op t One d) ≡ g d
  g_one d h =
      let h0 = (inv Zero).within d h in
      let h1 = (inv One).within d h in
      let before : f (op t Zero (op t One d)) ≡ f d = f_same (op t Zero (op t One d)) d
      (λ reached. subst R (ap (op t One) ((inv Zero).involutive (op t One d) h1) ∙ (inv One).involutive d h) (whole.closed (op t Zero (op t One d)) reached).on)
      (λ reached. (whole.closed d reached).back) in
      let beside : f (op t One d) ≡ f (op t Zero d) = f_same (op t One d) (op t Zero d)
      (λ reached. subst R (ap (op t Zero) ((inv One).involutive d h)) (whole.closed (op t One d) reached).back)
      (λ reached. subst R (ap (op t One) ((inv Zero).involutive d h)) (whole.closed (op t Zero d) reached).on) in
      omega arith

  of_tiles : IsOfCells t Tile g
  of_tiles i d h holds =
      ⊎_elim
      (λ e. subst (λ j. g (op t j d) ≡ g d) (sym e) (g_zero d h))
      (λ e. subst (λ j. g (op t j d) ≡ g d) (sym e) (g_one d h))
      holds

  g_two : (d : ℕ) → IsChamber t d → IsCrossingAt t d → g (op t Two d) ≡ g d
  g_two d h crossing =
      let h0 = (inv Zero).within d h in
      let h2 = (inv Two).within d h in
      let own = in_cell-refl t Edge d in
      let over : f (op t Zero (op t Two d)) ≡ f d = f_same (op t Zero (op t Two d)) d
      (λ reached. subst R (across_back t torus.symbol d h) ((whole.closed (across t d) reached).across (crossing_in_cell t inv d (across t d) (across_cell t d) crossing)))
      (λ reached. (whole.closed d reached).across crossing) in
      let beside : f (op t Two d) ≡ f (op t Zero d) = f_same (op t Two d) (op t Zero d)
      (λ reached. subst R (ap (op t Zero) ((inv Two).involutive d h)) ((whole.closed (op t Two d) reached).across (crossing_in_cell t inv d (op t Two d) (in_cell-second t Edge d d own) crossing)))
      (λ reached. subst R (ap (op t Zero) (commute t torus.symbol d h) ∙ (inv Zero).involutive (op t Two d) h2) ((whole.closed (op t Zero d) reached).across (crossing_in_cell t inv d (op t Zero d) (in_cell-first t Edge d d own) crossing))) in
      omega arith

  module _ (edges : List ℕ) (cells : AreCells t Edge edges) (kinds : List EdgeKind) (are : AreKindsOf t edges kinds) where
    crossing_there : (q : ℕ) → q < length edges → is_crossing (get_or kinds q Left) ≡ true → IsCrossingAt t (get_or edges q 0)
    crossing_there q inside yes_ e least =
        let here = listed_edge t edges cells q inside in
        let same = least_for_unique t inv Edge (get_or edges q 0) (get_or edges q 0) e here.0 (record { in_cell = in_cell-refl t Edge (get_or edges q 0); is_least = here }) least in
        subst (λ z. IsKindOf t z Crossing) same (crossing_chosen t inv edges cells kinds are q inside yes_)

    everywhere : (d : ℕ) → IsChamber t d → g d ≡ g 1
    everywhere =
        all_tiles t torus.symbol torus.connected edges cells kinds are (color torus.oriented.colors) torus.oriented.exchanged g of_tiles
        (level_by_chosen t inv Tile Two (λ e. IsTreeEdge t e → ⊥) edges cells (λ k. is_crossing (get_or kinds k Left)) (crossing_chosen t inv edges cells kinds are) (crossing_not_chosen t inv edges cells kinds are) g of_tiles
        (λ q inside yes_. g_two (get_or edges q 0) (listed_edge t edges cells q inside).0 (crossing_there q inside yes_)))

    not_own : (b : Bool) → b ≡ not b → ⊥
    not_own true e = cc
    not_own false e = cc

    -- so to the chamber beyond the edge of the first one
    pub reaches : R (across t first)
    reaches =
        let h = whole.tree.chamber in
        let h2 = (inv Two).within first h in
        let beyond = across t first in
        let hb = (inv Zero).within (op t Two first) h2 in
        let same = everywhere beyond hb ∙ sym (everywhere first h) in
        let some = f_at first (inl refl) in
        let back_ : op t Zero beyond ≡ op t Two first = (inv Zero).involutive (op t Two first) h2 in
        let other : f (op t Zero beyond) ≡ 0 = f_off (op t Zero beyond) (λ reached.
        not_own (color torus.oriented.colors first) (sym (reached_color t torus (has_roots t inv Tile).root (has_roots t inv Tile).are first steps whole.tree (length steps) (op t Two first) (subst R back_ reached)) ∙ torus.oriented.exchanged Two first h)) in
        ⊎_elim
        (λ reached. reached)
        (λ off. let zero_ = f_off beyond off in absurd (omega arith))
        (reached_or_not first steps (length steps) beyond)
