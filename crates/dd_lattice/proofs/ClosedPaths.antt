-- The crossings of a closed path are shifts.
use Rattle.std.proofs.Common.{◌≡◌, ◌≢◌, ℕ, zero, suc, ◌+◌, ◌-◌, ◌⊎◌, Bool, true, false, not, List, length, set, get_or, ℤ, pos, ◌-ℤ◌, refl, sym, ap, ◌∙◌, subst, inl, inr, ⊎_elim, arith}
use Rattle.std.proofs.lemmas.Bool.{cases_eq, cases_Bool}
use Rattle.std.proofs.lemmas.Int.{ints}
use Rattle.std.proofs.lemmas.List.{length-set}
use Rattle.dd_model.specs.declared.index.Index.{Index}
use Rattle.dd_model.specs.declared.index.Index.TheVariants.{Zero, One, Two}
use Rattle.dd_model.specs.declared.pair.Pair.TheVariants.{Tile, Edge}
use Rattle.dd_model.specs.Symbol.{Symbol, AreInvolutions, IsChamber, op}
use Rattle.dd_model.specs.Cell.{InCell, IsLeastOfCell, IsPeriod, turned}
use Rattle.dd_model.proofs.CellSearch.{least_of_cell_unique}
use Rattle.dd_model.proofs.CellWalks.{has_period, in_cell-first, in_cell-refl, in_cell-second, in_cell-sym}
use Rattle.dd_model.proofs.Turns.{turned_within, IsLeastTurns-from_period, least_turns_unique}
use Rattle.dd_cells.proofs.CellSums.{AreRoots}
use Rattle.dd_cells.specs.Orientation.{color}
use Rattle.dd_covers.specs.Torus.{IsTorus}
use Rattle.dd_lattice.specs.Edges.{IsTreeEdge, IsKindOf}
use Rattle.dd_lattice.specs.Paths.{mark, shift_by}
use Rattle.dd_lattice.specs.Shifts.{IsLeftEdge, AreShifts, sum_round}
use Rattle.dd_lattice.specs.Steps.{flag, across, IsStep, IsStepRound, IsStepAcross, IsReached, IsTree}
use Rattle.dd_lattice.specs.declared.kinds.EdgeKind.TheVariants.{Crossing}
use Rattle.dd_lattice.specs.declared.step.Step.{Step}
use Rattle.dd_lattice.proofs.Around.{commute}
use Rattle.dd_lattice.proofs.PathLemmas.{IsOnWay, across_cell}
use Rattle.dd_lattice.proofs.PathSums.{out_of, into, mark_at, mark_off, flag_here, flag_there, out_more, into_more}
use Rattle.dd_lattice.proofs.TileSums.{one, total_none, sum_as, turned_color}

-- ## No edge of a torus is folded

not_folded : (t : Symbol) → IsTorus t → (d : ℕ) → IsChamber t d → op t Two d ≢ op t Zero d
not_folded t torus d h same =
    let inv = torus.symbol.table.involutions in
    let fixed : op t Two (op t Zero d) ≡ d = ap (op t Two) (sym same) ∙ (inv Two).involutive d h in
    let value = (torus.smooth Edge).each d 2 h (record {
      r = 1;
      least_turns = record { positive = omega arith; chamber = d; in_cell = in_cell-refl t Edge d; fixed = fixed; least = λ k e some near turns. some };
      quotient = refl;
    }) in
    absurd (omega arith)

module _ (t : Symbol) (torus : IsTorus t) (root : ℕ → ℕ) (roots : AreRoots t Tile root) (first : ℕ) (steps : List Step) (tree : IsTree t first steps) where
  abbrev inv : AreInvolutions t
  inv = torus.symbol.table.involutions

  abbrev colors : ℕ → Bool
  colors = color torus.oriented.colors

  exchanged : (i : Index) (d : ℕ) → IsChamber t d → colors (op t i d) ≡ not (colors d)
  exchanged = torus.oriented.exchanged

  not_own : (b : Bool) → b ≡ not b → ⊥
  not_own true e = cc
  not_own false e = cc

  not_not : (b : Bool) → not (not b) ≡ b
  not_not true = refl
  not_not false = refl

  two_ops : (i j : Index) (d : ℕ) → IsChamber t d → colors (op t i (op t j d)) ≡ colors d
  two_ops i j d h = exchanged i (op t j d) ((inv j).within d h) ∙ ap not (exchanged j d h) ∙ not_not (colors d)

  step_color : (x : Step) → IsStep t x → colors x.to ≡ colors x.from
  step_color x is =
      ⊎_elim
      (λ (step : IsStepRound t x). ⊎_elim
      (λ goes. ap colors goes ∙ two_ops One Zero x.from is.chamber)
      (λ comes. ap colors comes ∙ two_ops Zero One x.from is.chamber)
      step.leads)
      (λ (step : IsStepAcross t x). ap colors step.leads ∙ two_ops Zero Two x.from is.chamber)
      is.either

  pub reached_color : (k d : ℕ) → IsReached first steps k d → colors d ≡ colors first
  reached_color zero d reached = ⊎_elim (λ own. ap colors own) (λ led. let low = led.early in absurd (omega arith)) reached
  reached_color (suc k) d reached =
      ⊎_elim
      (λ own. ap colors own)
      (λ led.
      let low = led.early in
      let inside = led.inside in
      let x = get_or steps led.place (record { from = 0; to = 0; crosses = false }) in
      let from : IsReached first steps led.place x.from = tree.from led.place (record { from = 0; to = 0; crosses = false }) inside in
      let earlier : IsReached first steps k x.from = ⊎_elim
      (λ own. inl own)
      (λ l. let b = l.early in inr (record { place = l.place; early = omega arith; inside = l.inside; leads = l.leads }))
      from in
      ap colors (sym (led.leads (record { from = 0; to = 0; crosses = false }))) ∙ step_color x (tree.each led.place (record { from = 0; to = 0; crosses = false }) inside) ∙ reached_color k x.from earlier)
      reached

  -- ## The start

  pub way_start : (exits : List Bool) → length exits ≡ t.size → ((d : ℕ) → flag exits d ≡ false) → IsReached first steps (length steps) (across t first)
      → IsOnWay t first steps root (length steps) (set exits (first - 1) true) (across t first)
  way_start exits whole none reached = record {
    whole = length-set exits (first - 1) true ∙ whole;
    chamber = (inv Zero).within (op t Two first) ((inv Two).within first tree.chamber);
    reached = reached;
    own = flag_here t exits whole first tree.chamber (none first);
    passed = λ d h yes_. ⊎_elim
        (λ own. inl own)
        (λ off. let old = sym (flag_there t exits whole first tree.chamber (none first) d h off) ∙ yes_ in let no_ = none d in cc)
        (cases_eq d first);
    balance = λ d r h period.
        let a = out_more t exits whole first tree.chamber (none first) torus.symbol colors exchanged root roots d r h period in
        let b = into_more t exits whole first tree.chamber (none first) torus.symbol colors exchanged root roots d r h period in
        let unmarked : (x : ℕ) → mark exits x ≡ 0 = λ x. mark_off exits x (none x) in
        let x : out_of t exits d r ≡ 0 = total_none t (λ c. mark exits c + mark exits (op t Zero c)) d r (λ j low. let p = unmarked (turned t Tile j d) in let q = unmarked (op t Zero (turned t Tile j d)) in omega arith) in
        let y : into t exits d r ≡ 0 = total_none t (λ c. mark exits (op t Two c) + mark exits (op t Zero (op t Two c))) d r (λ j low.
        let p = unmarked (op t Two (turned t Tile j d)) in
        let q = unmarked (op t Zero (op t Two (turned t Tile j d))) in
        omega arith) in
        omega arith;
  }

  -- ## The end

  module _ (left : IsLeftEdge t first) (exits : List Bool) (place : ℕ) (way : IsOnWay t first steps root 0 exits place) where
    home : place ≡ first
    home = ⊎_elim (λ own. own) (λ led. let low = led.early in absurd (omega arith)) way.reached

    balanced : (d r : ℕ) → IsChamber t d → IsPeriod t Tile d r → out_of t exits d r ≡ into t exits d r
    balanced d r h period =
        let e = way.balance d r h period in
        let same = ap (λ z. one (root d) (root z)) home in
        omega arith

    marked_color : (d : ℕ) → IsChamber t d → flag exits d ≡ true → colors d ≡ colors first
    marked_color d h yes_ = ⊎_elim (λ own. ap colors own) (λ p. reached_color (length steps) d p.reached) (way.passed d h yes_)

    other_color : (d : ℕ) → IsChamber t d → colors d ≡ not (colors first) → mark exits d ≡ 0
    other_color d h other =
        ⊎_elim
        (λ yes_. absurd (not_own (colors first) (sym (marked_color d h yes_) ∙ other)))
        (λ no_. mark_off exits d no_)
        (cases_Bool (flag exits d))

    -- the edges that are passed are the first one and crossing edges
    marked_edge : (e d : ℕ) → IsLeastOfCell t Edge e → IsChamber t d → InCell t Edge e d → flag exits d ≡ true → (e ≡ first) ⊎ IsKindOf t e Crossing
    marked_edge e d least h near yes_ =
        ⊎_elim
        (λ own. inl (least_of_cell_unique t inv Edge e first least left.least (subst (InCell t Edge e) own near)))
        (λ p. inr (p.crossing e (record { in_cell = in_cell-sym t inv Edge e d least.0 near; is_least = least })))
        (way.passed d h yes_)

    unmarked : (e d : ℕ) → IsLeastOfCell t Edge e → IsChamber t d → InCell t Edge e d → e ≢ first → (IsKindOf t e Crossing → ⊥) → mark exits d ≡ 0
    unmarked e d least h near off not_crossing =
        ⊎_elim
        (λ yes_. absurd (⊎_elim off not_crossing (marked_edge e d least h near yes_)))
        (λ no_. mark_off exits d no_)
        (cases_Bool (flag exits d))

    no_shift : (e : ℕ) → IsLeastOfCell t Edge e → e ≢ first → (IsKindOf t e Crossing → ⊥) → shift_by t exits e ≡ pos 0
    no_shift e least off not_crossing =
        let h = least.0 in
        let h2 = (inv Two).within e h in
        let own = in_cell-refl t Edge e in
        let beyond = in_cell-second t Edge e e own in
        let a = unmarked e e least h own off not_crossing in
        let b = unmarked e (op t Two e) least h2 beyond off not_crossing in
        let c = unmarked e (op t Zero e) least ((inv Zero).within e h) (in_cell-first t Edge e e own) off not_crossing in
        let d = unmarked e (op t Zero (op t Two e)) least ((inv Zero).within (op t Two e) h2) (in_cell-first t Edge e (op t Two e) beyond) off not_crossing in
        omega (arith, ints)

    abbrev x : ℕ → ℤ
    x = shift_by t exits

    back_shift : (d : ℕ) → IsChamber t d → x (op t Zero d) ≡ pos 0 -ℤ x d
    back_shift d h =
        let h2 = (inv Two).within d h in
        let beyond : op t Two (op t Zero d) ≡ op t Zero (op t Two d) = commute t torus.symbol d h in
        let a = ap (mark exits) beyond in
        let b = ap (mark exits) ((inv Zero).involutive d h) in
        let c = ap (mark exits) (ap (op t Zero) beyond ∙ (inv Zero).involutive (op t Two d) h2) in
        omega (arith, ints)

    across_shift : (d : ℕ) → IsChamber t d → x (op t Two d) ≡ x d
    across_shift d h =
        let a = ap (mark exits) ((inv Two).involutive d h) in
        let b = ap (λ z. mark exits (op t Zero z)) ((inv Two).involutive d h) in
        omega (arith, ints)

    unit_shift : x first ≡ pos 1
    unit_shift =
        let h = tree.chamber in
        let h2 = (inv Two).within first h in
        let h02 = (inv Zero).within (op t Two first) h2 in
        let a = mark_at exits first way.own in
        let b = other_color (op t Two first) h2 (exchanged Two first h) in
        let c = other_color (op t Zero first) ((inv Zero).within first h) (exchanged Zero first h) in
        let not_crossing : IsKindOf t first Crossing → ⊥ = λ crossing. crossing.1 left.kind.1 in
        let d = mark_off exits (across t first) (⊎_elim
        (λ yes_. absurd (⊎_elim
        (λ own. not_folded t torus first h (sym ((inv Zero).involutive (op t Two first) h2) ∙ ap (op t Zero) own))
        (λ p. not_crossing (p.crossing first (record { in_cell = in_cell-sym t inv Edge first (across t first) h (across_cell t first); is_least = left.least })))
        (way.passed (across t first) h02 yes_)))
        (λ no_. no_)
        (cases_Bool (flag exits (across t first)))) in
        omega (arith, ints)

    round_shift : (d r : ℕ) → IsChamber t d → IsPeriod t Tile d r → sum_round t x d r ≡ pos 0
    round_shift d r h period =
        let walk : (j : ℕ) → ℕ = λ j. turned t Tile j d in
        let here : (j : ℕ) → IsChamber t (walk j) = λ j. turned_within t inv Tile j d h in
        let tone : (j : ℕ) → colors (walk j) ≡ colors d = λ j. turned_color t inv colors exchanged root roots d h j in
        let same = balanced d r h period in
        let o : ℕ → ℕ = λ c. mark exits c + mark exits (op t Zero c) in
        let i : ℕ → ℕ = λ c. mark exits (op t Two c) + mark exits (op t Zero (op t Two c)) in
        ⊎_elim
        (λ (own : colors d ≡ colors first).
        let sums = sum_as t x o i d r (λ j.
        let a = other_color (op t Zero (walk j)) ((inv Zero).within (walk j) (here j)) (exchanged Zero (walk j) (here j) ∙ ap not (tone j ∙ own)) in
        let b = other_color (op t Two (walk j)) ((inv Two).within (walk j) (here j)) (exchanged Two (walk j) (here j) ∙ ap not (tone j ∙ own)) in
        omega (arith, ints)) in
        omega (arith, ints))
        (λ (other : colors d ≡ not (colors first)).
        let sums = sum_as t x i o d r (λ j.
        let a = other_color (walk j) (here j) (tone j ∙ other) in
        let b = other_color (op t Zero (op t Two (walk j))) ((inv Zero).within (op t Two (walk j)) ((inv Two).within (walk j) (here j))) (two_ops Zero Two (walk j) (here j) ∙ tone j ∙ other) in
        omega (arith, ints)) in
        omega (arith, ints))
        (same_or_other (colors d) (colors first))
      where
        same_or_other : (a b : Bool) → (a ≡ b) ⊎ (a ≡ not b)
        same_or_other true true = inl refl
        same_or_other true false = inr refl
        same_or_other false true = inr refl
        same_or_other false false = inl refl

    pub are_shifts : AreShifts t first (shift_by t exits)
    are_shifts = record {
      back = back_shift;
      across = across_shift;
      trees = λ d least is_tree. no_shift d least (λ own. left.kind.0 (subst (IsTreeEdge t) own is_tree)) (λ crossing. crossing.0 is_tree);
      unit = unit_shift;
      left = λ d is off. no_shift d is.least off (λ crossing. crossing.1 is.kind.1);
      rounds = λ d r h turns.
          let has = has_period t inv Tile d h in
          let e = least_turns_unique t Tile d has.r r (IsLeastTurns-from_period t inv Tile d has.r h has.period) turns in
          round_shift d r h (subst (IsPeriod t Tile d) e has.period);
    }
