-- A path on its way back by the steps of a tree.
use Rattle.std.proofs.Common.{◌≡◌, ◌≢◌, ℕ, ◌+◌, ◌-◌, ◌<◌, ◌≤◌, ◌⊎◌, Bool, true, false, not, List, length, set, get_or, refl, sym, ap, ◌∙◌, subst, inl, inr, ⊎_elim, arith}
use Rattle.std.proofs.lemmas.Bool.{cases_lt, cases_eq, cases_Bool}
use Rattle.std.proofs.lemmas.List.{length-set}
use Rattle.dd_model.specs.declared.index.Index.{Index}
use Rattle.dd_model.specs.declared.index.Index.TheVariants.{Zero, One, Two}
use Rattle.dd_model.specs.declared.pair.Pair.TheVariants.{Tile, Edge}
use Rattle.dd_model.specs.Symbol.{Symbol, AreInvolutions, IsChamber, IsSymbol, op}
use Rattle.dd_model.specs.Cell.{InCell, IsPeriod}
use Rattle.dd_model.proofs.CellWalks.{in_cell-first, in_cell-refl, in_cell-second, in_cell-trans}
use Rattle.dd_cells.proofs.CellSums.{AreRoots}
use Rattle.dd_covers.proofs.Nodes.{root_beside}
use Rattle.dd_lattice.specs.Paths.{IsBack, IsElsewhere, IsBackRound, IsBackAcross}
use Rattle.dd_lattice.specs.Steps.{flag, on, back, across, IsCrossingAt, IsStep, IsStepRound, IsStepAcross, IsReached, IsTree}
use Rattle.dd_lattice.specs.declared.step.Step.{Step}
use Rattle.dd_lattice.proofs.Around.{commute}
use Rattle.dd_lattice.proofs.PathSums.{out_of, into, flag_there, out_more, into_more}
use Rattle.dd_lattice.proofs.TileSums.{one}

-- ## What is reached

reached_later : (first : ℕ) (steps : List Step) (j k d : ℕ) → j ≤ k → IsReached first steps j d → IsReached first steps k d
reached_later first steps j k d less reached =
    ⊎_elim
    (λ own. inl own)
    (λ led. let low = led.early in inr (record { place = led.place; early = omega arith; inside = led.inside; leads = led.leads }))
    reached

-- by the last of some steps, or by those before
last_or_before : (first : ℕ) (steps : List Step) (m d : ℕ) (x : Step) → get_or steps m x ≡ x → IsReached first steps (m + 1) d → (x.to ≡ d) ⊎ IsReached first steps m d
last_or_before first steps m d x at reached =
    ⊎_elim
    (λ own. inr (inl own))
    (λ led.
    let low = led.early in
    ⊎_elim
    (λ less. inr (inr (record { place = led.place; early = less; inside = led.inside; leads = led.leads })))
    (λ rest. let e : led.place ≡ m = omega arith in inl (ap (λ (y : Step). y.to) (sym at) ∙ ap (λ k. (get_or steps k x).to) (sym e) ∙ led.leads x))
    (cases_lt led.place m))
    reached

-- ## The edge of a chamber and of the one across

pub across_cell : (t : Symbol) (d : ℕ) → InCell t Edge d (across t d)
across_cell t d = in_cell-first t Edge d (op t Two d) (in_cell-second t Edge d d (in_cell-refl t Edge d))

pub crossing_in_cell : (t : Symbol) → AreInvolutions t → (d e : ℕ) → InCell t Edge d e → IsCrossingAt t d → IsCrossingAt t e
crossing_in_cell t inv d e near at l least = at l (record { in_cell = in_cell-trans t Edge d e l near least.in_cell; is_least = least.is_least })

pub across_back : (t : Symbol) → IsSymbol t → (d : ℕ) → IsChamber t d → across t (across t d) ≡ d
across_back t symbol d h =
    let inv = symbol.table.involutions in
    let h2 = (inv Two).within d h in
    ap (op t Zero) (commute t symbol (op t Two d) h2) ∙ (inv Zero).involutive (op t Two (op t Two d)) ((inv Two).within (op t Two d) h2) ∙ (inv Two).involutive d h

-- ## On the way back

-- a chamber that the path has left, which the first m steps do not reach
pub record IsPassed (t : Symbol) (first : ℕ) (steps : List Step) (m d : ℕ) : Type 0 where
  pub later : IsReached first steps m d → ⊥
  pub reached : IsReached first steps (length steps) d
  pub crossing : IsCrossingAt t d

-- The path has come back by all steps but the first m of them.
pub record IsOnWay (t : Symbol) (first : ℕ) (steps : List Step) (root : ℕ → ℕ) (m : ℕ) (exits : List Bool) (place : ℕ) : Type 0 where
  pub whole : length exits ≡ t.size
  pub chamber : IsChamber t place
  pub reached : IsReached first steps m place
  pub own : flag exits first ≡ true
  pub passed : (d : ℕ) → IsChamber t d → flag exits d ≡ true → (d ≡ first) ⊎ IsPassed t first steps m d
  pub balance : (d r : ℕ) → IsChamber t d → IsPeriod t Tile d r → out_of t exits d r + one (root d) (root place) ≡ into t exits d r + one (root d) (root first)

passed_before : (t : Symbol) (first : ℕ) (steps : List Step) (m n d : ℕ) → m ≤ n → (d ≡ first) ⊎ IsPassed t first steps n d → (d ≡ first) ⊎ IsPassed t first steps m d
passed_before t first steps m n d less passed =
    ⊎_elim
    (λ own. inl own)
    (λ p. inr (record { later = λ reached. p.later (reached_later first steps m n d less reached); reached = p.reached; crossing = p.crossing }))
    passed

module _ (t : Symbol) (symbol : IsSymbol t) (color : ℕ → Bool) (exchanged : (i : Index) (d : ℕ) → IsChamber t d → color (op t i d) ≡ not (color d)) (root : ℕ → ℕ) (roots : AreRoots t Tile root)
    (first : ℕ) (steps : List Step) (tree : IsTree t first steps) where
  abbrev inv : AreInvolutions t
  inv = symbol.table.involutions

  -- a step round a tile stays in it
  root_round : (d e : ℕ) → IsChamber t d → (e ≡ on t d) ⊎ (e ≡ back t d) → root e ≡ root d
  root_round d e h leads =
      let zero_ : (c : ℕ) → IsChamber t c → root (op t Zero c) ≡ root c = λ c hc. root_beside t inv Tile root roots Zero c hc (inl refl) in
      let one_ : (c : ℕ) → IsChamber t c → root (op t One c) ≡ root c = λ c hc. root_beside t inv Tile root roots One c hc (inr refl) in
      ⊎_elim
      (λ goes. ap root goes ∙ one_ (op t Zero d) ((inv Zero).within d h) ∙ zero_ d h)
      (λ comes. ap root comes ∙ zero_ (op t One d) ((inv One).within d h) ∙ one_ d h)
      leads

  module _ (m : ℕ) (inside : m < length steps) (exits : List Bool) (place : ℕ) (way : IsOnWay t first steps root (m + 1) exits place) (x : Step) (at : get_or steps m x ≡ x) where
    is : IsStep t x
    is = subst (IsStep t) at (tree.each m x inside)

    from : IsReached first steps m x.from
    from = subst (λ (y : Step). IsReached first steps m y.from) at (tree.from m x inside)

    new : IsReached first steps m x.to → ⊥
    new reached = tree.new m x inside (subst (λ (y : Step). IsReached first steps m y.to) (sym at) reached)

    elsewhere : x.to ≢ place → IsOnWay t first steps root m exits place
    elsewhere other = record {
      whole = way.whole;
      chamber = way.chamber;
      reached = ⊎_elim (λ same. absurd (other same)) (λ before. before) (last_or_before first steps m place x at way.reached);
      own = way.own;
      passed = λ d h yes_. passed_before t first steps m (m + 1) d (omega arith) (way.passed d h yes_);
      balance = way.balance;
    }

    no_both : (b : Bool) → b ≡ true → b ≡ false → ⊥
    no_both true yes_ no_ = cc
    no_both false yes_ no_ = cc

    round : x.to ≡ place → x.crosses ≡ false → IsOnWay t first steps root m exits x.from
    round here stays =
        ⊎_elim
        (λ (step : IsStepRound t x).
        let same : root place ≡ root x.from = ap root (sym here) ∙ root_round x.from x.to is.chamber step.leads in
        record {
          whole = way.whole;
          chamber = is.chamber;
          reached = from;
          own = way.own;
          passed = λ d h yes_. passed_before t first steps m (m + 1) d (omega arith) (way.passed d h yes_);
          balance = λ d r h period. ap (λ z. out_of t exits d r + one (root d) z) (sym same) ∙ way.balance d r h period;
        })
        (λ (step : IsStepAcross t x). absurd (no_both x.crosses step.crosses stays))
        is.either

    over : x.to ≡ place → x.crosses ≡ true → IsOnWay t first steps root m (set exits (place - 1) true) x.from
    over here crosses =
        ⊎_elim
        (λ (step : IsStepRound t x). absurd (no_both x.crosses crosses step.stays))
        (λ (step : IsStepAcross t x).
        let there : x.from ≡ across t place = sym (across_back t symbol x.from is.chamber) ∙ ap (across t) (sym step.leads ∙ here) in
        let unmarked : flag exits place ≡ false = ⊎_elim
        (λ yes_. ⊎_elim
        (λ own. absurd (new (inl (here ∙ own))))
        (λ p. absurd (p.later way.reached))
        (way.passed place way.chamber yes_))
        (λ no_. no_)
        (cases_Bool (flag exits place)) in
        let unreached : IsReached first steps m place → ⊥ = λ reached. new (subst (IsReached first steps m) (sym here) reached) in
        record {
          whole = length-set exits (place - 1) true ∙ way.whole;
          chamber = is.chamber;
          reached = from;
          own = ⊎_elim
              (λ same. absurd (unreached (inl (sym same))))
              (λ off. flag_there t exits way.whole place way.chamber unmarked first tree.chamber off ∙ way.own)
              (cases_eq first place);
          passed = λ d h yes_. ⊎_elim
              (λ same. inr (record {
                later = λ reached. unreached (subst (IsReached first steps m) same reached);
                reached = reached_later first steps (m + 1) (length steps) d (omega arith) (subst (IsReached first steps (m + 1)) (sym same) way.reached);
                crossing = subst (IsCrossingAt t) (sym same) (crossing_in_cell t inv x.from place (subst (InCell t Edge x.from) (sym step.leads ∙ here) (across_cell t x.from)) step.crossing);
              }))
              (λ off. passed_before t first steps m (m + 1) d (omega arith) (way.passed d h (sym (flag_there t exits way.whole place way.chamber unmarked d h off) ∙ yes_)))
              (cases_eq d place);
          balance = λ d r h period.
              let old = way.balance d r h period in
              let a = out_more t exits way.whole place way.chamber unmarked symbol color exchanged root roots d r h period in
              let b = into_more t exits way.whole place way.chamber unmarked symbol color exchanged root roots d r h period in
              let c = ap (λ z. one (root d) (root z)) there in
              omega arith;
        })
        is.either

    pub way_back : (exits' : List Bool) (place' : ℕ) → IsBack x place place' exits exits' → IsOnWay t first steps root m exits' place'
    way_back exits' place' went =
        ⊎_elim
        (λ (w : IsElsewhere x place place' exits exits'). subst (λ xs. IsOnWay t first steps root m xs place') (sym w.same) (subst (IsOnWay t first steps root m exits) (sym w.stays) (elsewhere w.other)))
        (λ rest. ⊎_elim
        (λ (w : IsBackRound x place place' exits exits'). subst (λ xs. IsOnWay t first steps root m xs place') (sym w.same) (subst (IsOnWay t first steps root m exits) (sym w.goes) (round w.here w.round)))
        (λ (w : IsBackAcross x place place' exits exits').
        subst (λ xs. IsOnWay t first steps root m xs place') (sym w.marked) (subst (IsOnWay t first steps root m (set exits (place - 1) true)) (sym w.goes) (over w.here w.over)))
        rest)
        went
