-- A tree of steps grows by steps to chambers that are new.
use Rattle.std.proofs.Common.{◌≡◌, ◌↔◌, ℕ, ◌+◌, ◌-◌, ◌<◌, ◌≤◌, Bool, true, false, cond, List, [], ◌∷◌, ◌++◌, length, set, get_or, refl, sym, ap, ◌∙◌, subst, inl, inr, ⊎_elim, arith}
use Rattle.std.proofs.lemmas.Bool.{cases_lt, cases_eq}
use Rattle.std.proofs.lemmas.List.{get_or_append_left, get_or_push, length_push, get_or-set_same, get_or-set_other, length-set}
use Rattle.std.proofs.lemmas.List.Sums.{sum_by-set, count_by-le-length}
use Rattle.std.specs.Bool.{OnTrue, OnFalse}
use Rattle.std.specs.List.{count_by}
use Rattle.dd_model.specs.Symbol.{Symbol, AreInvolutions, IsChamber, op}
use Rattle.dd_model.specs.declared.index.Index.{Index}
use Rattle.dd_model.specs.declared.index.Index.TheVariants.{Zero, One, Two}
use Rattle.dd_model.specs.declared.pair.Pair.TheVariants.{Edge}
use Rattle.dd_symbol.specs.Cells.{IsLeastFor}
use Rattle.dd_symbol.proofs.CellMarks.{least_for_unique}
use Rattle.dd_lattice.specs.Edges.{IsKindOf}
use Rattle.dd_lattice.specs.declared.kinds.EdgeKind.TheVariants.{Crossing}
use Rattle.dd_lattice.specs.Growing.{IsGrowing, IsTaken, IsExtended, HasLooked, is_set}
use Rattle.dd_lattice.specs.Steps.{flag, on, back, across, AreCrossing, IsCrossingAt, IsStep, IsLedTo, IsReached, IsTree, IsLookedFrom, IsWholeTree}
use Rattle.dd_lattice.specs.declared.step.Step.{Step}

-- ## Flags of crossing edges

pub on_true : (b : Bool) (P : Type 0) → (b ≡ true → P) → OnTrue b P
on_true true P then = then refl
on_true false P then = tt

pub on_false : (b : Bool) (P : Type 0) → (b ≡ false → P) → OnFalse b P
on_false true P then = tt
on_false false P then = then refl

abbrev one_if : Bool → ℕ
one_if b = cond b 1 0

pub count_set : (p : Bool → Bool) (xs : List Bool) (i : ℕ) → i < length xs → p (get_or xs i false) ≡ false → p true ≡ true → count_by p (set xs i true) ≡ count_by p xs + 1
count_set p xs i inside none some =
    let sums : count_by p (set xs i true) + one_if (p (get_or xs i false)) ≡ count_by p xs + one_if (p true) = sum_by-set (λ (b : Bool). cond (p b) 1 0) xs i true false inside in
    let old : one_if (p (get_or xs i false)) ≡ 0 = ap one_if none in
    let own : one_if (p true) ≡ 1 = ap one_if some in
    let left : count_by p (set xs i true) + 0 ≡ count_by p xs + 1 = ap (λ n. count_by p (set xs i true) + n) (sym old) ∙ sums ∙ ap (λ n. count_by p xs + n) own in
    let plain : count_by p (set xs i true) ≡ count_by p (set xs i true) + 0 = omega arith in
    plain ∙ left

pub crossing_at : (t : Symbol) → AreInvolutions t → (flags : List Bool) → AreCrossing t flags → (d l : ℕ) → IsChamber t d → IsLeastFor t Edge d l → flag flags l ≡ true → IsCrossingAt t d
crossing_at t inv flags are d l h least yes_ e other = subst (λ z. IsKindOf t z Crossing) (least_for_unique t inv Edge d l e h least other) (are.yes l least.is_least yes_)

pub not_crossing_at : (t : Symbol) (flags : List Bool) → AreCrossing t flags → (d l : ℕ) → IsLeastFor t Edge d l → flag flags l ≡ false → IsCrossingAt t d → ⊥
not_crossing_at t flags are d l least no_ at = are.no l least.is_least no_ (at l least)

-- ## What is reached

extended-refl : (xs : List Step) → IsExtended xs xs
extended-refl xs = record { longer = omega arith; same = λ q e low. refl }

extended-trans : (xs ys zs : List Step) → IsExtended xs ys → IsExtended ys zs → IsExtended xs zs
extended-trans xs ys zs a b = let la = a.longer in let lb = b.longer in record {
  longer = omega arith;
  same = λ q e low. b.same q e (omega arith) ∙ a.same q e low;
}

-- what some steps lead to more do
led_more : (xs ys : List Step) → IsExtended xs ys → (j k d : ℕ) → j ≤ k → IsLedTo xs j d → IsLedTo ys k d
led_more xs ys more j k d less led = let low = led.early in let own = led.inside in let far = more.longer in record {
  place = led.place;
  early = omega arith;
  inside = omega arith;
  leads = λ e. ap (λ (x : Step). x.to) (more.same led.place e own) ∙ led.leads e;
}

reached_more : (first : ℕ) (xs ys : List Step) → IsExtended xs ys → (j k d : ℕ) → j ≤ k → IsReached first xs j d → IsReached first ys k d
reached_more first xs ys more j k d less reached = ⊎_elim (λ own. inl own) (λ led. inr (led_more xs ys more j k d less led)) reached

-- and the first ones lead to what they led to
reached_before : (first : ℕ) (xs ys : List Step) → IsExtended xs ys → (k d : ℕ) → k ≤ length xs → IsReached first ys k d → IsReached first xs k d
reached_before first xs ys more k d inside reached =
    ⊎_elim
    (λ own. inl own)
    (λ led. let low = led.early in inr (record {
      place = led.place;
      early = low;
      inside = omega arith;
      leads = λ e. ap (λ (x : Step). x.to) (sym (more.same led.place e (omega arith))) ∙ led.leads e;
    }))
    reached

pushed : (xs : List Step) (x : Step) → IsExtended xs (xs ++ x ∷ [])
pushed xs x = let e = length_push xs x in record {
  longer = omega arith;
  same = λ q e low. get_or_append_left xs (x ∷ []) e q low;
}

-- ## A step is taken

pub record HasTaken (t : Symbol) (first d : ℕ) (met' : List Bool) (steps steps' : List Step) : Type 0 where
  pub growing : IsGrowing t first met' steps'
  pub extended : IsExtended steps steps'
  pub reached : IsReached first steps' (length steps') d

module _ (t : Symbol) (first : ℕ) (met : List Bool) (steps : List Step) (step : Step) (growing : IsGrowing t first met steps) (is : IsStep t step) (there : IsChamber t step.to)
    (from : IsReached first steps (length steps) step.from) where
  module _ (new : flag met step.to ≡ false) where
    abbrev met' : List Bool
    met' = set met (step.to - 1) true

    abbrev steps' : List Step
    steps' = steps ++ step ∷ []

    abbrev n : ℕ
    n = length steps

    one_more : length steps' ≡ n + 1
    one_more = length_push steps step

    more : IsExtended steps steps'
    more = pushed steps step

    last : (k : ℕ) (e : Step) → k ≡ n → get_or steps' k e ≡ step
    last k e at = get_or_push steps step e k (sym at)

    leads : IsReached first steps' (length steps') step.to
    leads = let e = one_more in inr (record { place = n; early = omega arith; inside = omega arith; leads = λ d. ap (λ (x : Step). x.to) (last n d refl) })

    at_place : (P : ℕ → Step → Type 0) → ((k : ℕ) (e : Step) → k < n → P k (get_or steps k e)) → P n step → (k : ℕ) (e : Step) → k < length steps' → P k (get_or steps' k e)
    at_place P before own k e low =
        let many = one_more in
        ⊎_elim
        (λ less. subst (P k) (sym (more.same k e less)) (before k e less))
        (λ rest. let at : k ≡ n = omega arith in subst (λ z. P z (get_or steps' z e)) (sym at) (subst (P n) (sym (last n e refl)) own))
        (cases_lt k n)

    tree : IsTree t first steps'
    tree = record {
      chamber = growing.tree.chamber;
      each = at_place (λ k x. IsStep t x) growing.tree.each is;
      from = at_place (λ k x. IsReached first steps' k x.from) (λ k e low. reached_more first steps steps' more k k (get_or steps k e).from (omega arith) (growing.tree.from k e low)) (reached_more first steps steps' more n n step.from (omega arith) from);
      new = at_place (λ k x. IsReached first steps' k x.to → ⊥) (λ k e low reached. growing.tree.new k e low (reached_before first steps steps' more k (get_or steps k e).to (omega arith) reached))
          (λ reached. let old = (growing.told step.to there).1 (reached_before first steps steps' more n step.to (omega arith) reached) in cc);
    }

    place : step.to - 1 < length met
    place = let e = growing.whole in let h = there.0 in let g = there.1 in omega arith

    flag_other : (d : ℕ) → IsChamber t d → (d ≡ step.to → ⊥) → flag met' d ≡ flag met d
    flag_other d h off = let a = h.0 in let b = there.0 in get_or-set_other met (step.to - 1) (d - 1) true false (λ e. off (omega arith))

    flag_own : flag met' step.to ≡ true
    flag_own = get_or-set_same met (step.to - 1) true false place

    told : (d : ℕ) → IsChamber t d → (flag met' d ≡ true) ↔ IsReached first steps' (length steps') d
    told d h =
        ⊎_elim
        (λ at. (λ yes_. subst (IsReached first steps' (length steps')) (sym at) leads, λ reached. ap (flag met') at ∙ flag_own))
        (λ off. (
          λ yes_. let e = one_more in reached_more first steps steps' more n (length steps') d (omega arith) ((growing.told d h).0 (sym (flag_other d h off) ∙ yes_)),
          λ reached. flag_other d h off ∙ (growing.told d h).1 (⊎_elim
              (λ own. inl own)
              (λ led.
              let low = led.early in
              let many = one_more in
              ⊎_elim
              (λ less. reached_before first steps steps' more n d (omega arith) (inr (record { place = led.place; early = less; inside = led.inside; leads = led.leads })))
              (λ rest. let at : led.place ≡ n = omega arith in absurd (off (sym (led.leads step) ∙ ap (λ (x : Step). x.to) (last led.place step at))))
              (cases_lt led.place n))
              reached),
        ))
        (cases_eq d step.to)

    added : HasTaken t first step.to met' steps steps'
    added = record {
      growing = record {
        tree = tree;
        whole = length-set met (step.to - 1) true ∙ growing.whole;
        told = told;
        many =
            let sums = count_set is_set met (step.to - 1) place new refl in
            let e = growing.many in
            let m = one_more in
            omega arith;
      };
      extended = more;
      reached = leads;
    }

  has_taken : (now : List Bool) (all : List Step) → IsTaken step met now steps all → HasTaken t first step.to now steps all
  has_taken now all taken =
      ⊎_elim
      (λ passed. subst (λ xs. HasTaken t first step.to xs steps all) (sym passed.same_met) (subst (HasTaken t first step.to met steps) (sym passed.same_steps) (record {
        growing = growing;
        extended = extended-refl steps;
        reached = (growing.told step.to there).0 passed.old;
      })))
      (λ more. subst (λ xs. HasTaken t first step.to xs steps all) (sym more.more_met) (subst (HasTaken t first step.to (set met (step.to - 1) true) steps) (sym more.more_steps) (added more.new)))
      taken

-- ## All steps from a chamber

-- a step from a chamber to another
pub record IsStepAt (t : Symbol) (d : ℕ) (step : Step) (there : ℕ) (over : Bool) : Type 0 where
  pub from : step.from ≡ d
  pub to : step.to ≡ there
  pub crosses : step.crosses ≡ over

module _ (t : Symbol) (inv : AreInvolutions t) (first d : ℕ) (h : IsChamber t d) (met : List Bool) (steps : List Step) (growing : IsGrowing t first met steps) (reached : IsReached first steps (length steps) d)
    (one two : Step) (met1 met2 : List Bool) (steps1 steps2 : List Step) (taken1 : IsTaken one met met1 steps steps1) (taken2 : IsTaken two met1 met2 steps1 steps2)
    (is1 : IsStepAt t d one (on t d) false) (is2 : IsStepAt t d two (back t d) false) where
  hop : (i : Index) (c : ℕ) → IsChamber t c → IsChamber t (op t i c)
  hop i = (inv i).within

  first_taken : HasTaken t first one.to met1 steps steps1
  first_taken =
      has_taken t first met steps one growing
      (record { chamber = subst (IsChamber t) (sym is1.from) h; either = inl (record { leads = inl (is1.to ∙ ap (on t) (sym is1.from)); stays = is1.crosses }) })
      (subst (IsChamber t) (sym is1.to) (hop One (op t Zero d) (hop Zero d h)))
      (subst (IsReached first steps (length steps)) (sym is1.from) reached) met1 steps1 taken1

  reached1 : IsReached first steps1 (length steps1) d
  reached1 = reached_more first steps steps1 first_taken.extended (length steps) (length steps1) d first_taken.extended.longer reached

  second_taken : HasTaken t first two.to met2 steps1 steps2
  second_taken =
      has_taken t first met1 steps1 two first_taken.growing
      (record { chamber = subst (IsChamber t) (sym is2.from) h; either = inl (record { leads = inr (is2.to ∙ ap (back t) (sym is2.from)); stays = is2.crosses }) })
      (subst (IsChamber t) (sym is2.to) (hop Zero (op t One d) (hop One d h)))
      (subst (IsReached first steps1 (length steps1)) (sym is2.from) reached1) met2 steps2 taken2

  reached2 : IsReached first steps2 (length steps2) d
  reached2 = reached_more first steps1 steps2 second_taken.extended (length steps1) (length steps2) d second_taken.extended.longer reached1

  pub looked_round : (IsCrossingAt t d → ⊥) → HasLooked t first d met2 steps steps2
  looked_round none = record {
    growing = second_taken.growing;
    extended = extended-trans steps steps1 steps2 first_taken.extended second_taken.extended;
    looked = record {
      on = reached_more first steps1 steps2 second_taken.extended (length steps1) (length steps2) (on t d) second_taken.extended.longer (subst (IsReached first steps1 (length steps1)) is1.to first_taken.reached);
      back = subst (IsReached first steps2 (length steps2)) is2.to second_taken.reached;
      across = λ at. absurd (none at);
    };
  }

  module _ (crossing : IsCrossingAt t d) (three : Step) (met3 : List Bool) (steps3 : List Step) (taken3 : IsTaken three met2 met3 steps2 steps3) (is3 : IsStepAt t d three (across t d) true) where
    third_taken : HasTaken t first three.to met3 steps2 steps3
    third_taken =
        has_taken t first met2 steps2 three second_taken.growing
        (record {
          chamber = subst (IsChamber t) (sym is3.from) h;
          either = inr (record { leads = is3.to ∙ ap (across t) (sym is3.from); crosses = is3.crosses; crossing = subst (IsCrossingAt t) (sym is3.from) crossing });
        })
        (subst (IsChamber t) (sym is3.to) (hop Zero (op t Two d) (hop Two d h)))
        (subst (IsReached first steps2 (length steps2)) (sym is3.from) reached2) met3 steps3 taken3

    pub looked_over : HasLooked t first d met3 steps steps3
    looked_over =
        let rest = extended-trans steps1 steps2 steps3 second_taken.extended third_taken.extended in
        record {
          growing = third_taken.growing;
          extended = extended-trans steps steps1 steps3 first_taken.extended rest;
          looked = record {
            on = reached_more first steps1 steps3 rest (length steps1) (length steps3) (on t d) rest.longer (subst (IsReached first steps1 (length steps1)) is1.to first_taken.reached);
            back = reached_more first steps2 steps3 third_taken.extended (length steps2) (length steps3) (back t d) third_taken.extended.longer (subst (IsReached first steps2 (length steps2)) is2.to second_taken.reached);
            across = λ at. subst (IsReached first steps3 (length steps3)) is3.to third_taken.reached;
          };
        }

-- ## All chambers

pub step_within : (t : Symbol) → AreInvolutions t → (e : Step) → IsStep t e → IsChamber t e.to
step_within t inv e is =
    let h = is.chamber in
    ⊎_elim
    (λ round. ⊎_elim
    (λ goes. subst (IsChamber t) (sym goes) ((inv One).within (op t Zero e.from) ((inv Zero).within e.from h)))
    (λ comes. subst (IsChamber t) (sym comes) ((inv Zero).within (op t One e.from) ((inv One).within e.from h)))
    round.leads)
    (λ over. subst (IsChamber t) (sym over.leads) ((inv Zero).within (op t Two e.from) ((inv Two).within e.from h)))
    is.either

-- All steps have been taken from the first chamber, and from those to which the first k steps lead.
pub record IsGrownTo (t : Symbol) (first k : ℕ) (met : List Bool) (steps : List Step) : Type 0 where
  pub growing : IsGrowing t first met steps
  pub looked : (d : ℕ) → IsReached first steps k d → IsLookedFrom t first steps d

looked_later : (t : Symbol) (first d : ℕ) (xs ys : List Step) → IsExtended xs ys → IsLookedFrom t first xs d → IsLookedFrom t first ys d
looked_later t first d xs ys more looked = record {
  on = reached_more first xs ys more (length xs) (length ys) (on t d) more.longer looked.on;
  back = reached_more first xs ys more (length xs) (length ys) (back t d) more.longer looked.back;
  across = λ at. reached_more first xs ys more (length xs) (length ys) (across t d) more.longer (looked.across at);
}

pub grown_first : (t : Symbol) (first : ℕ) (met' : List Bool) (steps steps' : List Step) → HasLooked t first first met' steps steps' → IsGrownTo t first 0 met' steps'
grown_first t first met' steps steps' has = record {
  growing = has.growing;
  looked = λ d reached. ⊎_elim
      (λ own. subst (IsLookedFrom t first steps') (sym own) has.looked)
      (λ led. let low = led.early in absurd (omega arith))
      reached;
}

module _ (t : Symbol) (first k : ℕ) (met : List Bool) (steps : List Step) (grown : IsGrownTo t first k met steps) where
  module _ (inside : k < length steps) (d : ℕ) (leads : (e : Step) → (get_or steps k e).to ≡ d) where
    pub next_reached : IsReached first steps (length steps) d
    next_reached = inr (record { place = k; early = inside; inside = inside; leads = leads })

    pub grown_more : (met' : List Bool) (steps' : List Step) → HasLooked t first d met' steps steps' → IsGrownTo t first (k + 1) met' steps'
    grown_more met' steps' has = let more = has.extended in let far = more.longer in record {
      growing = has.growing;
      looked = λ c reached. ⊎_elim
          (λ own. looked_later t first c steps steps' more (grown.looked c (inl own)))
          (λ led.
          let low = led.early in
          ⊎_elim
          (λ less. looked_later t first c steps steps' more (grown.looked c (reached_before first steps steps' more k c (omega arith) (inr (record { place = led.place; early = less; inside = led.inside; leads = led.leads })))))
          (λ rest.
          let at : led.place ≡ k = omega arith in
          let same : c ≡ d = sym (led.leads (record { from = 0; to = 0; crosses = false })) ∙ ap (λ (x : Step). x.to) (more.same led.place (record { from = 0; to = 0; crosses = false }) (omega arith)) ∙ ap (λ z. (get_or steps z (record { from = 0; to = 0; crosses = false })).to) at ∙ leads (record { from = 0; to = 0; crosses = false }) in
          subst (IsLookedFrom t first steps') (sym same) has.looked)
          (cases_lt led.place k))
          reached;
    }

  pub grown_past : length steps ≤ k → IsGrownTo t first (k + 1) met steps
  grown_past past = record {
    growing = grown.growing;
    looked = λ c reached. grown.looked c (⊎_elim (λ own. inl own) (λ led. let low = led.inside in inr (record { place = led.place; early = omega arith; inside = led.inside; leads = led.leads })) reached);
  }

  -- no more steps than chambers
  pub whole_tree : t.size ≤ k → IsWholeTree t first steps
  whole_tree past = record {
    tree = grown.growing.tree;
    closed = λ d reached. grown.looked d (
        let few = count_by-le-length is_set met in
        let many = grown.growing.many in
        let size = grown.growing.whole in
        ⊎_elim (λ own. inl own) (λ led. let low = led.inside in inr (record { place = led.place; early = omega arith; inside = led.inside; leads = led.leads })) reached);
  }
