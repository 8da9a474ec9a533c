-- A function of cells that is equal at the ends of each free side is one value: from the last visit back, each chamber has equal cells.
use Rattle.std.proofs.Common.{◌≡◌, ◌≢◌, ℕ, zero, suc, ◌+◌, ◌-◌, ◌<◌, ◌≤◌, ◌⊎◌, max, List, sym, ap, ◌∙◌, subst, inl, inr, ⊎_elim, arith}
use Rattle.std.proofs.lemmas.Bool.{cases_lt, cases_eq, cases_order}
use Rattle.dd_model.specs.declared.index.Index.{Index}
use Rattle.dd_model.specs.declared.index.Index.TheVariants.{Zero, One, Two}
use Rattle.dd_model.specs.declared.pair.Pair.{Pair}
use Rattle.dd_model.specs.Symbol.{Symbol, IsChamber, IsTable, item, op}
use Rattle.dd_model.specs.Connected.{Connected}
use Rattle.dd_model.specs.FirstVisit.{Grows, IsFirstVisit, rows}
use Rattle.dd_model.proofs.FirstVisits.{IsMet, met_all, injective}
use Rattle.dd_model.proofs.Transport.{Connected-along}
use Rattle.dd_cells.proofs.ColoringLemmas.{by_index}
use Rattle.dd_covers.specs.Ends.{IsOfCells, IsLevel}
use Rattle.dd_covers.specs.Visits.{IsVisitOrder, IsFirstStep, IsFree}
use Rattle.dd_covers.proofs.FreeSides.{decide_first}
use Rattle.dd_covers.proofs.Levels.{third, level_beside}
use Rattle.dd_model.specs.Indices.{index_number}
use Rattle.dd_model.proofs.AllIndices.{index_same}

-- ## Every chamber but the first has a neighbor of a smaller number

-- images of the chambers below m do not pass m, if none of them is m
bounded : (t : Symbol) (m : ℕ) → 2 ≤ m → ((i : Index) (c : ℕ) → 1 ≤ c → c < m → op t i c ≢ m)
    → (n k g : ℕ) → 1 ≤ k → g < m → Grows g (rows t k n) → (i : Index) (c : ℕ) → k ≤ c → c < k + n → c < m → op t i c < m
bounded t m some none zero k g pos low grows i c from to below = absurd (omega arith)
bounded t m some none (suc n) k g pos low grows i c from to below =
    let a = op t Zero k in
    let b = op t One k in
    let d = op t Two k in
    let km : k < m = omega arith in
    let na = none Zero k pos km in
    let nb = none One k pos km in
    let nd = none Two k pos km in
    let ga = grows.0 in
    let gb = grows.1.0 in
    let gd = grows.1.1.0 in
    let la : a < m = ⊎_elim (λ e. absurd (na e)) (λ o. ⊎_elim (λ l. l) (λ h. absurd (omega arith)) o) (cases_order a m) in
    let lb : b < m = ⊎_elim (λ e. absurd (nb e)) (λ o. ⊎_elim (λ l. l) (λ h. absurd (omega arith)) o) (cases_order b m) in
    let ld : d < m = ⊎_elim (λ e. absurd (nd e)) (λ o. ⊎_elim (λ l. l) (λ h. absurd (omega arith)) o) (cases_order d m) in
    ⊎_elim
    (λ here. subst (λ z. op t i z < m) here (by_index (λ j. op t j k < m) la lb ld i))
    (λ other. bounded t m some none n (k + 1) (max (max (max g a) b) d) (omega arith) (omega arith) grows.1.1.1 i c (omega arith) (omega arith) below)
    (cases_eq k c)

-- a chamber, and an involution that leads from it to a smaller one
pub record HasSmaller (t : Symbol) (m : ℕ) : Type 0 where
  pub index : Index
  pub smaller : op t index m < m

smaller_at : (t : Symbol) (m : ℕ) → HasSmaller t m ⊎ ((i : Index) → m ≤ op t i m)
smaller_at t m =
    ⊎_elim
    (λ l. inl (record { index = Zero; smaller = l }))
    (λ first. ⊎_elim
    (λ l. inl (record { index = One; smaller = l }))
    (λ second. ⊎_elim
    (λ l. inl (record { index = Two; smaller = l }))
    (λ third_. inr (by_index (λ i. m ≤ op t i m) first second third_))
    (cases_lt (op t Two m) m))
    (cases_lt (op t One m) m))
    (cases_lt (op t Zero m) m)

pub has_smaller : (t : Symbol) → IsTable t → Connected t → IsFirstVisit t → (m : ℕ) → 2 ≤ m → m ≤ t.size → HasSmaller t m
has_smaller t table all visit m some high =
    ⊎_elim
    (λ found. found)
    (λ none.
    let differ : (i : Index) (c : ℕ) → 1 ≤ c → c < m → op t i c ≢ m = λ i c low below e.
    let back : op t i m ≡ c = ap (op t i) (sym e) ∙ (table.involutions i).involutive c (low, omega arith) in
    let up = none i in
    absurd (omega arith) in
    let e : m - 1 + 1 ≡ m = omega arith in
    let met : IsMet t (m - 1 + 1) (m - 1) = record {
      met = λ i d low below.
          let l = bounded t m some differ t.size 1 1 (omega arith) (omega arith) visit i d low (omega arith) (omega arith) in omega arith;
    } in
    let bound = met_all t (m - 1) table all (omega arith) met m (omega arith, high) in
    absurd (omega arith))
    (smaller_at t m)

-- ## Levels

module _ (s : Symbol) (table : IsTable s) (all : Connected s) (f : List ℕ) (visits : IsVisitOrder s f) where
  abbrev order : ℕ → ℕ
  order d = item f d

  smaller_neighbor : (c : ℕ) → IsChamber s c → c ≢ 1 → (i : Index) × (order (op s i c) < order c)
  smaller_neighbor c h differ =
      let t = visits.numbered in
      let iso = visits.is.isomorphism in
      let m = item visits.is.map c in
      let inside = iso.morphism.within c h in
      let one : IsChamber s 1 = (omega arith, table.chambers) in
      let far : m ≡ 1 → ⊥ = λ e. differ (injective s t visits.is.map iso c 1 h one (e ∙ sym visits.is.start_first)) in
      let big : 2 ≤ m = ⊎_elim (λ l. absurd (far (omega (arith, inside.0)))) (λ b. b) (cases_lt m 2) in
      let found = has_smaller t visits.is.table (Connected-along s t visits.is.map table iso all) visits.is.first_visit m big inside.1 in
      let e : item visits.is.map (op s found.index c) ≡ op t found.index m = iso.morphism.op found.index c h in
      let less : item visits.is.map (op s found.index c) < m = let l = found.smaller in omega arith in
      (found.index, subst (λ h'. item h' (op s found.index c) < item h' c) visits.map less)

  -- no chamber is first reached from a later one
  not_back : (i : Index) (d : ℕ) → IsChamber s d → order (op s i d) ≤ order d → IsFirstStep s f i d → ⊥
  not_back i d h late first =
      let inv = table.involutions in
      let there = (inv i).within d h in
      let near = smaller_neighbor (op s i d) there first.new in
      let c = op s near.0 (op s i d) in
      first.first near.0 c ((inv near.0).within (op s i d) there) ((inv near.0).involutive (op s i d) there) (inl (let less = near.1 in omega arith))

  -- by one step alone a chamber is first reached
  one_first : (i j : Index) (c : ℕ) → IsChamber s c → IsFirstStep s f i (op s i c) → IsFirstStep s f j (op s j c) → i ≡ j
  one_first i j c h a b =
      let inv = table.involutions in
      let hi = (inv i).within c h in
      let hj = (inv j).within c h in
      let ei = (inv i).involutive c h in
      let ej = (inv j).involutive c h in
      ⊎_elim
      (λ same. ⊎_elim
      (λ e. index_same i j e)
      (λ o. ⊎_elim
      (λ low. absurd (b.first i (op s i c) hi (ei ∙ sym ej) (inr (same, low))))
      (λ high. absurd (a.first j (op s j c) hj (ej ∙ sym ei) (inr (sym same, high))))
      o)
      (cases_order (index_number i) (index_number j)))
      (λ o. ⊎_elim
      (λ low. absurd (b.first i (op s i c) hi (ei ∙ sym ej) (inl low)))
      (λ high. absurd (a.first j (op s j c) hj (ej ∙ sym ei) (inl high)))
      o)
      (cases_order (order (op s i c)) (order (op s j c)))

  module _ (g : Pair → ℕ → ℕ) (cells : IsOfCells s g) (free : (i : Index) (d : ℕ) → IsFree s f i d → IsLevel g i d) where
    free_level : (i : Index) (d : ℕ) → IsChamber s d → (IsFirstStep s f i d → ⊥) → (IsFirstStep s f i (op s i d) → ⊥) → IsLevel g i d
    free_level i d h here there =
        let inv = table.involutions in
        let beside = (inv i).within d h in
        ⊎_elim
        (λ low.
        let back = (inv i).involutive d h in
        level_beside s inv g cells i d h (free i (op s i d) (record {
          chamber = beside;
          least = subst (λ z. op s i d ≤ z) (sym back) (omega arith);
          there = there;
          back = λ first. here (subst (IsFirstStep s f i) back first);
        })))
        (λ high. free i d (record { chamber = h; least = high; there = here; back = there }))
        (cases_lt (op s i d) d)

    abbrev Known : ℕ → Type 0
    Known fuel = (c : ℕ) → IsChamber s c → s.size + 1 ≤ fuel + order c → (j : Index) → IsLevel g j c

    unless_first : (fuel : ℕ) → Known fuel → (c : ℕ) → IsChamber s c → s.size + 1 ≤ suc fuel + order c → (j : Index)
        → (IsFirstStep s f j (op s j c) → ⊥) → IsLevel g j c
    unless_first fuel known c h enough j out =
        let inv = table.involutions in
        ⊎_elim
        (λ later. level_beside s inv g cells j c h (known (op s j c) ((inv j).within c h) (omega arith) j))
        (λ sooner. free_level j c h (not_back j c h sooner) out)
        (cases_lt (order c) (order (op s j c)))

    known_more : (fuel : ℕ) → Known fuel
    known_more zero c h enough j =
        let high = (visits.is.isomorphism.morphism.within c h).1 in
        let size = visits.is.isomorphism.size in
        let same : item visits.is.map c ≡ order c = ap (λ m. item m c) visits.map in
        absurd (omega arith)
    known_more (suc fuel) c h enough j =
        ⊎_elim
        (λ first. third g j c (λ i differ.
        unless_first fuel (known_more fuel) c h enough i (λ other. differ (one_first j i c h first other))))
        (λ out. unless_first fuel (known_more fuel) c h enough j out)
        (decide_first s table.involutions f j (op s j c) ((table.involutions j).within c h))

    pub level_everywhere : (i : Index) (d : ℕ) → IsChamber s d → IsLevel g i d
    level_everywhere i d h = known_more (s.size + 1) d h (omega arith) i
