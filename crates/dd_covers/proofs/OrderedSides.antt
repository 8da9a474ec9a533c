-- The free sides in their order, the latest first, and values for them.
use Rattle.std.proofs.Common.{◌≡◌, ℕ, zero, suc, ◌+◌, ◌*◌, ◌/◌, ◌%◌, ◌<◌, Bool, true, false, cond, ◌&&◌, eqb, List, [], ◌∷◌, map, refl, sym, ap, ◌∙◌, subst, inl, inr, ⊎_elim, arith}
use Rattle.std.proofs.lemmas.Bool.{cases_lt, cases_Bool, and_parts}
use Rattle.std.specs.List.{Contains}
use borrow.Author.Tests.{eqb-true}
use Rattle.dd_model.specs.declared.index.Index.{Index}
use Rattle.dd_model.specs.declared.index.Index.TheVariants.{Zero, One, Two}
use Rattle.dd_model.specs.declared.pair.Pair.{Pair}
use Rattle.dd_model.specs.Symbol.{Symbol, AreInvolutions}
use Rattle.dd_model.proofs.CellSearch.{Decided}
use Rattle.dd_model.proofs.Lists.{Contains-none, Contains-head, Contains-later, Contains-cases, Contains-map}
use Rattle.dd_cells.proofs.CellSums.{AreRoots}
use Rattle.dd_covers.specs.Ends.{one_end, other_end, IsOfCells, IsLevel}
use Rattle.dd_covers.specs.Visits.{rank, IsFree, AreEndsJoined}
use Rattle.dd_covers.proofs.FreeSides.{keep_if, decide_free, rank_from_before}
use Rattle.dd_covers.proofs.Labels.{Link, labels, linked}
use Rattle.dd_covers.proofs.Nodes.{root_beside}
use Rattle.dd_covers.specs.CellNumbers.{numbered}
use Rattle.dd_covers.proofs.Sides.{same_index, index_same}
use Rattle.dd_covers.proofs.Solving.{AreValues}
use Rattle.dd_covers.proofs.Trees.{Step}
use Rattle.dd_model.specs.Indices.{index_number, index_at}
use Rattle.dd_model.proofs.AllIndices.{index_low, index_at_number, number_at}

-- ## Sides by rank

abbrev step_of : ℕ → Step
step_of n = record { chamber = n / 3; index = index_at (n % 3) }

rank_of_step : (n : ℕ) → rank (index_at (n % 3)) (n / 3) ≡ n
rank_of_step n =
    let low : n % 3 < 3 = grind arith in
    let e = number_at (n % 3) low in
    let split : 3 * (n / 3) + n % 3 ≡ n = grind arith in
    omega arith

quotient_of : (d p : ℕ) → p < 3 → (3 * d + p) / 3 ≡ d
quotient_of d p low = grind arith

rest_of : (d p : ℕ) → p < 3 → (3 * d + p) % 3 ≡ p
rest_of d p low = grind arith

step_of_rank : (i : Index) (d : ℕ) → step_of (rank i d) ≡ record { chamber = d; index = i }
step_of_rank i d =
    let a = quotient_of d (index_number i) (index_low i) in
    let b = ap index_at (rest_of d (index_number i) (index_low i)) ∙ index_at_number i in
    λ j. record { chamber = a j; index = b j }

-- ## Values at sides

abbrev pub is_step : Step → Index → ℕ → Bool
is_step e i d = same_index e.index i && eqb e.chamber d

abbrev pub value_for : List Step → List ℕ → Index → ℕ → ℕ
value_for [] zs i d = 0
value_for (e ∷ es) [] i d = 0
value_for (e ∷ es) (z ∷ zs) i d = cond (is_step e i d) z 0 + value_for es zs i d

other_step : (e : Step) (i : Index) (d z : ℕ) → ((e.index ≡ i) × (e.chamber ≡ d) → ⊥) → cond (is_step e i d) z 0 ≡ 0
other_step e i d z differ =
    ⊎_elim
    (λ yes. let parts = and_parts (same_index e.index i) (eqb e.chamber d) yes in absurd (differ (index_same e.index i parts.0, eqb-true e.chamber d parts.1)))
    (λ out. ap (λ t. cond t z 0) out)
    (cases_Bool (is_step e i d))

pub no_value_for : (es : List Step) (zs : List ℕ) (i : Index) (d : ℕ) → ((e : Step) → Contains es e → (e.index ≡ i) × (e.chamber ≡ d) → ⊥) → value_for es zs i d ≡ 0
no_value_for [] zs i d none = refl
no_value_for (e ∷ es) [] i d none = refl
no_value_for (e ∷ es) (z ∷ zs) i d none =
    let here = other_step e i d z (none e (Contains-head e es)) in
    let rest = no_value_for es zs i d (λ x later. none x (Contains-later e x es later)) in
    omega arith

module _ (s : Symbol) (inv : AreInvolutions s) (f : List ℕ) (root : Pair → ℕ → ℕ) (roots : (p : Pair) → AreRoots s p (root p)) where
  abbrev free_at : (n : ℕ) → Decided (IsFree s f (step_of n).index (step_of n).chamber)
  free_at n = decide_free s inv f (step_of n).index (step_of n).chamber

  abbrev pub sides_to : ℕ → List Step
  sides_to zero = []
  sides_to (suc n) = keep_if (free_at n) (step_of n) (sides_to n)

  abbrev pub number : Pair → ℕ → ℕ
  number p d = numbered s p (root p d)

  abbrev pub link : Step → Link
  link e = record { from = number (one_end e.index) e.chamber; to = number (other_end e.index) e.chamber }

  -- what is listed is free, and of a smaller rank
  pub record IsListed (n : ℕ) (e : Step) : Type 0 where
    pub free : IsFree s f e.index e.chamber
    pub low : rank e.index e.chamber < n

  listed_more : (n : ℕ) (t : Decided (IsFree s f (step_of n).index (step_of n).chamber)) (es : List Step) (e : Step)
      → (Contains es e → IsListed n e) → Contains (keep_if t (step_of n) es) e → IsListed (suc n) e
  listed_more n (inl free) es e rest here =
      ⊎_elim
      (λ at. subst (IsListed (suc n)) at (record { free = free; low = let r = rank_of_step n in omega arith }))
      (λ later. let old = rest later in record { free = old.free; low = let l = old.low in omega arith })
      (Contains-cases (step_of n) e es here)
  listed_more n (inr out) es e rest here = let old = rest here in record { free = old.free; low = let l = old.low in omega arith }

  pub listed : (n : ℕ) (e : Step) → Contains (sides_to n) e → IsListed n e
  listed zero e here = absurd (Contains-none e here)
  listed (suc n) e here = listed_more n (free_at n) (sides_to n) e (listed n e) here

  keeps : (n : ℕ) (t : Decided (IsFree s f (step_of n).index (step_of n).chamber)) (es : List Step) (e : Step) → Contains es e → Contains (keep_if t (step_of n) es) e
  keeps n (inl free) es e here = Contains-later (step_of n) e es here
  keeps n (inr out) es e here = here

  keeps_own : (n : ℕ) (t : Decided (IsFree s f (step_of n).index (step_of n).chamber)) (es : List Step) → IsFree s f (step_of n).index (step_of n).chamber → Contains (keep_if t (step_of n) es) (step_of n)
  keeps_own n (inl free) es own = Contains-head (step_of n) es
  keeps_own n (inr out) es own = absurd (out own)

  pub lists : (n : ℕ) (i : Index) (d : ℕ) → IsFree s f i d → rank i d < n → Contains (sides_to n) (record { chamber = d; index = i })
  lists zero i d free low = absurd (omega arith)
  lists (suc n) i d free low =
      let x : Step = record { chamber = d; index = i } in
      ⊎_elim
      (λ less. keeps n (free_at n) (sides_to n) x (lists n i d free less))
      (λ more.
      let e : rank i d ≡ n = omega arith in
      let at : step_of n ≡ x = ap step_of (sym e) ∙ step_of_rank i d in
      subst (Contains (keep_if (free_at n) (step_of n) (sides_to n))) at
      (keeps_own n (free_at n) (sides_to n) (subst (λ (y : Step). IsFree s f y.index y.chamber) (sym at) free)))
      (cases_lt (rank i d) n)

  -- the labels of the cells after the sides up to a rank
  abbrev pub label : ℕ → Pair → ℕ → ℕ
  label n p d = labels (map link (sides_to n)) (number p d)

  pub label_of_cells : (n : ℕ) → IsOfCells s (label n)
  label_of_cells n p j e he holds = ap (λ z. labels (map link (sides_to n)) (numbered s p z)) (root_beside s inv p (root p) (roots p) j e he holds)

  pub label_level : (n : ℕ) (j : Index) (e : ℕ) → IsFree s f j e → rank j e < n → IsLevel (label n) j e
  label_level n j e free low =
      let x : Step = record { chamber = e; index = j } in
      linked (map link (sides_to n)) (link x) (Contains-map link (sides_to n) x (lists n j e free low))

  -- ends that are joined have one label before their side
  joined_label : (i : Index) (d : ℕ) → AreEndsJoined s f i d → IsLevel (label (rank i d)) i d
  joined_label i d joined = joined (label (rank i d)) (label_of_cells (rank i d)) (λ j e free before. label_level (rank i d) j e free (rank_from_before i j d e before))

  joined_more : (k n : ℕ) (t : Decided (IsFree s f (step_of n).index (step_of n).chamber)) (zs : List ℕ) (i : Index) (d : ℕ)
      → ((ys : List ℕ) → AreValues k (map link (sides_to n)) ys → rank i d < n → value_for (sides_to n) ys i d ≡ 0)
      → AreValues k (map link (keep_if t (step_of n) (sides_to n))) zs → IsFree s f i d → rank i d < suc n → AreEndsJoined s f i d
      → value_for (keep_if t (step_of n) (sides_to n)) zs i d ≡ 0
  joined_more k n (inl own) [] i d rest are free low joined = refl
  joined_more k n (inl own) (z ∷ zs) i d rest are free low joined =
      ⊎_elim
      (λ less.
      let here = other_step (step_of n) i d z (λ both.
      let r = rank_of_step n in
      let e = ap (λ j. rank j (n / 3)) both.0 in
      let g = both.1 in
      absurd (omega arith)) in
      let later = rest zs are.2 less in
      omega arith)
      (λ more.
      let e : rank i d ≡ n = omega arith in
      let at : step_of n ≡ record { chamber = d; index = i } = ap step_of (sym e) ∙ step_of_rank i d in
      let level : IsLevel (label n) i d = subst (λ m. IsLevel (label m) i d) e (joined_label i d joined) in
      let none : z ≡ 0 = are.1 (subst (λ (y : Step). labels (map link (sides_to n)) (link y).from ≡ labels (map link (sides_to n)) (link y).to) (sym at) level) in
      let here : cond (is_step (step_of n) i d) z 0 ≡ 0 = ap (λ y. cond (is_step (step_of n) i d) y 0) none ∙ no_choice (is_step (step_of n) i d) in
      let later = no_value_for (sides_to n) zs i d (λ x inside both.
      let l = listed n x inside in
      let low_x = l.low in
      let same = ap (λ j. rank j x.chamber) both.0 in
      let chamber = both.1 in
      absurd (omega arith)) in
      omega arith)
      (cases_lt (rank i d) n) where
        no_choice : (t : Bool) → ◌≡◌ {A = ℕ} (cond t 0 0) 0
        no_choice true = refl
        no_choice false = refl
  joined_more k n (inr out) zs i d rest are free low joined =
      ⊎_elim
      (λ less. rest zs are less)
      (λ more.
      let e : rank i d ≡ n = omega arith in
      let at : step_of n ≡ record { chamber = d; index = i } = ap step_of (sym e) ∙ step_of_rank i d in
      absurd (out (subst (λ (y : Step). IsFree s f y.index y.chamber) (sym at) free)))
      (cases_lt (rank i d) n)

  -- where earlier free sides join the ends, there is no value
  pub joined_none : (k n : ℕ) (zs : List ℕ) (i : Index) (d : ℕ) → AreValues k (map link (sides_to n)) zs → IsFree s f i d → rank i d < n → AreEndsJoined s f i d
      → value_for (sides_to n) zs i d ≡ 0
  joined_none k zero zs i d are free low joined = refl
  joined_none k (suc n) zs i d are free low joined =
      joined_more k n (free_at n) zs i d (λ ys a less. joined_none k n ys i d a free less joined) are free low joined
