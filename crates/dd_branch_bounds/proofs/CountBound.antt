-- What the chambers of at most so many cells can add to the curvature: the count bound.
use Rattle.std.proofs.Common.{◌≡◌, ℕ, zero, suc, ◌+◌, ◌-◌, ◌*◌, ◌/◌, ◌%◌, ◌≤◌, ◌⊎◌, List, [], ◌∷◌, length, get_or, refl, sym, ap, ◌∙◌, subst, inl, inr, ⊎_elim, arith}
use Rattle.std.proofs.lemmas.Bool.{cases_eq, ne_eqb}
use Rattle.std.proofs.lemmas.List.Elements.{Contains-get_or}
use Rattle.std.proofs.lemmas.List.Sums.{sum_by-cons}
use Rattle.std.proofs.Math.Nat.{mul-le-mul_right}
use Rattle.std.specs.List.{AllByRecursion, Contains, sum_by}
use Rattle.std.specs.List.Sorted.{IsStrictlyIncreasing}
use Rattle.dd_model.specs.declared.pair.Pair.{Pair}
use Rattle.dd_model.specs.Symbol.{Symbol, IsSymbol, IsChamber, first, second, op, degree}
use Rattle.dd_model.specs.Code.{chambers}
use Rattle.dd_model.specs.Cell.{InCell, IsChain, IsLeastOfCell, AreCells}
use Rattle.dd_model.proofs.CellLists.{increasing-head, increasing-tail}
use Rattle.dd_model.proofs.Branching.{degree_same}
use Rattle.dd_cells.specs.Cells.{AreMembers}
use Rattle.dd_cells.proofs.CellSums.{AreRoots, has_roots, members_at, members_at_are, sum_over_cells, sum_by_same}
use Rattle.dd_branch_tables.specs.Distinct.{AreDistinct}
use Rattle.dd_branch_tables.proofs.Distinct.{all_from}
use Rattle.dd_cells.proofs.FixedFlags.{one_if, flags_of_chain}
use Rattle.dd_model.proofs.CellWalks.{has_period}
use Rattle.dd_model.proofs.Lists.{Contains-head, Contains-later, Contains-cases}
use Rattle.dd_branch_bounds.specs.Closed.{fixed_flags}
use Rattle.dd_branch_bounds.proofs.Rotation.{cell_bound, chain_bound}

-- ## Sums over two lists

-- the other terms of a list
record IsWithout (x : ℕ) (xs rest : List ℕ) : Type 0 where
  pub sums : (f : ℕ → ℕ) → sum_by f xs ≡ f x + sum_by f rest
  pub long : length xs ≡ suc (length rest)
  pub others : (y : ℕ) → Contains xs y → (y ≡ x → ⊥) → Contains rest y
  pub listed : (y : ℕ) → Contains rest y → Contains xs y

without : (x : ℕ) (xs : List ℕ) → Contains xs x → (rest : List ℕ) × IsWithout x xs rest
without x [] here = let no = here.1 in absurd (omega arith)
without x (y ∷ ys) here = ⊎_elim
    (λ (same : y ≡ x). (
      ys,
      record {
        sums = λ f. sum_by-cons f y ys ∙ ap (λ z. f z + sum_by f ys) same;
        long = refl;
        others = λ z listed away. ⊎_elim (λ e. absurd (away (sym e ∙ same))) (λ later. later) (Contains-cases y z ys listed);
        listed = λ z later. Contains-later y z ys later;
      },
    ))
    (λ later.
    let deep = without x ys later in
    let w = deep.1 in (
      y ∷ deep.0,
      record {
        sums = λ f. let a = sum_by-cons f y ys in let b = sum_by-cons f y deep.0 in let e = w.sums f in omega (arith, a, b, e);
        long = ap suc w.long;
        others = λ z listed away. ⊎_elim (λ e. subst (Contains (y ∷ deep.0)) e (Contains-head y deep.0)) (λ below. Contains-later y z deep.0 (w.others z below away)) (Contains-cases y z ys listed);
        listed = λ z there. ⊎_elim (λ e. subst (Contains (y ∷ ys)) e (Contains-head y ys)) (λ below. Contains-later y z ys (w.listed z below)) (Contains-cases y z deep.0 there);
      },
    ))
    (Contains-cases y x ys here)

at_most_each : (f : ℕ → ℕ) (most : ℕ) (ds : List ℕ) → ((x : ℕ) → Contains ds x → f x ≤ most) → sum_by f ds ≤ length ds * most
at_most_each f most [] below = omega arith
at_most_each f most (x ∷ xs) below =
    let e = sum_by-cons f x xs in
    let own = below x (Contains-head x xs) in
    let rest = at_most_each f most xs (λ y later. below y (Contains-later x y xs later)) in
    let more : suc (length xs) * most ≡ most + length xs * most = omega arith in
    omega (arith, e, own, rest, more)

-- what holds of all holds of each
pub all_listed : (P : ℕ → Type 0) (xs : List ℕ) (x : ℕ) → AllByRecursion P xs → Contains xs x → P x
all_listed P [] x all here = let no = here.1 in absurd (omega arith)
all_listed P (y ∷ ys) x all here = ⊎_elim (λ same. subst P same all.0) (λ later. all_listed P ys x all.1 later) (Contains-cases y x ys here)

-- one of different numbers is none of the others
other_than : (g y : ℕ) (gs : List ℕ) → AreDistinct (g ∷ gs) → Contains gs y → y ≡ g → ⊥
other_than g y gs apart listed same = all_listed (λ z. g ≡ z → ⊥) gs y apart.0 listed (sym same)

-- what of ds is not in gs weighs at most most for each
pub sum_beyond : (f : ℕ → ℕ) (most : ℕ) (ds gs : List ℕ) → AreDistinct gs
    → ((x : ℕ) → Contains ds x → f x ≤ most) → ((x : ℕ) → Contains gs x → Contains ds x)
    → (length gs ≤ length ds) × (sum_by f ds ≤ sum_by f gs + (length ds - length gs) * most)
sum_beyond f most ds [] apart below within =
    let bound = at_most_each f most ds below in
    let all : (length ds - 0) * most ≡ length ds * most = ap (λ n. n * most) (omega arith) in
    (omega arith, omega (arith, bound, all))
sum_beyond f most ds (g ∷ gs) apart below within =
    let out = without g ds (within g (Contains-head g gs)) in
    let w = out.1 in
    let rest = sum_beyond f most out.0 gs apart.1 (λ y listed. below y (w.listed y listed))
    (λ y later. w.others y (within y (Contains-later g y gs later)) (other_than g y gs apart later)) in
    let few = rest.0 in
    let low = rest.1 in
    let a = w.sums f in
    let e = sum_by-cons f g gs in
    let long = w.long in
    let left : length ds - length (g ∷ gs) ≡ length out.0 - length gs = omega (arith, long) in
    (omega (arith, few, long), omega (arith, a, e, low, ap (λ n. n * most) left))

-- different numbers of a list add up to no more than all of it
pub part_of_distinct : (f : ℕ → ℕ) (ds gs : List ℕ) → AreDistinct gs → ((x : ℕ) → Contains gs x → Contains ds x) → sum_by f gs ≤ sum_by f ds
part_of_distinct f ds [] apart within = omega arith
part_of_distinct f ds (g ∷ gs) apart within =
    let out = without g ds (within g (Contains-head g gs)) in
    let w = out.1 in
    let rest = part_of_distinct f out.0 gs apart.1 (λ y later. w.others y (within y (Contains-later g y gs later)) (other_than g y gs apart later)) in
    let a = w.sums f in
    let e = sum_by-cons f g gs in
    omega (arith, a, e, rest)

-- ## The chambers of one cell

weigh : (D m n : ℕ) → n ≤ 2 * m → n * (D / m) ≤ 2 * D
weigh D m n few =
    let a : n * (D / m) ≤ 2 * m * (D / m) = mul-le-mul_right (D / m) few in
    let b : D / m * m ≤ D = grind arith in
    let e : 2 * m * (D / m) ≡ 2 * (D / m * m) = grind arith in
    omega (arith, a, b, e)

pub distinct_increasing : (xs : List ℕ) → IsStrictlyIncreasing xs → AreDistinct xs
distinct_increasing [] up = tt
distinct_increasing (x ∷ xs) up = (
  all_from (λ y. x ≡ y → ⊥) xs (λ j low same. let above = increasing-head x (get_or xs j 0) xs up (Contains-get_or xs j 0 low) in absurd (omega (arith, above, same))),
  distinct_increasing xs (increasing-tail x xs up),
)

-- the sum of D/m over the chambers of a cell
pub cell_sum : (s : Symbol) → IsSymbol s → (p : Pair) (D d : ℕ) (members : List ℕ) → IsChamber s d → AreMembers s p d members
    → sum_by (λ x. D / degree s p x) members ≡ length members * (D / degree s p d)
cell_sum s is p D d members h are =
    sum_by_same (λ x. D / degree s p x) (D / degree s p d) members
    (λ x listed. let there = (are.each x).0 listed in ap (λ m. D / m) (ap (degree s p) (sym there.leads) ∙ degree_same s is p there.word d h there.letters))

-- is at most 2 D
pub cell_weight : (s : Symbol) → IsSymbol s → (p : Pair) (D d : ℕ) (members : List ℕ) → IsChamber s d → AreMembers s p d members
    → sum_by (λ x. D / degree s p x) members ≤ 2 * D
cell_weight s is p D d members h are =
    let few = cell_bound s is p d h members (distinct_increasing members are.ascending)
    (all_from (InCell s p d) members (λ j low. (are.each (get_or members j 0)).0 (Contains-get_or members j 0 low))) in
    let sum = cell_sum s is p D d members h are in
    let bound = weigh D (degree s p d) (length members) few in
    omega (arith, sum, bound)

-- ## Fixed flags

-- a term of a sum that is not 0
record HasTerm (f : ℕ → ℕ) (xs : List ℕ) : Type 0 where
  pub term : ℕ
  pub listed : Contains xs term
  pub positive : 1 ≤ f term

some_term : (f : ℕ → ℕ) (xs : List ℕ) → (sum_by f xs ≡ 0) ⊎ HasTerm f xs
some_term f [] = inl refl
some_term f (x ∷ xs) =
    let e = sum_by-cons f x xs in
    ⊎_elim
    (λ none. ⊎_elim
    (λ rest. inl (omega (arith, e, none, rest)))
    (λ later. inr (record { term = later.term; listed = Contains-later x later.term xs later.listed; positive = later.positive }))
    (some_term f xs))
    (λ some. inr (record { term = x; listed = Contains-head x xs; positive = some }))
    (zero_or_more (f x))
  where
    zero_or_more : (n : ℕ) → (n ≡ 0) ⊎ (1 ≤ n)
    zero_or_more zero = inl refl
    zero_or_more (suc n) = inr (omega arith)

-- A cell has two fixed flags and is a chain, or has none.
pub flags_of_cell : (s : Symbol) → IsSymbol s → (p : Pair) (d : ℕ) (members : List ℕ) → IsChamber s d → AreMembers s p d members
    → (sum_by (fixed_flags s p) members ≡ 0) ⊎ (IsChain s p d × (sum_by (fixed_flags s p) members ≡ 2))
flags_of_cell s is p d members h are =
    let inv = is.table.involutions in
    ⊎_elim
    (λ none. inl none)
    (λ some.
    let e = some.term in
    let there = (are.each e).0 some.listed in
    let chain : IsChain s p d =
    ⊎_elim
    (λ one. record { chamber = e; in_cell = there; fixed = inl one })
    (λ moved. ⊎_elim
    (λ two. record { chamber = e; in_cell = there; fixed = inr two })
    (λ also.
    let a = ap one_if (ne_eqb (op s (first p) e) e moved) in
    let b = ap one_if (ne_eqb (op s (second p) e) e also) in
    let positive = some.positive in
    absurd (omega (arith, a, b, positive)))
    (cases_eq (op s (second p) e) e))
    (cases_eq (op s (first p) e) e) in
    let period = has_period s inv p d h in
    inr (chain, flags_of_chain s inv p d period.r members h period.period chain are))
    (some_term (fixed_flags s p) members)

pub flags_at_most : (s : Symbol) → IsSymbol s → (p : Pair) (d : ℕ) (members : List ℕ) → IsChamber s d → AreMembers s p d members → sum_by (fixed_flags s p) members ≤ 2
flags_at_most s is p d members h are = ⊎_elim (λ none. omega (arith, none)) (λ two. let e = two.1 in omega (arith, e)) (flags_of_cell s is p d members h are)

weigh_once : (D m n : ℕ) → n ≤ m → n * (D / m) ≤ D
weigh_once D m n few =
    let a : n * (D / m) ≤ m * (D / m) = mul-le-mul_right (D / m) few in
    let b : D / m * m ≤ D = grind arith in
    let e : m * (D / m) ≡ D / m * m = grind arith in
    omega (arith, a, b, e)

-- the sum of D/m over the chambers of a chain is at most D
chain_weight : (s : Symbol) → IsSymbol s → (p : Pair) (D d : ℕ) (members : List ℕ) → IsChamber s d → IsChain s p d → AreMembers s p d members
    → sum_by (λ x. D / degree s p x) members ≤ D
chain_weight s is p D d members h chain are =
    let few = chain_bound s is p d h chain members (distinct_increasing members are.ascending)
    (all_from (InCell s p d) members (λ j low. (are.each (get_or members j 0)).0 (Contains-get_or members j 0 low))) in
    let sum = cell_sum s is p D d members h are in
    let bound = weigh_once D (degree s p d) (length members) few in
    omega (arith, sum, bound)

-- twice what a cell adds and D for each of its fixed flags are at most 4 D
pub flagged_weight : (s : Symbol) → IsSymbol s → (p : Pair) (D d : ℕ) (members : List ℕ) → IsChamber s d → AreMembers s p d members
    → 2 * sum_by (λ x. D / degree s p x) members + D * sum_by (fixed_flags s p) members ≤ 4 * D
flagged_weight s is p D d members h are =
    ⊎_elim
    (λ none.
    let w = cell_weight s is p D d members h are in
    let f : D * sum_by (fixed_flags s p) members ≡ 0 = ap (λ n. D * n) none ∙ omega arith in
    omega (arith, w, f))
    (λ two.
    let w = chain_weight s is p D d members h two.0 are in
    let f : D * sum_by (fixed_flags s p) members ≡ 2 * D = ap (λ n. D * n) two.1 ∙ omega arith in
    omega (arith, w, f))
    (flags_of_cell s is p d members h are)

-- terms that are 0 or 2
even_sum : (f : ℕ → ℕ) (xs : List ℕ) → ((x : ℕ) → Contains xs x → (f x ≡ 0) ⊎ (f x ≡ 2)) → sum_by f xs % 2 ≡ 0
even_sum f [] each = refl
even_sum f (x ∷ xs) each =
    let e = sum_by-cons f x xs in
    let rest = even_sum f xs (λ y later. each y (Contains-later x y xs later)) in
    ⊎_elim (λ none. omega (arith, e, rest, none)) (λ two. omega (arith, e, rest, two)) (each x (Contains-head x xs))

-- ## All chambers

-- Of a sum over all chambers, the cells of gs have what they have, and each other cell at most most.
pub sum_beyond_cells : (s : Symbol) → IsSymbol s → (p : Pair) (root : ℕ → ℕ) → AreRoots s p root → (ds gs : List ℕ) → AreCells s p ds
    → AreDistinct gs → ((g : ℕ) → Contains gs g → IsLeastOfCell s p g) → (w : ℕ → ℕ) (most : ℕ)
    → ((j : ℕ) (members : List ℕ) → IsChamber s j → AreMembers s p j members → sum_by w members ≤ most)
    → (length gs ≤ length ds) × (sum_by w (chambers s) ≤ sum_by (λ g. sum_by w (members_at s root g)) gs + (length ds - length gs) * most)
sum_beyond_cells s is p root roots ds gs cells rise least w most each =
    let inv = is.table.involutions in
    let f : ℕ → ℕ = λ j. sum_by w (members_at s root j) in
    let parts = sum_over_cells s p root w ds roots cells in
    let beyond = sum_beyond f most ds gs rise
    (λ j listed. let own = (cells.members j).0 listed in each j (members_at s root j) own.0 (members_at_are s inv p root roots j own))
    (λ g listed. (cells.members g).1 (least g listed)) in
    let bound = beyond.1 in
    (beyond.0, omega (arith, parts, bound))

-- the fixed flags of all chambers are twice some number
pub even_flags : (s : Symbol) → IsSymbol s → (p : Pair) (root : ℕ → ℕ) → AreRoots s p root → (ds : List ℕ) → AreCells s p ds
    → sum_by (fixed_flags s p) (chambers s) % 2 ≡ 0
even_flags s is p root roots ds cells =
    let inv = is.table.involutions in
    let f : ℕ → ℕ = λ j. sum_by (fixed_flags s p) (members_at s root j) in
    ap (λ n. n % 2) (sym (sum_over_cells s p root (fixed_flags s p) ds roots cells))
    ∙ even_sum f ds (λ j listed.
    let own = (cells.members j).0 listed in
    ⊎_elim (λ none. inl none) (λ two. inr two.1) (flags_of_cell s is p j (members_at s root j) own.0 (members_at_are s inv p root roots j own)))

-- Each cell adds at most 2 D.
pub count_bound_plain : (s : Symbol) → IsSymbol s → (p : Pair) (ds : List ℕ) → AreCells s p ds → (D : ℕ) → sum_by (λ d. D / degree s p d) (chambers s) ≤ length ds * (2 * D)
count_bound_plain s is p ds cells D =
    let roots = has_roots s is.table.involutions p in
    let all = sum_beyond_cells s is p roots.root roots.are ds [] cells tt (λ g none. let no = none.1 in absurd (omega arith))
    (λ d. D / degree s p d) (2 * D) (λ j members h are. cell_weight s is p D j members h are) in
    let bound : sum_by (λ d. D / degree s p d) (chambers s) ≤ 0 + (length ds - 0) * (2 * D) = all.1 in
    let none : length ds - 0 ≡ length ds = omega arith in
    omega (arith, bound, ap (λ n. n * (2 * D)) none)
