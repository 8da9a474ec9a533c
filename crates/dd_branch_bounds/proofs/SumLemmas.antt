-- The totals that are kept, and those with a join.
use Rattle.std.proofs.Common.{◌≡◌, ℕ, ◌+◌, ◌*◌, ◌%◌, ◌<◌, ◌≤◌, Bool, true, false, cond, ltb, IsTrue, IsFalse, refl, sym, ap, ◌∙◌, subst, ⊎_elim, arith}
use Rattle.std.proofs.lemmas.Bool.{cases_eq, cases_lt, ne_eqb, lt-ltb, le-ltb}
use Rattle.std.specs.Prelude.{nat_eq, not}
use Rattle.std.proofs.Math.Nat.{mul-le-mul, mul-le-mul_right}
use Rattle.dd_model.specs.Symbol.{Symbol}
use Rattle.dd_model.specs.Wanted.{Wanted}
use Rattle.dd_model.specs.declared.pair.Pair.{Pair}
use Rattle.dd_model.specs.declared.requests.Request.{Request}
use Rattle.dd_branch_bounds.specs.Shares.{BoundsReciprocals, IsSought, IsShare}
use Rattle.dd_branch_bounds.specs.Units.{share_unit}
use Rattle.dd_branch_bounds.proofs.WholeShares.{none_sought}
use Rattle.dd_branch_bounds.specs.Census.{HasCell, HasFixedEnd, HasJoined}
use Rattle.dd_branch_bounds.specs.Counted.{IsAtEnd, IsLoose}
use Rattle.dd_branch_bounds.specs.Classes.{joined_class, IsClosedShare, IsCappedShare, IsJoinedShare}
use Rattle.dd_branch_bounds.specs.Passing.{Passes, AreEndsOf}
use Rattle.dd_branch_bounds.specs.PathEnd.{PathEnd, weight}
use Rattle.dd_branch_bounds.specs.Sides.{IsCensusOf, IsSide, IsSumOf, IsJoin, path_end, class_weight, ends_of}
use Rattle.dd_branch_bounds.specs.declared.census.Census.{Census}
use Rattle.dd_branch_bounds.specs.declared.class_shares.ClassShares.{ClassShares}
use Rattle.dd_branch_bounds.specs.declared.pair_paths.PairPaths.{PairPaths}
use Rattle.dd_branch_bounds.proofs.CountedLemmas.{counted_stays}
use Rattle.dd_branch_bounds.proofs.CountedSides.{capped_census, closed_census, joined_census}
use Rattle.dd_branch_bounds.proofs.EndTotals.{bounds_of_ends}
use Rattle.dd_branch_bounds.proofs.PassingTables.{ends_of_fewer, one_within, two_within, all_within}
use Rattle.dd_branch_bounds.proofs.PutLemmas.{put, connected}
use Rattle.dd_branch_bounds.proofs.SideLemmas.{one_path_within, chambers_within, IsAnEnd, AreTwoEnds, end_live, end_chambers, end_other, end_weight, ends_capped, ends_closed, ends_connected, which_pair}

-- the total is a bound
pub sum_small : (t : ClassShares) (P : Symbol) (test : Symbol → Bool) (total : ℕ) → P.size ≤ 36 → IsSumOf t P test total → total ≤ 36 * share_unit
sum_small t P test total small sum =
    let all = all_within t.request P test t.pair sum.ends total sum.are in
    let most : P.size * share_unit ≤ 36 * share_unit = mul-le-mul_right share_unit small in
    omega (arith, all, most)

-- where the chambers of a path have nothing together, nothing is sought
pub none_with_weight : (q : Request) (P : Symbol) (p : Pair) (d n v w : ℕ) → 1 ≤ n → w ≡ n * v → IsFalse (not (nat_eq w 0)) → IsShare q P p share_unit d v
    → (s : Symbol) → IsSought q P s → ⊥
none_with_weight q P p d n v w some all zero_ is = ⊎_elim
    (λ none. none_sought q P p d (subst (IsShare q P p share_unit d) none is))
    (λ any.
    let more : 1 ≤ v = omega (arith, any) in
    let least : 1 * 1 ≤ n * v = mul-le-mul some more in
    let positive : w ≡ 0 → ⊥ = λ no. absurd (omega (arith, no, all, least)) in
    absurd (let yes = ne_eqb w 0 positive in (cc)))
    (cases_eq v 0)

-- in no table everything holds
pub join_of_none : (P : Symbol) (p : Pair) (x y : ℕ) → IsJoin (Passes P (λ _. false)) p x y
join_of_none P p x y = record { side = λ s c. absurd (no c.passed); leads = λ s c. absurd (no c.passed) }
  where
    no : IsTrue false → ⊥
    no h = cc

-- a sum of shares bounds what the degrees of each wanted completion that passes the test add
pub bounds_of_sum : (t : ClassShares) (P : Symbol) (test : Symbol → Bool) (total : ℕ) → IsSumOf t P test total
    → (s : Symbol) → Wanted t.request s → Passes P test s → BoundsReciprocals s t.pair total
bounds_of_sum t P test total sum s wanted is = bounds_of_ends t.request (Passes P test) P.size t.pair sum.ends total (which_pair t) sum.are s is.completes.size (wanted, is)

module _ (t : ClassShares) (P : Symbol) (side : PairPaths) (kept : IsSide t P side) where
  -- what holds in all completions holds in those that pass a test
  pub passing : (test : Symbol → Bool) → AreEndsOf t.request P test t.pair (ends_of t side) side.total
  passing test = ends_of_fewer t.request P P (λ _. true) test t.pair (ends_of t side) side.total refl (λ s is. record { completes = is.completes; passed = refl }) kept.ends

  pub sum_as_kept : (test : Symbol → Bool) → IsSumOf t P test side.total
  sum_as_kept test = record { ends = ends_of t side; are = passing test }

  -- what is counted holds in those that pass a test
  pub census_as_kept : (test : Symbol → Bool) → IsCensusOf t P test side.census
  census_as_kept test s wanted is =
      counted_stays s t.pair (IsAtEnd (ends_of t side)) (λ _. ⊥) (IsLoose (ends_of t side)) (λ _. ⊥) side.census (kept.counted s wanted is.completes)
      (λ e none. absurd none) (λ z none. absurd none)

  pub size_small : P.size ≤ 36
  size_small = subst (λ n. n ≤ 36) kept.sized t.few

  pub total_small : side.total ≤ 36 * share_unit
  total_small = sum_small t P (λ _. true) side.total size_small (sum_as_kept (λ _. true))

  pub weight_within : {x m a : ℕ} → IsAnEnd t (ends_of t side) x m a → class_weight t a ≤ side.total
  weight_within {x} end =
      subst (λ e. weight e ≤ side.total) end.told (one_within t.request P (λ _. true) t.pair (ends_of t side) side.total kept.ends x (end_live t (ends_of t side) end))

  pub few_in_path : {x m a : ℕ} → IsAnEnd t (ends_of t side) x m a → a % 64 ≤ 36
  few_in_path {x} end =
      let within = one_path_within t.request P (λ _. true) t.pair (ends_of t side) side.total x kept.ends (end_live t (ends_of t side) end) in
      let mine = end_chambers t (ends_of t side) end in
      omega (arith, within, mine, size_small)

  pub sum_capped : {x m a : ℕ} → IsAnEnd t (ends_of t side) x m a → a % 64 ≤ 36 → (v : ℕ) → IsCappedShare t.request t.pair t.weights a v
      → (test : Symbol → Bool) (more : ℕ) → IsJoin (Passes P test) t.pair x x → more + class_weight t a ≡ side.total + a % 64 * v → IsSumOf t P test more
  sum_capped {x} {m} {a} end few v share test more join sum = ⊎_elim
      (λ low. record {
        ends = put (put (ends_of t side) x (path_end t 0 0)) m (path_end t x (64 + a % 64));
        are = ends_capped t P test (ends_of t side) side.total more (passing test) end join v share few (path_end t 0 0) (path_end t x (64 + a % 64)) refl
            (λ high. absurd (omega (arith, low, high))) (λ _. refl) sum;
      })
      (λ high. record {
        ends = put (put (ends_of t side) x (path_end t 0 0)) m (path_end t 0 0);
        are = ends_capped t P test (ends_of t side) side.total more (passing test) end join v share few (path_end t 0 0) (path_end t 0 0) refl
            (λ _. refl) (λ low. absurd (omega (arith, low, high))) sum;
      })
      (cases_lt a 64)

  pub census_capped : {x m a : ℕ} → IsAnEnd t (ends_of t side) x m a → a % 64 ≤ 36 → (v own : ℕ) → IsCappedShare t.request t.pair t.weights a v → own ≡ a % 64 * v
      → (test : Symbol → Bool) → IsJoin (Passes P test) t.pair x x → (after : Census) → HasFixedEnd side.census a own after → IsCensusOf t P test after
  census_capped end few v own share all test join after more s wanted is =
      capped_census t P test (ends_of t side) side.total (passing test) end join few v own share all s wanted is side.census (kept.counted s wanted is.completes) after more

  pub census_closed : {x m a : ℕ} → IsAnEnd t (ends_of t side) x m a → a % 64 ≤ 36 → (y : ℕ) → m ≡ y → (y ≡ x → ⊥) → (v own : ℕ)
      → IsClosedShare t.request t.pair a v → own ≡ a % 64 * v → (test : Symbol → Bool) → IsJoin (Passes P test) t.pair x y → (after : Census) → HasCell side.census a own after → IsCensusOf t P test after
  census_closed end few y other apart v own share all test join after more s wanted is =
      closed_census t P test (ends_of t side) side.total (passing test) end few y join other apart v own share all s wanted is side.census (kept.counted s wanted is.completes) after more

  pub census_connected : {x m a y l b : ℕ} → AreTwoEnds t (ends_of t side) x m a y l b → a % 64 + b % 64 ≤ 36 → (v own : ℕ)
      → IsJoinedShare t.request t.pair t.weights a b v → own ≡ (a % 64 + b % 64) * v → (test : Symbol → Bool) → IsJoin (Passes P test) t.pair x y
      → (after : Census) → HasJoined side.census a b own after → IsCensusOf t P test after
  census_connected two few v own share all test join after more s wanted is =
      joined_census t P test (ends_of t side) side.total (passing test) two kept.sized few join v own share all s wanted is side.census (kept.counted s wanted is.completes) after more

  pub sum_closed : {x m a : ℕ} → IsAnEnd t (ends_of t side) x m a → a % 64 ≤ 36 → (y : ℕ) → m ≡ y → (y ≡ x → ⊥) → (v : ℕ)
      → IsClosedShare t.request t.pair a v → (test : Symbol → Bool) (more : ℕ) → IsJoin (Passes P test) t.pair x y → more + class_weight t a ≡ side.total + a % 64 * v → IsSumOf t P test more
  sum_closed {x} {m} {a} end few y other apart v share test more join sum = record {
    ends = put (put (ends_of t side) x (path_end t 0 0)) m (path_end t 0 0);
    are = ends_closed t P test (ends_of t side) side.total more (passing test) end y join other apart v share few (path_end t 0 0) (path_end t 0 0) refl refl sum;
  }

  module _ {x m a y l b : ℕ} (two : AreTwoEnds t (ends_of t side) x m a y l b) where
    live : 1 ≤ (ends_of t side x).chambers
    live = end_live t (ends_of t side) two.one

    living : 1 ≤ (ends_of t side y).chambers
    living = end_live t (ends_of t side) two.other

    no_end : y ≡ (ends_of t side x).other → ⊥
    no_end at = two.no_other (at ∙ sym (end_other t (ends_of t side) two.one))

    pub weights_within : class_weight t a + class_weight t b ≤ side.total
    weights_within =
        let both = two_within t.request P (λ _. true) t.pair (ends_of t side) side.total kept.ends x y live living two.apart no_end in
        let mine = end_weight t (ends_of t side) two.one in
        let yours = end_weight t (ends_of t side) two.other in
        omega (arith, both, mine, yours)

    pub few_chambers : a % 64 + b % 64 ≤ 36
    few_chambers =
        let both = chambers_within t.request P (λ _. true) t.pair (ends_of t side) side.total x y kept.ends live living two.apart no_end in
        let mine = end_chambers t (ends_of t side) two.one in
        let yours = end_chambers t (ends_of t side) two.other in
        omega (arith, both, mine, yours, size_small)

    -- what stands at the other end of a path of the class k
    far_end : ℕ → ℕ → PathEnd
    far_end k mate = cond (ltb k 64) (path_end t mate (joined_class a b)) (path_end t 0 0)

    pub sum_connected : a % 64 + b % 64 ≤ 36 → (v : ℕ) → IsJoinedShare t.request t.pair t.weights a b v → (test : Symbol → Bool) (more : ℕ)
        → IsJoin (Passes P test) t.pair x y → more + (class_weight t a + class_weight t b) ≡ side.total + (a % 64 + b % 64) * v → IsSumOf t P test more
    unfolding far_end
    sum_connected few v share test more join sum = record {
      ends = connected (ends_of t side) x y m l (path_end t 0 0) (path_end t 0 0) (far_end a l) (far_end b m);
      are = ends_connected t P test (ends_of t side) side.total more (passing test) two kept.sized few join v share
          (path_end t 0 0) (path_end t 0 0) (far_end a l) (far_end b m) refl refl (gone a l) (there a l) (gone b m) (there b m) sum;
    }
      where
        gone : (k mate : ℕ) → 64 ≤ k → (far_end k mate).chambers ≡ 0
        gone k mate high = ap (λ (t' : Bool). (cond t' (path_end t mate (joined_class a b)) (path_end t 0 0)).chambers) (le-ltb k 64 high)

        there : (k mate : ℕ) → k < 64 → far_end k mate ≡ path_end t mate (joined_class a b)
        there k mate low = ap (λ (t' : Bool). cond t' (path_end t mate (joined_class a b)) (path_end t 0 0)) (lt-ltb k 64 low)
