-- What becomes of the ends of paths as they are kept.
use Rattle.std.proofs.Common.{◌≡◌, ℕ, ◌+◌, ◌*◌, ◌/◌, ◌%◌, ◌<◌, ◌≤◌, ◌⊎◌, ◌↔◌, Bool, IsTrue, refl, sym, ap, ◌∙◌, subst, inl, inr, ⊎_elim, arith}
use Rattle.std.proofs.lemmas.Bool.{cases_lt, leb-true, le-leb}
use Rattle.std.specs.Prelude.{leb}
use Rattle.dd_model.specs.Code.{count_from}
use Rattle.dd_model.specs.Symbol.{Symbol}
use Rattle.dd_model.specs.declared.pair.Pair.TheVariants.{Tile, Vertex, Edge}
use Rattle.dd_model.specs.declared.pair.Pair.{Pair}
use Rattle.dd_model.specs.declared.requests.Request.{Request}
use Rattle.dd_model.proofs.CountFrom.{length-count_from}
use Rattle.dd_branch_bounds.specs.Units.{share_unit}
use Rattle.dd_branch_bounds.specs.Changes.{IsShareFrom, HasTurns, IsJoined, IsRenewed, IsLink, IsFixedEnd, AreFixed, AreJoined}
use Rattle.dd_branch_bounds.specs.Classes.{joined_class, turns_of, IsClosedShare, IsCappedShare, IsJoinedShare}
use Rattle.dd_branch_bounds.specs.Passing.{Passes, AreEndsOf}
use Rattle.dd_branch_bounds.specs.PathEnd.{PathEnd, weight}
use Rattle.dd_branch_bounds.specs.Sides.{IsJoin, path_end, class_weight}
use Rattle.dd_branch_bounds.specs.declared.class_shares.ClassShares.{ClassShares}
use Rattle.dd_branch_bounds.proofs.ClassLemmas.{IsClassOfBoth, turns_capped, turns_open, class_of_both}
use Rattle.dd_branch_bounds.proofs.EndLemmas.{all_from}
use Rattle.dd_branch_bounds.proofs.LabelLemmas.{part_of_sum, parts_of_sum, sum_bound}
use Rattle.dd_branch_bounds.proofs.PassingTables.{AreRight, linked_right, linked_closed, fixed_right, met_right, paths_linked, path_capped, path_closed}
use Rattle.dd_branch_bounds.proofs.PutLemmas.{put, fixed_put, closed_put, connected, joined_put}

-- a path has no more chambers than the table
pub one_path_within : (q : Request) (P : Symbol) (test : Symbol → Bool) (p : Pair) (ends : ℕ → PathEnd) (total x : ℕ) → AreEndsOf q P test p ends total → 1 ≤ (ends x).chambers → (ends x).chambers ≤ P.size
one_path_within q P test p ends total x are live =
    let one = (are.each x live).count in
    let part = part_of_sum are.label (λ (l : ℕ). 1) (are.label (x / 2)) (count_from 1 P.size) in
    let bound = sum_bound (λ (d : ℕ). 1) 1 (count_from 1 P.size) (all_from (λ (d : ℕ). 1 ≤ 1) 1 P.size (λ d low high. omega arith)) in
    let long = length-count_from 1 P.size in
    omega (arith, one, part, bound, long)

-- two paths have no more chambers than the table
pub chambers_within : (q : Request) (P : Symbol) (test : Symbol → Bool) (p : Pair) (ends : ℕ → PathEnd) (total x y : ℕ) → AreEndsOf q P test p ends total
    → 1 ≤ (ends x).chambers → 1 ≤ (ends y).chambers → (y ≡ x → ⊥) → (y ≡ (ends x).other → ⊥) → (ends x).chambers + (ends y).chambers ≤ P.size
chambers_within q P test p ends total x y are live living apart no_other =
    let one = (are.each x live).count in
    let two = (are.each y living).count in
    let parts = parts_of_sum are.label (λ (l : ℕ). 1) (are.label (x / 2)) (are.label (y / 2)) (λ same. ⊎_elim apart no_other ((are.each x live).alone y living (sym same))) (count_from 1 P.size) in
    let bound = sum_bound (λ (d : ℕ). 1) 1 (count_from 1 P.size) (all_from (λ (d : ℕ). 1 ≤ 1) 1 P.size (λ d low high. omega arith)) in
    let long = length-count_from 1 P.size in
    omega (arith, one, two, parts, bound, long)

-- an end of a path of the class a, with the other end m
pub record IsAnEnd (t : ClassShares) (ends : ℕ → PathEnd) (x m a : ℕ) : Type 0 where
  pub told : ends x ≡ path_end t m a
  pub low : a < 128
  pub some : 1 ≤ a % 64

-- the ends of two paths
pub record AreTwoEnds (t : ClassShares) (ends : ℕ → PathEnd) (x m a y l b : ℕ) : Type 0 where
  pub one : IsAnEnd t ends x m a
  pub other : IsAnEnd t ends y l b
  pub apart : y ≡ x → ⊥
  pub no_other : y ≡ m → ⊥

module _ (t : ClassShares) (ends : ℕ → PathEnd) {x m a : ℕ} (end : IsAnEnd t ends x m a) where
  pub end_live : 1 ≤ (ends x).chambers
  end_live = subst (λ (e : PathEnd). 1 ≤ e.chambers) (sym end.told) end.some

  pub end_chambers : (ends x).chambers ≡ a % 64
  end_chambers = ap (λ (e : PathEnd). e.chambers) end.told

  pub end_other : m ≡ (ends x).other
  end_other = ap (λ (e : PathEnd). e.other) (sym end.told)

  pub end_weight : weight (ends x) ≡ class_weight t a
  end_weight = ap weight end.told

module _ (t : ClassShares) (ends : ℕ → PathEnd) {x m a : ℕ} (end : IsAnEnd t ends x m a) where
  -- an involution is told to fix a chamber from the class 64 on
  pub end_capped : IsTrue (ends x).is_capped ↔ (64 ≤ a)
  end_capped = (
    λ is. leb-true 64 a (subst (λ (e : PathEnd). IsTrue e.is_capped) end.told is),
    λ high. subst (λ (e : PathEnd). IsTrue e.is_capped) (sym end.told) (le-leb 64 a high),
  )

-- both paths have a fixed end, or one has none
either_open : (a b : ℕ) → ((64 ≤ a) × (64 ≤ b)) ⊎ ((a < 64) ⊎ (b < 64))
either_open a b = ⊎_elim (λ low. inr (inl low)) (λ high. ⊎_elim (λ low. inr (inr low)) (λ also. inl (high, also)) (cases_lt b 64)) (cases_lt a 64)

-- the shares are those of tiles or of vertices
pub which_pair : (t : ClassShares) → (t.pair ≡ Tile) ⊎ (t.pair ≡ Vertex)
which_pair t = (elim t.pair as (λ p. ¬ (p ≡ Edge) → (p ≡ Tile) ⊎ (p ≡ Vertex)) [
  | Tile ↦ λ _. inl refl
  | Vertex ↦ λ _. inr refl
  | Edge ↦ λ none. absurd (none refl)
]) t.cells

module _ (t : ClassShares) (P : Symbol) (test : Symbol → Bool) (old : ℕ → PathEnd) (total more : ℕ)
    (are : AreEndsOf t.request P test t.pair old total) where
  -- ## An involution fixes the end of a path

  module _ {x m a : ℕ} (end : IsAnEnd t old x m a) (join : IsJoin (Passes P test) t.pair x x) (v : ℕ) (share : IsCappedShare t.request t.pair t.weights a v) where
    c : ℕ
    c = 64 + a % 64

    from : a < 64 → IsShareFrom t.request t.pair (turns_of t.size c) v
    unfolding c
    from low = let some = end.some in subst (IsShareFrom t.request t.pair (turns_of t.size c)) (sym (share.goes_on low)) ((t.are_told.each c (omega arith)).told.with_ends (omega arith) (omega (arith, some)))

    pub end_fixed : IsFixedEnd (Passes P test) t.pair old x
    end_fixed = record { is_end = end_live t old end; fixed = join.leads }

    pub right_capped : a % 64 ≤ 36 → AreRight t.request P test t.pair x v
    unfolding c
    right_capped few =
        let own = end_chambers t old end in
        ⊎_elim
        (λ low.
        let turns : turns_of t.size c ≡ c % 64 = turns_capped t.size c (omega arith) in
        fixed_right t.request P test t.pair old total are x (turns_of t.size c) v end_fixed (omega (arith, turns, own)) (from low))
        (λ high.
        met_right t.request P test t.pair old total are x x a v (which_pair t)
        (record { is_end = end_live t old end; side = λ _ _. refl; leads = join.leads; which = inl (refl, (end_capped t old end).1 high) })
        (share.closed high) (sym own) few (end_capped t old end))
        (cases_lt a 64)

    pub small_capped : v ≤ share_unit
    small_capped = ⊎_elim (λ low. (from low).small) (λ high. (share.closed high).small) (cases_lt a 64)

    -- what stands at the ends then
    pub are_fixed : (n e : PathEnd) → n.chambers ≡ 0 → (64 ≤ a → e.chambers ≡ 0) → (a < 64 → e ≡ path_end t x (64 + a % 64)) → AreFixed old (put (put old x n) m e) x v
    unfolding c
    are_fixed n e none gone is =
        let same : c % 64 ≡ a % 64 = omega arith in
        let own = end_chambers t old end in
        fixed_put old x m v n e (end_other t old end) none (⊎_elim
        (λ low. inr (subst (IsRenewed old x v) (sym (is low)) (record { chambers = same ∙ sym own; share = sym (share.goes_on low); other = refl; capped = le-leb 64 c (omega arith) })))
        (λ high. inl (gone high))
        (cases_lt a 64))

    pub ends_capped : a % 64 ≤ 36 → (n e : PathEnd) → n.chambers ≡ 0 → (64 ≤ a → e.chambers ≡ 0) → (a < 64 → e ≡ path_end t x (64 + a % 64))
        → more + class_weight t a ≡ total + a % 64 * v → AreEndsOf t.request P test t.pair (put (put old x n) m e) more
    ends_capped few n e none gone is sum =
        let all : (old x).chambers * v ≡ a % 64 * v = ap (λ k. k * v) (end_chambers t old end) in
        let was = end_weight t old end in
        path_capped t.request P test t.pair old (put (put old x n) m e) total more are x v end_fixed (right_capped few) small_capped (are_fixed n e none gone is)
        (omega (arith, sum, was, all))

  -- ## The ends of a path meet

  module _ {x m a : ℕ} (end : IsAnEnd t old x m a) (y : ℕ) (join : IsJoin (Passes P test) t.pair x y) (other : m ≡ y) (apart : y ≡ x → ⊥) (v : ℕ)
      (share : IsClosedShare t.request t.pair a v) where
    pub right_closed : a % 64 ≤ 36 → AreRight t.request P test t.pair x v
    right_closed few =
        met_right t.request P test t.pair old total are x y a v (which_pair t)
        (record { is_end = end_live t old end; side = join.side; leads = join.leads; which = inr (apart, sym other ∙ end_other t old end) })
        share (sym (end_chambers t old end)) few (end_capped t old end)

    pub ends_closed : a % 64 ≤ 36 → (n e : PathEnd) → n.chambers ≡ 0 → e.chambers ≡ 0 → more + class_weight t a ≡ total + a % 64 * v
        → AreEndsOf t.request P test t.pair (put (put old x n) m e) more
    ends_closed few n e none also sum =
        let all : (old x).chambers * v ≡ a % 64 * v = ap (λ k. k * v) (end_chambers t old end) in
        let was = end_weight t old end in
        path_closed t.request P test t.pair old (put (put old x n) m e) total more are x v (end_live t old end) share.small (right_closed few)
        (closed_put old x m n e (end_other t old end) none also)
        (omega (arith, sum, was, all))

  -- ## An involution joins the ends of two paths

  module _ {x m a y l b : ℕ} (two : AreTwoEnds t old x m a y l b) (sized : t.size ≡ P.size) (few : a % 64 + b % 64 ≤ 36) (join : IsJoin (Passes P test) t.pair x y) (v : ℕ)
      (share : IsJoinedShare t.request t.pair t.weights a b v) where
    pub joined_both : IsClassOfBoth a b (joined_class a b)
    joined_both = class_of_both a b two.one.low two.other.low (omega (arith, few))

    pub joined_together : joined_class a b % 64 ≡ (old x).chambers + (old y).chambers
    joined_together = joined_both.chambers ∙ ap (λ k. k + b % 64) (sym (end_chambers t old two.one)) ∙ ap (λ k. (old x).chambers + k) (sym (end_chambers t old two.other))

    pub ends_link : IsLink (Passes P test) t.pair old x y
    ends_link = record {
      first_end = end_live t old two.one;
      second_end = end_live t old two.other;
      apart = two.apart;
      no_other = λ at. two.no_other (at ∙ sym (end_other t old two.one));
      side = join.side;
      leads = join.leads;
    }

    capped : IsTrue (leb 64 (joined_class a b)) ↔ (IsTrue (old x).is_capped ⊎ IsTrue (old y).is_capped)
    capped = (
      λ is. ⊎_elim (λ high. inl ((end_capped t old two.one).1 high)) (λ high. inr ((end_capped t old two.other).1 high)) (joined_both.capped (leb-true 64 (joined_class a b) is)),
      λ either. le-leb 64 (joined_class a b) (joined_both.stays (⊎_elim (λ is. inl ((end_capped t old two.one).0 is)) (λ is. inr ((end_capped t old two.other).0 is)) either)),
    )

    turns : HasTurns P.size old x y (turns_of t.size (joined_class a b))
    turns =
        let c = joined_class a b in
        let all = joined_together in
        ⊎_elim
        (λ below. ⊎_elim
        (λ half. inl (omega (arith, half, below, all)))
        (λ whole.
        let is = whole.0 in
        let odd = whole.1.0 in
        let e = whole.1.1 in
        inr (inr (omega (arith, is, below, all, sized), omega (arith, odd, sized)), omega (arith, e, below, all)))
        (turns_open t.size c below))
        (λ above. let e = turns_capped t.size c above in inr (inl (capped.0 (le-leb 64 c above)), omega (arith, e, all)))
        (cases_lt c 64)

    from_joined : (a < 64) ⊎ (b < 64) → IsShareFrom t.request t.pair (turns_of t.size (joined_class a b)) v
    from_joined low =
        let enough = joined_both.chambers in
        let some = two.one.some in
        subst (IsShareFrom t.request t.pair (turns_of t.size (joined_class a b))) (sym (share.goes_on low)) ((t.are_told.each (joined_class a b) (let small = joined_both.small in omega (arith, small))).told.with_ends joined_both.small (omega (arith, enough, some)))

    pub right_connected : AreRight t.request P test t.pair x v
    right_connected =
        let enough = joined_both.chambers in
        ⊎_elim
        (λ high.
        linked_closed t.request P test t.pair old total are x y (joined_class a b) v (which_pair t) ends_link ((end_capped t old two.one).1 high.0) ((end_capped t old two.other).1 high.1)
        (share.closed high.0 high.1) joined_together (omega (arith, enough, few)) (joined_both.stays (inl high.0)))
        (λ low. linked_right t.request P test t.pair old total are x y (turns_of t.size (joined_class a b)) v ends_link turns (from_joined low))
        (either_open a b)

    pub small_connected : v ≤ share_unit
    small_connected = ⊎_elim (λ high. (share.closed high.0 high.1).small) (λ low. (from_joined low).small) (either_open a b)

    -- what stands at the other end of one of them
    joined_end : (k mate : ℕ) (e : PathEnd) → (k < 64 → (a < 64) ⊎ (b < 64)) → (64 ≤ k → e.chambers ≡ 0) → (k < 64 → e ≡ path_end t mate (joined_class a b))
        → {z : ℕ} → IsTrue (old z).is_capped ↔ (64 ≤ k) → (e.chambers ≡ 0) ⊎ ((IsTrue (old z).is_capped → ⊥) × IsJoined old x y v mate e)
    joined_end k mate e low gone is kind = ⊎_elim
        (λ below. inr (
          λ no. let high = kind.0 no in absurd (omega (arith, below, high)),
          subst (IsJoined old x y v mate) (sym (is below)) (record { chambers = joined_together; share = sym (share.goes_on (low below)); other = refl; capped = capped }),
        ))
        (λ high. inl (gone high))
        (cases_lt k 64)

    -- what stands at the ends then
    pub are_joined : (n i e d : PathEnd) → n.chambers ≡ 0 → i.chambers ≡ 0 → (64 ≤ a → e.chambers ≡ 0) → (a < 64 → e ≡ path_end t l (joined_class a b))
        → (64 ≤ b → d.chambers ≡ 0) → (b < 64 → d ≡ path_end t m (joined_class a b)) → AreJoined old (connected old x y m l n i e d) x y v
    are_joined n i e d none nor gone is lost other =
        joined_put old x y m l v n i e d (end_other t old two.one) (end_other t old two.other) none nor
        (joined_end a l e (λ low. inl low) gone is {z = x} (end_capped t old two.one))
        (joined_end b m d (λ low. inr low) lost other {z = y} (end_capped t old two.other))

    pub ends_connected : (n i e d : PathEnd) → n.chambers ≡ 0 → i.chambers ≡ 0 → (64 ≤ a → e.chambers ≡ 0) → (a < 64 → e ≡ path_end t l (joined_class a b))
        → (64 ≤ b → d.chambers ≡ 0) → (b < 64 → d ≡ path_end t m (joined_class a b))
        → more + (class_weight t a + class_weight t b) ≡ total + (a % 64 + b % 64) * v → AreEndsOf t.request P test t.pair (connected old x y m l n i e d) more
    ends_connected n i e d none nor gone is lost other sum =
        let all : ((old x).chambers + (old y).chambers) * v ≡ (a % 64 + b % 64) * v = ap (λ k. k * v) (sym joined_together ∙ joined_both.chambers) in
        let was = end_weight t old two.one in
        let had = end_weight t old two.other in
        paths_linked t.request P test t.pair old (connected old x y m l n i e d) total more are x y v ends_link right_connected small_connected
        (are_joined n i e d none nor gone is lost other)
        (omega (arith, sum, was, had, all))
