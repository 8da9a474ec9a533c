-- The classes of paths that were joined or capped.
use Rattle.std.proofs.Common.{◌≡◌, ◌≢◌, ℕ, ◌+◌, ◌-◌, ◌*◌, ◌/◌, ◌%◌, ◌<◌, ◌≤◌, ◌⊎◌, List, get_or, length, length-set, set, refl, sym, ap, ◌∙◌, subst, inl, inr, ⊎_elim, arith}
use Rattle.std.proofs.lemmas.Bool.{cases_lt, cases_eq, le-leb, lt-leb, eq-eqb, ne_eqb}
use Rattle.std.proofs.Math.Nat.{div-zero, mul-div_cancel_left, mul-le-mul}
use Rattle.std.proofs.lemmas.List.{get_or-set_same, get_or-set_other}
use Rattle.std.specs.Prelude.{cond, nat_eq, leb}
use Rattle.dd_model.specs.declared.pair.Pair.{Pair}
use Rattle.dd_model.specs.declared.requests.Request.{Request}
use Rattle.dd_branch_bounds.specs.Units.{share_unit}
use Rattle.dd_branch_bounds.specs.Changes.{IsShareFrom}
use Rattle.dd_branch_bounds.specs.Classes.{joined_class, turns_of, share_in, IsClassShare, IsClassWeight, AreClassWeights, IsWholeShare, IsClosedShare, IsCappedShare, IsJoinedShare}
use Rattle.dd_branch_bounds.specs.declared.class_shares.ClassShares.{ClassShares}

-- ## Tests of a class

pub turns_capped : (n c : ℕ) → 64 ≤ c → turns_of n c ≡ c % 64
turns_capped n c high = ap (λ t. cond t (c % 64) (cond (nat_eq c n) (cond (nat_eq (n % 2) 1) n ((n + 1) / 2)) ((c + 1) / 2))) (le-leb 64 c high)

-- half of the chambers, or all of them where these are all of a table of odd size
pub turns_open : (n c : ℕ) → c < 64 → (turns_of n c ≡ (c + 1) / 2) ⊎ ((c ≡ n) × ((n % 2 ≡ 1) × (turns_of n c ≡ c)))
turns_open n c low = ⊎_elim
    (λ (all : c ≡ n). ⊎_elim
    (λ (odd : n % 2 ≡ 1). inr (all, (odd, by_class ∙ whole all ∙ ap (λ t. cond t n ((n + 1) / 2)) (eq-eqb (n % 2) 1 odd) ∙ sym all)))
    (λ (even : n % 2 ≢ 1). inl (by_class ∙ whole all ∙ ap (λ t. cond t n ((n + 1) / 2)) (ne_eqb (n % 2) 1 even) ∙ ap (λ m. (m + 1) / 2) (sym all)))
    (cases_eq (n % 2) 1))
    (λ (other : c ≢ n). inl (by_class ∙ ap (λ t. cond t (cond (nat_eq (n % 2) 1) n ((n + 1) / 2)) ((c + 1) / 2)) (ne_eqb c n other)))
    (cases_eq c n)
  where
    by_class : turns_of n c ≡ cond (nat_eq c n) (cond (nat_eq (n % 2) 1) n ((n + 1) / 2)) ((c + 1) / 2)
    by_class = ap (λ t. cond t (c % 64) (cond (nat_eq c n) (cond (nat_eq (n % 2) 1) n ((n + 1) / 2)) ((c + 1) / 2))) (lt-leb 64 c low)

    whole : c ≡ n → cond (nat_eq c n) (cond (nat_eq (n % 2) 1) n ((n + 1) / 2)) ((c + 1) / 2) ≡ cond (nat_eq (n % 2) 1) n ((n + 1) / 2)
    whole all = ap (λ t. cond t (cond (nat_eq (n % 2) 1) n ((n + 1) / 2)) ((c + 1) / 2)) (eq-eqb c n all)

-- ## The class of two paths in one

pub record IsClassOfBoth (a b c : ℕ) : Type 0 where
  pub chambers : c % 64 ≡ a % 64 + b % 64
  pub small : c < 128
  pub capped : 64 ≤ c → (64 ≤ a) ⊎ (64 ≤ b)
  pub stays : (64 ≤ a) ⊎ (64 ≤ b) → 64 ≤ c

both_low : (a b : ℕ) → a % 64 + b % 64 < 64 → a + b < 128 → IsClassOfBoth a b (a + b)
both_low a b few low = record {
  chambers = omega (arith, few, low);
  small = low;
  capped = λ high. ⊎_elim
      (λ under. inr (omega (arith, few, high, under)))
      (λ over. inl over)
      (cases_lt a 64);
  stays = λ either. ⊎_elim (λ high. omega (arith, high)) (λ high. omega (arith, high)) either;
}

both_high : (a b : ℕ) → a < 128 → b < 128 → a % 64 + b % 64 < 64 → 128 ≤ a + b → IsClassOfBoth a b (a + b - 64)
both_high a b small also few high = record {
  chambers = omega (arith, few, high, small, also);
  small = omega (arith, few, high, small, also);
  capped = λ _. inl (omega (arith, few, high, small, also));
  stays = λ _. omega (arith, high);
}

joined_low : (a b : ℕ) → a + b < 128 → joined_class a b ≡ a + b
joined_low a b low = ap (λ t. cond t (a + b - 64) (a + b)) (lt-leb 128 (a + b) low)

joined_high : (a b : ℕ) → 128 ≤ a + b → joined_class a b ≡ a + b - 64
joined_high a b high = ap (λ t. cond t (a + b - 64) (a + b)) (le-leb 128 (a + b) high)

pub class_of_both : (a b : ℕ) → a < 128 → b < 128 → a % 64 + b % 64 < 64 → IsClassOfBoth a b (joined_class a b)
class_of_both a b small also few = ⊎_elim
    (λ low. subst (IsClassOfBoth a b) (sym (joined_low a b low)) (both_low a b few low))
    (λ high. subst (IsClassOfBoth a b) (sym (joined_high a b high)) (both_high a b small also few high))
    (cases_lt (a + b) 128)

-- ## Shares and weights by class

-- the weight is made of the share
pub class_weight_of : (q : Request) (p : Pair) (n c v : ℕ) → IsClassShare q p n c v → IsClassWeight q p n c (c % 64 * v)
class_weight_of q p n c v is = ⊎_elim none some (cases_eq (c % 64) 0)
  where
    none : c % 64 ≡ 0 → IsClassWeight q p n c (c % 64 * v)
    none is_none =
        let product : c % 64 * v ≡ 0 * v = ap (λ n. n * v) is_none in
        let nothing : c % 64 * v ≡ 0 = omega (arith, product) in
        let share : c % 64 * v / (c % 64) ≡ 0 = ap (λ n. c % 64 * v / n) is_none ∙ div-zero (c % 64 * v) in
        record {
          told = subst (IsClassShare q p n c) (sym share) (record {
            with_ends = λ low any. absurd (omega (arith, any, is_none));
            whole = λ turns any few at. absurd (omega (arith, any, few, at, is_none));
            small = omega arith;
          });
          whole = nothing ∙ sym (ap (λ n. c % 64 * n) share ∙ ap (λ n. n * 0) is_none);
        }

    some : c % 64 ≢ 0 → IsClassWeight q p n c (c % 64 * v)
    some any =
        let share : c % 64 * v / (c % 64) ≡ v = mul-div_cancel_left v (omega (arith, any)) in
        record { told = subst (IsClassShare q p n c) (sym share) is; whole = ap (λ n. c % 64 * n) (sym share) }

-- paths that have all chambers of neither of two sizes have the same weights for both
turns_elsewhere : (n c : ℕ) → c ≢ n → turns_of n c ≡ cond (leb 64 c) (c % 64) ((c + 1) / 2)
turns_elsewhere n c other = ap (λ t. cond (leb 64 c) (c % 64) (cond t (cond (nat_eq (n % 2) 1) n ((n + 1) / 2)) ((c + 1) / 2))) (ne_eqb c n other)

weight_elsewhere : (q : Request) (p : Pair) (n m c w : ℕ) → c ≢ n → c ≢ m → IsClassWeight q p n c w → IsClassWeight q p m c w
weight_elsewhere q p n m c w here there is = record {
  told = record {
    with_ends = λ low some. subst (λ k. IsShareFrom q p k (w / (c % 64))) (turns_elsewhere n c here ∙ sym (turns_elsewhere m c there)) (is.told.with_ends low some);
    whole = is.told.whole;
    small = is.told.small;
  };
  whole = is.whole;
}

pub weights_for_size : (q : Request) (p : Pair) (n m a b : ℕ) (weights : List ℕ) → AreClassWeights q p n weights → n < length weights → m < length weights
    → IsClassWeight q p m n a → IsClassWeight q p m m b → AreClassWeights q p m (set (set weights n a) m b)
weights_for_size q p n m a b weights are room also first second = record {
  each = λ c low. ⊎_elim
      (λ (at : c ≡ m).
      subst (λ k. IsClassWeight q p m k (get_or (set (set weights n a) m b) k 0)) (sym at)
      (subst (IsClassWeight q p m m) (sym (get_or-set_same (set weights n a) m b 0 (let long = length-set weights n a in omega (arith, also, long)))) second))
      (λ (not_m : c ≢ m). subst (IsClassWeight q p m c) (sym (get_or-set_other (set weights n a) m c b 0 not_m)) (⊎_elim
      (λ (at : c ≡ n). subst (λ k. IsClassWeight q p m k (get_or (set weights n a) k 0)) (sym at) (subst (IsClassWeight q p m n) (sym (get_or-set_same weights n a 0 room)) first))
      (λ (not_n : c ≢ n). subst (IsClassWeight q p m c) (sym (get_or-set_other weights n c a 0 not_n)) (weight_elsewhere q p n m c (get_or weights c 0) not_n not_m (are.each c low)))
      (cases_eq c n)))
      (cases_eq c m);
}

-- the share of a whole cell
pub share_of_whole : (t : ClassShares) (turns : ℕ) → 1 ≤ turns → turns ≤ 36 → IsWholeShare t.request t.pair turns (share_in t.weights (128 + turns))
share_of_whole t turns low high = (t.are_told.each (128 + turns) (omega (arith, high))).told.whole turns low high refl

-- the weight at a place that stands for n chambers
pub weight_at : (t : ClassShares) (c n : ℕ) → c < 192 → c % 64 ≡ n → get_or t.weights c 0 ≡ n * share_in t.weights c
weight_at t c n low same = (t.are_told.each c low).whole ∙ ap (λ k. k * share_in t.weights c) same

-- that of a chain which both its ends make whole
pub chain_share : (t : ClassShares) (c : ℕ) → 64 ≤ c → c < 128 → IsClosedShare t.request t.pair c (share_in t.weights (c + 64))
chain_share t c high low = record {
  right = λ turns some few are. ⊎_elim
      (λ chain. let is = chain.1 in (t.are_told.each (c + 64) (omega (arith, low))).told.whole turns some few (omega (arith, is, high, low)))
      (λ cycle. let under = cycle.0 in absurd (omega (arith, under, high)))
      are;
  small = (t.are_told.each (c + 64) (omega (arith, low))).told.small;
}

pub capped_share : (t : ClassShares) (a : ℕ) → a < 128 → IsCappedShare t.request t.pair t.weights a (share_in t.weights (a + 64))
capped_share t a small = record {
  closed = λ high. chain_share t a high small;
  goes_on = λ low. ap (share_in t.weights) (omega (arith, low));
}

pub joined_share : (t : ClassShares) (a b : ℕ) → a < 128 → b < 128 → a % 64 + b % 64 < 64 → IsJoinedShare t.request t.pair t.weights a b (share_in t.weights (a + b))
joined_share t a b small also few = record {
  closed = λ high too.
      let is = joined_high a b (omega (arith, high, too)) in
      let back : joined_class a b + 64 ≡ a + b = omega (arith, is, high, too) in
      subst (λ k. IsClosedShare t.request t.pair (joined_class a b) (share_in t.weights k)) back
      (chain_share t (joined_class a b) (omega (arith, is, high, too)) (omega (arith, is, small, also, few)));
  goes_on = λ low. ap (share_in t.weights) (sym (joined_low a b (⊎_elim (λ one. omega (arith, one, also, few)) (λ other. omega (arith, other, small, few)) low)));
}

-- a path that has both ends open, and no others, is a cycle of half as many turns
pub cycle_share : (t : ClassShares) (c : ℕ) → c < 64 → c % 2 ≡ 0 → IsClosedShare t.request t.pair c (share_in t.weights (128 + c / 2))
cycle_share t c low even = record {
  right = λ turns some few are. ⊎_elim
      (λ chain. let over = chain.0 in absurd (omega (arith, over, low)))
      (λ cycle.
      let is = cycle.1 in
      let half : turns ≡ c / 2 = omega (arith, is, low, even) in
      subst (λ k. IsWholeShare t.request t.pair turns (share_in t.weights (128 + k))) half (share_of_whole t turns some few))
      are;
  small = (t.are_told.each (128 + c / 2) (omega (arith, low))).told.small;
}

-- the weight of few chambers is small
pub weight_small : (q : Request) (p : Pair) (n c k w : ℕ) → c % 64 ≤ k → IsClassWeight q p n c w → w ≤ k * share_unit
weight_small q p n c k w few is =
    let most : c % 64 * (w / (c % 64)) ≤ k * share_unit = mul-le-mul few is.told.small in
    let all = is.whole in
    omega (arith, most, all)
