-- The least double among neighbors, one pair more at a time.
use Rattle.std.proofs.Common.{◌≡◌, ◌⊎◌, ℕ, suc, ◌+◌, ◌-◌, ◌<◌, ◌≤◌, List, Option, Some, None, MatchOption, length, get_or, refl, sym, ap, ◌∙◌, subst, inl, inr, ⊎_elim, arith}
use Rattle.std.proofs.lemmas.Bool.{cases_lt}
use Rattle.std.proofs.lemmas.List.{get_or_default}
use Rattle.std.specs.declared.cmp.Ordering.TheVariants.{Equal}
use Rattle.dd_model.specs.Code.{code_cmp}
use Rattle.dd_model.proofs.Options.{some_same}
use Rattle.dd_shard.specs.Merging.{IsNoLater}
use Rattle.dd_shard.specs.Doubles.{HasDouble, AreApartBelow, IsLeastDouble, IsPlaceOf, IsNotAfter, IsEarliest}
use Rattle.dd_shard.specs.declared.member.Member.{Member}
use Rattle.dd_shard.specs.declared.member.ListPlace.{ListPlace}

-- what the loop keeps
abbrev pub IsLeast : List Member → ℕ → Option ListPlace → Type 0
IsLeast ms high least = MatchOption least (AreApartBelow ms high) (IsLeastDouble ms high)

no_later_trans : (p q r : ListPlace) → IsNotAfter p q → IsNotAfter q r → IsNotAfter p r
no_later_trans p q r (inl a) (inl b) = inl (omega arith)
no_later_trans p q r (inl a) (inr b) = inl (let e = b.0 in omega arith)
no_later_trans p q r (inr a) (inl b) = inl (let e = a.0 in omega arith)
no_later_trans p q r (inr a) (inr b) = inr (a.0 ∙ b.0, let x = a.1 in let y = b.1 in omega arith)

-- the pairs up to the next place are those before it and one more
last_pair : (ms : List Member) (high : ℕ) (P : ℕ → Member → Type 0) → ((k : ℕ) (d : Member) → suc k < suc high → P k d) → ((d : Member) → P high d)
    → (k : ℕ) (d : Member) → suc k < suc (suc high) → P k d
last_pair ms high P before here k d low =
    ⊎_elim (λ less. before k d (omega arith)) (λ more. let same : high ≡ k = omega arith in subst (λ j. P j d) same (here d)) (cases_lt k high)

pub apart_more : (ms : List Member) (high : ℕ) (least : Option ListPlace) → IsLeast ms (suc high) least → ((d : Member) → HasDouble ms high d → ⊥) → IsLeast ms (suc (suc high)) least
apart_more ms high None apart here = last_pair ms high (λ k d. HasDouble ms k d → ⊥) apart here
apart_more ms high (Some p) is here = record {
  at = is.at;
  within = is.within;
  same = is.same;
  is = is.is;
  least = last_pair ms high (λ k d. HasDouble ms k d → IsNoLater p.file p.number (get_or ms (suc k) d).file (get_or ms (suc k) d).number) is.least (λ d double. absurd (here d double));
}

abbrev place_of : Member → ListPlace
place_of m = record { file = m.file; number = m.number }

double_more_from : (ms : List Member) (high : ℕ) (least : Option ListPlace) (p q : ListPlace) (m : Member) → IsLeast ms (suc high) least → suc high < length ms
    → ((d : Member) → (get_or ms high d).symbol ≡ (get_or ms (suc high) d).symbol) → ((d : Member) → get_or ms (suc high) d ≡ m) → IsPlaceOf m p → IsEarliest least p q
    → IsLeast ms (suc (suc high)) (Some q)
double_more_from ms high least p q m is within same here place first = go least is first.one first.old
  where
    at_last : (d : Member) → IsNoLater q.file q.number (get_or ms (suc high) d).file (get_or ms (suc high) d).number
    at_last d =
        let file : p.file ≡ (get_or ms (suc high) d).file = sym place.0 ∙ ap (λ (x : Member). x.file) (sym (here d)) in
        let number : p.number ≡ (get_or ms (suc high) d).number = sym place.1 ∙ ap (λ (x : Member). x.number) (sym (here d)) in
        subst (λ n. IsNoLater q.file q.number (get_or ms (suc high) d).file n) number (subst (λ f. IsNoLater q.file q.number f p.number) file first.new)

    own : q ≡ p → ((k : ℕ) (d : Member) → suc k < suc high → HasDouble ms k d → IsNoLater q.file q.number (get_or ms (suc k) d).file (get_or ms (suc k) d).number) → IsLeastDouble ms (suc (suc high)) q
    own e before = record {
      at = high;
      within = within;
      same = same;
      is = λ d. (ap (λ (x : Member). x.file) (here d) ∙ place.0 ∙ ap (λ (x : ListPlace). x.file) (sym e), ap (λ (x : Member). x.number) (here d) ∙ place.1 ∙ ap (λ (x : ListPlace). x.number) (sym e));
      least = last_pair ms high (λ k d. HasDouble ms k d → IsNoLater q.file q.number (get_or ms (suc k) d).file (get_or ms (suc k) d).number) before (λ d double. at_last d);
    }

    none_some : (r : ListPlace) → None ≡ Some r → ⊥
    none_some r e = cc

    go : (o : Option ListPlace) → IsLeast ms (suc high) o → (o ≡ Some q) ⊎ (q ≡ p) → ((r : ListPlace) → o ≡ Some r → IsNotAfter q r) → IsLeastDouble ms (suc (suc high)) q
    go None apart (inl e) old = absurd (none_some q e)
    go None apart (inr e) old = own e (λ k d low double. absurd (apart k d low double))
    go (Some r) is (inr e) old = own e (λ k d low double.
        no_later_trans q r (place_of (get_or ms (suc k) d)) (old r refl) (is.least k d low double))
    go (Some r) is (inl e) old =
        let same_place : r ≡ q = some_same r q e in
        let kept : IsLeastDouble ms (suc high) q = subst (IsLeastDouble ms (suc high)) same_place is in
        record {
          at = kept.at;
          within = kept.within;
          same = kept.same;
          is = kept.is;
          least = last_pair ms high (λ k d. HasDouble ms k d → IsNoLater q.file q.number (get_or ms (suc k) d).file (get_or ms (suc k) d).number) kept.least (λ d double. at_last d);
        }

-- ## What the loop finds

-- members at a place and before it, which is from one on
neighbors : (ms : List Member) (k : ℕ) (a b : Member) (P : Member → Member → Type 0) → k < length ms → 1 ≤ k → a ≡ get_or ms (k - 1) a → b ≡ get_or ms k b → P a b
    → (d : Member) → P (get_or ms (k - 1) d) (get_or ms (suc (k - 1)) d)
neighbors ms k a b P low from is it holds d =
    let one : a ≡ get_or ms (k - 1) d = is ∙ get_or_default ms (k - 1) a d (omega arith) in
    let next : k ≡ suc (k - 1) = omega arith in
    let other : b ≡ get_or ms (suc (k - 1)) d = it ∙ get_or_default ms k b d low ∙ ap (λ j. get_or ms j d) next in
    subst (P (get_or ms (k - 1) d)) other (subst (λ m. P m b) one holds)

pub apart_here : (ms : List Member) (k : ℕ) (a b : Member) (least : Option ListPlace) → k < length ms → 1 ≤ k → a ≡ get_or ms (k - 1) a → b ≡ get_or ms k b
    → (code_cmp a.symbol b.symbol ≡ Equal → ⊥) → IsLeast ms k least → IsLeast ms (k + 1) least
apart_here ms k a b least low from is it none h =
    let now : k ≡ suc (k - 1) = omega arith in
    let next : suc (suc (k - 1)) ≡ k + 1 = omega arith in
    subst (λ j. IsLeast ms j least) next
    (apart_more ms (k - 1) least (subst (λ j. IsLeast ms j least) now h)
    (neighbors ms k a b (λ x y. code_cmp x.symbol y.symbol ≡ Equal → ⊥) low from is it none))

pub double_here : (ms : List Member) (k : ℕ) (a b : Member) (least : Option ListPlace) (p q : ListPlace) → k < length ms → 1 ≤ k → a ≡ get_or ms (k - 1) a → b ≡ get_or ms k b
    → a.symbol ≡ b.symbol → IsPlaceOf b p → IsEarliest least p q → IsLeast ms k least → IsLeast ms (k + 1) (Some q)
double_here ms k a b least p q low from is it same place first h =
    let now : k ≡ suc (k - 1) = omega arith in
    let next : suc (suc (k - 1)) ≡ k + 1 = omega arith in
    subst (λ j. IsLeast ms j (Some q)) next
    (double_more_from ms (k - 1) least p q b (subst (λ j. IsLeast ms j least) now h) (omega arith)
    (neighbors ms k a b (λ x y. x.symbol ≡ y.symbol) low from is it same)
    (neighbors ms k a b (λ x y. y ≡ b) low from is it refl) place first)
