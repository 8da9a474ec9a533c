-- Ascending lists, by neighbors, and the first symbol that is out of order.
use Rattle.std.proofs.Common.{◌≡◌, ◌⊎◌, ℕ, zero, suc, ◌+◌, ◌-◌, ◌<◌, ◌≤◌, Bool, false, List, [], ◌∷◌, length, take, get_or, refl, sym, ap, ◌∙◌, subst, inl, inr, arith}
use Rattle.std.proofs.lemmas.Bool.{cases_lt, cases_order}
use Rattle.std.proofs.lemmas.List.{get_or-map, get_or-take, get_or_default, length-map, length-take-le}
use Rattle.std.specs.Global.{Global}
use Rattle.std.specs.Ordering.{is_lt}
use Rattle.std.specs.declared.vec.Vec.{Vec}
use Rattle.std.specs.declared.cmp.Ordering.{Ordering}
use Rattle.std.specs.List.{AllByRecursion}
use Rattle.std.specs.declared.cmp.Ordering.TheVariants.{Less}
use Rattle.dd_model.specs.Symbol.{Symbol}
use Rattle.dd_model.specs.Code.{IsBelow, code_cmp}
use Rattle.dd_model.specs.Wanted.{IsAscending}
use Rattle.dd_model.proofs.Codes.{code_cmp_total}
use Rattle.dd_shard.specs.Merging.{IsNth, IsOutOfOrder, IsNoLater, IsFirst}
use Rattle.dd_shard.specs.Members.{IsFirstFall, lists_of}

all_below : (s t : Symbol) (ss : List Symbol) → IsBelow s t → AllByRecursion (IsBelow t) ss → AllByRecursion (IsBelow s) ss
all_below s t [] below all = tt
all_below s t (u ∷ ss) below all = (code_cmp_total.trans s t u below all.0, all_below s t ss below all.1)

pub ascending_more : (s t : Symbol) (ss : List Symbol) → IsBelow s t → IsAscending (t ∷ ss) → IsAscending (s ∷ t ∷ ss)
ascending_more s t ss below rest = ((below, all_below s t ss below rest.0), rest)

-- a list ascends whose neighbors do
pub ascending_by_neighbors : (ss : List Symbol) → ((k : ℕ) (d : Symbol) → suc k < length ss → IsBelow (get_or ss k d) (get_or ss (suc k) d)) → IsAscending ss
ascending_by_neighbors [] next = tt
ascending_by_neighbors (s ∷ []) next = (tt, tt)
ascending_by_neighbors (s ∷ t ∷ ss) next =
    ascending_more s t ss (next zero s (omega arith)) (ascending_by_neighbors (t ∷ ss) (λ k d low. next (suc k) d (omega arith)))

pub ascending_front : (ss : List Symbol) (high : ℕ) → ((k : ℕ) (d : Symbol) → suc k < high → suc k < length ss → IsBelow (get_or ss k d) (get_or ss (suc k) d)) → IsAscending (take high ss)
ascending_front ss zero next = tt
ascending_front [] (suc high) next = tt
ascending_front (s ∷ []) (suc zero) next = (tt, tt)
ascending_front (s ∷ []) (suc (suc high)) next = (tt, tt)
ascending_front (s ∷ t ∷ ss) (suc zero) next = (tt, tt)
ascending_front (s ∷ t ∷ ss) (suc (suc high)) next =
    ascending_more s t (take high ss) (next zero s (omega arith) (omega arith))
    (ascending_front (t ∷ ss) (suc high) (λ k d low within. next (suc k) d (omega arith) (omega arith)))

pub all_at : {A : Type 0} (P : A → Type 0) (xs : List A) (k : ℕ) (d : A) → AllByRecursion P xs → k < length xs → P (get_or xs k d)
all_at P [] k d all low = absurd (omega arith)
all_at P (x ∷ xs) zero d all low = all.0
all_at P (x ∷ xs) (suc k) d all low = all_at P xs k d all.1 (omega arith)

-- the neighbors of an ascending list
pub neighbors_ascend : (ss : List Symbol) (k : ℕ) (d : Symbol) → IsAscending ss → suc k < length ss → IsBelow (get_or ss k d) (get_or ss (suc k) d)
neighbors_ascend [] k d up low = absurd (omega arith)
neighbors_ascend (s ∷ []) k d up low = absurd (omega arith)
neighbors_ascend (s ∷ t ∷ ss) zero d up low = up.0.0
neighbors_ascend (s ∷ t ∷ ss) (suc k) d up low = neighbors_ascend (t ∷ ss) k d up.1 (omega arith)

-- ## The first symbol that is out of order

pub front_of : (ss : List Symbol) (k : ℕ) (d : Symbol) → suc k < length ss → (code_cmp (get_or ss k d) (get_or ss (suc k) d) ≡ Less → ⊥)
    → ((j : ℕ) (e : Symbol) → suc j < suc k → IsBelow (get_or ss j e) (get_or ss (suc j) e)) → IsFirstFall ss (suc k + 1)
front_of ss k d within not_less below = record {
  before = suc k;
  next = refl;
  one = get_or ss k d;
  is_one = record { place = k; number = omega arith; within = omega arith; is = get_or_default ss k (get_or ss k d) d (omega arith) };
  other = get_or ss (suc k) d;
  is_other = record { place = suc k; number = refl; within = within; is = get_or_default ss (suc k) (get_or ss (suc k) d) d within };
  not_after = not_less;
  ascending = ascending_front ss (suc k) (λ j e low inside. below j e low);
}

nth_next : (ss : List Symbol) (b n : ℕ) (s t : Symbol) → n ≡ b + 1 → IsNth ss b s → IsNth ss n t → IsAscending ss → IsBelow s t
nth_next ss b n s t e is it up =
    let place : it.place ≡ suc is.place = omega (arith, e, is.number, it.number) in
    let low : suc is.place < length ss = omega (arith, place, it.within) in
    let there : get_or ss (suc is.place) s ≡ t = get_or_default ss (suc is.place) s t low ∙ ap (λ k. get_or ss k t) (sym place) ∙ it.is in
    subst (IsBelow s) there (subst (λ z. IsBelow z (get_or ss (suc is.place) s)) is.is (neighbors_ascend ss is.place s up low))

nth_at : {A : Type 0} (xs : List A) (n : ℕ) (x y : A) → IsNth xs n x → IsNth xs n y → x ≡ y
nth_at xs n x y a b =
    let place : b.place ≡ a.place = omega (arith, a.number, b.number) in
    sym a.is ∙ get_or_default xs a.place x y a.within ∙ ap (λ k. get_or xs k y) (sym place) ∙ b.is

nth_take : (ss : List Symbol) (high n : ℕ) (s : Symbol) → high ≤ length ss → IsNth ss n s → n ≤ high → IsNth (take high ss) n s
nth_take ss high n s within is low = record {
  place = is.place;
  number = is.number;
  within = let len = length-take-le high ss within in omega (arith, len, is.number);
  is = get_or-take high ss is.place s (omega (arith, is.number)) ∙ is.is;
}

-- lists that ascend up to one with a fall
pub first_out_of_order : (lists : List (List Symbol)) (k n : ℕ) (list : List Symbol) → k < length lists → get_or lists k list ≡ list → AllByRecursion IsAscending (take k lists)
    → IsFirstFall list n → IsFirst (IsOutOfOrder lists) (k + 1) n
first_out_of_order lists k n list low here before fall = record {
  holds = record {
    list = list;
    is_list = record { place = k; number = refl; within = low; is = here };
    before = fall.before;
    next = fall.next;
    one = fall.one;
    is_one = fall.is_one;
    other = fall.other;
    is_other = fall.is_other;
    not_after = fall.not_after;
  };
  first = λ other m out. go other m out (cases_order (k + 1) other) (cases_lt m n);
}
  where
    go : (other m : ℕ) (out : IsOutOfOrder lists other m) → ((k + 1) ≡ other) ⊎ (((k + 1) < other) ⊎ (other < (k + 1))) → (m < n) ⊎ (n ≤ m) → IsNoLater (k + 1) n other m
    go other m out (inl same) (inr above) = inr (same, above)
    go other m out (inl same) (inl lower) =
        let list_is : out.list ≡ list = nth_at lists other out.list list out.is_list (record { place = k; number = sym same; within = low; is = here }) in
        let one = subst (λ l. IsNth l out.before out.one) list_is out.is_one in
        let two = subst (λ l. IsNth l m out.other) list_is out.is_other in
        let within : fall.before ≤ length list = omega (arith, fall.is_one.number, fall.is_one.within) in
        let first_part = nth_take list fall.before out.before out.one within one (omega (arith, out.next, fall.next)) in
        let second_part = nth_take list fall.before m out.other within two (omega (arith, fall.next)) in
        absurd (out.not_after (nth_next (take fall.before list) out.before m out.one out.other out.next first_part second_part fall.ascending))
    go other m out (inr (inl less)) lower = inl less
    go other m out (inr (inr more)) lower =
        let place = out.is_list in
        let early : place.place < k = omega (arith, place.number) in
        let up : IsAscending out.list = subst IsAscending (get_or-take k lists place.place out.list early ∙ place.is)
        (all_at IsAscending (take k lists) place.place out.list before (let len = length-take-le k lists (omega arith) in omega (arith, len))) in
        absurd (out.not_after (nth_next out.list out.before m out.one out.other out.next out.is_one out.is_other up))

-- no list is out of order that ascends
pub none_out_of_order : (lists : List (List Symbol)) (file n : ℕ) → AllByRecursion IsAscending lists → IsOutOfOrder lists file n → ⊥
none_out_of_order lists file n all out =
    let place = out.is_list in
    let up : IsAscending out.list = subst IsAscending place.is (all_at IsAscending lists place.place out.list all place.within) in
    out.not_after (nth_next out.list out.before n out.one out.other out.next out.is_one out.is_other up)

-- one list more
pub all_take_more : {A : Type 0} (P : A → Type 0) (xs : List A) (k : ℕ) (d : A) → k < length xs → AllByRecursion P (take k xs) → P (get_or xs k d) → AllByRecursion P (take (suc k) xs)
all_take_more P [] k d low all here = absurd (omega arith)
all_take_more P (x ∷ xs) zero d low all here = (here, tt)
all_take_more P (x ∷ xs) (suc k) d low all here = (all.0, all_take_more P xs k d (omega arith) all.1 here)

-- ## What the loops find

not_less : (o : Ordering) (less : Bool) → less ≡ is_lt o → less ≡ false → o ≡ Less → ⊥
not_less o less e f is = let one = e ∙ ap is_lt is in cc

pub fall_here : (ss : List Symbol) (k : ℕ) (one other : Symbol) (o : Ordering) (less : Bool) → 1 ≤ k → k < length ss → one ≡ get_or ss (k - 1) one → other ≡ get_or ss k other
    → o ≡ code_cmp one other → less ≡ is_lt o → less ≡ false → ((j : ℕ) (e : Symbol) → suc j < k → IsBelow (get_or ss j e) (get_or ss (suc j) e)) → IsFirstFall ss (k + 1)
fall_here ss k one other o less low within is it e f g below =
    let same : suc (k - 1) ≡ k = omega arith in
    let there : get_or ss (suc (k - 1)) one ≡ other = ap (λ j. get_or ss j one) same ∙ get_or_default ss k one other within ∙ sym it in
    subst (λ n. IsFirstFall ss (n + 1)) same
    (front_of ss (k - 1) one (omega arith)
    (λ lt. not_less o less f g (e ∙ ap (λ s. code_cmp s other) is ∙ ap (code_cmp (get_or ss (k - 1) one)) (sym there) ∙ lt))
    (λ j d before. below j d (omega arith)))

pub list_at : (vs : List (Vec Symbol Global)) (k : ℕ) (v : Vec Symbol Global) (d : List Symbol) → k < length vs → v ≡ get_or vs k v → get_or (lists_of vs) k d ≡ v.items
list_at vs k v d low is = get_or-map (λ (list : Vec Symbol Global). list.items) vs k v d low ∙ ap (λ (list : Vec Symbol Global). list.items) (sym is)

pub lists_length : (vs : List (Vec Symbol Global)) → length (lists_of vs) ≡ length vs
lists_length vs = length-map vs (λ (list : Vec Symbol Global). list.items)
