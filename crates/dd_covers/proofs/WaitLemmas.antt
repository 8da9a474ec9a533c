-- Sides wait, and the first of them that is uneven is the next join.
use Rattle.std.proofs.Common.{◌≡◌, ℕ, zero, suc, ◌+◌, ◌-◌, ◌<◌, ◌≤◌, ◌⊎◌, Bool, true, false, List, [], ◌∷◌, ◌++◌, length, map, get_or, set, replicate, refl, sym, ap, ◌∙◌, subst, inl, inr, ⊎_elim, nat_cmp, arith}
use Rattle.std.proofs.lemmas.Bool.{cases_lt, cases_eq}
use Rattle.std.proofs.lemmas.List.{get_or-set_same, get_or-set_other, get_or-replicate, get_or_default, get_or-map, length-map, map-set, map-append}
use Rattle.std.proofs.lemmas.List.Elements.{Contains-get_or, Contains-push, Contains-push_cases, Contains-append_left, Contains-append_right, Contains-append_cases}
use Rattle.std.proofs.lemmas.List.Sorted.{Contains-permutation, IsPermutation-sym, le_from_greatest}
use Rattle.std.specs.BinaryHeap.{IsHeap, IsUpperBound}
use Rattle.std.specs.List.{Contains}
use Rattle.std.specs.List.Sorted.{IsPermutation}
use Rattle.std.specs.declared.vec.Vec.{Vec}
use Rattle.dd_model.proofs.Lists.{Contains-none, Contains-head, Contains-later, Contains-cases}
use Rattle.dd_covers.specs.Joins.{either, flag, new_end, IsEven, IsNext}
use Rattle.dd_covers.specs.SideLists.{AreAscending}
use Rattle.dd_covers.specs.Waiting.{IsSideBefore, IsNoSide, IsEndOf, AreAtCells, AreWaiting, places}
use Rattle.dd_covers.specs.declared.join.Join.{Join}
use Rattle.dd_covers.specs.declared.side.Side.{Side}
use Rattle.dd_covers.proofs.JoinLemmas.{next_found}

-- ## Sides at cells

-- one more side stands at a cell
abbrev pub IsNoted : ℕ → ℕ → (ℕ → List ℕ) → (ℕ → List ℕ) → Type 0
IsNoted n k old new = (m : ℕ) → (m ≡ n → new m ≡ old m ++ k ∷ []) × ((m ≡ n → ⊥) → new m ≡ old m)

module _ (n k : ℕ) (old new : ℕ → List ℕ) (noted : IsNoted n k old new) where
  noted_kept : (m j : ℕ) → Contains (old m) j → Contains (new m) j
  noted_kept m j here =
      ⊎_elim
      (λ e. subst (λ xs. Contains xs j) (sym ((noted m).0 e)) (Contains-append_left (old m) (k ∷ []) j here))
      (λ o. subst (λ xs. Contains xs j) (sym ((noted m).1 o)) here)
      (cases_eq m n)

  noted_own : Contains (new n) k
  noted_own = subst (λ xs. Contains xs k) (sym ((noted n).0 refl)) (Contains-push (old n) k)

  noted_cases : (m j : ℕ) → Contains (new m) j → Contains (old m) j ⊎ (k ≡ j)
  noted_cases m j here =
      ⊎_elim
      (λ e. Contains-push_cases (old m) k j (subst (λ xs. Contains xs j) ((noted m).0 e) here))
      (λ o. inl (subst (λ xs. Contains xs j) ((noted m).1 o) here))
      (cases_eq m n)

one_side : (sides : List Side) (q r : ℕ) (x y : Side) → q ≡ r → q < length sides → get_or sides q x ≡ x → get_or sides r y ≡ y → y ≡ x
one_side sides q r x y e inside at own = sym own ∙ ap (λ p. get_or sides p y) (sym e) ∙ get_or_default sides q y x inside ∙ at

pub noted_both : (sides : List Side) (done k : ℕ) (x : Side) (old middle new : ℕ → List ℕ) → done + 1 + k ≡ length sides → get_or sides done x ≡ x
    → IsNoted x.from k old middle → IsNoted x.to k middle new → AreAtCells sides done old → AreAtCells sides (done + 1) new
noted_both sides done k x old middle new place at one two are = record {
  inside = λ n j here. ⊎_elim
      (λ mid. ⊎_elim (λ first. are.inside n j first) (λ e. omega arith) (noted_cases x.from k old middle one n j mid))
      (λ e. omega arith)
      (noted_cases x.to k middle new two n j here);
  all = λ n j q y low own stands end. ⊎_elim
      (λ before. noted_kept x.to k middle new two n j (noted_kept x.from k old middle one n j (are.all n j q y before own stands end)))
      (λ last.
      let same = one_side sides done q x y (omega arith) (omega arith) at stands in
      let is : k ≡ j = omega arith in
      subst (Contains (new n)) is (⊎_elim
      (λ e. noted_kept x.to k middle new two n k (subst (λ m. Contains (middle m) k) (ap (λ (z : Side). z.from) (sym same) ∙ e) (noted_own x.from k old middle one)))
      (λ e. subst (λ m. Contains (new m) k) (ap (λ (z : Side). z.to) (sym same) ∙ e) (noted_own x.to k middle new two))
      end))
      (cases_lt q done);
}

pub none_noted : (sides : List Side) (at : ℕ → List ℕ) → ((n : ℕ) → at n ≡ []) → AreAtCells sides 0 at
none_noted sides at none = record {
  inside = λ n k here. absurd (Contains-none k (subst (λ xs. Contains xs k) (none n) here));
  all = λ n k q x low own stands end. absurd (omega arith);
}

pub items_at : {A : Type 0} (at : List (Vec ℕ A)) (n : ℕ) (w d : Vec ℕ A) → n < length at → w ≡ get_or at n d → w.items ≡ places at n
items_at {A} at n w d inside was =
    let f : Vec ℕ A → List ℕ = λ u. u.items in
    ap f was ∙ sym (get_or-map f at n d [] inside)

pub noted_at : {A : Type 0} (at : List (Vec ℕ A)) (n k : ℕ) (v w d : Vec ℕ A) → n < length at → w ≡ get_or at n d → v.items ≡ w.items ++ k ∷ [] → IsNoted n k (places at) (places (set at n v))
noted_at {A} at n k v w d inside was items m =
    let f : Vec ℕ A → List ℕ = λ u. u.items in
    let long = length-map at f in
    let own = items_at at n w d inside was in
    let is : map f (set at n v) ≡ set (map f at) n (f v) = map-set f at n v in (
      λ e. ap (λ xs. get_or xs m []) is ∙ ap (λ r. get_or (set (map f at) n (f v)) r []) e ∙ get_or-set_same (map f at) n (f v) [] (omega arith)
          ∙ items ∙ ap (λ xs. xs ++ k ∷ []) (own ∙ ap (places at) (sym e)),
      λ o. ap (λ xs. get_or xs m []) is ∙ get_or-set_other (map f at) n m (f v) [] o,
    )

empty_pushed : (xs : List (List ℕ)) → ((n : ℕ) → get_or xs n [] ≡ []) → (n : ℕ) → get_or (xs ++ [] ∷ []) n [] ≡ []
empty_pushed [] none zero = refl
empty_pushed [] none (suc n) = refl
empty_pushed (x ∷ xs) none zero = none 0
empty_pushed (x ∷ xs) none (suc n) = empty_pushed xs (λ m. none (suc m)) n

pub none_pushed : {A : Type 0} (at : List (Vec ℕ A)) (v : Vec ℕ A) → v.items ≡ [] → ((n : ℕ) → places at n ≡ []) → (n : ℕ) → places (at ++ v ∷ []) n ≡ []
none_pushed {A} at v empty none n =
    let f : Vec ℕ A → List ℕ = λ u. u.items in
    ap (λ xs. get_or xs n []) (map-append f at (v ∷ []) ∙ ap (λ xs. map f at ++ xs ∷ []) empty) ∙ empty_pushed (map f at) none n

-- ## The next side

pub popped_low : (sides : List Side) (reached : List Bool) (old new : List ℕ) (k : ℕ) → AreWaiting sides reached old IsNoSide → IsPermutation old (k ∷ new) → k < length sides
popped_low sides reached old new k are moved = are.inside k (Contains-permutation (k ∷ new) old k (IsPermutation-sym old (k ∷ new) moved) (Contains-head k new))

-- the side with k sides after it
pub side_before : (sides : List Side) (k : ℕ) (d : Side) → k < length sides → IsSideBefore sides k (get_or sides (length sides - 1 - k) d)
side_before sides k d inside = (length sides - 1 - k, omega arith, get_or_default sides (length sides - 1 - k) _ d (omega arith))

pub side_listed : (sides : List Side) (k : ℕ) (d : Side) → k < length sides → Contains sides (get_or sides (length sides - 1 - k) d)
side_listed sides k d inside = Contains-get_or sides (length sides - 1 - k) d (omega arith)

pub popped : (sides : List Side) (reached : List Bool) (old new : List ℕ) (k : ℕ) (x : Side) → IsSideBefore sides k x → AreWaiting sides reached old IsNoSide → IsPermutation old (k ∷ new) → IsHeap nat_cmp new
    → AreWaiting sides reached new (λ y. y ≡ x)
popped sides reached old new k x at are moved order = record {
  order = order;
  inside = λ j here. are.inside j (Contains-permutation (k ∷ new) old j (IsPermutation-sym old (k ∷ new) moved) (Contains-later k j new here));
  uneven = λ j y own. ⊎_elim
      (λ even. inl even)
      (λ more. ⊎_elim
      (λ waits. ⊎_elim
      (λ same. let p = own.1 in let q = at.1 in inr (inr (one_side sides at.0 own.0 x y (omega arith) (omega arith) at.2 own.2)))
      (λ later. inr (inl later))
      (Contains-cases k j new (Contains-permutation old (k ∷ new) j moved waits)))
      (λ none. absurd none)
      more)
      (are.uneven j y own);
}

pub popped_even : (sides : List Side) (reached : List Bool) (waiting : List ℕ) (x : Side) → AreWaiting sides reached waiting (λ y. y ≡ x) → IsEven reached x → AreWaiting sides reached waiting IsNoSide
popped_even sides reached waiting x are even = record {
  order = are.order;
  inside = are.inside;
  uneven = λ j y own. ⊎_elim
      (λ e. inl e)
      (λ more. ⊎_elim (λ waits. inr (inl waits)) (λ same. inl (subst (IsEven reached) (sym same) even)) more)
      (are.uneven j y own);
}

pub popped_next : (sides : List Side) (reached : List Bool) (waiting : List ℕ) (k : ℕ) (x : Side) → (at : IsSideBefore sides k x) → AreAscending sides → AreWaiting sides reached waiting IsNoSide → IsUpperBound nat_cmp k waiting
    → (flag reached x.from ≡ flag reached x.to → ⊥) → IsNext sides reached (record { side = x; out = flag reached x.to })
popped_next sides reached waiting k x at ascending are greatest differ =
    let place = at.1 in
    next_found sides reached at.0 x (omega arith) at.2 ascending
    (λ q y low own.
    let j = length sides - (q + 1) in
    ⊎_elim
    (λ even. even)
    (λ more. ⊎_elim
    (λ waits.
    let least = subst (λ z. z ≤ k) waits.2 (le_from_greatest k waiting greatest waits.0 j waits.1) in
    absurd (omega arith))
    (λ none. absurd none)
    more)
    (are.uneven j y (q, omega arith, own)))
    differ

pub all_even : (sides : List Side) (reached : List Bool) (waiting : List ℕ) → length waiting ≡ 0 → AreWaiting sides reached waiting IsNoSide → (x : Side) → Contains sides x → IsEven reached x
all_even sides reached waiting none are x here =
    let inside = here.1 in
    ⊎_elim
    (λ even. even)
    (λ more. ⊎_elim (λ waits. let low = waits.1 in absurd (omega arith)) (λ no_side. absurd no_side) more)
    (are.uneven (length sides - (here.0 + 1)) x (here.0, omega arith, here.2))

-- ## One cell more

is_end : (n : ℕ) (y : Side) → IsEndOf n y ⊎ (IsEndOf n y → ⊥)
is_end n y =
    ⊎_elim
    (λ e. inl (inl e))
    (λ from. ⊎_elim (λ e. inl (inr e)) (λ to. inr (λ end. ⊎_elim from to end)) (cases_eq y.to n))
    (cases_eq y.from n)

pub end_of_join : (j : Join) (n : ℕ) → n ≡ new_end j → (y : Side) → y ≡ j.side → IsEndOf n y
end_of_join j n e y same = subst (IsEndOf n) (sym same) (subst (λ m. IsEndOf m j.side) (sym e) (one j.out)) where
  one : (out : Bool) → IsEndOf (either out j.side.from j.side.to) j.side
  one true = inl refl
  one false = inr refl

pub waiting_more : (sides : List Side) (reached : List Bool) (n : ℕ) (old new : List ℕ) (at : ℕ → List ℕ) (excepted : Side → Type 0) → ((y : Side) → excepted y → IsEndOf n y)
    → AreWaiting sides reached old excepted → AreAtCells sides (length sides) at → IsPermutation (old ++ at n) new → (IsHeap nat_cmp old → IsHeap nat_cmp new)
    → AreWaiting sides (set reached n true) new IsNoSide
waiting_more sides reached n old new at excepted ends are cells moved order = record {
  order = order are.order;
  inside = λ j here. ⊎_elim (are.inside j) (cells.inside n j) (Contains-append_cases old (at n) j (Contains-permutation new (old ++ at n) j (IsPermutation-sym (old ++ at n) new moved) here));
  uneven = λ j y own. ⊎_elim
      (λ end. inr (inl (Contains-permutation (old ++ at n) new j moved (Contains-append_right old (at n) j (let e = own.1 in cells.all n j own.0 y (omega arith) own.1 own.2 end)))))
      (λ away. ⊎_elim
      (λ even. inl (get_or-set_other reached n y.from true false (λ e. away (inl e)) ∙ even ∙ sym (get_or-set_other reached n y.to true false (λ e. away (inr e)))))
      (λ more. ⊎_elim
      (λ waits. inr (inl (Contains-permutation (old ++ at n) new j moved (Contains-append_left old (at n) j waits))))
      (λ out. absurd (away (ends y out)))
      more)
      (are.uneven j y own))
      (is_end n y);
}

-- where no cell is reached nothing waits
pub none_waits : (sides : List Side) (n : ℕ) (waiting : List ℕ) → ((x : Side) → Contains sides x → (x.from < n) × (x.to < n)) → waiting ≡ [] → IsHeap nat_cmp waiting → AreWaiting sides (replicate n false) waiting IsNoSide
none_waits sides n waiting ends none order = record {
  order = order;
  inside = λ k here. absurd (Contains-none k (subst (λ xs. Contains xs k) none here));
  uneven = λ k y own.
      let low = ends y (own.0, (let e = own.1 in omega arith), own.2) in
      inl (get_or-replicate n y.from false false low.0 ∙ sym (get_or-replicate n y.to false false low.1));
}
