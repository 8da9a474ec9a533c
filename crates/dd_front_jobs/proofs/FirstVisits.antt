-- First-visit prefixes grow number by number.
use Rattle.std.proofs.Common.{◌≡◌, ℕ, zero, suc, ◌+◌, ◌-◌, ◌*◌, ◌/◌, ◌%◌, ◌<◌, ◌≤◌, List, [], ◌∷◌, ◌++◌, length, get_or, take, refl, sym, ap, ◌∙◌, subst, ⊎_elim, arith}
use Rattle.std.proofs.lemmas.Bool.{cases_lt}
use Rattle.std.proofs.lemmas.List.{get_or_append_left, get_or_push, length_push, take-append-le, take_at, take_more, get_or_default}
use Rattle.std.proofs.lemmas.List.Elements.{Contains-append_cases}
use Rattle.std.specs.List.{Contains}
use Rattle.dd_model.specs.declared.index.Index.{Index}
use Rattle.dd_model.specs.declared.index.Index.TheVariants.{Zero, One, Two}
use Rattle.dd_front_jobs.specs.Places.{place}
use Rattle.dd_front_jobs.specs.FirstVisit.{image_in, IsTold, greatest, IsFirstVisitPrefix, CanFollow}
use Rattle.dd_front_jobs.proofs.Places.{chamber_of_place, place_of_place}
use Rattle.dd_model.specs.Indices.{index_at, index_number}

rank_of_place : (i : Index) (d : ℕ) → place i d % 3 ≡ index_number i
rank_of_place Zero d = omega arith
rank_of_place One d = omega arith
rank_of_place Two d = omega arith

-- what stands at a place of a longer prefix
pub old_at : (xs : List ℕ) (k u : ℕ) → u < length xs → get_or (xs ++ k ∷ []) u 0 ≡ get_or xs u 0
old_at xs k u low = get_or_append_left xs (k ∷ []) 0 u low

new_at : (xs : List ℕ) (k u : ℕ) → u ≡ length xs → get_or (xs ++ k ∷ []) u 0 ≡ k
new_at xs k u e = get_or_push xs k 0 u (sym e)

take_old : (xs : List ℕ) (k t : ℕ) → t ≤ length xs → take t (xs ++ k ∷ []) ≡ take t xs
take_old xs k t low = take-append-le t xs (k ∷ []) low

take_new : (xs : List ℕ) (k t : ℕ) → t ≡ length xs → take t (xs ++ k ∷ []) ≡ xs
take_new xs k t e = take_at xs (k ∷ []) t (sym e)

take_whole : (xs : List ℕ) (t : ℕ) → t ≡ length xs → take t xs ≡ xs
take_whole [] zero e = refl
take_whole [] (suc t) e = absurd (omega arith)
take_whole (x ∷ xs) zero e = absurd (omega arith)
take_whole (x ∷ xs) (suc t) e = ap (λ ys. x ∷ ys) (take_whole xs t (omega arith))

-- a number that may come after makes a longer one
pub first_more : (n : ℕ) (xs : List ℕ) (k : ℕ) → IsFirstVisitPrefix n xs → CanFollow n xs k → IsFirstVisitPrefix n (xs ++ k ∷ [])
first_more n xs k old can =
    let t = length xs in
    let ys = xs ++ k ∷ [] in
    let longer : length ys ≡ t + 1 = length_push xs k in
    let room = can.room in
    let low = can.positive in
    let high = can.small in
    record {
      within = λ u h. ⊎_elim
          (λ early. subst (λ x. (1 ≤ x) × (x ≤ n)) (sym (old_at xs k u early)) (old.within u early))
          (λ late. subst (λ x. (1 ≤ x) × (x ≤ n)) (sym (new_at xs k u (omega arith))) (low, high))
          (cases_lt u t);
      short = omega arith;
      involutive = λ i d told again.
          let u = place i d in
          let v = place i (get_or ys u 0) in
          let hu = told.1 in
          let hd = told.0 in
          let hv = again.1 in
          let ru = rank_of_place i d in
          let rv = rank_of_place i (get_or ys u 0) in
          let cu = chamber_of_place i d in
          let cv = chamber_of_place i (get_or ys u 0) in
          ⊎_elim
          (λ early.
          let e : get_or ys u 0 ≡ get_or xs u 0 = old_at xs k u early in
          let w : v ≡ place i (get_or xs u 0) = ap (place i) e in
          let inside = old.within u early in
          let one = inside.0 in
          ⊎_elim
          (λ first.
          let first' : place i (get_or xs u 0) < t = omega arith in
          old_at xs k v first ∙ ap (λ j. get_or xs j 0) w ∙ old.involutive i d (hd, early) (one, first'))
          (λ last.
          let here : v ≡ t = omega arith in
          let same : u % 3 ≡ t % 3 = ru ∙ sym rv ∙ ap (λ j. j % 3) here in
          let q : v / 3 ≡ t / 3 = ap (λ j. j / 3) here in
          let d_is : get_or xs u 0 ≡ 1 + t / 3 = omega arith in
          let k_is = (can.fits u early same).forth d_is in
          new_at xs k v here ∙ k_is ∙ omega arith)
          (cases_lt v t))
          (λ late.
          let at : u ≡ t = omega arith in
          let e : get_or ys u 0 ≡ k = new_at xs k u at in
          let d_is : 1 + t / 3 ≡ d = let q : u / 3 ≡ t / 3 = ap (λ j. j / 3) at in omega arith in
          ⊎_elim
          (λ first.
          let same : v % 3 ≡ t % 3 = rv ∙ sym ru ∙ ap (λ j. j % 3) at in
          let k_is : k ≡ 1 + v / 3 = omega arith in
          old_at xs k v first ∙ (can.fits v first same).back k_is ∙ d_is)
          (λ last.
          let here : v ≡ t = omega arith in
          let q : v / 3 ≡ t / 3 = ap (λ j. j / 3) here in
          new_at xs k v here ∙ omega arith)
          (cases_lt v t))
          (cases_lt u t);
      distinct = λ i d e told other apart same.
          let u = place i d in
          let v = place i e in
          let hu = told.1 in
          let hv = other.1 in
          let hd = told.0 in
          let he = other.0 in
          let ru = rank_of_place i d in
          let rv = rank_of_place i e in
          let cu = chamber_of_place i d in
          let cv = chamber_of_place i e in
          ⊎_elim
          (λ early. ⊎_elim
          (λ first. old.distinct i d e (hd, early) (he, first) apart (sym (old_at xs k u early) ∙ same ∙ old_at xs k v first))
          (λ last.
          let here : v ≡ t = omega arith in
          (can.fits u early (ru ∙ sym rv ∙ ap (λ j. j % 3) here)).fresh (sym (old_at xs k u early) ∙ same ∙ new_at xs k v here))
          (cases_lt v t))
          (λ late.
          let at : u ≡ t = omega arith in
          ⊎_elim
          (λ first. (can.fits v first (rv ∙ sym ru ∙ ap (λ j. j % 3) at)).fresh (sym (old_at xs k v first) ∙ sym same ∙ new_at xs k u at))
          (λ last.
          let here : v ≡ t = omega arith in
          let q : u / 3 ≡ v / 3 = ap (λ j. j / 3) (at ∙ sym here) in
          apart (omega arith))
          (cases_lt v t))
          (cases_lt u t);
      next = λ u h. ⊎_elim
          (λ early. rw (old_at xs k u early, take_old xs k u (omega arith)) (old.next u early))
          (λ late. let e : u ≡ t = omega arith in rw (new_at xs k u e, take_new xs k u e) can.next)
          (cases_lt u t);
      reached = λ m pos below h. ⊎_elim
          (λ early. subst (λ zs. Contains zs (m + 1)) (sym (take_old xs k (3 * m) (omega arith))) (old.reached m pos below (omega arith)))
          (λ late. let e : 3 * m ≡ length ys = omega arith in subst (λ zs. Contains zs (m + 1)) (sym (take_whole ys (3 * m) e)) (can.reached m pos below (omega arith)))
          (cases_lt (3 * m) (t + 1));
    }

-- and a longer one is made so
pub first_less : (n : ℕ) (xs : List ℕ) (k : ℕ) → IsFirstVisitPrefix n (xs ++ k ∷ []) → IsFirstVisitPrefix n xs × CanFollow n xs k
first_less n xs k new =
    let t = length xs in
    let ys = xs ++ k ∷ [] in
    let longer : length ys ≡ t + 1 = length_push xs k in
    let short = new.short in
    let last : get_or ys t 0 ≡ k = new_at xs k t refl in
    let inside : (1 ≤ k) × (k ≤ n) = subst (λ x. (1 ≤ x) × (x ≤ n)) last (new.within t (omega arith)) in
    let pos = inside.0 in (
      record {
        within = λ u low. subst (λ x. (1 ≤ x) × (x ≤ n)) (old_at xs k u low) (new.within u (omega arith));
        short = omega arith;
        involutive = λ i d told again.
            let hu = told.1 in
            let hv = again.1 in
            let e : image_in ys i d ≡ image_in xs i d = old_at xs k (place i d) hu in
            let f : image_in ys i (image_in xs i d) ≡ image_in xs i (image_in xs i d) = old_at xs k (place i (image_in xs i d)) hv in
            let told' : IsTold ys i (image_in ys i d) = subst (IsTold ys i) (sym e) (again.0, omega arith) in
            sym f ∙ ap (image_in ys i) (sym e) ∙ new.involutive i d (told.0, omega arith) told';
        distinct = λ i d e told other apart same.
            let hu = told.1 in
            let hv = other.1 in
            new.distinct i d e (told.0, omega arith) (other.0, omega arith) apart (old_at xs k (place i d) hu ∙ same ∙ sym (old_at xs k (place i e) hv));
        next = λ u low. let h = new.next u (omega arith) in
            let a : get_or ys u 0 ≡ get_or xs u 0 = old_at xs k u low in
            let b : greatest (take u ys) ≡ greatest (take u xs) = ap greatest (take_old xs k u (omega arith)) in
            omega arith;
        reached = λ m low below h. subst (λ zs. Contains zs (m + 1)) (take_old xs k (3 * m) (omega arith)) (new.reached m low below (omega arith));
      },
      record {
        room = omega arith;
        positive = inside.0;
        small = inside.1;
        next = let h = new.next t (omega arith) in let b : greatest (take t ys) ≡ greatest xs = ap greatest (take_new xs k t refl) in omega arith;
        fits = λ u low same.
            let i = index_at (t % 3) in
            let d = 1 + u / 3 in
            let e = 1 + t / 3 in
            let pu : place i d ≡ u = ap (λ r. place (index_at r) d) (sym same) ∙ place_of_place u in
            let pt : place i e ≡ t = place_of_place t in
            let told : IsTold ys i d = (omega arith, omega arith) in
            let here : IsTold ys i e = (omega arith, omega arith) in
            let image_d : image_in ys i d ≡ get_or xs u 0 = ap (λ j. get_or ys j 0) pu ∙ old_at xs k u low in
            let image_e : image_in ys i e ≡ k = ap (λ j. get_or ys j 0) pt ∙ last in
            record {
              fresh = λ clash. new.distinct i d e told here (λ equal. let a : place i d ≡ place i e = ap (place i) equal in omega arith) (image_d ∙ clash ∙ sym image_e);
              back = λ k_is.
                  let there : image_in ys i e ≡ d = image_e ∙ k_is in
                  sym image_d ∙ ap (image_in ys i) (sym there) ∙ new.involutive i e here (subst (IsTold ys i) (sym there) told);
              forth = λ d_is.
                  let there : image_in ys i d ≡ e = image_d ∙ d_is in
                  sym image_e ∙ ap (image_in ys i) (sym there) ∙ new.involutive i d told (subst (IsTold ys i) (sym there) here);
            };
        reached = λ m low below h. subst (λ zs. Contains zs (m + 1)) (take_whole ys (3 * m) (omega arith)) (new.reached m low below (omega arith));
      },
    )

-- the front of a first-visit prefix is one
pub first_front : (n : ℕ) (xs : List ℕ) (k : ℕ) → IsFirstVisitPrefix n xs → k ≤ length xs → IsFirstVisitPrefix n (take k xs)
first_front n xs k whole low = go (length xs - k) k (omega arith)
  where
    go : (j k : ℕ) → k + j ≡ length xs → IsFirstVisitPrefix n (take k xs)
    go zero k e = subst (IsFirstVisitPrefix n) (sym (take_whole xs k (omega arith))) whole
    go (suc j) k e =
        (first_less n (take k xs) (get_or xs k 0) (subst (IsFirstVisitPrefix n) (take_more xs k 0 (omega arith)) (go j (k + 1) (omega arith)))).0

-- what is neither in a prefix nor the number after it
pub not_reached : (xs : List ℕ) (k y : ℕ) → ((u : ℕ) → u < length xs → get_or xs u 0 ≡ y → ⊥) → (k ≡ y → ⊥) → Contains (xs ++ k ∷ []) y → ⊥
not_reached xs k y none other there = ⊎_elim
    (λ (u, low, e). none u low (sym (get_or_default xs u y 0 low) ∙ e))
    (λ (u, low, e). other (let first : u ≡ 0 = omega arith in sym (ap (λ j. get_or (k ∷ []) j y) first) ∙ e))
    (Contains-append_cases xs (k ∷ []) y there)
