-- Different chambers in a list can be made the first of a renumbering.
use Rattle.std.proofs.Common.{◌≡◌, ℕ, zero, suc, ◌+◌, ◌-◌, ◌<◌, ◌≤◌, true, false, cond, eqb, ltb, List, [], ◌∷◌, ◌++◌, length, length-append, get_or, map, refl, sym, ap, ◌∙◌, subst, ⊎_elim, arith}
use Rattle.std.proofs.lemmas.Bool.{cases_eq, cases_lt, lt-ltb, le-ltb}
use Rattle.std.proofs.lemmas.List.{get_or_append_left, length-map}
use Rattle.std.specs.List.{AllByRecursion}
use Rattle.dd_model.specs.Symbol.{item}
use Rattle.dd_model.specs.Isomorphic.{IsBijection}
use Rattle.dd_model.specs.Code.{count_from}
use Rattle.dd_model.proofs.CountFrom.{item-map-count_from, length-count_from, get_or-count_from}
use Rattle.dd_branch_tables.specs.Beaten.{Extends}
use Rattle.dd_branch_tables.specs.Distinct.{AreDistinct}
use Rattle.dd_branch_tables.proofs.Distinct.{Hits, distinct_values, all_map}

abbrev pub Within : ℕ → ℕ → Type 0
Within n c = (1 ≤ c) × (c ≤ n)

-- the first place of c, or else the length
abbrev pub place : ℕ → List ℕ → ℕ
place c [] = 0
place c (x ∷ xs) = cond (eqb c x) 0 (suc (place c xs))

place-same : (c x : ℕ) (xs : List ℕ) → c ≡ x → place c (x ∷ xs) ≡ 0
place-same c x xs e = let yes : eqb c x ≡ true = grind arith in ap (λ b. cond b 0 (suc (place c xs))) yes

pub place-other : (c x : ℕ) (xs : List ℕ) → (c ≡ x → ⊥) → place c (x ∷ xs) ≡ suc (place c xs)
place-other c x xs e = let no : eqb c x ≡ false = grind (arith, e) in ap (λ b. cond b 0 (suc (place c xs))) no

pub place_there : (c : ℕ) (xs : List ℕ) → place c xs < length xs → get_or xs (place c xs) 0 ≡ c
place_there c [] low = absurd (omega arith)
place_there c (x ∷ xs) low =
    ⊎_elim
    (λ e. ap (λ i. get_or (x ∷ xs) i 0) (place-same c x xs e) ∙ sym e)
    (λ no. let o = place-other c x xs no in ap (λ i. get_or (x ∷ xs) i 0) o ∙ place_there c xs (omega (arith, o)))
    (cases_eq c x)

pub place_member : (c : ℕ) (xs : List ℕ) (i : ℕ) → i < length xs → get_or xs i 0 ≡ c → place c xs < length xs
place_member c [] i low e = absurd (omega arith)
place_member c (x ∷ xs) zero low e = let p = place-same c x xs (sym e) in omega (arith, p)
place_member c (x ∷ xs) (suc i) low e =
    ⊎_elim
    (λ here. let p = place-same c x xs here in omega (arith, p))
    (λ no. let o = place-other c x xs no in let rest = place_member c xs i (omega arith) e in omega (arith, o, rest))
    (cases_eq c x)

pub all_at : (Q : ℕ → Type 0) (xs : List ℕ) (i : ℕ) → AllByRecursion Q xs → i < length xs → Q (get_or xs i 0)
all_at Q [] i h low = absurd (omega arith)
all_at Q (x ∷ xs) zero h low = h.0
all_at Q (x ∷ xs) (suc i) h low = all_at Q xs i h.1 (omega arith)

place_at : (xs : List ℕ) (i : ℕ) → AreDistinct xs → i < length xs → place (get_or xs i 0) xs ≡ i
place_at [] i d low = absurd (omega arith)
place_at (x ∷ xs) zero d low = place-same x x xs refl
place_at (x ∷ xs) (suc i) d low =
    place-other (get_or xs i 0) x xs (λ e. all_at (λ y. x ≡ y → ⊥) xs i d.0 (omega arith) (sym e)) ∙ ap suc (place_at xs i d.1 (omega arith))

pub all-push : (Q : ℕ → Type 0) (xs : List ℕ) (y : ℕ) → AllByRecursion Q xs → Q y → AllByRecursion Q (xs ++ y ∷ [])
all-push Q [] y h q = (q, tt)
all-push Q (x ∷ xs) y h q = (h.0, all-push Q xs y h.1 q)

pub distinct-push : (xs : List ℕ) (y : ℕ) → AreDistinct xs → length xs ≤ place y xs → AreDistinct (xs ++ y ∷ [])
distinct-push [] y d out = (tt, tt)
distinct-push (x ∷ xs) y d out =
    let no : y ≡ x → ⊥ = λ e. let p = place-same y x xs e in absurd (omega (arith, p, out)) in
    let o = place-other y x xs no in
    (all-push (λ z. x ≡ z → ⊥) xs y d.0 (λ e. no (sym e)), distinct-push xs y d.1 (omega (arith, o, out)))

pub extends-trans : (xs ys zs : List ℕ) → Extends xs ys → Extends ys zs → Extends xs zs
extends-trans xs ys zs a b = record {
  longer = let p = a.longer in let q = b.longer in omega (arith, p, q);
  same = λ i low. b.same i (let p = a.longer in omega (arith, p, low)) ∙ a.same i low;
}

-- the list with d at its end, unless it has d
abbrev add : ℕ → List ℕ → List ℕ
add d xs = cond (ltb (place d xs) (length xs)) xs (xs ++ d ∷ [])

record Added (n d : ℕ) (xs ys : List ℕ) : Type 0 where
  extends : Extends xs ys
  distinct : AreDistinct ys
  within : AllByRecursion (Within n) ys
  has : place d ys < length ys

length-push : (xs : List ℕ) (x : ℕ) → length (xs ++ x ∷ []) ≡ length xs + 1
length-push xs x = length-append xs (x ∷ [])

last_place : (xs : List ℕ) (d : ℕ) → get_or (xs ++ d ∷ []) (length xs) 0 ≡ d
last_place [] d = refl
last_place (x ∷ xs) d = last_place xs d

added : (n d : ℕ) (xs : List ℕ) → AreDistinct xs → AllByRecursion (Within n) xs → Within n d → Added n d xs (add d xs)
added n d xs dist within h =
    ⊎_elim
    (λ low. subst (Added n d xs) (ap (λ b. cond b xs (xs ++ d ∷ [])) (sym (lt-ltb (place d xs) (length xs) low)))
    (record { extends = record { longer = omega arith; same = λ i l. refl }; distinct = dist; within = within; has = low }))
    (λ high.
    let l = length-push xs d in
    subst (Added n d xs) (ap (λ b. cond b xs (xs ++ d ∷ [])) (sym (le-ltb (place d xs) (length xs) high)))
    (record {
      extends = record { longer = omega (arith, l); same = λ i low. get_or_append_left xs (d ∷ []) 0 i low };
      distinct = distinct-push xs d dist high;
      within = all-push (Within n) xs d within h;
      has = place_member d (xs ++ d ∷ []) (length xs) (omega (arith, l)) (last_place xs d);
    }))
    (cases_lt (place d xs) (length xs))

abbrev extend : List ℕ → List ℕ → List ℕ
extend xs [] = xs
extend xs (d ∷ ds) = extend (add d xs) ds

record Extended (n : ℕ) (ds xs ys : List ℕ) : Type 0 where
  extends : Extends xs ys
  distinct : AreDistinct ys
  within : AllByRecursion (Within n) ys
  has : AllByRecursion (λ d. place d ys < length ys) ds

still_member : (d : ℕ) (xs ys : List ℕ) → Extends xs ys → place d xs < length xs → place d ys < length ys
still_member d xs ys ext low =
    place_member d ys (place d xs) (let l = ext.longer in omega (arith, l, low)) (ext.same (place d xs) low ∙ place_there d xs low)

extended : (n : ℕ) (ds xs : List ℕ) → AreDistinct xs → AllByRecursion (Within n) xs → AllByRecursion (Within n) ds → Extended n ds xs (extend xs ds)
extended n [] xs dist within h = record { extends = record { longer = omega arith; same = λ i l. refl }; distinct = dist; within = within; has = tt }
extended n (d ∷ ds) xs dist within h =
    let a = added n d xs dist within h.0 in
    let e = extended n ds (add d xs) a.distinct a.within h.1 in
    record {
      extends = extends-trans xs (add d xs) (extend xs (d ∷ ds)) a.extends e.extends;
      distinct = e.distinct;
      within = e.within;
      has = (still_member d (add d xs) (extend xs (d ∷ ds)) e.extends a.has, e.has);
    }

-- a list of all of 1 to n, each once
pub record IsArrangement (n : ℕ) (g : List ℕ) : Type 0 where
  pub distinct : AreDistinct g
  pub within : AllByRecursion (Within n) g
  pub has : AllByRecursion (λ d. place d g < length g) (count_from 1 n)

pub within-count_from : (n k m : ℕ) → 1 ≤ k → k + m ≤ n + 1 → AllByRecursion (Within n) (count_from k m)
within-count_from n k zero pos h = tt
within-count_from n k (suc m) pos h = ((pos, omega arith), within-count_from n (k + 1) m (omega arith) (omega arith))

apart-count_from : (x k m : ℕ) → x < k → AllByRecursion (λ y. x ≡ y → ⊥) (count_from k m)
apart-count_from x k zero h = tt
apart-count_from x k (suc m) h = ((λ e. absurd (omega (arith, e))), apart-count_from x (k + 1) m (omega arith))

pub distinct-count_from : (k m : ℕ) → AreDistinct (count_from k m)
distinct-count_from k zero = tt
distinct-count_from k (suc m) = (apart-count_from k (k + 1) m (omega arith), distinct-count_from (k + 1) m)

-- The rest of 1 to n after the list.
pub arranged : (n : ℕ) (xs : List ℕ) → AreDistinct xs → AllByRecursion (Within n) xs → (g : List ℕ) × IsArrangement n g × Extends xs g
arranged n xs dist within =
    let e = extended n (count_from 1 n) xs dist within (within-count_from n 1 n (omega arith) (omega arith)) in
    (extend xs (count_from 1 n), record { distinct = e.distinct; within = e.within; has = e.has }, e.extends)

pub length-arrangement : (n : ℕ) (g : List ℕ) → IsArrangement n g → length g ≡ n
length-arrangement n g is =
    let few : length g ≤ n = distinct_values (λ k. k + 1) n g is.distinct
    (all_map (Within n) (Hits (λ k. k + 1) n) (λ c h. record { place = c - 1; below = let a = h.0 in let b = h.1 in omega (arith, a, b); there = let a = h.0 in omega (arith, a) }) g is.within) in
    let many : length (count_from 1 n) ≤ length g = distinct_values (λ k. get_or g k 0) (length g) (count_from 1 n) (distinct-count_from 1 n)
    (all_map (λ d. place d g < length g) (Hits (λ k. get_or g k 0) (length g)) (λ c h. record { place = place c g; below = h; there = place_there c g h }) (count_from 1 n) is.has) in
    let l = length-count_from 1 n in
    omega (arith, few, many, l)

-- the number of each chamber
abbrev pub numbers : ℕ → List ℕ → List ℕ
numbers n g = map (λ c. suc (place c g)) (count_from 1 n)

pub member : (n : ℕ) (g : List ℕ) (d : ℕ) → IsArrangement n g → Within n d → place d g < length g
member n g d is h =
    let l = length-count_from 1 n in
    let e : 1 + (d - 1) ≡ d = let a = h.0 in omega (arith, a) in
    let at : get_or (count_from 1 n) (d - 1) 0 ≡ d = get_or-count_from 1 n (d - 1) (let a = h.0 in let b = h.1 in omega (arith, a, b)) ∙ e in
    subst (λ c. place c g < length g) at (all_at (λ c. place c g < length g) (count_from 1 n) (d - 1) is.has (let a = h.0 in let b = h.1 in omega (arith, a, b, l)))

pub arrangement_is_bijection : (n : ℕ) (g : List ℕ) → IsArrangement n g → IsBijection n (numbers n g)
arrangement_is_bijection n g is =
    let len = length-arrangement n g is in
    let number : (d : ℕ) → Within n d → item (numbers n g) d ≡ suc (place d g) = λ d h. item-map-count_from (λ c. suc (place c g)) n d h.0 h.1 in
    record {
      images = length-map (count_from 1 n) (λ c. suc (place c g)) ∙ length-count_from 1 n;
      inverse = g;
      inverse_images = len;
      left = record {
        within = λ d low high. let m = member n g d is (low, high) in let e = number d (low, high) in (omega (arith, e), omega (arith, e, m, len));
        undone = λ d low high. ap (item g) (number d (low, high)) ∙ at_suc g (place d g) ∙ place_there d g (member n g d is (low, high));
      };
      right = record {
        within = λ d low high. all_at (Within n) g (d - 1) is.within (omega (arith, len, low, high));
        undone = λ d low high.
            let inside = all_at (Within n) g (d - 1) is.within (omega (arith, len, low, high)) in
            let e : suc (d - 1) ≡ d = omega arith in
            number (item g d) inside ∙ ap suc (place_at g (d - 1) is.distinct (omega (arith, len, low, high))) ∙ e;
      };
    }
  where
    at_suc : (g : List ℕ) (k : ℕ) → item g (suc k) ≡ get_or g k 0
    at_suc g k = let e : suc k - 1 ≡ k = omega arith in ap (λ j. get_or g j 0) e

-- A bijection under which the chambers of a list come first.
pub record Numbering (n : ℕ) (xs : List ℕ) : Type 0 where
  pub given : List ℕ
  pub bijection : IsBijection n given
  pub extends : Extends xs bijection.inverse

pub numbering : (n : ℕ) (xs : List ℕ) → AreDistinct xs → AllByRecursion (Within n) xs → Numbering n xs
unfolding arrangement_is_bijection
numbering n xs dist within =
    let a = arranged n xs dist within in
    record { given = numbers n a.0; bijection = arrangement_is_bijection n a.0 a.1; extends = a.2 }
