-- Counts of labels, and sums of what labels tell.
use Rattle.std.proofs.Common.{◌≡◌, ℕ, zero, suc, ◌+◌, ◌*◌, ◌<◌, ◌≤◌, Bool, true, false, List, [], ◌∷◌, length, refl, sym, ap, ◌∙◌, subst, ⊎_elim, arith}
use Rattle.std.proofs.lemmas.Bool.{cases_eq, eq-eqb, ne_eqb}
use Rattle.std.proofs.lemmas.List.Sums.{sum_by-cons}
use Rattle.std.specs.Prelude.{cond, nat_eq}
use Rattle.std.specs.List.{AllByRecursion, filter, sum_by}
use Rattle.dd_model.specs.Code.{count_from}
use Rattle.dd_branch_tables.specs.Distinct.{AreDistinct}
use Rattle.dd_branch_bounds.specs.Labels.{count_label, relabel, reshare}

picked : (a b x y : ℕ) → a ≡ b → cond (nat_eq a b) x y ≡ x
picked a b x y same = ap (λ t. cond t x y) (eq-eqb a b same)

passed : (a b x y : ℕ) → (a ≡ b → ⊥) → cond (nat_eq a b) x y ≡ y
passed a b x y other = ap (λ t. cond t x y) (ne_eqb a b other)

pub relabel_same : (f : ℕ → ℕ) (a b d : ℕ) → f d ≡ b → relabel f a b d ≡ a
relabel_same f a b d same = picked (f d) b a (f d) same

pub relabel_other : (f : ℕ → ℕ) (a b d : ℕ) → (f d ≡ b → ⊥) → relabel f a b d ≡ f d
relabel_other f a b d other = passed (f d) b a (f d) other

pub reshare_same : (g : ℕ → ℕ) (a v l : ℕ) → l ≡ a → reshare g a v l ≡ v
reshare_same g a v l same = picked l a v (g l) same

pub reshare_other : (g : ℕ → ℕ) (a v l : ℕ) → (l ≡ a → ⊥) → reshare g a v l ≡ g l
reshare_other g a v l other = passed l a v (g l) other

-- chambers with the same label have the same afterwards
pub label_along : (f : ℕ → ℕ) (a b d e : ℕ) → f d ≡ f e → relabel f a b d ≡ relabel f a b e
label_along f a b d e same = ⊎_elim
    (λ is. relabel_same f a b d is ∙ sym (relabel_same f a b e (sym same ∙ is)))
    (λ away. relabel_other f a b d away ∙ same ∙ sym (relabel_other f a b e (λ is. away (same ∙ is))))
    (cases_eq (f d) b)

-- ## Counts

-- the label b is joined to a
pub count_joined : (f : ℕ → ℕ) (a b : ℕ) → (a ≡ b → ⊥) → (ds : List ℕ) → count_label (relabel f a b) a ds ≡ count_label f a ds + count_label f b ds
count_joined f a b apart [] = refl
count_joined f a b apart (d ∷ ds) =
    let rest = count_joined f a b apart ds in
    let new = sum_by-cons (λ x. cond (nat_eq (relabel f a b x) a) 1 0) d ds in
    let one = sum_by-cons (λ x. cond (nat_eq (f x) a) 1 0) d ds in
    let other = sum_by-cons (λ x. cond (nat_eq (f x) b) 1 0) d ds in
    let here : cond (nat_eq (relabel f a b d) a) 1 0 ≡ cond (nat_eq (f d) a) 1 0 + cond (nat_eq (f d) b) 1 0 =
    ⊎_elim
    (λ same.
    let x = picked (relabel f a b d) a 1 0 (relabel_same f a b d same) in
    let y = passed (f d) a 1 0 (λ is. apart (sym is ∙ same)) in
    let z = picked (f d) b 1 0 same in
    omega (arith, x, y, z))
    (λ away.
    let x : cond (nat_eq (relabel f a b d) a) 1 0 ≡ cond (nat_eq (f d) a) 1 0 = ap (λ l. cond (nat_eq l a) (suc zero) zero) (relabel_other f a b d away) in
    let z = passed (f d) b 1 0 away in
    omega (arith, x, z))
    (cases_eq (f d) b) in
    omega (arith, rest, new, one, other, here)

-- where as many of n chambers have a label as there are, each of them has it
count_within : (f : ℕ → ℕ) (l k n : ℕ) → count_label f l (count_from k n) ≤ n
count_within f l k zero = omega arith
count_within f l k (suc n) =
    let first = sum_by-cons (λ x. cond (nat_eq (f x) l) 1 0) k (count_from (k + 1) n) in
    let rest = count_within f l (k + 1) n in
    ⊎_elim
    (λ same. let one = picked (f k) l 1 0 same in omega (arith, first, rest, one))
    (λ away. let none = passed (f k) l 1 0 away in omega (arith, first, rest, none))
    (cases_eq (f k) l)

pub whole_label : (f : ℕ → ℕ) (l k n : ℕ) → count_label f l (count_from k n) ≡ n → (d : ℕ) → k ≤ d → d < k + n → f d ≡ l
whole_label f l k zero all d low high = absurd (omega (arith, low, high))
whole_label f l k (suc n) all d low high =
    let first = sum_by-cons (λ x. cond (nat_eq (f x) l) 1 0) k (count_from (k + 1) n) in
    let rest = count_within f l (k + 1) n in
    ⊎_elim
    (λ same.
    let one = picked (f k) l 1 0 same in
    ⊎_elim
    (λ here. ap f here ∙ same)
    (λ further. whole_label f l (k + 1) n (omega (arith, all, first, one)) d (omega (arith, low, further)) (omega (arith, high)))
    (cases_eq d k))
    (λ away. let none = passed (f k) l 1 0 away in absurd (omega (arith, all, first, rest, none)))
    (cases_eq (f k) l)

-- other labels stay
pub count_stays : (f : ℕ → ℕ) (a b l : ℕ) → (l ≡ a → ⊥) → (l ≡ b → ⊥) → (ds : List ℕ) → count_label (relabel f a b) l ds ≡ count_label f l ds
count_stays f a b l not_a not_b [] = refl
count_stays f a b l not_a not_b (d ∷ ds) =
    let rest = count_stays f a b l not_a not_b ds in
    let new = sum_by-cons (λ x. cond (nat_eq (relabel f a b x) l) 1 0) d ds in
    let old = sum_by-cons (λ x. cond (nat_eq (f x) l) 1 0) d ds in
    let here : cond (nat_eq (relabel f a b d) l) 1 0 ≡ cond (nat_eq (f d) l) 1 0 =
    ⊎_elim
    (λ same.
    passed (relabel f a b d) l 1 0 (λ is. not_a (sym is ∙ relabel_same f a b d same))
    ∙ sym (passed (f d) l 1 0 (λ is. not_b (sym is ∙ same))))
    (λ away. ap (λ k. cond (nat_eq k l) (suc zero) zero) (relabel_other f a b d away))
    (cases_eq (f d) b) in
    omega (arith, rest, new, old, here)

-- ## Sums

times_more : (c x y : ℕ) → (c + x) * y ≡ c * y + x * y
times_more c x y = grind arith

-- another share for one label
pub sum_reshared : (f g : ℕ → ℕ) (a v : ℕ) (ds : List ℕ)
    → sum_by (λ d. reshare g a v (f d)) ds + count_label f a ds * g a ≡ sum_by (λ d. g (f d)) ds + count_label f a ds * v
sum_reshared f g a v [] = let x : 0 * g a ≡ 0 = omega arith in let y : 0 * v ≡ 0 = omega arith in omega (arith, x, y)
sum_reshared f g a v (d ∷ ds) =
    let rest = sum_reshared f g a v ds in
    let new = sum_by-cons (λ x. reshare g a v (f x)) d ds in
    let old = sum_by-cons (λ x. g (f x)) d ds in
    let c = cond (nat_eq (f d) a) 1 0 in
    let n = count_label f a ds in
    let count : count_label f a (d ∷ ds) ≡ c + n = sum_by-cons (λ x. cond (nat_eq (f x) a) 1 0) d ds in
    let left : count_label f a (d ∷ ds) * g a ≡ c * g a + n * g a = ap (λ k. k * g a) count ∙ times_more c n (g a) in
    let right : count_label f a (d ∷ ds) * v ≡ c * v + n * v = ap (λ k. k * v) count ∙ times_more c n v in
    let here : reshare g a v (f d) + c * g a ≡ g (f d) + c * v =
    ⊎_elim
    (λ same.
    let x = reshare_same g a v (f d) same in
    let is : c ≡ 1 = picked (f d) a 1 0 same in
    let own = ap g same in
    let one : c * g a ≡ 1 * g a = ap (λ k. k * g a) is in
    let two : c * v ≡ 1 * v = ap (λ k. k * v) is in
    omega (arith, x, own, one, two))
    (λ away.
    let x = reshare_other g a v (f d) away in
    let is : c ≡ 0 = passed (f d) a 1 0 away in
    let one : c * g a ≡ 0 * g a = ap (λ k. k * g a) is in
    let two : c * v ≡ 0 * v = ap (λ k. k * v) is in
    omega (arith, x, one, two))
    (cases_eq (f d) a) in
    omega (arith, rest, new, old, left, right, here)

-- two labels in one, with another share
pub sum_joined : (f g : ℕ → ℕ) (a b v : ℕ) → (a ≡ b → ⊥) → (ds : List ℕ)
    → sum_by (λ d. reshare g a v (relabel f a b d)) ds + (count_label f a ds * g a + count_label f b ds * g b)
    ≡ sum_by (λ d. g (f d)) ds + (count_label f a ds + count_label f b ds) * v
sum_joined f g a b v apart [] = let x : 0 * g a ≡ 0 = omega arith in let z : 0 * g b ≡ 0 = omega arith in let y : (0 + 0) * v ≡ 0 = omega arith in omega (arith, x, y, z)
sum_joined f g a b v apart (d ∷ ds) =
    let rest = sum_joined f g a b v apart ds in
    let new = sum_by-cons (λ x. reshare g a v (relabel f a b x)) d ds in
    let old = sum_by-cons (λ x. g (f x)) d ds in
    let c = cond (nat_eq (f d) a) 1 0 in
    let e = cond (nat_eq (f d) b) 1 0 in
    let n = count_label f a ds in
    let m = count_label f b ds in
    let count_a : count_label f a (d ∷ ds) ≡ c + n = sum_by-cons (λ x. cond (nat_eq (f x) a) 1 0) d ds in
    let count_b : count_label f b (d ∷ ds) ≡ e + m = sum_by-cons (λ x. cond (nat_eq (f x) b) 1 0) d ds in
    let left_a : count_label f a (d ∷ ds) * g a ≡ c * g a + n * g a = ap (λ k. k * g a) count_a ∙ times_more c n (g a) in
    let left_b : count_label f b (d ∷ ds) * g b ≡ e * g b + m * g b = ap (λ k. k * g b) count_b ∙ times_more e m (g b) in
    let both : count_label f a (d ∷ ds) + count_label f b (d ∷ ds) ≡ (c + e) + (n + m) = omega (arith, count_a, count_b) in
    let right : (count_label f a (d ∷ ds) + count_label f b (d ∷ ds)) * v ≡ (c + e) * v + (n + m) * v = ap (λ k. k * v) both ∙ times_more (c + e) (n + m) v in
    let here : reshare g a v (relabel f a b d) + (c * g a + e * g b) ≡ g (f d) + (c + e) * v =
    ⊎_elim
    (λ is_b.
    let x = reshare_same g a v (relabel f a b d) (relabel_same f a b d is_b) in
    let c0 : c ≡ 0 = passed (f d) a 1 0 (λ is_a. apart (sym is_a ∙ is_b)) in
    let e1 : e ≡ 1 = picked (f d) b 1 0 is_b in
    let own = ap g is_b in
    let one : c * g a ≡ 0 * g a = ap (λ k. k * g a) c0 in
    let two : e * g b ≡ 1 * g b = ap (λ k. k * g b) e1 in
    let three : (c + e) * v ≡ 1 * v = ap (λ k. k * v) (omega (arith, c0, e1)) in
    omega (arith, x, own, one, two, three))
    (λ not_b.
    ⊎_elim
    (λ is_a.
    let x = reshare_same g a v (relabel f a b d) (relabel_other f a b d not_b ∙ is_a) in
    let c1 : c ≡ 1 = picked (f d) a 1 0 is_a in
    let e0 : e ≡ 0 = passed (f d) b 1 0 not_b in
    let own = ap g is_a in
    let one : c * g a ≡ 1 * g a = ap (λ k. k * g a) c1 in
    let two : e * g b ≡ 0 * g b = ap (λ k. k * g b) e0 in
    let three : (c + e) * v ≡ 1 * v = ap (λ k. k * v) (omega (arith, c1, e0)) in
    omega (arith, x, own, one, two, three))
    (λ not_a.
    let same = relabel_other f a b d not_b in
    let x : reshare g a v (relabel f a b d) ≡ g (f d) = reshare_other g a v (relabel f a b d) (λ is. not_a (sym same ∙ is)) ∙ ap g same in
    let c0 : c ≡ 0 = passed (f d) a 1 0 not_a in
    let e0 : e ≡ 0 = passed (f d) b 1 0 not_b in
    let one : c * g a ≡ 0 * g a = ap (λ k. k * g a) c0 in
    let two : e * g b ≡ 0 * g b = ap (λ k. k * g b) e0 in
    let three : (c + e) * v ≡ 0 * v = ap (λ k. k * v) (omega (arith, c0, e0)) in
    omega (arith, x, one, two, three))
    (cases_eq (f d) a))
    (cases_eq (f d) b) in
    omega (arith, rest, new, old, left_a, left_b, right, here)

-- the chambers of a label have no more than all have
pub part_of_sum : (f g : ℕ → ℕ) (a : ℕ) (ds : List ℕ) → count_label f a ds * g a ≤ sum_by (λ d. g (f d)) ds
part_of_sum f g a ds = let same = sum_reshared f g a 0 ds in let none : count_label f a ds * 0 ≡ 0 = grind arith in omega (arith, same, none)

-- the chambers of two labels have no more than all have
pub parts_of_sum : (f g : ℕ → ℕ) (a b : ℕ) → (a ≡ b → ⊥) → (ds : List ℕ) → count_label f a ds * g a + count_label f b ds * g b ≤ sum_by (λ d. g (f d)) ds
parts_of_sum f g a b apart ds =
    let same = sum_joined f g a b 0 apart ds in
    let none : (count_label f a ds + count_label f b ds) * 0 ≡ 0 = grind arith in
    omega (arith, same, none)

-- a sum of bounded terms
pub sum_bound : (g : ℕ → ℕ) (b : ℕ) (ds : List ℕ) → AllByRecursion (λ d. g d ≤ b) ds → sum_by g ds ≤ length ds * b
sum_bound g b [] all = omega arith
sum_bound g b (d ∷ ds) all =
    let rest = sum_bound g b ds all.1 in
    let first = all.0 in
    let cons = sum_by-cons g d ds in
    let more : suc (length ds) * b ≡ b + length ds * b = grind arith in
    omega (arith, rest, first, cons, more)

-- ## The chambers of a label

-- those of some chambers that have the label
pub labelled : (ℕ → ℕ) → ℕ → List ℕ → List ℕ
labelled f a [] = []
labelled f a (d ∷ ds) = cond (nat_eq (f d) a) (d ∷ labelled f a ds) (labelled f a ds)

pub length-labelled : (f : ℕ → ℕ) (a : ℕ) (ds : List ℕ) → length (labelled f a ds) ≡ count_label f a ds
unfolding labelled
length-labelled f a [] = refl
length-labelled f a (d ∷ ds) =
    let rest = length-labelled f a ds in
    let count = sum_by-cons (λ x. cond (nat_eq (f x) a) 1 0) d ds in
    let here : length (cond (nat_eq (f d) a) (d ∷ labelled f a ds) (labelled f a ds)) ≡ cond (nat_eq (f d) a) 1 0 + length (labelled f a ds) = by_case (nat_eq (f d) a) d (labelled f a ds) in
    omega (arith, rest, count, here)
  where
    by_case : (t : Bool) (d : ℕ) (es : List ℕ) → length (cond t (d ∷ es) es) ≡ cond t 1 0 + length es
    by_case true d es = omega arith
    by_case false d es = omega arith

-- they are a filter of these chambers
pub filtered : (f : ℕ → ℕ) (a : ℕ) (ds : List ℕ) → filter (λ d. nat_eq (f d) a) ds ≡ labelled f a ds
unfolding labelled
filtered f a [] = refl
filtered f a (d ∷ ds) = ap (λ es. cond (nat_eq (f d) a) (d ∷ es) es) (filtered f a ds)

-- what holds of each chamber with the label holds of those
pub all_labelled : (P : ℕ → Type 0) (f : ℕ → ℕ) (a : ℕ) (ds : List ℕ) → AllByRecursion (λ d. f d ≡ a → P d) ds → AllByRecursion P (labelled f a ds)
unfolding labelled
all_labelled P f a [] all = tt
all_labelled P f a (d ∷ ds) all =
    ⊎_elim
    (λ same. subst (λ t. AllByRecursion P (cond t (d ∷ labelled f a ds) (labelled f a ds))) (sym (eq-eqb (f d) a same)) (all.0 same, all_labelled P f a ds all.1))
    (λ other. subst (λ t. AllByRecursion P (cond t (d ∷ labelled f a ds) (labelled f a ds))) (sym (ne_eqb (f d) a other)) (all_labelled P f a ds all.1))
    (cases_eq (f d) a)

pub distinct_labelled : (f : ℕ → ℕ) (a : ℕ) (ds : List ℕ) → AreDistinct ds → AreDistinct (labelled f a ds)
unfolding labelled
distinct_labelled f a [] apart = tt
distinct_labelled f a (d ∷ ds) apart =
    ⊎_elim
    (λ same. subst (λ t. AreDistinct (cond t (d ∷ labelled f a ds) (labelled f a ds))) (sym (eq-eqb (f d) a same)) (all_kept (λ y. d ≡ y → ⊥) ds apart.0, distinct_labelled f a ds apart.1))
    (λ other. subst (λ t. AreDistinct (cond t (d ∷ labelled f a ds) (labelled f a ds))) (sym (ne_eqb (f d) a other)) (distinct_labelled f a ds apart.1))
    (cases_eq (f d) a)
  where
    all_kept : (P : ℕ → Type 0) (es : List ℕ) → AllByRecursion P es → AllByRecursion P (labelled f a es)
    all_kept P es all = all_labelled P f a es (weaker es all)
      where
        weaker : (es : List ℕ) → AllByRecursion P es → AllByRecursion (λ e. f e ≡ a → P e) es
        weaker [] all = tt
        weaker (e ∷ es) all = (λ _. all.0, weaker es all.1)
