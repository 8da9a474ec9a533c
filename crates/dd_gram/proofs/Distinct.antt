-- Lists without equal members, and sums of forms over them.
use Rattle.std.proofs.Common.{◌≡◌, ◌≢◌, suc, ◌≤◌, List, [], ◌∷◌, length, map, ℤ, ◌+ℤ◌, refl, sym, ap, ◌∙◌, subst, ⊎_elim, arith}
use Rattle.std.proofs.lemmas.Int.{ints}
use Rattle.std.specs.List.{Contains}
use Rattle.dd_model.proofs.Lists.{Contains-none, Contains-head, Contains-later, Contains-cases, each_of, all_from_members}
use Rattle.dd_covers.proofs.Mapped.{Contains-from_map}
use Rattle.dd_gram.specs.Form.{AreDistinct, none, plus}
use Rattle.dd_gram.specs.declared.forms.Gram.{Gram}

-- the sum of a form for each member
abbrev pub total : {A : Type 0} → (A → Gram) → List A → Gram
total g [] = none
total g (x ∷ xs) = plus (g x) (total g xs)

pub same_form : (g h : Gram) → g.a ≡ h.a → g.b ≡ h.b → g.c ≡ h.c → g ≡ h
same_form g h a b c = λ i. record { a = a i; b = b i; c = c i }

exchanged : (a b c : Gram) → plus a (plus b c) ≡ plus b (plus a c)
exchanged a b c = same_form (plus a (plus b c)) (plus b (plus a c)) (swap a.a b.a c.a) (swap a.b b.b c.b) (swap a.c b.c c.c)
  where
    swap : (x y z : ℤ) → x +ℤ (y +ℤ z) ≡ y +ℤ (x +ℤ z)
    swap x y z = omega (arith, ints)

-- ys without one y
pub record Without {A : Type 0} (ys : List A) (y : A) : Type 0 where
  pub rest : List A
  pub shorter : length ys ≡ suc (length rest)
  pub sum : (g : A → Gram) → total g ys ≡ plus (g y) (total g rest)
  pub keeps : (z : A) → Contains ys z → y ≢ z → Contains rest z

pub without : {A : Type 0} (ys : List A) (y : A) → Contains ys y → Without ys y
without [] y here = absurd (Contains-none y here)
without (x ∷ xs) y here =
    ⊎_elim
    (λ e. record {
      rest = xs;
      shorter = refl;
      sum = λ g. ap (λ z. plus (g z) (total g xs)) e;
      keeps = λ z there other. ⊎_elim (λ at. absurd (other (sym e ∙ at))) (λ later. later) (Contains-cases x z xs there);
    })
    (λ later.
    let w = without xs y later in
    record {
      rest = x ∷ w.rest;
      shorter = ap suc w.shorter;
      sum = λ g. ap (plus (g x)) (w.sum g) ∙ exchanged (g x) (g y) (total g w.rest);
      keeps = λ z there other. ⊎_elim
          (λ at. subst (λ v. Contains (x ∷ w.rest) v) at (Contains-head x w.rest))
          (λ behind. Contains-later x z w.rest (w.keeps z behind other))
          (Contains-cases x z xs there);
    })
    (Contains-cases x y xs here)

-- A list without equal members is no longer than one that has them.
pub distinct_le : {A : Type 0} (xs ys : List A) → AreDistinct xs → ((z : A) → Contains xs z → Contains ys z) → length xs ≤ length ys
distinct_le [] ys distinct within = omega arith
distinct_le (x ∷ xs) ys distinct within =
    let w = without ys x (within x (Contains-head x xs)) in
    let shorter = w.shorter in
    let rest = distinct_le xs w.rest distinct.1 (λ z later. w.keeps z (within z (Contains-later x z xs later)) (each_of (λ y. x ≢ y) xs z distinct.0 later)) in
    omega arith

-- If both are equally long they have one sum.
pub same_total : {A : Type 0} (g : A → Gram) (xs ys : List A) → AreDistinct xs → ((z : A) → Contains xs z → Contains ys z) → length xs ≡ length ys → total g xs ≡ total g ys
same_total g [] [] distinct within same = refl
same_total g [] (y ∷ ys) distinct within same = absurd (omega arith)
same_total g (x ∷ xs) ys distinct within same =
    let w = without ys x (within x (Contains-head x xs)) in
    let shorter = w.shorter in
    let rest = same_total g xs w.rest distinct.1 (λ z later. w.keeps z (within z (Contains-later x z xs later)) (each_of (λ y. x ≢ y) xs z distinct.0 later)) (omega arith) in
    ap (plus (g x)) rest ∙ sym (w.sum g)

pub total_same : {A : Type 0} (g h : A → Gram) (xs : List A) → ((x : A) → Contains xs x → g x ≡ h x) → total g xs ≡ total h xs
total_same g h [] same = refl
total_same g h (x ∷ xs) same = (λ i. plus (same x (Contains-head x xs) i) (total_same g h xs (λ y later. same y (Contains-later x y xs later)) i))

pub total_map : {A B : Type 0} (g : B → Gram) (f : A → B) (xs : List A) → total g (map f xs) ≡ total (λ x. g (f x)) xs
total_map g f [] = refl
total_map g f (x ∷ xs) = ap (plus (g (f x))) (total_map g f xs)

-- images of different members are different, where the map tells them apart
pub distinct_map : {A B : Type 0} (f : A → B) (xs : List A) → AreDistinct xs → ((x y : A) → Contains xs x → Contains xs y → f x ≡ f y → x ≡ y) → AreDistinct (map f xs)
distinct_map f [] distinct apart = tt
distinct_map f (x ∷ xs) distinct apart = (
  all_from_members (λ z. f x ≢ z) (map f xs) (λ z here same.
      let from = Contains-from_map f xs z here in
      each_of (λ y. x ≢ y) xs from.0 distinct.0 from.1 (apart x from.0 (Contains-head x xs) (Contains-later x from.0 xs from.1) (same ∙ sym from.2))),
  distinct_map f xs distinct.1 (λ a b ha hb. apart a b (Contains-later x a xs ha) (Contains-later x b xs hb)),
)
