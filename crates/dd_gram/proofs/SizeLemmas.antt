-- Sizes of forms, and their numbers as the code reads and writes them.
use Rattle.std.proofs.Common.{◌≡◌, ℕ, suc, ◌+◌, ◌*◌, ◌≤◌, ◌^◌, ℤ, to_z, of_z, nat_abs, ◌+ℤ◌, ◌*ℤ◌, List, [], ◌∷◌, length, map, ap, ◌∙◌, subst, arith}
use Rattle.std.specs.Int.{w128}
use Rattle.std.specs.List.{Contains}
use Rattle.std.proofs.lemmas.Int.{ints, to_z-of_z, fits_signed_from_abs}
use Rattle.dd_model.proofs.IntegerSizes.{product_size}
use Rattle.dd_model.specs.Symbol.{Symbol, IsChamber, item}
use Rattle.dd_model.specs.Isomorphic.{IsIsomorphism}
use Rattle.dd_model.specs.Code.{count_from}
use Rattle.dd_model.proofs.CountFrom.{count_contains, length-count_from}
use Rattle.dd_model.proofs.Lists.{Contains-head, Contains-later}
use Rattle.dd_covers.specs.Torus.{IsTorus}
use Rattle.dd_covers.proofs.Mapped.{Contains-from_map}
use Rattle.dd_lattice.specs.NetOf.{IsNet}
use Rattle.dd_lattice.specs.declared.net.Net.{Net}
use Rattle.dd_gram.specs.Form.{AreSymmetries, IsGram}
use Rattle.dd_gram.specs.declared.forms.Gram.{Gram}
use Rattle.dd_gram.proofs.Actions.{closed_along, size_along, small_first, small_second}
use Rattle.dd_gram.proofs.Distinct.{distinct_le, distinct_map, total}
use Rattle.dd_gram.proofs.KeptForms.{M, S, one_loop, two_loop, sum_is, symmetry_unique}
use Rattle.dd_gram.specs.Walks.{image_walk, IsClosedWalk, sum_along}
use Rattle.std.proofs.lemmas.List.{length-map}

-- ## As they are read

pub read128 : (z : ℤ) → nat_abs z ≤ 2 ^ 120 → to_z w128 (of_z w128 z) ≡ z
read128 z h = to_z-of_z w128 z (fits_signed_from_abs w128 z (omega arith))

sum_size : (x y : ℤ) (m n : ℕ) → nat_abs x ≤ m → nat_abs y ≤ n → nat_abs (x +ℤ y) ≤ m + n
sum_size x y m n p q = omega (arith, ints)

-- the sum of two products
pub products_size : (x y u v : ℤ) (n : ℕ) → nat_abs x ≤ n → nat_abs y ≤ n → nat_abs u ≤ n → nat_abs v ≤ n → nat_abs (x *ℤ y +ℤ u *ℤ v) ≤ n * n + n * n
products_size x y u v n hx hy hu hv = sum_size (x *ℤ y) (u *ℤ v) (n * n) (n * n) (product_size x y n n hx hy) (product_size u v n n hu hv)

pub product_read : (x y x' y' : ℤ) → x ≡ x' → y ≡ y' → nat_abs x' ≤ 16384 → nat_abs y' ≤ 16384 → to_z w128 (of_z w128 (to_z w128 (of_z w128 x) *ℤ to_z w128 (of_z w128 y))) ≡ x' *ℤ y'
product_read x y x' y' ex ey hx hy =
    let size = product_size x' y' 16384 16384 hx hy in
    (λ i. to_z w128 (of_z w128 (to_z w128 (of_z w128 (ex i)) *ℤ to_z w128 (of_z w128 (ey i)))))
    ∙ (λ i. to_z w128 (of_z w128 (read128 x' (omega arith) i *ℤ read128 y' (omega arith) i))) ∙ read128 (x' *ℤ y') (omega arith)

pub products_read : (x y u v x' y' u' v' : ℤ) → x ≡ x' → y ≡ y' → u ≡ u' → v ≡ v' → nat_abs x' ≤ 16384 → nat_abs y' ≤ 16384 → nat_abs u' ≤ 16384 → nat_abs v' ≤ 16384
    → to_z w128 (of_z w128 (to_z w128 (of_z w128 (to_z w128 (of_z w128 x) *ℤ to_z w128 (of_z w128 y))) +ℤ to_z w128 (of_z w128 (to_z w128 (of_z w128 u) *ℤ to_z w128 (of_z w128 v))))) ≡ x' *ℤ y' +ℤ u' *ℤ v'
products_read x y u v x' y' u' v' ex ey eu ev hx hy hu hv =
    let size = products_size x' y' u' v' 16384 hx hy hu hv in
    (λ i. to_z w128 (of_z w128 (product_read x y x' y' ex ey hx hy i +ℤ product_read u v u' v' eu ev hu hv i))) ∙ read128 (x' *ℤ y' +ℤ u' *ℤ v') (omega arith)

pub sum_read : (x y : ℤ) → nat_abs x ≤ 2 ^ 44 → nat_abs y ≤ 2 ^ 44 → to_z w128 (of_z w128 (to_z w128 (of_z w128 x) +ℤ to_z w128 (of_z w128 y))) ≡ x +ℤ y
sum_read x y hx hy =
    let size = sum_size x y (2 ^ 44) (2 ^ 44) hx hy in
    (λ i. to_z w128 (of_z w128 (read128 x (omega arith) i +ℤ read128 y (omega arith) i))) ∙ read128 (x +ℤ y) (omega arith)

-- ## Sizes of all forms

pub record HasSize (g : Gram) (n : ℕ) : Type 0 where
  pub a : nat_abs g.a ≤ n
  pub b : nat_abs g.b ≤ n
  pub c : nat_abs g.c ≤ n

total_size : {A : Type 0} (g : A → Gram) (n : ℕ) (xs : List A) → ((x : A) → Contains xs x → HasSize (g x) n) → HasSize (total g xs) (length xs * n)
total_size g n [] each = record { a = omega (arith, ints); b = omega (arith, ints); c = omega (arith, ints) }
total_size g n (x ∷ xs) each =
    let here = each x (Contains-head x xs) in
    let rest = total_size g n xs (λ y later. each y (Contains-later x y xs later)) in
    let more : n + length xs * n ≡ suc (length xs) * n = omega arith in
    record {
      a = subst (λ k. nat_abs ((g x).a +ℤ (total g xs).a) ≤ k) more (sum_size (g x).a (total g xs).a n (length xs * n) here.a rest.a);
      b = subst (λ k. nat_abs ((g x).b +ℤ (total g xs).b) ≤ k) more (sum_size (g x).b (total g xs).b n (length xs * n) here.b rest.b);
      c = subst (λ k. nat_abs ((g x).c +ℤ (total g xs).c) ≤ k) more (sum_size (g x).c (total g xs).c n (length xs * n) here.c rest.c);
    }

-- no more symmetries than chambers
pub few_symmetries : (t : Symbol) → IsTorus t → (fs : List (List ℕ)) → AreSymmetries t fs → length fs ≤ t.size
few_symmetries t torus fs are =
    let one : IsChamber t 1 = (omega arith, torus.symbol.table.chambers) in
    let starts = map (λ f. item f 1) fs in
    let distinct = distinct_map (λ f. item f 1) fs are.distinct (λ f g hf hg same. symmetry_unique t torus.symbol torus.connected f g ((are.members f).0 hf) ((are.members g).0 hg) same) in
    let few = distinct_le starts (count_from 1 t.size) distinct (λ z here.
    let from = Contains-from_map (λ f. item f 1) fs z here in
    let h = ((are.members from.0).0 from.1).morphism.within 1 one in
    subst (Contains (count_from 1 t.size)) from.2 (count_contains 1 t.size (item from.0 1) h.0 (let g = h.1 in omega arith))) in
    let many = length-count_from 1 t.size in
    let size = length-map fs (λ f. item f 1) in
    omega arith

module _ (t : Symbol) (torus : IsTorus t) (net : Net) (is : IsNet t net) (few : t.size ≤ 16384) where
  number_size : (z : ℕ → ℤ) → ((d : ℕ) → IsChamber t d → nat_abs (z d) ≤ 1) → (f : List ℕ) → IsIsomorphism t t f → (walk : List ℕ) → IsClosedWalk t walk → length walk ≤ t.size → nat_abs (sum_along z (image_walk f walk)) ≤ 16384
  number_size z small f iso walk closed short =
      let there = closed_along t f torus.symbol.table.involutions iso walk closed in
      let size = size_along t torus net is z small there.start there.start (image_walk f walk) there.goes in
      let same = length-map walk (item f) in
      omega arith

  square_size : (f : List ℕ) → IsIsomorphism t t f → HasSize (S t torus net is f) 536870912
  square_size f iso =
      let one = one_loop t torus net is in
      let two = two_loop t torus net is in
      let x = small_first t torus net is in
      let y = small_second t torus net is in
      let xx = number_size is.first x f iso one.walk one.is_loop.closed one.few in
      let xy = number_size is.first x f iso two.walk two.is_loop.closed two.few in
      let yx = number_size is.second y f iso one.walk one.is_loop.closed one.few in
      let yy = number_size is.second y f iso two.walk two.is_loop.closed two.few in
      let m = M t torus net is f in
      record {
        a = products_size m.xx m.xx m.yx m.yx 16384 xx xx yx yx;
        b = products_size m.xx m.xy m.yx m.yy 16384 xx xy yx yy;
        c = products_size m.xy m.xy m.yy m.yy 16384 xy xy yy yy;
      }

  pub form_size : (g : Gram) → IsGram t g → HasSize g (2 ^ 43)
  form_size g gram =
      let fs = gram.symmetries in
      let sum = gram.sum ∙ sum_is t torus net is fs gram.matrices gram.are_actions in
      let size = total_size (S t torus net is) 536870912 fs (λ f here. square_size f ((gram.are_symmetries.members f).0 here)) in
      let many = few_symmetries t torus fs gram.are_symmetries in
      let a = size.a in
      let b = size.b in
      let c = size.c in
      let ea = ap (λ (h : Gram). nat_abs h.a) sum in
      let eb = ap (λ (h : Gram). nat_abs h.b) sum in
      let ec = ap (λ (h : Gram). nat_abs h.c) sum in
      record { a = omega arith; b = omega arith; c = omega arith }
